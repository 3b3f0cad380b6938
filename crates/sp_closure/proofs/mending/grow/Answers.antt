use Rattle.std.proofs.Common.{subst}
use Rattle.trace_laws.specs.Trace.{Before}
use Rattle.trace_laws.specs.Traces.{History}
use Rattle.closed_fronts.specs.Cuts.{Admits}
use Rattle.closed_fronts.specs.Rows.{IsSteady, IsMended}
use Rattle.closed_fronts.proofs.Admissions.{admits_none}
use Rattle.closed_fronts.proofs.Gains.{closure_raised}
use Rattle.sp_closure.proofs.Asking.{asked_kept}
use Rattle.sp_closure.proofs.mending.grow.Goals as goal

pub mend-requires-clause-asked : goal.mend-requires-clause-asked
mend-requires-clause-asked g c =
    let events = c.args.index.now.events in
    let cuts = c.args.cuts.now in
    let admits = subst (λ (h : History). Admits h.events (λ i. Before h.events i c.args.place) cuts c.admit_before.new.cuts) c.fronts.ensures c.admit_before.ensures.admits in
    asked_kept events cuts c.admit_before.new.cuts c.args.asked.now admits.keeps c.requires.asked

pub returns-clause-closure : goal.returns-clause-closure
returns-clause-closure g c =
    let events = c.args.index.now.events in
    let cuts = c.args.cuts.now in
    let admits = subst (λ (h : History). Admits h.events (λ i. Before h.events i c.args.place) cuts c.admit_before.new.cuts) c.fronts.ensures c.admit_before.ensures.admits in
    closure_raised events c.args.index.now.threads c.args.place cuts c.admit_before.new.cuts c.mend.new.cuts admits c.mend.ensures.admits c.mend.ensures.steady c.mend.ensures.mended

pub returns-then-admit_before-clause-mended : goal.returns-then-admit_before-clause-mended
returns-then-admit_before-clause-mended g c = subst (λ (h : History). IsMended h.events c.admit_before.new.cuts) c.fronts.ensures (c.admit_before.ensures.mended c.if-admit_before.true)

pub returns-then-admit_before-clause-closure : goal.returns-then-admit_before-clause-closure
returns-then-admit_before-clause-closure g c =
    let events = c.args.index.now.events in
    let threads = c.args.index.now.threads in
    let old = c.args.cuts.now in
    let new = c.admit_before.new.cuts in
    let admits = subst (λ (h : History). Admits h.events (λ i. Before h.events i c.args.place) old new) c.fronts.ensures c.admit_before.ensures.admits in
    let steady = subst (λ (h : History). IsSteady h.events h.threads new) c.fronts.ensures c.admit_before.ensures.steady in
    let mended = subst (λ (h : History). IsMended h.events new) c.fronts.ensures (c.admit_before.ensures.mended c.if-admit_before.true) in
    closure_raised events threads c.args.place old new new admits (admits_none events (λ _. ⊥) new (λ i p. p)) steady mended
