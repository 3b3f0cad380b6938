use Rattle.std.proofs.Common.{ℕ, List, ◌⊎◌, sym, subst, ◌∙◌}
use Rattle.std.specs.Prelude.{IsTrue}
use Rattle.std.specs.Vec.{with_items}
use Rattle.std.proofs.lemmas.List.{with_items_is}
use Rattle.trace_laws.specs.Trace.{Before}
use Rattle.trace_laws.specs.Closed.{IsClosure}
use Rattle.sp_closure.specs.Members.{has, AreCounts}
use Rattle.closed_fronts.specs.Cuts.{flags_of}
use Rattle.closed_fronts.specs.Rows.{IsSteady, IsMended}
use Rattle.trace_laws.specs.Traces.{History}
use Rattle.sp_closure.specs.Asked.{AreAsked}
use Rattle.sp_closure.proofs.Asking.{asked_few}
use Rattle.sp_closure.proofs.cursor.Cursor.raise.Goals as goal

pub grow-requires-clause-asked : goal.grow-requires-clause-asked
grow-requires-clause-asked g c = subst (λ (xs : List ℕ). AreAsked c.self.inside.index.now.events xs c.self.inside.asked) (sym c.deref_mut.ensures.value) c.self.invariant.sections

pub invariant_of-self : goal.invariant_of-self
invariant_of-self g c =
    let events = c.self.inside.index.now.events in
    let threads = c.self.inside.index.now.threads in
    let cuts_are = with_items_is c.self.inside.cuts c.grow.new.cuts (c.grow.auto.cuts ∙ c.deref_mut.ensures.len) in
    let counts_are = with_items_is c.self.inside.counts c.count_all.new.counts (c.count_all.auto.counts ∙ c.deref_mut-2.ensures.len) in
    record {
      trace = c.self.invariant.trace;
      steady = subst (λ (xs : List ℕ). IsSteady events threads xs) (sym cuts_are) c.grow.ensures.steady;
      mended = subst (λ (xs : List ℕ). IsMended events xs) (sym cuts_are) c.grow.ensures.mended;
      counted = subst (λ (ys : List ℕ). AreCounts events threads (has (flags_of events (with_items c.self.inside.cuts c.grow.new.cuts).items)) ys) (sym counts_are)
          (subst (λ (xs : List ℕ). AreCounts events threads (has (flags_of events xs)) c.count_all.new.counts) c.deref.ensures.value (subst (λ (h : History). AreCounts h.events h.threads (has (flags_of h.events c.deref.result.now)) c.count_all.new.counts) c.fronts.ensures c.count_all.ensures));
      sections = subst (λ (xs : List ℕ). AreAsked events xs c.grow.new.asked) (sym cuts_are) c.grow.ensures.asked;
    }

pub returns-clause-closure : goal.returns-clause-closure
returns-clause-closure g c =
    let events = c.self.inside.index.now.events in
    let place = c.args.place in
    let cuts_are = with_items_is c.self.inside.cuts c.grow.new.cuts (c.grow.auto.cuts ∙ c.deref_mut.ensures.len) in
    rw (← c.self.view_is)
    (subst (λ (xs : List ℕ). IsClosure events (λ i. IsTrue (has (flags_of events c.self.inside.cuts.items) i) ⊎ Before events i place) (has (flags_of events xs))) (sym cuts_are)
    (subst (λ (xs : List ℕ). IsClosure events (λ i. IsTrue (has (flags_of events xs) i) ⊎ Before events i place) (has (flags_of events c.grow.new.cuts))) c.deref_mut.ensures.value c.grow.ensures.closure))

pub returns-clause-few : goal.returns-clause-few
returns-clause-few g c = λ sections count. asked_few c.self.inside.index.now.events c.grow.new.cuts c.grow.new.asked sections c.grow.ensures.asked count
