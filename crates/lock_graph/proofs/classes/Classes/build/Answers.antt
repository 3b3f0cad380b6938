use Rattle.std.proofs.Common.{◌≡◌, length, ap, subst, ◌∙◌, arith}
use Rattle.trace_laws.specs.Traces.{History, IsTrace}
use Rattle.lock_graph.proofs.Noting.{noted_none}
use Rattle.lock_graph.proofs.Whole.{classes_whole}
use Rattle.lock_graph.proofs.classes.Classes.build.Goals as goal

pub loop-place-init : goal.loop-place-init
loop-place-init c = noted_none c.args.index.now.events c.new-listing.result.keys.keys c.new-listing.result.entries.items c.new-listing.ensures.keys c.new-listing.ensures.entries

pub invariant_of-result : goal.invariant_of-result
invariant_of-result c =
    let events = c.args.index.now.events in
    let at = c.loop-place in
    let size : c.len-place-end.result ≡ length events = c.len-place-end.ensures.value ∙ ap (λ (h : History). length h.events) c.trace.ensures.value in
    let past = c.loop-place-test.false in
    let end = at.auto.place-end in
    let few = at.invariant.few in
    record {
      trace = subst (λ (h : History). IsTrace h.events h.threads) c.trace.ensures.value c.len-place-end.ensures.trace;
      few = omega arith;
      classes = classes_whole events at.place at.listing.keys.keys at.listing.entries.items at.invariant (omega arith);
      locks = c.trace.ensures.locks;
    }

pub returns-clause-classes : goal.returns-clause-classes
returns-clause-classes c =
    let events = c.args.index.now.events in
    let at = c.loop-place in
    let size : c.len-place-end.result ≡ length events = c.len-place-end.ensures.value ∙ ap (λ (h : History). length h.events) c.trace.ensures.value in
    let past = c.loop-place-test.false in
    classes_whole events at.place at.listing.keys.keys at.listing.entries.items at.invariant (omega arith)
