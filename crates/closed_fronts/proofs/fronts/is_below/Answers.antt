use Rattle.std.proofs.Common.{Some, sym, ap, ◌∙◌, arith}
use Rattle.trace_laws.specs.Event.{Event}
use Rattle.trace_laws.proofs.Places.{thread_from_event}
use Rattle.closed_fronts.proofs.Flags.{less_from_test}
use Rattle.closed_fronts.proofs.fronts.is_below.Goals as goal

pub returns : goal.returns
returns c = λ test. record {
  thread = c.value.result;
  is_of = thread_from_event c.args.ties.now.events c.args.place c.event-event.result c.event-event.ensures.event ∙ ap Some (sym (ap (λ (e : Event). e.thread) c.event.view_is) ∙ sym c.value.ensures.value);
  below = (let less = less_from_test c.args.place c.cut.result test in let is = c.cut.ensures in omega arith);
}
