use Rattle.std.proofs.Common.{◌≡◌, ap, ◌∙◌}
use Rattle.trace_laws.specs.Event.{Event}
use Rattle.trace_laws.specs.declared.event.Op.TheVariants.{Acquire}
use Rattle.trace_laws.proofs.Places.{op_from_event}
use Rattle.closed_fronts.proofs.Opens.{start_other, start_candidate}
use Rattle.closed_fronts.proofs.heads.Heads.start.Goals as goal

pub returns-in_default : goal.returns-in_default
returns-in_default c =
    let events = c.args.places.now.events in
    let t = c.args.event.now.thread in
    let p = c.args.place in
    let op = op_from_event events p c.args.event.now c.requires.event in
    let latest = c.requires.noted.latest t c.head.result c.head.ensures in
    record {
      candidate = start_candidate events t p c.head.result latest;
      all = start_other events t p c.head.result (λ l acquires. c.in_default.not-Acquire l (ap (λ (e : Event). e.op) c.event.view_is ∙ (let same : c.args.event.now.op ≡ Acquire l = cc in same))) latest;
    }
