use Rattle.std.proofs.Common.{◌≡◌, Some, sym, ap, ◌∙◌}
use Rattle.std.specs.Prelude.{slice_get}
use Rattle.std.proofs.lemmas.Option.{slice_get-get_or}
use Rattle.closed_fronts.proofs.Flags.{less_from_test}
use Rattle.race_scan.proofs.Enclosing.{taken_by_next}
use Rattle.race_scan.proofs.sections.is_taken_again.Goals as goal

pub returns-in-Some : goal.returns-in-Some
returns-in-Some c = λ is.
    let trace = c.args.index.now in
    let row = c.next.result.now in
    let next = c.in-Some.next.now in
    let lookup = c.in-Some.ensures.lookup in
    let entry : slice_get row c.args.thread ≡ Some next = slice_get-get_or row c.args.thread next lookup.3.0 ∙ ap Some (sym lookup.1) in
    taken_by_next trace.events trace.threads c.args.acquire c.args.thread c.args.later next row c.requires.acquire c.next.ensures entry (less_from_test next c.args.later is) c.requires.later
