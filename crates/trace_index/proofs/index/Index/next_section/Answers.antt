use Rattle.std.proofs.Common.{◌≡◌, Some, sym, ap, ◌∙◌}
use Rattle.std.specs.Prelude.{slice_get}
use Rattle.std.proofs.lemmas.Option.{slice_get-get_or}
use Rattle.trace_laws.proofs.Places.{contains_at}
use Rattle.trace_index.proofs.index.Index.next_section.Goals as goal

pub release-requires : goal.release-requires
release-requires g c =
    let places = c.acquires.result.now in
    let lookup = c.in-Some.ensures.lookup in
    let entry : slice_get places c.args.number ≡ Some c.in-Some.acquire.now = slice_get-get_or places c.args.number c.in-Some.acquire.now lookup.3.0 ∙ ap Some (sym lookup.1) in
    (c.args.lock, ((c.acquires.ensures.members c.in-Some.acquire.now).0 (contains_at places c.args.number c.in-Some.acquire.now entry)).op)

pub returns-clause-section : goal.returns-clause-section
returns-clause-section g c =
    let places = c.acquires.result.now in
    let lookup = c.in-Some.ensures.lookup in
    record {
      acquires = places;
      all = c.acquires.ensures;
      acquire = sym (slice_get-get_or places c.args.number c.in-Some.acquire.now lookup.3.0 ∙ ap Some (sym lookup.1));
      release = c.release.ensures;
    }
