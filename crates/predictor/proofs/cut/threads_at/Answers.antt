use Rattle.std.proofs.Common.{slice_index_or}
use Rattle.std.proofs.lemmas.List.Elements.{Contains-get_or}
use Rattle.predictor.proofs.cut.threads_at.Goals as goal

pub event-requires : goal.event-requires
event-requires c =
    let i = c.loop-place.place-index in
    c.requires (slice_index_or c.args.places.now i 0) (Contains-get_or c.args.places.now i 0 c.loop-place-test.true)
