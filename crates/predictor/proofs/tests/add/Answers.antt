use Rattle.std.proofs.Common.{◌≡◌, [], ◌∷◌, ◌++◌}
use Rattle.trace_laws.specs.Event.{Event}
use Rattle.trace_laws.specs.Traces.{AreNamedBelow}
use Rattle.trace_index.proofs.Named.{named_more, named_after, either}
use Rattle.predictor.proofs.tests.add.Goals as goal

pub returns : goal.returns
returns g c =
    let event : Event = record { thread = c.args.thread; op = c.args.op; loc = 0 } in
    let more : AreNamedBelow (c.args.builder.now.events ++ event ∷ []) 2 = named_more c.args.builder.now.events event 2 c.requires.named c.requires.thread c.requires.op in
    named_after c.args.builder.now c.push.new.self event 2 c.requires.named more
    (either c.push.result (c.push.new.self.events ≡ c.args.builder.now.events ++ event ∷ []) (c.push.new.self ≡ c.args.builder.now) c.push.ensures.ok c.push.ensures.err)
