use Rattle.std.proofs.Common.{get_or, slice_index, arith}
use Rattle.std.specs.Prelude.{slice_set}
use Rattle.std.proofs.lemmas.List.Elements.{Contains-get_or}
use Rattle.pattern_walk.proofs.Moving.{number_within, acquires_within, initial_read, none_read, nearer_read, reached_read, moves_read}
use Rattle.pattern_walk.proofs.Stepping.{reached_few}
use Rattle.pattern_walk.proofs.instance.Instance.advance.Goals as goal

pub acquires-acquires-requires : goal.acquires-acquires-requires
acquires-acquires-requires g c = number_within c.args.classes.now c.args.pattern.now c.requires.pattern c.args.self.now.positions.items c.args.self.now.picks.items c.args.cursor.now c.requires.underway c.classes.result.now c.args.i c.classes.ensures c.requires.number

pub first_outside-requires-clause-acquires : goal.first_outside-requires-clause-acquires
first_outside-requires-clause-acquires g c = acquires_within c.args.classes.now c.args.pattern.now c.requires.pattern c.args.self.now.positions.items c.args.self.now.picks.items c.args.cursor.now c.requires.underway c.classes.result.now c.args.i c.classes.ensures c.requires.number c.acquires-acquires.result.now c.index.result.now c.acquires-acquires.ensures c.index.ensures

pub first_outside-requires-clause-initial : goal.first_outside-requires-clause-initial
first_outside-requires-clause-initial g c = initial_read c.args.classes.now c.args.pattern.now c.requires.pattern c.args.self.now.positions.items c.args.self.now.picks.items c.args.cursor.now c.requires.underway c.classes.result.now c.args.i c.classes.ensures c.requires.number c.acquires-acquires.result.now c.index.result.now c.acquires-acquires.ensures c.index.ensures

pub returns-in_default-clause-none : goal.returns-in_default-clause-none
returns-in_default-clause-none g c = λ is. none_read c.args.classes.now c.args.pattern.now c.requires.pattern c.args.self.now.positions.items c.args.self.now.picks.items c.args.cursor.now c.requires.underway c.classes.result.now c.args.i c.classes.ensures c.requires.number c.acquires-acquires.result.now c.index.result.now c.acquires-acquires.ensures c.index.ensures c.in_default.ensures.none

pub raise-requires : goal.raise-requires
raise-requires g c =
    let acquires = c.acquires-acquires.result.now in
    let pick = get_or acquires c.in-Some.position 0 in
    acquires_within c.args.classes.now c.args.pattern.now c.requires.pattern c.args.self.now.positions.items c.args.self.now.picks.items c.args.cursor.now c.requires.underway c.classes.result.now c.args.i c.classes.ensures c.requires.number acquires c.index.result.now c.acquires-acquires.ensures c.index.ensures pick (Contains-get_or acquires c.in-Some.position 0 c.in-Some.ensures.position)

pub returns-clause-underway : goal.returns-clause-underway
returns-clause-underway g c = λ is. moves_read c.args.classes.now c.args.pattern.now c.requires.pattern c.args.self.now.positions.items c.args.self.now.picks.items c.args.cursor.now c.requires.underway c.classes.result.now c.args.i c.classes.ensures c.requires.number c.acquires-acquires.result.now c.index.result.now c.acquires-acquires.ensures c.index.ensures c.in-Some.position c.in-Some.ensures.position c.in-Some.ensures.from c.in-Some.ensures.passed c.requires.inside c.in-Some.ensures.outside c.raise.new.self c.raise.ensures.trace c.raise.ensures.closure

pub returns-clause-further : goal.returns-clause-further
returns-clause-further g c = λ is. nearer_read c.args.classes.now c.args.pattern.now c.requires.pattern c.args.self.now.positions.items c.args.self.now.picks.items c.args.cursor.now c.requires.underway c.classes.result.now c.args.i c.classes.ensures c.requires.number c.acquires-acquires.result.now c.index.result.now c.acquires-acquires.ensures c.index.ensures c.in-Some.position c.in-Some.ensures.position c.in-Some.ensures.from c.in-Some.ensures.passed c.requires.inside c.in-Some.ensures.outside

pub returns-in_default-clause-reached : goal.returns-in_default-clause-reached
returns-in_default-clause-reached g c = reached_few c.args.classes.now.classes c.args.pattern.now c.args.self.now.positions.items c.args.self.now.picks.items c.requires.underway.at

pub returns-clause-steps : goal.returns-clause-steps
returns-clause-steps g c =
    let more = reached_read c.args.classes.now c.args.pattern.now c.requires.pattern c.args.self.now.positions.items c.args.self.now.picks.items c.args.cursor.now c.requires.underway c.classes.result.now c.args.i c.classes.ensures c.requires.number c.acquires-acquires.result.now c.index.result.now c.acquires-acquires.ensures c.index.ensures c.in-Some.position c.in-Some.ensures.position c.in-Some.ensures.from c.in-Some.ensures.passed c.requires.inside c.in-Some.ensures.outside in
    let stepped = c.raise.ensures.steps in
    omega arith

pub returns-clause-reached : goal.returns-clause-reached
returns-clause-reached g c =
    let moved = moves_read c.args.classes.now c.args.pattern.now c.requires.pattern c.args.self.now.positions.items c.args.self.now.picks.items c.args.cursor.now c.requires.underway c.classes.result.now c.args.i c.classes.ensures c.requires.number c.acquires-acquires.result.now c.index.result.now c.acquires-acquires.ensures c.index.ensures c.in-Some.position c.in-Some.ensures.position c.in-Some.ensures.from c.in-Some.ensures.passed c.requires.inside c.in-Some.ensures.outside c.raise.new.self c.raise.ensures.trace c.raise.ensures.closure in
    reached_few c.args.classes.now.classes c.args.pattern.now (slice_set c.args.self.now.positions.items c.args.i c.in-Some.position) (slice_set c.args.self.now.picks.items c.args.i (slice_index c.acquires-acquires.result.now c.in-Some.position)) moved.at
