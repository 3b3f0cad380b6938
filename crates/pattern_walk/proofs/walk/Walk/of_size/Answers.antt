use Rattle.std.proofs.Common.{◌<◌, length, sym, ◌∙◌, arith}
use Rattle.pattern_walk.proofs.Linking.{none_unlinked}
use Rattle.pattern_walk.proofs.Extending.{below_past, size_next}
use Rattle.pattern_walk.proofs.walk.Walk.of_size.Goals as goal

pub loop-start-preserved-then-not-has : goal.loop-start-preserved-then-not-has
loop-start-preserved-then-not-has c =
    let classes = c.args.self.now.classes.now.classes in
    let n = c.loop-start.start in
    let size = c.len-start-end.ensures.value in
    let test = c.loop-start-test.true in
    let within : n < length classes = omega arith in
    record {
      locks = c.loop-start.invariant.locks;
      found = below_past classes c.args.size n c.loop-start.found.items (none_unlinked classes c.args.self.now.links.flags.items n c.requires.ready.links within (sym c.has.ensures ∙ c.if-not-has.true)) c.loop-start.invariant.found;
    }

pub returns-clause-ok : goal.returns-clause-ok
returns-clause-ok c =
    let past = c.loop-start-test.false in
    let size = c.len-start-end.ensures.value in
    size_next c.args.self.now.classes.now.classes c.args.size c.loop-start.start c.loop-start.found.items (omega arith) c.loop-start.invariant.found
