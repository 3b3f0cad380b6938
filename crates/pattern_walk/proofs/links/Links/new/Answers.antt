use Rattle.std.proofs.Common.{◌≡◌, ◌+◌, ℕ, length, sym, subst, arith}
use Rattle.pattern_walk.specs.Linked.{AreLinks}
use Rattle.pattern_walk.proofs.Linking.{link_of_cycle, links_next}
use Rattle.pattern_walk.proofs.links.Links.new.Goals as goal

pub loop-class-preserved : goal.loop-class-preserved
loop-class-preserved c =
    let classes = c.args.classes.now.classes in
    let n = c.loop-class.class in
    subst (AreLinks classes (n + 1)) (sym c.in-Ok.ensures.items)
    (links_next classes n c.loop-class.flags.items c.has_link.result c.loop-class.invariant (λ stands. c.has_link.ensures.1 (link_of_cycle classes c.in_ok-ranks.ranks n c.in_ok-ranks.ensures stands)))

pub returns : goal.returns
returns c =
    let past = c.loop-class-test.false in
    let end = c.loop-class.auto.class-end in
    let size = c.len-class-end.ensures.value in
    let all : c.loop-class.class ≡ length c.args.classes.now.classes = omega arith in
    subst (λ (n : ℕ). AreLinks c.args.classes.now.classes n c.loop-class.flags.items) all c.loop-class.invariant
