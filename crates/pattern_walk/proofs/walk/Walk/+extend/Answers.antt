use Rattle.std.proofs.Common.{◌≡◌, ◌+◌, ◌-◌, ◌<◌, ◌∷◌, ◌++◌, [], ℕ, List, Some, length, get_or, slice_get, vec_len, sym, ap, subst, ◌∙◌, arith, length-append}
use Rattle.std.proofs.lemmas.List.Elements.{Contains-get_or}
use Rattle.std.proofs.lemmas.Option.{slice_get-get_or}
use Rattle.pattern_walk.specs.Cycles.{BeginsWith, IsPath, IsExtension}
use Rattle.pattern_walk.specs.Walks.{IsOnWay, IsBehind, Extends}
use Rattle.pattern_walk.proofs.Lists.{without_last}
use Rattle.pattern_walk.proofs.Walking.{goes_along}
use Rattle.pattern_walk.proofs.Extending.{extends_past, behind_next, extends_by, extends_whole}
use Rattle.pattern_walk.proofs.walk.Walk.+extend.Goals as goal

pub close-requires-clause-behind : goal.close-requires-clause-behind
close-requires-clause-behind t c = λ p q m long begins. c.requires.behind p q m long (subst (BeginsWith q) c.deref.ensures.value begins)

pub may_follow-requires-clause-next : goal.may_follow-requires-clause-next
may_follow-requires-clause-next t c =
    let candidates = c.candidates-candidates.result.now in
    let k = c.loop-next.next-index in
    let inside : k < length candidates = c.loop-next-test.true in
    c.candidates-candidates.ensures.within (get_or candidates k 0) (Contains-get_or candidates k 0 inside)

pub loop-next-preserved-then-not-may_follow : goal.loop-next-preserved-then-not-may_follow
loop-next-preserved-then-not-may_follow t c =
    let classes = c.args.self.now.classes.now.classes in
    let size = c.args.near.now.size in
    let path = c.args.path.now.items in
    let candidates = c.candidates-candidates.result.now in
    let k = c.loop-next.next-index in
    let n = get_or candidates k 0 in
    let inside : k < length candidates = c.loop-next-test.true in
    let same : path ≡ c.deref-in-loop-next.result.now = sym (c.deref-in-loop-next.ensures.value ∙ c.loop-next.invariant.path) in
    record {
      path = c.loop-next.invariant.path;
      extends = extends_past classes size path candidates c.args.found.now.items k n c.loop-next.found.items c.loop-next.invariant.extends (slice_get-get_or candidates k 0 inside)
          (λ q extension. c.may_follow.ensures.no c.if-not-may_follow.true q (subst (λ (xs : List ℕ). IsExtension classes size (xs ++ n ∷ []) q) same extension));
    }

pub extend-requires : goal.extend-requires
extend-requires t c =
    let classes = c.args.self.now.classes.now.classes in
    let size = c.args.near.now.size in
    let path = c.args.path.now.items in
    let candidates = c.candidates-candidates.result.now in
    let k = c.loop-next.next-index in
    let n = get_or candidates k 0 in
    let inside : k < length candidates = c.loop-next-test.true in
    let same : c.deref-in-loop-next.result.now ≡ path = c.deref-in-loop-next.ensures.value ∙ c.loop-next.invariant.path in
    let more : c.push.new.self.items ≡ path ++ n ∷ [] = subst (λ (xs : List ℕ). c.push.new.self.items ≡ xs ++ n ∷ []) c.loop-next.invariant.path c.in-Ok.ensures.items in
    let is_path : IsPath classes (path ++ n ∷ []) = subst (λ (xs : List ℕ). IsPath classes (xs ++ n ∷ [])) same (c.may_follow.ensures.yes c.if-not-may_follow.false) in
    let upto = c.requires.way.short in
    let test = c.if-len-near.false in
    let long = c.len.ensures in
    let short : length path < size = omega (arith, test) in
    let grown : length c.push.new.self.items ≡ length path + 1 = ap (λ (xs : List ℕ). length xs) more ∙ length-append path (n ∷ []) in
    let measure = c.decreases in
    let falls : size - length c.push.new.self.items < t = omega (arith, measure) in (
      falls,
      (
        subst (IsOnWay c.args.self.now c.args.near.now) (sym more) (goes_along c.args.self.now c.args.near.now path n c.requires.way short is_path),
        (
          c.loop-next.invariant.extends.found,
          subst (λ (xs : List ℕ). IsBehind size xs c.loop-next.found.items) (sym more) (behind_next classes size path candidates c.args.found.now.items k n c.loop-next.found.items c.loop-next.invariant.extends (slice_get-get_or candidates k 0 inside) c.candidates-candidates.ensures.order c.requires.behind),
        ),
      ),
    )

pub loop-next-preserved : goal.loop-next-preserved
loop-next-preserved t c =
    let classes = c.args.self.now.classes.now.classes in
    let size = c.args.near.now.size in
    let path = c.args.path.now.items in
    let candidates = c.candidates-candidates.result.now in
    let k = c.loop-next.next-index in
    let n = get_or candidates k 0 in
    let inside : k < length candidates = c.loop-next-test.true in
    let more : c.push.new.self.items ≡ path ++ n ∷ [] = subst (λ (xs : List ℕ). c.push.new.self.items ≡ xs ++ n ∷ []) c.loop-next.invariant.path c.in-Ok.ensures.items in
    let whole : c.extend.new.path.items ≡ path ++ n ∷ [] = subst (λ (xs : List ℕ). c.extend.new.path.items ≡ xs) more c.in_ok-extend.ensures.path in
    record {
      path = without_last path c.extend.new.path.items c.pop.new.self.items n (vec_len c.extend.new.path - 1) c.pop.ensures.rest whole (omega arith);
      extends = extends_by classes size path candidates c.args.found.now.items k n c.loop-next.found.items c.loop-next.invariant.extends (slice_get-get_or candidates k 0 inside) c.extend.new.found.items
          (subst (λ (xs : List ℕ). Extends classes size xs c.loop-next.found.items c.extend.new.found.items) more c.in_ok-extend.ensures.ok);
    }

pub returns-clause-ok : goal.returns-clause-ok
returns-clause-ok t c =
    let classes = c.args.self.now.classes.now.classes in
    let size = c.args.near.now.size in
    let path = c.args.path.now.items in
    let candidates = c.candidates-candidates.result.now in
    let upto = c.requires.way.short in
    let test = c.if-len-near.false in
    let long = c.len.ensures in
    let short : length path < size = omega (arith, test) in
    let same : path ≡ c.deref-2.result.now = sym c.deref-2.ensures.value in
    extends_whole classes size path candidates c.args.found.now.items c.loop-next.next-index c.loop-next.found.items c.loop-next-test.false short
    (λ q n extension at. c.candidates-candidates.ensures.all q n (subst (λ (xs : List ℕ). IsExtension classes size xs q) same extension) (subst (λ (xs : List ℕ). slice_get q (length xs) ≡ Some n) same at))
    c.loop-next.invariant.extends
