use Rattle.std.proofs.Common.{◌≡◌, ◌<◌, ◌+◌, ◌∷◌, ◌++◌, [], ℕ, List, Some, length, get_or, slice_get, sym, ap, subst, ◌∙◌, arith, length-append}
use Rattle.std.specs.Prelude.{Contains}
use Rattle.std.proofs.lemmas.List.Elements.{Contains-get_or}
use Rattle.std.proofs.lemmas.Option.{slice_get-get_or}
use Rattle.pattern_walk.specs.Cycles.{class_of}
use Rattle.pattern_walk.specs.Instances.{AreFirstPositions}
use Rattle.pattern_walk.proofs.Ordering.{read_of}
use Rattle.pattern_walk.proofs.Picking.{class_at_number, some_within, first_more, all_first_more, first_at}
use Rattle.pattern_walk.proofs.instance.Instance.first.Goals as goal

pub acquires-acquires-requires : goal.acquires-acquires-requires
acquires-acquires-requires c =
    let numbers = c.classes-numbers.result.now in
    let k = c.loop-class.class-index in
    let inside : k < length numbers = c.loop-class-test.true in
    c.requires.numbers (get_or numbers k 0) (subst (λ (xs : List ℕ). Contains xs (get_or numbers k 0)) c.classes-numbers.ensures (Contains-get_or numbers k 0 inside))

pub bounds-acquires-0 : goal.bounds-acquires-0
bounds-acquires-0 c =
    let numbers = c.classes-numbers.result.now in
    let classes = c.args.classes.now.classes in
    let k = c.loop-class.class-index in
    let n = get_or numbers k 0 in
    let inside : k < length numbers = c.loop-class-test.true in
    let at : slice_get c.args.pattern.now k ≡ Some n = subst (λ (xs : List ℕ). slice_get xs k ≡ Some n) c.classes-numbers.ensures (slice_get-get_or numbers k 0 inside) in
    let is : (class_of classes n).acquires ≡ c.acquires-acquires.result.now = read_of (λ j. j.acquires) classes n c.acquires-acquires.result.now c.acquires-acquires.ensures in
    let some = some_within (class_of classes n).acquires (class_at_number c.args.classes.now c.args.pattern.now c.requires k n at).some in
    subst (λ (xs : List ℕ). 0 < length xs) is some

pub loop-class-preserved : goal.loop-class-preserved
loop-class-preserved c =
    let numbers = c.classes-numbers.result.now in
    let classes = c.args.classes.now.classes in
    let k = c.loop-class.class-index in
    let n = get_or numbers k 0 in
    let acquires = c.acquires-acquires.result.now in
    let positions = c.loop-class.instance.positions.items in
    let picks = c.loop-class.instance.picks.items in
    let pick = get_or acquires 0 0 in
    let inside : k < length numbers = c.loop-class-test.true in
    let at_n : slice_get numbers k ≡ Some n = slice_get-get_or numbers k 0 inside in
    let at : slice_get c.args.pattern.now k ≡ Some n = subst (λ (xs : List ℕ). slice_get xs k ≡ Some n) c.classes-numbers.ensures at_n in
    let is : (class_of classes n).acquires ≡ acquires = read_of (λ j. j.acquires) classes n acquires c.acquires-acquires.ensures in
    let some = some_within (class_of classes n).acquires (class_at_number c.args.classes.now c.args.pattern.now c.requires k n at).some in
    let at_pick : slice_get (class_of classes n).acquires 0 ≡ Some pick = subst (λ (xs : List ℕ). slice_get xs 0 ≡ Some pick) (sym is) (slice_get-get_or acquires 0 0 (subst (λ (xs : List ℕ). 0 < length xs) is some)) in
    let more_positions : c.push.new.self.items ≡ positions ++ 0 ∷ [] = c.in-Ok.ensures.items in
    let more_picks : c.push-in-loop-class.new.self.items ≡ picks ++ pick ∷ [] = c.in-Ok-push.ensures.items in
    record {
      positions = ap (λ (xs : List ℕ). length xs) more_positions ∙ length-append positions (0 ∷ []) ∙ ap (λ (j : ℕ). j + 1) c.loop-class.invariant.positions;
      picks = ap (λ (xs : List ℕ). length xs) more_picks ∙ length-append picks (pick ∷ []) ∙ ap (λ (j : ℕ). j + 1) c.loop-class.invariant.picks;
      first = subst AreFirstPositions (sym more_positions) (all_first_more positions c.loop-class.invariant.first);
      each = subst (λ (xs : List ℕ). (i m a : ℕ) → slice_get numbers i ≡ Some m → slice_get xs i ≡ Some a → slice_get (class_of classes m).acquires 0 ≡ Some a) (sym more_picks) (first_more classes numbers picks k n pick c.loop-class.invariant.picks c.loop-class.invariant.each at_n at_pick);
    }

pub returns-clause-at : goal.returns-clause-at
returns-clause-at c =
    let numbers = c.classes-numbers.result.now in
    let classes = c.args.classes.now.classes in
    let pattern = c.args.pattern.now in
    let same : numbers ≡ pattern = c.classes-numbers.ensures in
    let long = ap (λ (xs : List ℕ). length xs) same in
    let past = c.loop-class-test.false in
    let end = c.loop-class.auto.class-index-end in
    let size_positions = c.loop-class.invariant.positions in
    let size_picks = c.loop-class.invariant.picks in
    first_at classes pattern c.loop-class.instance.positions.items c.loop-class.instance.picks.items (omega arith) (omega arith) c.loop-class.invariant.first (λ i n p at. c.loop-class.invariant.each i n p (subst (λ (xs : List ℕ). slice_get xs i ≡ Some n) (sym same) at))
