-- The order of cycles is that of the patterns.
use Rattle.std.proofs.Common.{◌≡◌, ℕ, zero, suc, ◌<◌, ◌≤◌, List, [], ◌∷◌, length, map, ◌⊎◌, inl, inr, refl, sym, ap, ◌∙◌, arith}
use Rattle.std.specs.Prelude.{slice_index}
use Rattle.std.proofs.lemmas.List.{length-map}
use Rattle.std.proofs.lemmas.Option.{slice_get-get_or, get_or_from_slice_get}
use Rattle.trace_laws.specs.Event.{Event}
use Rattle.trace_laws.specs.Patterns.{Class, first_place, ComesBefore}
use Rattle.trace_laws.proofs.Places.{three_way, contains_at}
use Rattle.trace_laws.proofs.Preceding.{Lexically}
use Rattle.lock_graph.specs.Classes.{AreClasses}
use Rattle.pattern_walk.specs.Cycles.{class_of, classes_of, Precedes}
use Rattle.pattern_walk.specs.Listed.{AreClassNumbers}
use Rattle.pattern_walk.proofs.Lists.{at_map}
use Rattle.pattern_walk.proofs.PatternCycles.{less_first}

-- past its end a list has zeros
past_end : (xs : List ℕ) (i : ℕ) → length xs ≤ i → slice_index xs i ≡ 0
past_end [] i past = refl
past_end (x ∷ xs) zero past = absurd (omega arith)
past_end (x ∷ xs) (suc i) past = past_end xs i (omega arith)

-- the classes of a trace
module _ (events : List Event) (classes : List Class) (are : AreClasses events classes) where
  -- the first place of the class of a number of a list
  first_at : (q : List ℕ) (i : ℕ) → i < length q → slice_index (map first_place (classes_of classes q)) i ≡ first_place (class_of classes (slice_index q i))
  first_at q i within =
      let at = at_map first_place (classes_of classes q) i (class_of classes (slice_index q i)) (at_map (class_of classes) q i (slice_index q i) (slice_get-get_or q i 0 within)) in
      get_or_from_slice_get (map first_place (classes_of classes q)) i (first_place (class_of classes (slice_index q i))) 0 at

  -- a number of a list is that of a class
  number_at : (q : List ℕ) → AreClassNumbers classes q → (i : ℕ) → i < length q → slice_index q i < length classes
  number_at q numbers i within = numbers (slice_index q i) (contains_at q i (slice_index q i) (slice_get-get_or q i 0 within))

  -- lists of one length
  module _ (p q : List ℕ) (of_p : AreClassNumbers classes p) (of_q : AreClassNumbers classes q) (size : length p ≡ length q) where
    -- a place at which a number is greater than another is not past the end
    inside : (i : ℕ) → slice_index p i < slice_index q i → i < length q
    inside i less = go (three_way i (length q))
      where
        go : (i < length q) ⊎ ((i ≡ length q) ⊎ (length q < i)) → i < length q
        go (inl h) = h
        go (inr h) = absurd (let le : length q ≤ i = (let past = h in omega arith) in let none = past_end q i le in omega arith)

    -- lesser numbers have earlier first places
    firsts_from_numbers : Lexically p q → Lexically (map first_place (classes_of classes p)) (map first_place (classes_of classes q))
    firsts_from_numbers x =
        let i = x.0 in
        let in_q = inside i x.1 in
        let in_p : i < length p = omega arith in
        let up = less_first events classes are (slice_index p i) (slice_index q i) x.1 (number_at q of_q i in_q) in
        let at_p = first_at p i in_p in
        let at_q = first_at q i in_q in
        (i, omega arith, λ k less. same k (omega arith) (x.2 k less))
      where
        same : (k : ℕ) → k < length q → slice_index p k ≡ slice_index q k → slice_index (map first_place (classes_of classes p)) k ≡ slice_index (map first_place (classes_of classes q)) k
        same k within is = first_at p k (omega arith) ∙ ap (λ (n : ℕ). first_place (class_of classes n)) is ∙ sym (first_at q k within)

  -- the order of cycles is that of their patterns
  pub before_from_precedes : (p q : List ℕ) → AreClassNumbers classes p → AreClassNumbers classes q → Precedes p q → ComesBefore (classes_of classes p) (classes_of classes q)
  before_from_precedes p q of_p of_q (inl less) = inl (omega (arith, length-map p (class_of classes), length-map q (class_of classes)))
  before_from_precedes p q of_p of_q (inr x) = inr (length-map p (class_of classes) ∙ x.0 ∙ sym (length-map q (class_of classes)), firsts_from_numbers p q of_p of_q x.0 x.1)
