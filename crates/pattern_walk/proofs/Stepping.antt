-- Counting the steps of a check.
use Rattle.std.proofs.Common.{◌≡◌, ℕ, zero, suc, ◌+◌, ◌<◌, ◌≤◌, List, [], ◌∷◌, length, get_or, Some, refl, arith}
use Rattle.std.specs.Prelude.{slice_get, slice_set}
use Rattle.std.proofs.lemmas.Option.{slice_get_within, slice_get-get_or}
use Rattle.trace_laws.specs.Event.{Event}
use Rattle.trace_laws.specs.Patterns.{Class}
use Rattle.sp_closure.specs.Members.{IsAtMostSections}
use Rattle.pattern_walk.specs.Cycles.{class_of, classes_of}
use Rattle.pattern_walk.specs.Instances.{ArePicksAt, AreFirstPositions, AreFewSteps, acquires_of, reached_of}

-- first positions have reached one acquire each
pub reached_first : (positions : List ℕ) → AreFirstPositions positions → reached_of positions ≡ length positions
reached_first [] first = refl
reached_first (k ∷ ks) first =
    let least : k ≡ 0 = first zero k refl in
    let rest = reached_first ks (λ i j at. first (suc i) j at) in
    omega arith

-- a position that moves on has reached more
pub reached_further : (positions : List ℕ) (i k m : ℕ) → slice_get positions i ≡ Some k → k < m → reached_of positions < reached_of (slice_set positions i m)
reached_further [] i k m at less = cc
reached_further (x ∷ xs) zero k m at less = let same : x ≡ k = cc in omega arith
reached_further (x ∷ xs) (suc i) k m at less = let rest = reached_further xs i k m at less in omega arith

-- positions within the acquires of classes have not reached more than these have
reached_within : (classes : List Class) (pattern positions : List ℕ) → length positions ≡ length pattern → ((i n k : ℕ) → slice_get pattern i ≡ Some n → slice_get positions i ≡ Some k → k < length (class_of classes n).acquires) → reached_of positions ≤ acquires_of (classes_of classes pattern)
reached_within classes [] [] size each = omega arith
reached_within classes [] (k ∷ ks) size each = absurd (omega arith)
reached_within classes (n ∷ ns) [] size each = absurd (omega arith)
reached_within classes (n ∷ ns) (k ∷ ks) size each =
    let here = each zero n k refl refl in
    let rest = reached_within classes ns ks (omega arith) (λ i m j at_m at_j. each (suc i) m j at_m at_j) in
    omega arith

-- so the picks have not reached more than the acquires of the pattern's classes
pub reached_few : (classes : List Class) (pattern positions picks : List ℕ) → ArePicksAt classes pattern positions picks → reached_of positions ≤ acquires_of (classes_of classes pattern)
reached_few classes pattern positions picks at = reached_within classes pattern positions at.positions (λ i n k at_n at_k.
    let inside = slice_get_within positions i k at_k in
    let long = at.picks in
    let short = at.positions in
    let p = get_or picks i 0 in
    let at_p : slice_get picks i ≡ Some p = slice_get-get_or picks i 0 (omega arith) in
    slice_get_within (class_of classes n).acquires k p (at.each i n k p at_n at_k at_p))

-- So the steps of a check are few: one for each first pick, and then one at most for each acquire that is reached.
pub steps_few : (events : List Event) (classes : List Class) (pattern positions picks : List ℕ) (old raised new before after : ℕ) → ArePicksAt classes pattern positions picks → AreFirstPositions positions → raised ≡ old + before + length picks → new + before + reached_of positions ≤ raised + after + acquires_of (classes_of classes pattern) → IsAtMostSections events after → AreFewSteps events (classes_of classes pattern) old new
steps_few events classes pattern positions picks old raised new before after at first is rest few = record {
  asked = after;
  few = few;
  steps = let one = reached_first positions first in let long = at.picks in let short = at.positions in omega arith;
}
