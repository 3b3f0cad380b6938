-- Each class of a cycle has a link.
use Rattle.std.proofs.Common.{◌≡◌, ◌≢◌, ℕ, zero, suc, ◌+◌, ◌-◌, ◌<◌, ◌≤◌, Bool, false, List, [], ◌∷◌, ◌++◌, length, get_or, Option, Some, ◌⊎◌, inl, inr, refl, sym, subst, arith, length-append}
use Rattle.std.specs.Prelude.{slice_get, slice_index, unwrap_or, Contains, IsTrue}
use Rattle.std.proofs.lemmas.Bool.{cases_eq}
use Rattle.std.proofs.lemmas.Option.{slice_get_within, slice_get-get_or}
use Rattle.trace_laws.specs.Patterns.{Class}
use Rattle.trace_laws.proofs.Places.{index_of, contains_at, slice_get-append_seam, slice_get-append_left}
use Rattle.lock_graph.specs.Ranks.{AreRanks}
use Rattle.sp_closure.specs.Members.{has}
use Rattle.pattern_walk.specs.Cycles.{class_of, IsCycle}
use Rattle.pattern_walk.specs.Linked.{StandsInCycle, HasLink, AreLinks}
use Rattle.pattern_walk.proofs.PatternCycles.{class_at}

-- ranks of locks, and a cycle of classes
module _ (classes : List Class) (ranks : List ℕ) (are : AreRanks classes ranks) (q : List ℕ) (cycle : IsCycle classes q) where
  -- the rank of the lock of a class
  abbrev rank : ℕ → ℕ
  rank n = slice_index ranks (class_of classes n).lock

  -- it is at most that of each lock that the class holds
  falls : (i n h : ℕ) → slice_get q i ≡ Some n → Contains (class_of classes n).held h → rank n ≤ slice_index ranks h
  falls i n h at holds = are.fall (class_of classes n) h (contains_at classes n (class_of classes n) (class_at classes n (cycle.path.within i n at))) holds

  -- so ranks fall from left to right
  fall_along : (k i j m n : ℕ) → j ≡ i + k → slice_get q i ≡ Some m → slice_get q j ≡ Some n → rank n ≤ rank m
  fall_along zero i j m n is at_m at_n =
      let same : j ≡ i = omega arith in
      let there : slice_get q i ≡ Some n = subst (λ (l : ℕ). slice_get q l ≡ Some n) same at_n in
      let one : n ≡ m = cc in
      subst (λ (l : ℕ). rank n ≤ rank l) one (omega arith)
  fall_along (suc k) i j m n is at_m at_n =
      let p = get_or q (i + k) 0 in
      let within = slice_get_within q j n at_n in
      let at_p : slice_get q (i + k) ≡ Some p = slice_get-get_or q (i + k) 0 (omega arith) in
      let rest : rank p ≤ rank m = fall_along k i (i + k) m p refl at_m at_p in
      let last : rank n ≤ rank p = falls j n (class_of classes p).lock at_n (cycle.path.chain (i + k) p n at_p (subst (λ (l : ℕ). slice_get q l ≡ Some n) (omega arith) at_n)) in
      omega arith

  -- and all are equal
  pub linked : (n : ℕ) → Contains q n → HasLink ranks (class_of classes n)
  linked n c = go at.0 at.1 (cases_eq at.0 0)
    where
      at : (i : ℕ) × (slice_get q i ≡ Some n)
      at = index_of q n c

      go : (i : ℕ) → slice_get q i ≡ Some n → (i ≡ 0) ⊎ (i ≢ 0) → HasLink ranks (class_of classes n)
      go i at_n (inl first) =
          let two = cycle.size in
          let last = get_or q (length q - 1) 0 in
          let at_last : slice_get q (length q - 1) ≡ Some last = slice_get-get_or q (length q - 1) 0 (omega arith) in
          let at_first : slice_get q 0 ≡ Some n = subst (λ (l : ℕ). slice_get q l ≡ Some n) first at_n in
          let holds = cycle.closes n last at_first at_last in
          let down : rank n ≤ rank last = falls i n (class_of classes last).lock at_n holds in
          let up : rank last ≤ rank n = fall_along (length q - 1) 0 (length q - 1) n last (omega arith) at_first at_last in
          record { lock = (class_of classes last).lock; held = holds; same = omega arith }
      go i at_n (inr further) =
          let two = cycle.size in
          let within = slice_get_within q i n at_n in
          let m = get_or q (i - 1) 0 in
          let first = get_or q 0 0 in
          let last = get_or q (length q - 1) 0 in
          let at_m : slice_get q (i - 1) ≡ Some m = slice_get-get_or q (i - 1) 0 (omega arith) in
          let at_first : slice_get q 0 ≡ Some first = slice_get-get_or q 0 0 (omega arith) in
          let at_last : slice_get q (length q - 1) ≡ Some last = slice_get-get_or q (length q - 1) 0 (omega arith) in
          let holds : Contains (class_of classes n).held (class_of classes m).lock = cycle.path.chain (i - 1) m n at_m (subst (λ (l : ℕ). slice_get q l ≡ Some n) (omega (arith, further)) at_n) in
          let down : rank n ≤ rank m = falls i n (class_of classes m).lock at_n holds in
          let before : rank m ≤ rank first = fall_along (i - 1) 0 (i - 1) first m (omega arith) at_first at_m in
          let around : rank first ≤ rank last = falls 0 first (class_of classes last).lock at_first (cycle.closes first last at_first at_last) in
          let behind : rank last ≤ rank n = fall_along (length q - 1 - i) i (length q - 1) n last (omega arith) at_n at_last in
          record { lock = (class_of classes m).lock; held = holds; same = omega arith }

-- a class that stands in a cycle has a link
pub link_of_cycle : (classes : List Class) (ranks : List ℕ) (n : ℕ) → AreRanks classes ranks → StandsInCycle classes n → HasLink ranks (class_of classes n)
link_of_cycle classes ranks n are stands = linked classes ranks are stands.cycle stands.is n stands.member

-- the flags of the first classes, and one more
pub links_next : (classes : List Class) (k : ℕ) (links : List Bool) (flag : Bool) → AreLinks classes k links → (StandsInCycle classes k → IsTrue flag) → AreLinks classes (k + 1) (links ++ flag ∷ [])
links_next classes k links flag old here = record {
  size = omega (arith, length-append links (flag ∷ []), old.size);
  cycles = λ n less stands. go n less stands (cases_eq n k);
}
  where
    go : (n : ℕ) → n < k + 1 → StandsInCycle classes n → (n ≡ k) ⊎ (n ≢ k) → IsTrue (has (links ++ flag ∷ []) n)
    go n less stands (inl same) =
        let size = old.size in
        let at : slice_get (links ++ flag ∷ []) n ≡ Some flag = subst (λ (l : ℕ). slice_get (links ++ flag ∷ []) l ≡ Some flag) (omega arith) (slice_get-append_seam links flag) in
        let set : IsTrue flag = here (subst (StandsInCycle classes) same stands) in
        subst (λ (o : Option Bool). IsTrue (unwrap_or o false)) (sym at) set
    go n less stands (inr other) =
        let size = old.size in
        let at : slice_get (links ++ flag ∷ []) n ≡ slice_get links n = slice_get-append_left links (flag ∷ []) n (omega (arith, other)) in
        subst (λ (o : Option Bool). IsTrue (unwrap_or o false)) (sym at) (old.cycles n (omega (arith, other)) stands)

-- a class without a flag stands in no cycle
pub none_unlinked : (classes : List Class) (links : List Bool) (n : ℕ) → AreLinks classes (length classes) links → n < length classes → has links n ≡ false → StandsInCycle classes n → ⊥
none_unlinked classes links n are within off stands = let on = are.cycles n within stands in cc

-- the first locks of a list have not the rank of one, and one more
pub unlike_more : (ranks held : List ℕ) (lock k other : ℕ) → ((j h : ℕ) → j < k → slice_get held j ≡ Some h → slice_index ranks lock ≢ slice_index ranks h) → slice_get held k ≡ Some other → slice_index ranks lock ≢ slice_index ranks other → (j h : ℕ) → j < k + 1 → slice_get held j ≡ Some h → slice_index ranks lock ≢ slice_index ranks h
unlike_more ranks held lock k other old at differs j h less at_h = go (cases_eq j k)
  where
    go : (j ≡ k) ⊎ (j ≢ k) → slice_index ranks lock ≢ slice_index ranks h
    go (inl same) =
        let there : slice_get held k ≡ Some h = subst (λ (i : ℕ). slice_get held i ≡ Some h) same at_h in
        let own = at in
        let is : other ≡ h = cc in
        subst (λ (l : ℕ). slice_index ranks lock ≢ slice_index ranks l) is differs
    go (inr further) = old j h (omega (arith, further)) at_h
