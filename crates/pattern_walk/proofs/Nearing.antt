-- Finding in how many steps the first class of a cycle is reached.
use Rattle.std.proofs.Common.{◌≡◌, ◌≢◌, ℕ, ◌+◌, ◌-◌, ◌<◌, ◌≤◌, List, length, get_or, Some, None, ◌⊎◌, inl, inr, sym, subst, ◌∙◌, arith}
use Rattle.std.specs.Prelude.{slice_get, slice_set, slice_index, Vec, Contains}
use Rattle.std.specs.declared.alloc.Global.{Global}
use Rattle.std.proofs.Math.ListN.{length-set}
use Rattle.std.proofs.lemmas.Bool.{cases_eq}
use Rattle.std.proofs.lemmas.List.{get_or-set_same, get_or-set_other}
use Rattle.std.proofs.lemmas.Option.{slice_get_within, slice_get-get_or, slice_get_cases}
use Rattle.trace_laws.specs.Patterns.{Class}
use Rattle.trace_laws.proofs.Places.{three_way, index_of, contains_at}
use Rattle.pattern_walk.specs.Cycles.{class_of}
use Rattle.pattern_walk.specs.Linked.{StandsInCycle}
use Rattle.pattern_walk.specs.Orders.{AreBefore}
use Rattle.pattern_walk.specs.Nearness.{IsLowered, IsReachedBelow, IsSpreadBelow, IsNearWithin}

-- what is lowered twice
pub lowered_twice : (xs ys zs : List ℕ) → IsLowered xs ys → IsLowered ys zs → IsLowered xs zs
lowered_twice xs ys zs a b = record { size = b.size ∙ a.size; each = λ l. let first = a.each l in let second = b.each l in omega arith }

-- one number is lowered
pub lowered_at : (xs : List ℕ) (i y : ℕ) → i < length xs → y ≤ slice_index xs i → IsLowered xs (slice_set xs i y)
lowered_at xs i y within less = record { size = length-set xs i y; each = λ l. go l (cases_eq l i) }
  where
    go : (l : ℕ) → (l ≡ i) ⊎ (l ≢ i) → slice_index (slice_set xs i y) l ≤ slice_index xs l
    go l (inl same) = subst (λ (k : ℕ). slice_index (slice_set xs i y) k ≤ slice_index xs k) (sym same) (let now = get_or-set_same xs i y 0 within in omega arith)
    go l (inr other) = let stays = get_or-set_other xs i l y 0 other in omega arith

-- some locks have been lowered to a number
module _ (old locks : List ℕ) (to : ℕ) where
  -- one more that was higher
  pub reached_more : (k lock : ℕ) (now : List ℕ) → IsReachedBelow old locks to k now → slice_get locks k ≡ Some lock → lock < length now → to < slice_index now lock → IsReachedBelow old locks to (k + 1) (slice_set now lock to)
  reached_more k lock now is at within higher = record { lowered = lowered_twice old now (slice_set now lock to) is.lowered down; reached = λ j l less at_l. go j l less at_l (cases_eq j k) }
    where
      down : IsLowered now (slice_set now lock to)
      down = lowered_at now lock to within (omega arith)

      go : (j l : ℕ) → j < k + 1 → slice_get locks j ≡ Some l → (j ≡ k) ⊎ (j ≢ k) → slice_index (slice_set now lock to) l ≤ to
      go j l less at_l (inl same) =
          let there : slice_get locks k ≡ Some l = subst (λ (i : ℕ). slice_get locks i ≡ Some l) same at_l in
          let own = at in
          let one : lock ≡ l = cc in
          subst (λ (i : ℕ). slice_index (slice_set now lock to) i ≤ to) one (let set = get_or-set_same now lock to 0 within in omega arith)
      go j l less at_l (inr other) = let was = is.reached j l (omega (arith, other)) at_l in let fell = down.each l in omega arith

  -- one more that was low
  pub reached_low : (k lock : ℕ) (now : List ℕ) → IsReachedBelow old locks to k now → slice_get locks k ≡ Some lock → slice_index now lock ≤ to → IsReachedBelow old locks to (k + 1) now
  reached_low k lock now is at low = record { lowered = is.lowered; reached = λ j l less at_l. go j l less at_l (cases_eq j k) }
    where
      go : (j l : ℕ) → j < k + 1 → slice_get locks j ≡ Some l → (j ≡ k) ⊎ (j ≢ k) → slice_index now l ≤ to
      go j l less at_l (inl same) =
          let there : slice_get locks k ≡ Some l = subst (λ (i : ℕ). slice_get locks i ≡ Some l) same at_l in
          let own = at in
          let one : lock ≡ l = cc in
          subst (λ (i : ℕ). slice_index now i ≤ to) one low
      go j l less at_l (inr other) = is.reached j l (omega (arith, other)) at_l

  -- all of them
  pub reached_all : (k : ℕ) (now : List ℕ) → length locks ≤ k → IsReachedBelow old locks to k now → (l : ℕ) → Contains locks l → slice_index now l ≤ to
  reached_all k now all is l c = let at = index_of locks l c in let within = slice_get_within locks at.0 l at.1 in is.reached at.0 l (omega arith) at.1

-- what lies before locks of so many steps is spread
module _ (old : List ℕ) (before : List (Vec ℕ Global)) (step : ℕ) where
  -- from one more that is near
  pub spread_more : (k : ℕ) (w : Vec ℕ Global) (now new : List ℕ) → IsSpreadBelow old before step k now → slice_get before k ≡ Some w → IsLowered now new → ((h : ℕ) → Contains w.items h → slice_index new h ≤ step + 1) → IsSpreadBelow old before step (k + 1) new
  spread_more k w now new is at down near = record { lowered = lowered_twice old now new is.lowered down; reached = λ l h v less at_v close c. go l h v less at_v close c (cases_eq l k) }
    where
      go : (l h : ℕ) (v : Vec ℕ Global) → l < k + 1 → slice_get before l ≡ Some v → slice_index old l ≤ step → Contains v.items h → (l ≡ k) ⊎ (l ≢ k) → slice_index new h ≤ step + 1
      go l h v less at_v close c (inl same) =
          let there : slice_get before k ≡ Some v = subst (λ (i : ℕ). slice_get before i ≡ Some v) same at_v in
          let own = at in
          let one : v ≡ w = cc in
          near h (subst (λ (z : Vec ℕ Global). Contains z.items h) one c)
      go l h v less at_v close c (inr other) = let was = is.reached l h v (omega (arith, other)) at_v close c in let fell = down.each h in omega arith

  -- from all
  pub spread_all : (k : ℕ) (now : List ℕ) → length before ≤ k → IsSpreadBelow old before step k now → (l h : ℕ) (v : Vec ℕ Global) → slice_get before l ≡ Some v → slice_index old l ≤ step → Contains v.items h → slice_index now h ≤ step + 1
  spread_all k now all is l h v at close c = let within = slice_get_within before l v at in is.reached l h v (omega arith) at close c

-- cycles of a size that begin with a class
module _ (classes : List Class) (start size : ℕ) where
  -- the lock of the last class is one step away
  pub near_first : (near : List ℕ) → ((l : ℕ) → Contains (class_of classes start).held l → slice_index near l ≤ 1) → IsNearWithin classes start size 1 near
  near_first near held q i n cycle long begins further within at =
      let inside = slice_get_within q i n at in
      let last : i ≡ length q - 1 = omega arith in
      let close = held (class_of classes n).lock (cycle.closes start n begins (subst (λ (k : ℕ). slice_get q k ≡ Some n) last at)) in
      omega arith

  -- and that of the one before a class is at most one step further
  pub near_next : (step : ℕ) (near more : List ℕ) (before : List (Vec ℕ Global)) → 1 ≤ step → AreBefore classes (length classes) before → ((c : ℕ) → c < length classes → (class_of classes c).lock < length before) → IsLowered near more → ((l h : ℕ) (v : Vec ℕ Global) → slice_get before l ≡ Some v → slice_index near l ≤ step → Contains v.items h → slice_index more h ≤ step + 1) → IsNearWithin classes start size step near → IsNearWithin classes start size (step + 1) more
  near_next step near more before some are few down spread was q i n cycle long begins further within at = go (three_way size (i + step))
    where
      old : size ≤ i + step → slice_index more (class_of classes n).lock + i ≤ size
      old le = let fell = down.each (class_of classes n).lock in let close = was q i n cycle long begins further le at in omega arith

      go : (size < i + step) ⊎ ((size ≡ i + step) ⊎ (i + step < size)) → slice_index more (class_of classes n).lock + i ≤ size
      go (inl less) = old (omega arith)
      go (inr (inl same)) = old (omega arith)
      go (inr (inr more_steps)) =
          let next = get_or q (i + 1) 0 in
          let at_next : slice_get q (i + 1) ≡ Some next = slice_get-get_or q (i + 1) 0 (omega arith) in
          let close : slice_index near (class_of classes next).lock + (i + 1) ≤ size = was q (i + 1) next cycle long begins (omega arith) (omega arith) at_next in
          let in_classes = cycle.path.within (i + 1) next at_next in
          by next in_classes (record { cycle = q; is = cycle; member = contains_at q (i + 1) next at_next }) (omega arith) (cycle.path.chain i n next at at_next) (slice_get_cases before (class_of classes next).lock).1
        where
          by : (next : ℕ) → next < length classes → StandsInCycle classes next → slice_index near (class_of classes next).lock ≤ step → Contains (class_of classes next).held (class_of classes n).lock → ((v : Vec ℕ Global) × ((class_of classes next).lock < length before) × (slice_get before (class_of classes next).lock ≡ Some v) × (get_or before (class_of classes next).lock v ≡ v)) ⊎ ((length before ≤ (class_of classes next).lock) × (slice_get before (class_of classes next).lock ≡ None)) → slice_index more (class_of classes n).lock + i ≤ size
          by next inside stands close holds (inl found) =
              let reached = spread (class_of classes next).lock (class_of classes n).lock found.0 found.2 close (are.all next (class_of classes n).lock found.0 inside stands holds found.2) in
              omega arith
          by next inside stands close holds (inr past) = absurd (let within_locks = few next inside in let out = past.0 in omega arith)
