-- Cycles of numbers are the patterns.
use Rattle.std.proofs.Common.{◌≡◌, ◌≢◌, ℕ, ◌+◌, ◌-◌, ◌<◌, ◌≤◌, Bool, true, false, cond, List, [], ◌∷◌, length, Some, ◌⊎◌, inl, inr, refl, sym, subst, arith}
use Rattle.std.specs.Prelude.{slice_get, Contains, ◌==◌}
use Rattle.std.proofs.lemmas.Bool.Decides.{eqb_tells}
use Rattle.std.proofs.lemmas.List.{length-map}
use Rattle.std.proofs.lemmas.Option.{slice_get_within, slice_get-get_or, get_or_from_slice_get}
use Rattle.trace_laws.specs.Event.{Event}
use Rattle.trace_laws.specs.Patterns.{Class, IsClass, AreApart, IsPattern, first_place, next_in}
use Rattle.trace_laws.proofs.Places.{three_way, index_of, contains_at, contains_head, contains_tail, contains_cases, contains_none}
use Rattle.lock_graph.specs.Classes.{AreClasses}
use Rattle.pattern_walk.specs.Cycles.{no_class, class_of, classes_of, IsCycle}
use Rattle.pattern_walk.specs.Listed.{AreClassNumbers}
use Rattle.pattern_walk.proofs.Lists.{all_from, all_at, all_pairs_from, all_pairs_at, map_at, at_map}

-- the class of a number stands at it
pub class_at : (classes : List Class) (n : ℕ) → n < length classes → slice_get classes n ≡ Some (class_of classes n)
class_at classes n within = slice_get-get_or classes n no_class within

-- and what stands there is the class of the number
pub class_is : (classes : List Class) (n : ℕ) (c : Class) → slice_get classes n ≡ Some c → class_of classes n ≡ c
class_is classes n c at = get_or_from_slice_get classes n c no_class at

-- a cycle's numbers are those of classes
pub cycle_numbers : (classes : List Class) (q : List ℕ) → IsCycle classes q → AreClassNumbers classes q
cycle_numbers classes q cycle n c = let at = index_of q n c in cycle.path.within at.0 n at.1

-- the position behind one that is not the last
next_is_further : (size i : ℕ) → i + 1 < size → next_in size i ≡ i + 1
next_is_further size i less = go (i + 1 == size) (eqb_tells (i + 1) size)
  where
    go : (b : Bool) → ((b ≡ true) × (i + 1 ≡ size)) ⊎ ((b ≡ false) × (i + 1 ≢ size)) → cond b 0 (i + 1) ≡ i + 1
    go b (inl h) = absurd (let same = h.1 in omega arith)
    go true (inr h) = absurd (let x = h.0 in cc)
    go false (inr h) = refl

-- and the one behind the last
next_is_first : (size i : ℕ) → i + 1 ≡ size → next_in size i ≡ 0
next_is_first size i same = go (i + 1 == size) (eqb_tells (i + 1) size)
  where
    go : (b : Bool) → ((b ≡ true) × (i + 1 ≡ size)) ⊎ ((b ≡ false) × (i + 1 ≢ size)) → cond b 0 (i + 1) ≡ 0
    go true (inl h) = refl
    go false (inl h) = absurd (let x = h.0 in cc)
    go b (inr h) = absurd (h.1 same)

-- the classes of a trace
module _ (events : List Event) (classes : List Class) (are : AreClasses events classes) where
  -- the class of a number is one
  pub is_class : (n : ℕ) → n < length classes → IsClass events (class_of classes n)
  is_class n within = (are.members (class_of classes n)).0 (contains_at classes n (class_of classes n) (class_at classes n within))

  -- a lesser number has an earlier first place
  pub less_first : (m n : ℕ) → m < n → n < length classes → first_place (class_of classes m) < first_place (class_of classes n)
  less_first m n less within = all_pairs_at (λ (a b : Class). first_place a < first_place b) classes are.order m n (class_of classes m) (class_of classes n) less (class_at classes m (omega arith)) (class_at classes n within)

  -- a number that is not greater has a first place that is not later
  at_most_first : (m n : ℕ) → m ≤ n → n < length classes → first_place (class_of classes m) ≤ first_place (class_of classes n)
  at_most_first m n le within = go (three_way m n)
    where
      go : (m < n) ⊎ ((m ≡ n) ⊎ (n < m)) → first_place (class_of classes m) ≤ first_place (class_of classes n)
      go (inl less) = let up = less_first m n less within in omega arith
      go (inr (inl same)) = subst (λ (k : ℕ). first_place (class_of classes m) ≤ first_place (class_of classes k)) same (omega arith)
      go (inr (inr more)) = absurd (omega arith)

  -- a cycle of numbers is a pattern
  pub pattern_from_cycle : (q : List ℕ) → IsCycle classes q → IsPattern events (classes_of classes q)
  pattern_from_cycle q cycle = record {
    size = let size = cycle.size in omega (arith, length-map q (class_of classes));
    classes = all_from (IsClass events) (classes_of classes q) (λ i c at. let from = map_at (class_of classes) q i c at in subst (IsClass events) from.2 (is_class from.0 (cycle.path.within i from.0 from.1)));
    apart = all_pairs_from AreApart (classes_of classes q) (λ i j c d less at_c at_d. let x = map_at (class_of classes) q i c at_c in let y = map_at (class_of classes) q j d at_d in subst (λ (a : Class). AreApart a d) x.2 (subst (AreApart (class_of classes x.0)) y.2 (cycle.path.apart i j x.0 y.0 less x.1 y.1)));
    cycle = λ i c d at_c at_d. let x = map_at (class_of classes) q i c at_c in let y = map_at (class_of classes) q (next_in (length (classes_of classes q)) i) d at_d in
        subst (λ (a : Class). Contains d.held a.lock) x.2 (subst (λ (a : Class). Contains a.held (class_of classes x.0).lock) y.2 (round i x.0 y.0 x.1 (subst (λ (k : ℕ). slice_get q (next_in k i) ≡ Some y.0) (length-map q (class_of classes)) y.1)));
    first = λ c at. all_from (λ (b : Class). first_place c ≤ first_place b) (classes_of classes q) (λ i d at_d. let x = map_at (class_of classes) q 0 c at in let y = map_at (class_of classes) q i d at_d in
        subst (λ (a : Class). first_place a ≤ first_place d) x.2 (subst (λ (a : Class). first_place (class_of classes x.0) ≤ first_place a) y.2 (at_most_first x.0 y.0 (cycle.path.first i x.0 y.0 x.1 y.1) (cycle.path.within i y.0 y.1))));
  }
    where
      round : (i m n : ℕ) → slice_get q i ≡ Some m → slice_get q (next_in (length q) i) ≡ Some n → Contains (class_of classes n).held (class_of classes m).lock
      round i m n at_m at_n = go (three_way (i + 1) (length q))
        where
          within : i < length q
          within = slice_get_within q i m at_m

          go : (i + 1 < length q) ⊎ ((i + 1 ≡ length q) ⊎ (length q < i + 1)) → Contains (class_of classes n).held (class_of classes m).lock
          go (inl less) = cycle.path.chain i m n at_m (subst (λ (k : ℕ). slice_get q k ≡ Some n) (next_is_further (length q) i less) at_n)
          go (inr (inl last)) = cycle.closes n m (subst (λ (k : ℕ). slice_get q k ≡ Some n) (next_is_first (length q) i last) at_n) (subst (λ (k : ℕ). slice_get q k ≡ Some m) (omega arith) at_m)
          go (inr (inr past)) = absurd (let inside = within in omega arith)

  -- numbers whose classes are a pattern are a cycle
  cycle_if_pattern : (q : List ℕ) → AreClassNumbers classes q → IsPattern events (classes_of classes q) → IsCycle classes q
  cycle_if_pattern q numbers pattern = record {
    size = let size = pattern.size in omega (arith, length-map q (class_of classes));
    path = record {
      within = λ i n at. within i n at;
      apart = λ i j m n less at_m at_n. all_pairs_at AreApart (classes_of classes q) pattern.apart i j (class_of classes m) (class_of classes n) less (at_map (class_of classes) q i m at_m) (at_map (class_of classes) q j n at_n);
      chain = λ i m n at_m at_n. pattern.cycle i (class_of classes m) (class_of classes n) (at_map (class_of classes) q i m at_m) (next i n at_n);
      first = λ i m n at_m at_n. not_less m n (within 0 m at_m) (within i n at_n) (all_at (λ (b : Class). first_place (class_of classes m) ≤ first_place b) (classes_of classes q) (pattern.first (class_of classes m) (at_map (class_of classes) q 0 m at_m)) i (class_of classes n) (at_map (class_of classes) q i n at_n));
    };
    closes = λ m n at_m at_n. pattern.cycle (length q - 1) (class_of classes n) (class_of classes m) (at_map (class_of classes) q (length q - 1) n at_n) (around m at_m);
  }
    where
      within : (i n : ℕ) → slice_get q i ≡ Some n → n < length classes
      within i n at = numbers n (contains_at q i n at)

      -- the position behind i in the pattern
      next : (i n : ℕ) → slice_get q (i + 1) ≡ Some n → slice_get (classes_of classes q) (next_in (length (classes_of classes q)) i) ≡ Some (class_of classes n)
      next i n at =
          let inside = slice_get_within q (i + 1) n at in
          let further : next_in (length (classes_of classes q)) i ≡ i + 1 = next_is_further (length (classes_of classes q)) i (omega (arith, length-map q (class_of classes))) in
          subst (λ (k : ℕ). slice_get (classes_of classes q) k ≡ Some (class_of classes n)) (sym further) (at_map (class_of classes) q (i + 1) n at)

      -- and the one behind the last
      around : (m : ℕ) → slice_get q 0 ≡ Some m → slice_get (classes_of classes q) (next_in (length (classes_of classes q)) (length q - 1)) ≡ Some (class_of classes m)
      around m at =
          let inside = slice_get_within q 0 m at in
          let first : next_in (length (classes_of classes q)) (length q - 1) ≡ 0 = next_is_first (length (classes_of classes q)) (length q - 1) (omega (arith, length-map q (class_of classes))) in
          subst (λ (k : ℕ). slice_get (classes_of classes q) k ≡ Some (class_of classes m)) (sym first) (at_map (class_of classes) q 0 m at)

      not_less : (m n : ℕ) → m < length classes → n < length classes → first_place (class_of classes m) ≤ first_place (class_of classes n) → m ≤ n
      not_less m n in_m in_n le = go (three_way m n)
        where
          go : (m < n) ⊎ ((m ≡ n) ⊎ (n < m)) → m ≤ n
          go (inl less) = omega arith
          go (inr (inl same)) = omega arith
          go (inr (inr more)) = absurd (let up = less_first n m more in_m in omega arith)

  -- numbers of listed classes
  record Numbered (p : List Class) : Type 0 where
    pub numbers : List ℕ
    pub given : AreClassNumbers classes numbers
    pub named : classes_of classes numbers ≡ p

  -- listed classes have numbers
  numbered : (p : List Class) → ((c : Class) → Contains p c → Contains classes c) → Numbered p
  numbered [] listed = record { numbers = []; given = λ n c. absurd (contains_none n c); named = refl }
  numbered (c ∷ cs) listed = go (index_of classes c (listed c (contains_head c cs))) (numbered cs (λ d m. listed d (contains_tail c cs d m)))
    where
      go : (k : ℕ) × (slice_get classes k ≡ Some c) → Numbered cs → Numbered (c ∷ cs)
      go at rest = record {
        numbers = at.0 ∷ rest.numbers;
        given = λ n m. by n (contains_cases at.0 rest.numbers n m);
        named = (let head = class_is classes at.0 c at.1 in let tail = rest.named in cc);
      }
        where
          by : (n : ℕ) → (at.0 ≡ n) ⊎ Contains rest.numbers n → n < length classes
          by n (inl same) = subst (λ (k : ℕ). k < length classes) same (slice_get_within classes at.0 c at.1)
          by n (inr m) = rest.given n m

  -- a cycle of numbers that is a pattern
  pub record CycleOf (p : List Class) : Type 0 where
    pub cycle : List ℕ
    pub is : IsCycle classes cycle
    pub named : classes_of classes cycle ≡ p

  -- each pattern is one of a cycle of numbers
  pub cycle_from_pattern : (p : List Class) → IsPattern events p → CycleOf p
  cycle_from_pattern p pattern =
      let found = numbered p (λ c m. let at = index_of p c m in (are.members c).1 (all_at (IsClass events) p pattern.classes at.0 c at.1)) in
      record { cycle = found.numbers; is = cycle_if_pattern found.numbers found.given (subst (IsPattern events) (sym found.named) pattern); named = found.named }
