-- Instances that pick acquires by their positions.
use Rattle.std.proofs.Common.{◌≡◌, ℕ, zero, suc, ◌<◌, ◌≤◌, Bool, List, [], ◌∷◌, ◌++◌, length, get_or, Some, ◌⊎◌, inl, inr, refl, sym, ap, subst, ◌∙◌, arith}
use Rattle.std.specs.Prelude.{slice_get, slice_set, Contains, IsTrue}
use Rattle.std.specs.List.{AllZip}
use Rattle.std.proofs.lemmas.List.{length-map}
use Rattle.std.proofs.lemmas.Option.{slice_get_within, slice_get-get_or}
use Rattle.trace_laws.specs.declared.event.Op.TheVariants.{Acquire}
use Rattle.trace_laws.specs.Trace.{Before}
use Rattle.trace_laws.specs.Reordering.{Rises}
use Rattle.trace_laws.specs.Patterns.{Class, IsClass, IsInstance}
use Rattle.trace_laws.specs.Findings.{DeadlockBy}
use Rattle.trace_laws.specs.Closed.{IsClosureBefore, by_closure}
use Rattle.trace_laws.proofs.Places.{three_way, index_of, contains_at, within_from_op}
use Rattle.trace_index.proofs.SetNumbering.{push_cases}
use Rattle.lock_graph.specs.Classes.{Graph}
use Rattle.pattern_walk.specs.Cycles.{class_of, classes_of}
use Rattle.pattern_walk.specs.Instances.{IsListedPattern, ArePicksAt, AreFirstPositions, AreAtMost, rest_of}
use Rattle.pattern_walk.proofs.Lists.{all_at, map_at, at_map}
use Rattle.trace_laws.proofs.Least.{closure_grows}

-- lists of one length whose elements match in each position
pub zip_from : {A B : Type 0} (R : A → B → Type 0) (xs : List A) (ys : List B) → length xs ≡ length ys → ((i : ℕ) (x : A) (y : B) → slice_get xs i ≡ Some x → slice_get ys i ≡ Some y → R x y) → AllZip R xs ys
zip_from R [] [] size each = tt
zip_from R [] (y ∷ ys) size each = absurd (omega arith)
zip_from R (x ∷ xs) [] size each = absurd (omega arith)
zip_from R (x ∷ xs) (y ∷ ys) size each = (each zero x y refl refl, zip_from R xs ys (omega arith) (λ i a b at_a at_b. each (suc i) a b at_a at_b))

-- what matches an element
pub zip_at : {A B : Type 0} (R : A → B → Type 0) (xs : List A) (ys : List B) → AllZip R xs ys → (i : ℕ) (x : A) → slice_get xs i ≡ Some x → (y : B) × (slice_get ys i ≡ Some y) × R x y
zip_at R [] [] all i x at = cc
zip_at R [] (y ∷ ys) all i x at = absurd all
zip_at R (x ∷ xs) [] all i a at = absurd all
zip_at R (x ∷ xs) (y ∷ ys) all zero a at = let same : x ≡ a = cc in (y, refl, subst (λ b. R b y) same all.0)
zip_at R (x ∷ xs) (y ∷ ys) all (suc i) a at = zip_at R xs ys all.1 i a at

-- lists that match are as long
pub zip_size : {A B : Type 0} (R : A → B → Type 0) (xs : List A) (ys : List B) → AllZip R xs ys → length xs ≡ length ys
zip_size R [] [] all = refl
zip_size R [] (y ∷ ys) all = absurd all
zip_size R (x ∷ xs) [] all = absurd all
zip_size R (x ∷ xs) (y ∷ ys) all = let rest = zip_size R xs ys all.1 in omega arith

-- a list that rises is in order
pub in_order : (xs : List ℕ) → Rises xs → (k m a b : ℕ) → k ≤ m → slice_get xs k ≡ Some a → slice_get xs m ≡ Some b → a ≤ b
in_order xs rises k m a b le at_a at_b = go (three_way k m)
  where
    go : (k < m) ⊎ ((k ≡ m) ⊎ (m < k)) → a ≤ b
    go (inl less) = let up = rises k m a b less at_a at_b in omega arith
    go (inr (inl same)) = let there : slice_get xs m ≡ Some a = subst (λ (i : ℕ). slice_get xs i ≡ Some a) same at_a in let is : a ≡ b = cc in omega arith
    go (inr (inr more)) = absurd (omega arith)

-- a pick that moves on is nearer to the end
pub rest_less : (end : ℕ) (picks : List ℕ) (i p q : ℕ) → slice_get picks i ≡ Some p → p < q → q ≤ end → rest_of end (slice_set picks i q) < rest_of end picks
rest_less end [] i p q at less le = cc
rest_less end (x ∷ xs) zero p q at less le = let same : x ≡ p = cc in omega arith
rest_less end (x ∷ xs) (suc i) p q at less le = let rest = rest_less end xs i p q at less le in omega arith

-- a pattern of a graph
module _ (graph : Graph) (pattern : List ℕ) (is_of : IsListedPattern graph pattern) where
  -- its classes are classes of the trace
  pub class_at_number : (i n : ℕ) → slice_get pattern i ≡ Some n → IsClass graph.trace.events (class_of graph.classes n)
  class_at_number i n at = all_at (IsClass graph.trace.events) (classes_of graph.classes pattern) is_of.pattern.classes i (class_of graph.classes n) (at_map (class_of graph.classes) pattern i n at)

  -- acquires of a class are places of the trace
  pub acquire_in_trace : (i n a : ℕ) → slice_get pattern i ≡ Some n → Contains (class_of graph.classes n).acquires a → a < length graph.trace.events
  acquire_in_trace i n a at c = within_from_op graph.trace.events a (Acquire (class_of graph.classes n).lock) (((class_at_number i n at).members a).0 c).acquires.op

  -- of two acquires of a class the one that is not later is the other, or comes before it
  pub in_class_order : (i n a b : ℕ) → slice_get pattern i ≡ Some n → Contains (class_of graph.classes n).acquires a → Contains (class_of graph.classes n).acquires b → a ≤ b → (a ≡ b) ⊎ Before graph.trace.events a b
  in_class_order i n a b at in_a in_b le = go (three_way a b)
    where
      go : (a < b) ⊎ ((a ≡ b) ⊎ (b < a)) → (a ≡ b) ⊎ Before graph.trace.events a b
      go (inl less) = inr (Before.same_thread (class_of graph.classes n).thread less (((class_at_number i n at).members a).0 in_a).acquires.thread (((class_at_number i n at).members b).0 in_b).acquires.thread)
      go (inr (inl same)) = inl same
      go (inr (inr more)) = absurd (omega arith)

  -- what a deadlock picks from a class
  pub other_pick : (others : List ℕ) → DeadlockBy (by_closure graph.trace.events) (classes_of graph.classes pattern) others → (i n : ℕ) → slice_get pattern i ≡ Some n → (o : ℕ) × (slice_get others i ≡ Some o) × Contains (class_of graph.classes n).acquires o
  other_pick others deadlock i n at = zip_at (λ (class : Class) (a : ℕ). Contains class.acquires a) (classes_of graph.classes pattern) others deadlock.picked i (class_of graph.classes n) (at_map (class_of graph.classes) pattern i n at)

  -- picks by positions
  module _ (positions picks : List ℕ) (is_at : ArePicksAt graph.classes pattern positions picks) where
    -- a pick, the number of its class, and its position
    pub record PickAt (i p : ℕ) : Type 0 where
      pub number : ℕ
      pub position : ℕ
      pub class : slice_get pattern i ≡ Some number
      pub place : slice_get positions i ≡ Some position
      pub acquire : slice_get (class_of graph.classes number).acquires position ≡ Some p

    -- each pick has these
    pub pick_at : (i p : ℕ) → slice_get picks i ≡ Some p → PickAt i p
    pick_at i p at =
        let within = slice_get_within picks i p at in
        let long = is_at.picks in
        let short = is_at.positions in
        let n = get_or pattern i 0 in
        let k = get_or positions i 0 in
        let at_n : slice_get pattern i ≡ Some n = slice_get-get_or pattern i 0 (omega arith) in
        let at_k : slice_get positions i ≡ Some k = slice_get-get_or positions i 0 (omega arith) in
        record { number = n; position = k; class = at_n; place = at_k; acquire = is_at.each i n k p at_n at_k at }

    -- so it is an acquire of its class
    pub picked : (i p : ℕ) (at : slice_get picks i ≡ Some p) → Contains (class_of graph.classes (pick_at i p at).number).acquires p
    picked i p at = let is = pick_at i p at in contains_at (class_of graph.classes is.number).acquires is.position p is.acquire

    -- the picks are an instance
    pub is_instance : IsInstance (classes_of graph.classes pattern) picks
    is_instance = zip_from (λ (class : Class) (a : ℕ). Contains class.acquires a) (classes_of graph.classes pattern) picks (length-map pattern (class_of graph.classes) ∙ sym is_at.picks) (λ i c p at_c at_p. by i c p at_p (map_at (class_of graph.classes) pattern i c at_c))
      where
        by : (i : ℕ) (c : Class) (p : ℕ) → slice_get picks i ≡ Some p → (n : ℕ) × (slice_get pattern i ≡ Some n) × (class_of graph.classes n ≡ c) → Contains c.acquires p
        by i c p at_p from =
            let is = pick_at i p at_p in
            let own = is.class in
            let there = from.1 in
            let same : is.number ≡ from.0 = cc in
            subst (λ (a : Class). Contains a.acquires p) from.2 (subst (λ (m : ℕ). Contains (class_of graph.classes m).acquires p) same (picked i p at_p))

    -- they are places of the trace
    pub picks_within : (a : ℕ) → Contains picks a → a < length graph.trace.events
    picks_within a c = let at = index_of picks a c in let is = pick_at at.0 a at.1 in acquire_in_trace at.0 is.number a is.class (picked at.0 a at.1)

    -- the first acquires are at most those of each deadlock
    pub first_are_least : AreFirstPositions positions → (others : List ℕ) → DeadlockBy (by_closure graph.trace.events) (classes_of graph.classes pattern) others → AreAtMost picks others
    first_are_least first others deadlock i p o at_p at_o =
        let is = pick_at i p at_p in
        let other = other_pick others deadlock i is.number is.class in
        let there = other.1 in
        let same : other.0 ≡ o = cc in
        let zero_k = first i is.position is.place in
        let at = index_of (class_of graph.classes is.number).acquires other.0 other.2 in
        let le : p ≤ other.0 = in_order (class_of graph.classes is.number).acquires (class_at_number i is.number is.class).order is.position at.0 p other.0 (omega arith) is.acquire at.1 in
        omega arith

    -- the closure before picks that are at most those of a deadlock is in the closure before these
    pub under_deadlock : (others : List ℕ) (deadlock : DeadlockBy (by_closure graph.trace.events) (classes_of graph.classes pattern) others) → AreAtMost picks others → (set : ℕ → Bool) → IsClosureBefore graph.trace.events picks set → (i : ℕ) → IsTrue (set i) → IsTrue (deadlock.enabled.0 i)
    under_deadlock others deadlock least set closure = closure_grows graph.trace.events picks others set deadlock.enabled.0 under closure deadlock.enabled.1
      where
        under : (p : ℕ) → Contains picks p → (o : ℕ) × Contains others o × ((p ≡ o) ⊎ Before graph.trace.events p o)
        under p c =
            let at = index_of picks p c in
            let is = pick_at at.0 p at.1 in
            let other = other_pick others deadlock at.0 is.number is.class in
            (other.0, contains_at others at.0 other.0 other.1, in_class_order at.0 is.number p other.0 is.class (picked at.0 p at.1) other.2 (least at.0 p other.0 at.1 other.1))

-- picks that are the first acquires of the first classes, and one more
pub first_more : (classes : List Class) (numbers picks : List ℕ) (k n p : ℕ) → length picks ≡ k → ((i m a : ℕ) → slice_get numbers i ≡ Some m → slice_get picks i ≡ Some a → slice_get (class_of classes m).acquires 0 ≡ Some a) → slice_get numbers k ≡ Some n → slice_get (class_of classes n).acquires 0 ≡ Some p → (i m a : ℕ) → slice_get numbers i ≡ Some m → slice_get (picks ++ p ∷ []) i ≡ Some a → slice_get (class_of classes m).acquires 0 ≡ Some a
first_more classes numbers picks k n p size old at_n at_p i m a at_m at_a = go (push_cases picks p a i at_a)
  where
    go : (slice_get picks i ≡ Some a) ⊎ ((i ≡ length picks) × (p ≡ a)) → slice_get (class_of classes m).acquires 0 ≡ Some a
    go (inl at) = old i m a at_m at
    go (inr h) =
        let there : slice_get numbers k ≡ Some m = subst (λ (j : ℕ). slice_get numbers j ≡ Some m) (h.0 ∙ size) at_m in
        let own = at_n in
        let same : n ≡ m = cc in
        subst (λ (j : ℕ). slice_get (class_of classes j).acquires 0 ≡ Some a) same (at_p ∙ ap Some h.1)

-- positions that are all first, and one more
pub all_first_more : (positions : List ℕ) → AreFirstPositions positions → AreFirstPositions (positions ++ 0 ∷ [])
all_first_more positions first i k at = go (push_cases positions 0 k i at)
  where
    go : (slice_get positions i ≡ Some k) ⊎ ((i ≡ length positions) × (0 ≡ k)) → k ≡ 0
    go (inl old) = first i k old
    go (inr h) = sym h.1

-- first acquires are at their positions
pub first_at : (classes : List Class) (pattern positions picks : List ℕ) → length positions ≡ length pattern → length picks ≡ length pattern → AreFirstPositions positions → ((i n p : ℕ) → slice_get pattern i ≡ Some n → slice_get picks i ≡ Some p → slice_get (class_of classes n).acquires 0 ≡ Some p) → ArePicksAt classes pattern positions picks
first_at classes pattern positions picks size_positions size_picks first each = record {
  positions = size_positions;
  picks = size_picks;
  each = λ i n k p at_n at_k at_p. subst (λ (j : ℕ). slice_get (class_of classes n).acquires j ≡ Some p) (sym (first i k at_k)) (each i n p at_n at_p);
}

-- the number of a class, as it was read
pub number_at : (pattern listed : List ℕ) (i : ℕ) → listed ≡ pattern → i < length pattern → slice_get pattern i ≡ Some (get_or listed i 0)
number_at pattern listed i same within = subst (λ (xs : List ℕ). slice_get xs i ≡ Some (get_or listed i 0)) same (slice_get-get_or listed i 0 (subst (λ (xs : List ℕ). i < length xs) (sym same) within))

-- a list that is not empty has an element
pub some_within : (xs : List ℕ) → (xs ≡ [] → ⊥) → 0 < length xs
some_within [] some = absurd (some refl)
some_within (x ∷ xs) some = omega arith
