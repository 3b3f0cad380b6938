-- Paths that grow by a class.
use Rattle.std.proofs.Common.{◌≡◌, ◌≢◌, ℕ, ◌+◌, ◌-◌, ◌<◌, ◌≤◌, List, [], ◌∷◌, ◌++◌, length, Some, ◌⊎◌, inl, inr, refl, sym, ap, subst, ◌∙◌, arith, length-append}
use Rattle.std.specs.Prelude.{slice_get, slice_index, Contains}
use Rattle.std.proofs.lemmas.Bool.{cases_eq}
use Rattle.std.proofs.lemmas.Option.{slice_get_within}
use Rattle.sp_base.specs.declared.limits.TheConstants.{MIN_SIZE, MAX_SIZE}
use Rattle.trace_laws.specs.Patterns.{Class, AreApart}
use Rattle.trace_laws.proofs.Places.{three_way, contains_at, index_of, slice_get-append_left, slice_get-append_seam}
use Rattle.trace_index.proofs.SetNumbering.{push_cases}
use Rattle.lock_graph.specs.Classes.{HaveLocksBelow}
use Rattle.pattern_walk.specs.declared.near.Near.{Near}
use Rattle.pattern_walk.specs.declared.walk.Walk.{Walk}
use Rattle.pattern_walk.specs.Cycles.{class_of, IsPath, IsCycle, IsExtension}
use Rattle.pattern_walk.specs.Walks.{IsReady, IsOnWay}
use Rattle.pattern_walk.specs.Nearness.{IsNear}
use Rattle.pattern_walk.proofs.Lists.{same_list}

-- a class alone is a path
pub path_single : (classes : List Class) (start : ℕ) → start < length classes → IsPath classes (start ∷ [])
path_single classes start within = record {
  within = λ i n at. subst (λ (k : ℕ). k < length classes) (one i n at).1 within;
  apart = λ i j m n less at_m at_n. absurd (let first = (one i m at_m).0 in let second = (one j n at_n).0 in omega arith);
  chain = λ i m n at_m at_n. absurd (let second = (one (i + 1) n at_n).0 in omega arith);
  first = λ i m n at_m at_n. let x = (one 0 m at_m).1 in let y = (one i n at_n).1 in omega arith;
}
  where
    one : (i n : ℕ) → slice_get (start ∷ []) i ≡ Some n → (i ≡ 0) × (start ≡ n)
    one i n at = let inside = slice_get_within (start ∷ []) i n at in let first : i ≡ 0 = omega arith in (first, (let here : slice_get (start ∷ []) 0 ≡ Some n = subst (λ (k : ℕ). slice_get (start ∷ []) k ≡ Some n) first at in cc))

-- a path, its first class and its last
module _ (classes : List Class) (path : List ℕ) (start last : ℕ) (begins : slice_get path 0 ≡ Some start) (ends : slice_get path (length path - 1) ≡ Some last) (is : IsPath classes path) where
  -- it is not empty
  not_empty : 0 < length path
  not_empty = slice_get_within path 0 start begins

  -- a class that can follow goes on with it
  pub path_pushes : (next : ℕ) → next < length classes → start < next → Contains (class_of classes next).held (class_of classes last).lock → ((n : ℕ) → Contains path n → AreApart (class_of classes n) (class_of classes next)) → IsPath classes (path ++ next ∷ [])
  path_pushes next within greater holds apart = record {
    within = λ i n at. inside i n (push_cases path next n i at);
    apart = λ i j m n less at_m at_n. two i j m n less (push_cases path next m i at_m) (push_cases path next n j at_n);
    chain = λ i m n at_m at_n. link i m n (push_cases path next m i at_m) (push_cases path next n (i + 1) at_n);
    first = λ i m n at_m at_n. least i m n (push_cases path next m 0 at_m) (push_cases path next n i at_n);
  }
    where
      some : 0 < length path
      some = not_empty

      inside : (i n : ℕ) → (slice_get path i ≡ Some n) ⊎ ((i ≡ length path) × (next ≡ n)) → n < length classes
      inside i n (inl x) = is.within i n x
      inside i n (inr x) = subst (λ (k : ℕ). k < length classes) x.1 within

      two : (i j m n : ℕ) → i < j → (slice_get path i ≡ Some m) ⊎ ((i ≡ length path) × (next ≡ m)) → (slice_get path j ≡ Some n) ⊎ ((j ≡ length path) × (next ≡ n)) → AreApart (class_of classes m) (class_of classes n)
      two i j m n less (inl x) (inl y) = is.apart i j m n less x y
      two i j m n less (inl x) (inr y) = subst (λ (k : ℕ). AreApart (class_of classes m) (class_of classes k)) y.1 (apart m (contains_at path i m x))
      two i j m n less (inr x) (inl y) = absurd (let at = x.0 in let below = slice_get_within path j n y in omega arith)
      two i j m n less (inr x) (inr y) = absurd (let at_i = x.0 in let at_j = y.0 in omega arith)

      link : (i m n : ℕ) → (slice_get path i ≡ Some m) ⊎ ((i ≡ length path) × (next ≡ m)) → (slice_get path (i + 1) ≡ Some n) ⊎ ((i + 1 ≡ length path) × (next ≡ n)) → Contains (class_of classes n).held (class_of classes m).lock
      link i m n (inl x) (inl y) = is.chain i m n x y
      link i m n (inl x) (inr y) =
          let there : slice_get path (length path - 1) ≡ Some m = subst (λ (k : ℕ). slice_get path k ≡ Some m) (let at = y.0 in omega arith) x in
          let own = ends in
          let same : last ≡ m = cc in
          subst (λ (k : ℕ). Contains (class_of classes k).held (class_of classes m).lock) y.1 (subst (λ (k : ℕ). Contains (class_of classes next).held (class_of classes k).lock) same holds)
      link i m n (inr x) (inl y) = absurd (let at = x.0 in let below = slice_get_within path (i + 1) n y in omega arith)
      link i m n (inr x) (inr y) = absurd (let at_i = x.0 in let at_j = y.0 in omega arith)

      least : (i m n : ℕ) → (slice_get path 0 ≡ Some m) ⊎ ((0 ≡ length path) × (next ≡ m)) → (slice_get path i ≡ Some n) ⊎ ((i ≡ length path) × (next ≡ n)) → m ≤ n
      least i m n (inl x) (inl y) = is.first i m n x y
      least i m n (inl x) (inr y) = let own = begins in let same : start ≡ m = cc in let new = y.1 in omega arith
      least i m n (inr x) y = absurd (let at = x.0 in let more = some in omega arith)

  -- the cycles that go on with a class
  module _ (size next : ℕ) (q : List ℕ) (extension : IsExtension classes size (path ++ next ∷ []) q) where
    -- have it behind the path
    pub goes_on : slice_get q (length path) ≡ Some next
    goes_on = extension.begins (length path) next (slice_get-append_seam path next)

    -- and begin with the path
    pub begins_too : IsExtension classes size path q
    begins_too = record { cycle = extension.cycle; size = extension.size; begins = λ i n at. extension.begins i n (slice_get-append_left path (next ∷ []) i (slice_get_within path i n at) ∙ at) }

    -- the class is greater than the first
    pub greater_than_first : start < next
    greater_than_first = go (three_way start next)
      where
        first : slice_get q 0 ≡ Some start
        first = begins_too.begins 0 start begins

        go : (start < next) ⊎ ((start ≡ next) ⊎ (next < start)) → start < next
        go (inl less) = less
        go (inr (inl same)) = absurd ((extension.cycle.path.apart 0 (length path) start next not_empty first goes_on).threads (ap (λ (n : ℕ). (class_of classes n).thread) same))
        go (inr (inr more)) = absurd (let least = extension.cycle.path.first (length path) start next first goes_on in omega arith)

    -- it holds the lock of the last
    pub holds_last : Contains (class_of classes next).held (class_of classes last).lock
    holds_last = extension.cycle.path.chain (length path - 1) last next (begins_too.begins (length path - 1) last ends) (subst (λ (k : ℕ). slice_get q k ≡ Some next) (let some = not_empty in omega arith) goes_on)

    -- it is apart from each
    pub apart_from_each : (n : ℕ) → Contains path n → AreApart (class_of classes n) (class_of classes next)
    apart_from_each n c =
        let at = index_of path n c in
        extension.cycle.path.apart at.0 (length path) n next (slice_get_within path at.0 n at.1) (begins_too.begins at.0 n at.1) goes_on

    -- and its lock is near enough
    pub near_enough : (near : List ℕ) → IsNear classes start size near → slice_index near (class_of classes next).lock + length path ≤ size
    near_enough near is_near = is_near q (length path) next extension.cycle extension.size (begins_too.begins 0 start begins) not_empty (omega arith) goes_on

-- a path whose first class holds the lock of its last is a cycle
pub path_closes : (classes : List Class) (path : List ℕ) (first last : ℕ) → 2 ≤ length path → IsPath classes path → slice_get path 0 ≡ Some first → slice_get path (length path - 1) ≡ Some last → Contains (class_of classes first).held (class_of classes last).lock → IsCycle classes path
path_closes classes path first last size is at_first at_last holds = record {
  size = size;
  path = is;
  closes = λ m n at_m at_n. (let same_first : first ≡ m = cc in let same_last : last ≡ n = cc in subst (λ (k : ℕ). Contains (class_of classes k).held (class_of classes n).lock) same_first (subst (λ (k : ℕ). Contains (class_of classes first).held (class_of classes k).lock) same_last holds));
}

-- a walk goes on along a path with one class more
pub goes_along : (walk : Walk) (known : Near) (way : List ℕ) (next : ℕ) → IsOnWay walk known way → length way < known.size → IsPath walk.classes.now.classes (way ++ next ∷ []) → IsOnWay walk known (way ++ next ∷ [])
goes_along walk known way next is short path = record {
  ready = is.ready;
  start = is.start;
  begins = slice_get-append_left way (next ∷ []) 0 (slice_get_within way 0 is.start is.begins) ∙ is.begins;
  path = path;
  short = omega (arith, length-append way (next ∷ []));
  least = is.least;
  most = is.most;
  locks = is.locks;
  near = is.near;
}

-- a walk begins with a class
pub begins_along : (walk : Walk) (known : Near) (start : ℕ) → IsReady walk → start < length walk.classes.now.classes → MIN_SIZE ≤ known.size → known.size ≤ MAX_SIZE → HaveLocksBelow walk.classes.now.classes (length known.steps.items) → IsNear walk.classes.now.classes start known.size known.steps.items → IsOnWay walk known (start ∷ [])
begins_along walk known start ready within least most locks near = record {
  ready = ready;
  start = start;
  begins = refl;
  path = path_single walk.classes.now.classes start within;
  short = omega arith;
  least = least;
  most = most;
  locks = locks;
  near = near;
}

-- a cycle of the size of the path that begins with it is the path
pub path_only : (classes : List Class) (size : ℕ) (path q : List ℕ) → length path ≡ size → IsExtension classes size path q → path ≡ q
path_only classes size path q whole extension = same_list path q (whole ∙ sym extension.size) extension.begins

-- the first classes of a path are apart from a class, and one more
pub apart_more : (classes : List Class) (path : List ℕ) (k n next : ℕ) → ((i m : ℕ) → i < k → slice_get path i ≡ Some m → AreApart (class_of classes m) (class_of classes next)) → slice_get path k ≡ Some n → AreApart (class_of classes n) (class_of classes next) → (i m : ℕ) → i < k + 1 → slice_get path i ≡ Some m → AreApart (class_of classes m) (class_of classes next)
apart_more classes path k n next old at here i m less at_m = go (cases_eq i k)
  where
    go : (i ≡ k) ⊎ (i ≢ k) → AreApart (class_of classes m) (class_of classes next)
    go (inl same) =
        let there : slice_get path k ≡ Some m = subst (λ (j : ℕ). slice_get path j ≡ Some m) same at_m in
        let own = at in
        let is : n ≡ m = cc in
        subst (λ (j : ℕ). AreApart (class_of classes j) (class_of classes next)) is here
    go (inr other) = old i m (omega (arith, other)) at_m
