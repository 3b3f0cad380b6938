-- Adding cycles to what is found.
use Rattle.std.proofs.Common.{◌≡◌, ◌≢◌, ℕ, ◌+◌, ◌<◌, ◌≤◌, List, [], ◌∷◌, ◌++◌, length, get_or, Some, ◌⊎◌, inl, inr, refl, sym, ap, subst, ◌∙◌, arith, length-append}
use Rattle.std.specs.Prelude.{slice_get, slice_index, Contains, AllPairs}
use Rattle.std.proofs.lemmas.Bool.{cases_eq}
use Rattle.std.proofs.lemmas.Option.{slice_get_within, slice_get-get_or, get_or_from_slice_get}
use Rattle.std.proofs.lemmas.List.Elements.{Contains-push, Contains-push_cases, Contains-append_left}
use Rattle.sp_base.specs.declared.limits.TheConstants.{MAX_PATTERNS}
use Rattle.trace_laws.specs.Reordering.{Rises}
use Rattle.trace_laws.specs.Patterns.{Class}
use Rattle.trace_laws.proofs.Places.{three_way, index_of, contains_at, slice_get-append_seam, slice_get-append_left}
use Rattle.trace_index.proofs.SetNumbering.{push_cases}
use Rattle.pattern_walk.specs.Cycles.{IsCycle, BeginsWith, IsExtension, Precedes}
use Rattle.pattern_walk.specs.Linked.{StandsInCycle}
use Rattle.pattern_walk.specs.Walks.{AreInOrder, IsBehind, Extends, IsNextAmong, ExtendsTo, BeginsBelow, FoundBelow, HasMoreCycles}
use Rattle.pattern_walk.proofs.Lists.{all_pairs_from, all_pairs_at}
use Rattle.pattern_walk.proofs.Walking.{path_only}

-- lists in order and one that comes behind them are in order
pairs_push : (found : List (List ℕ)) (path : List ℕ) → AllPairs Precedes found → ((p : List ℕ) → Contains found p → Precedes p path) → AllPairs Precedes (found ++ path ∷ [])
pairs_push found path order behind = all_pairs_from Precedes (found ++ path ∷ []) (λ i j p q less at_p at_q. go i j p q less (push_cases found path p i at_p) (push_cases found path q j at_q))
  where
    go : (i j : ℕ) (p q : List ℕ) → i < j → (slice_get found i ≡ Some p) ⊎ ((i ≡ length found) × (path ≡ p)) → (slice_get found j ≡ Some q) ⊎ ((j ≡ length found) × (path ≡ q)) → Precedes p q
    go i j p q less (inl x) (inl y) = all_pairs_at Precedes found order i j p q less x y
    go i j p q less (inl x) (inr y) = subst (Precedes p) y.1 (behind p (contains_at found i p x))
    go i j p q less (inr x) (inl y) = absurd (let at = x.0 in let within = slice_get_within found j q y in omega arith)
    go i j p q less (inr x) (inr y) = absurd (let at_i = x.0 in let at_j = y.0 in omega arith)

-- what is found, and a path of the whole size
module _ (classes : List Class) (size : ℕ) (path : List ℕ) (found : List (List ℕ)) (old : AreInOrder classes size found) (whole : length path ≡ size) where
  -- a path that is no cycle adds nothing
  pub extends_by_none : (IsCycle classes path → ⊥) → Extends classes size path found found
  extends_by_none not_closed = record {
    found = old;
    kept = λ q c. c;
    all = λ q extension. absurd (not_closed (subst (IsCycle classes) (sym (path_only classes size path q whole extension)) extension.cycle));
    only = λ q c. inl c;
  }

  -- a cycle comes last
  module _ (cycle : IsCycle classes path) (behind : IsBehind size path found) where
    -- in the order
    ordered : AllPairs Precedes (found ++ path ∷ [])
    ordered = pairs_push found path old.order (λ p c. behind p path c whole (λ i n at. at))

    -- a cycle is one of before, or it
    each : (P : List ℕ → Type 0) → ((q : List ℕ) → Contains found q → P q) → P path → (q : List ℕ) → Contains (found ++ path ∷ []) q → P q
    each P before own q c = go (Contains-push_cases found path q c)
      where
        go : Contains found q ⊎ (path ≡ q) → P q
        go (inl m) = before q m
        go (inr same) = subst P same own

    -- where there is room
    pub extends_by_one : length found < MAX_PATTERNS → Extends classes size path found (found ++ path ∷ [])
    extends_by_one room = record {
      found = record {
        order = ordered;
        cycles = each (IsCycle classes) old.cycles cycle;
        sizes = each (λ q. length q ≤ size) old.sizes (omega arith);
        few = omega (arith, length-append found (path ∷ []));
      };
      kept = λ q c. Contains-append_left found (path ∷ []) q c;
      all = λ q extension. subst (Contains (found ++ path ∷ [])) (path_only classes size path q whole extension) (Contains-push found path);
      only = each (λ q. Contains found q ⊎ IsExtension classes size path q) (λ q c. inl c) (inr (record { cycle = cycle; size = whole; begins = λ i n at. at }));
    }

    -- and where there is none there are too many
    pub one_too_many : length found ≡ MAX_PATTERNS → HasMoreCycles classes size
    one_too_many full = record {
      some = found ++ path ∷ [];
      order = ordered;
      cycles = each (IsCycle classes) old.cycles cycle;
      sizes = each (λ q. length q ≤ size) old.sizes (omega arith);
      many = omega (arith, length-append found (path ∷ []));
    }

-- a cycle that begins with a path and has a class behind it begins with both
pub goes_with : {classes : List Class} {size : ℕ} {path : List ℕ} {n : ℕ} (q : List ℕ) → IsExtension classes size path q → slice_get q (length path) ≡ Some n → IsExtension classes size (path ++ n ∷ []) q
goes_with {classes} {size} {path} {n} q extension here = record { cycle = extension.cycle; size = extension.size; begins = λ i m at. go i m (push_cases path n m i at) }
  where
    go : (i m : ℕ) → (slice_get path i ≡ Some m) ⊎ ((i ≡ length path) × (n ≡ m)) → slice_get q i ≡ Some m
    go i m (inl at) = extension.begins i m at
    go i m (inr h) = subst (λ (k : ℕ). slice_get q k ≡ Some m) (sym h.0) (here ∙ ap Some h.1)

-- the cycles that go on by one of some candidates
module _ (classes : List Class) (size : ℕ) (path candidates : List ℕ) (old : List (List ℕ)) where
  -- more of them
  among_more : (k : ℕ) (q : List ℕ) → IsNextAmong candidates k path q → IsNextAmong candidates (k + 1) path q
  among_more k q next = record { number = next.number; next = next.next; below = let below = next.below in omega arith; candidate = next.candidate; at = next.at }

  -- one of them is the last
  among_cases : (k n : ℕ) (q : List ℕ) → slice_get candidates k ≡ Some n → IsNextAmong candidates (k + 1) path q → IsNextAmong candidates k path q ⊎ (slice_get q (length path) ≡ Some n)
  among_cases k n q at next = go (cases_eq next.number k)
    where
      go : (next.number ≡ k) ⊎ (next.number ≢ k) → IsNextAmong candidates k path q ⊎ (slice_get q (length path) ≡ Some n)
      go (inl same) =
          let there : slice_get candidates k ≡ Some next.next = subst (λ (i : ℕ). slice_get candidates i ≡ Some next.next) same next.candidate in
          let own = at in
          let is : next.next ≡ n = cc in
          inr (next.at ∙ ap Some is)
      go (inr other) = inl (record { number = next.number; next = next.next; below = let below = next.below in omega (arith, other); candidate = next.candidate; at = next.at })

  -- the cycles by some of them were added, and the next one is looked at
  module _ (k n : ℕ) (now : List (List ℕ)) (extends : ExtendsTo classes size path candidates k old now) (at : slice_get candidates k ≡ Some n) where
    -- with it there is no cycle
    pub extends_past : ((q : List ℕ) → IsExtension classes size (path ++ n ∷ []) q → ⊥) → ExtendsTo classes size path candidates (k + 1) old now
    extends_past none = record {
      found = extends.found;
      kept = extends.kept;
      all = λ q extension next. go q extension (among_cases k n q at next);
      only = λ q c. more q (extends.only q c);
    }
      where
        go : (q : List ℕ) → IsExtension classes size path q → IsNextAmong candidates k path q ⊎ (slice_get q (length path) ≡ Some n) → Contains now q
        go q extension (inl next) = extends.all q extension next
        go q extension (inr here) = absurd (none q (goes_with q extension here))

        more : (q : List ℕ) → Contains old q ⊎ (IsExtension classes size path q × IsNextAmong candidates k path q) → Contains old q ⊎ (IsExtension classes size path q × IsNextAmong candidates (k + 1) path q)
        more q (inl c) = inl c
        more q (inr h) = inr (h.0, among_more k q h.1)

    -- what was found comes before the cycles with it
    pub behind_next : Rises candidates → IsBehind size path old → IsBehind size (path ++ n ∷ []) now
    behind_next rises behind p q c long begins = go (extends.only p c)
      where
        with_path : BeginsWith q path
        with_path i m at_m = begins i m (slice_get-append_left path (n ∷ []) i (slice_get_within path i m at_m) ∙ at_m)

        go : Contains old p ⊎ (IsExtension classes size path p × IsNextAmong candidates k path p) → Precedes p q
        go (inl m) = behind p q m long with_path
        go (inr h) = inr (h.0.size ∙ sym long, (length path, less, same))
          where
            at_p : slice_index p (length path) ≡ h.1.next
            at_p = get_or_from_slice_get p (length path) h.1.next 0 h.1.at

            at_q : slice_index q (length path) ≡ n
            at_q = get_or_from_slice_get q (length path) n 0 (begins (length path) n (slice_get-append_seam path n))

            less : slice_index p (length path) < slice_index q (length path)
            less = let up = rises h.1.number k h.1.next n h.1.below h.1.candidate at in let first = at_p in let second = at_q in omega arith

            same : (i : ℕ) → i < length path → slice_index p i ≡ slice_index q i
            same i within =
                let m = get_or path i 0 in
                let stands : slice_get path i ≡ Some m = slice_get-get_or path i 0 within in
                get_or_from_slice_get p i m 0 (h.0.begins i m stands) ∙ sym (get_or_from_slice_get q i m 0 (with_path i m stands))

    -- and with the cycles with it
    pub extends_by : (new : List (List ℕ)) → Extends classes size (path ++ n ∷ []) now new → ExtendsTo classes size path candidates (k + 1) old new
    extends_by new by = record {
      found = by.found;
      kept = λ q c. by.kept q (extends.kept q c);
      all = λ q extension next. go q extension (among_cases k n q at next);
      only = λ q c. more q (by.only q c);
    }
      where
        go : (q : List ℕ) → IsExtension classes size path q → IsNextAmong candidates k path q ⊎ (slice_get q (length path) ≡ Some n) → Contains new q
        go q extension (inl next) = by.kept q (extends.all q extension next)
        go q extension (inr here) = by.all q (goes_with q extension here)

        before : (q : List ℕ) → Contains old q ⊎ (IsExtension classes size path q × IsNextAmong candidates k path q) → Contains old q ⊎ (IsExtension classes size path q × IsNextAmong candidates (k + 1) path q)
        before q (inl c) = inl c
        before q (inr h) = inr (h.0, among_more k q h.1)

        more : (q : List ℕ) → Contains now q ⊎ IsExtension classes size (path ++ n ∷ []) q → Contains old q ⊎ (IsExtension classes size path q × IsNextAmong candidates (k + 1) path q)
        more q (inl c) = before q (extends.only q c)
        more q (inr extension) = inr (
          record { cycle = extension.cycle; size = extension.size; begins = λ i m at_m. extension.begins i m (slice_get-append_left path (n ∷ []) i (slice_get_within path i m at_m) ∙ at_m) },
          record { number = k; next = n; below = omega arith; candidate = at; at = extension.begins (length path) n (slice_get-append_seam path n) },
        )

  -- all cycles that begin with the path were added
  pub extends_whole : (k : ℕ) (now : List (List ℕ)) → length candidates ≤ k → length path < size → ((q : List ℕ) (n : ℕ) → IsExtension classes size path q → slice_get q (length path) ≡ Some n → Contains candidates n) → ExtendsTo classes size path candidates k old now → Extends classes size path old now
  extends_whole k now all_k short complete extends = record {
    found = extends.found;
    kept = extends.kept;
    all = λ q extension. extends.all q extension (next q extension);
    only = λ q c. less q (extends.only q c);
  }
    where
      next : (q : List ℕ) → IsExtension classes size path q → IsNextAmong candidates k path q
      next q extension =
          let n = get_or q (length path) 0 in
          let long = extension.size in
          let at_n : slice_get q (length path) ≡ Some n = slice_get-get_or q (length path) 0 (omega arith) in
          let at = index_of candidates n (complete q n extension at_n) in
          let within = slice_get_within candidates at.0 n at.1 in
          record { number = at.0; next = n; below = omega arith; candidate = at.1; at = at_n }

      less : (q : List ℕ) → Contains old q ⊎ (IsExtension classes size path q × IsNextAmong candidates k path q) → Contains old q ⊎ IsExtension classes size path q
      less q (inl c) = inl c
      less q (inr h) = inr h.0

-- what is found of all smaller cycles, and of those of the size that begin with a lesser class
module _ (classes : List Class) (size : ℕ) where
  -- a list of one number begins a list that has it first
  begins_alone : (start : ℕ) (q : List ℕ) → slice_get q 0 ≡ Some start → BeginsWith q (start ∷ [])
  begins_alone start q first i n at =
      let within = slice_get_within (start ∷ []) i n at in
      let zero_i : i ≡ 0 = omega arith in
      let here : slice_get (start ∷ []) 0 ≡ Some n = subst (λ (k : ℕ). slice_get (start ∷ []) k ≡ Some n) zero_i at in
      let same : start ≡ n = cc in
      subst (λ (k : ℕ). slice_get q k ≡ Some n) (sym zero_i) (first ∙ ap Some same)

  -- it comes before the cycles that begin with the class
  pub behind_start : (start : ℕ) (found : List (List ℕ)) → FoundBelow classes size start found → IsBehind size (start ∷ []) found
  behind_start start found below p q c long begins = go (below.only p c)
    where
      first : slice_get q 0 ≡ Some start
      first = begins 0 start refl

      go : (length p < size) ⊎ ((length p ≡ size) × BeginsBelow start p) → Precedes p q
      go (inl less) = inl (omega arith)
      go (inr h) = inr (h.0 ∙ sym long, (0, (let at_p = get_or_from_slice_get p 0 h.1.first 0 h.1.at in let at_q = get_or_from_slice_get q 0 start 0 first in let less = h.1.below in omega arith), λ k less. absurd (omega arith)))

  -- what it has only for a class it has only for the next one
  only_more : (start : ℕ) (q : List ℕ) → (length q < size) ⊎ ((length q ≡ size) × BeginsBelow start q) → (length q < size) ⊎ ((length q ≡ size) × BeginsBelow (start + 1) q)
  only_more start q (inl less) = inl less
  only_more start q (inr h) = inr (h.0, record { first = h.1.first; at = h.1.at; below = let less = h.1.below in omega arith })

  -- past a class that stands in no cycle it is what is found for the next class
  pub below_past : (start : ℕ) (found : List (List ℕ)) → (StandsInCycle classes start → ⊥) → FoundBelow classes size start found → FoundBelow classes size (start + 1) found
  below_past start found none below = record {
    found = below.found;
    smaller = below.smaller;
    same = λ q cycle long begins. same q cycle long begins (cases_eq begins.first start);
    only = λ q c. only_more start q (below.only q c);
  }
    where
      same : (q : List ℕ) → IsCycle classes q → length q ≡ size → (b : BeginsBelow (start + 1) q) → (b.first ≡ start) ⊎ (b.first ≢ start) → Contains found q
      same q cycle long b (inl is) = absurd (none (record { cycle = q; is = cycle; member = contains_at q 0 start (b.at ∙ ap Some is) }))
      same q cycle long b (inr other) = below.same q cycle long (record { first = b.first; at = b.at; below = let less = b.below in omega (arith, other) })

  -- with these it is what is found for the next class
  pub below_next : (start : ℕ) (found new : List (List ℕ)) → FoundBelow classes size start found → Extends classes size (start ∷ []) found new → FoundBelow classes size (start + 1) new
  below_next start found new below extends = record {
    found = extends.found;
    smaller = λ q cycle less. extends.kept q (below.smaller q cycle less);
    same = λ q cycle long begins. same q cycle long begins (cases_eq begins.first start);
    only = λ q c. only q (extends.only q c);
  }
    where
      same : (q : List ℕ) → IsCycle classes q → length q ≡ size → (b : BeginsBelow (start + 1) q) → (b.first ≡ start) ⊎ (b.first ≢ start) → Contains new q
      same q cycle long b (inl is) = extends.all q (record { cycle = cycle; size = long; begins = begins_alone start q (b.at ∙ ap Some is) })
      same q cycle long b (inr other) = extends.kept q (below.same q cycle long (record { first = b.first; at = b.at; below = let less = b.below in omega (arith, other) }))

      only : (q : List ℕ) → Contains found q ⊎ IsExtension classes size (start ∷ []) q → (length q < size) ⊎ ((length q ≡ size) × BeginsBelow (start + 1) q)
      only q (inl c) = only_more start q (below.only q c)
      only q (inr extension) = inr (extension.size, record { first = start; at = extension.begins 0 start refl; below = omega arith })

  -- past the last class it is what is found for the next size
  pub size_next : (number : ℕ) (found : List (List ℕ)) → length classes ≤ number → FoundBelow classes size number found → FoundBelow classes (size + 1) 0 found
  size_next number found all below = record {
    found = record { order = below.found.order; cycles = below.found.cycles; sizes = λ q c. let le = below.found.sizes q c in omega arith; few = below.found.few };
    smaller = λ q cycle less. smaller q cycle (three_way (length q) size) less;
    same = λ q cycle long b. absurd (let less = b.below in omega arith);
    only = λ q c. inl (let le = below.found.sizes q c in omega arith);
  }
    where
      smaller : (q : List ℕ) → IsCycle classes q → (length q < size) ⊎ ((length q ≡ size) ⊎ (size < length q)) → length q < size + 1 → Contains found q
      smaller q cycle (inl less) bound = below.smaller q cycle less
      smaller q cycle (inr (inl long)) bound =
          let two = cycle.size in
          let first = get_or q 0 0 in
          let at : slice_get q 0 ≡ Some first = slice_get-get_or q 0 0 (omega arith) in
          let within = cycle.path.within 0 first at in
          below.same q cycle long (record { first = first; at = at; below = omega arith })
      smaller q cycle (inr (inr more)) bound = absurd (omega arith)
