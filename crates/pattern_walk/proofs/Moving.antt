-- Moving a pick on, and the least deadlock.
use Rattle.std.proofs.Common.{◌≡◌, ◌≢◌, ℕ, ◌+◌, ◌<◌, ◌≤◌, Bool, true, false, List, length, get_or, Some, ◌⊎◌, inl, inr, sym, ap, subst, ◌∙◌, arith}
use Rattle.std.specs.Prelude.{slice_get, slice_set, slice_index, Contains, IsTrue, ◌↔◌}
use Rattle.std.specs.Option.{option_map}
use Rattle.std.proofs.Math.ListN.{length-set}
use Rattle.std.proofs.lemmas.List.{length-map}
use Rattle.std.proofs.lemmas.Bool.{cases_eq}
use Rattle.std.proofs.lemmas.Option.{slice_get_within, slice_get-get_or}
use Rattle.trace_laws.specs.Traces.{History}
use Rattle.trace_laws.specs.Trace.{thread_at, Before}
use Rattle.trace_laws.specs.Patterns.{Class}
use Rattle.trace_laws.specs.Findings.{DeadlockBy, IsKeep, IsFoundDeadlock}
use Rattle.trace_laws.specs.Closed.{IsClosure, AreOutside, by_closure}
use Rattle.trace_laws.proofs.Places.{three_way, index_of, contains_at, within_from_thread}
use Rattle.trace_laws.proofs.Growing.{slice_get-set_same, slice_get-set_other}
use Rattle.lock_graph.specs.Classes.{Graph}
use Rattle.sp_closure.specs.Members.{PlaceSet, has, IsMemberOf, AreCounts}
use Rattle.sp_closure.proofs.Counts.{count_under}
use Rattle.pattern_walk.specs.Cycles.{class_of, classes_of}
use Rattle.pattern_walk.specs.Instances.{IsListedPattern, ArePicksAt, AreInSet, IsInitial, AreAtMost, IsUnderway, HasNoDeadlock, rest_of, reached_of}
use Rattle.pattern_walk.proofs.Raising.{closure_moves}
use Rattle.pattern_walk.proofs.Ordering.{read_of}
use Rattle.pattern_walk.proofs.Stepping.{reached_further}
use Rattle.pattern_walk.proofs.Picking.{number_at, zip_from, zip_size, in_order, rest_less, class_at_number, acquire_in_trace, other_pick, is_instance, under_deadlock}

-- a pattern of a graph, and picks that are underway
module _ (graph : Graph) (pattern : List ℕ) (is_of : IsListedPattern graph pattern) (positions picks : List ℕ) (cursor : PlaceSet) (underway : IsUnderway graph pattern positions picks cursor) where
  -- the set of the cursor
  abbrev set : ℕ → Bool
  set = has cursor.members

  -- a pick of a class at a position
  module _ (i n k p : ℕ) (at_n : slice_get pattern i ≡ Some n) (at_k : slice_get positions i ≡ Some k) (at_p : slice_get picks i ≡ Some p) where
    -- it stands there
    stands : slice_get (class_of graph.classes n).acquires k ≡ Some p
    stands = underway.at.each i n k p at_n at_k at_p

    -- what a deadlock picks in its place is an acquire from the position on that is not in the set
    pub record Later (others : List ℕ) : Type 0 where
      pub pick : ℕ
      pub position : ℕ
      pub at : slice_get others i ≡ Some pick
      pub acquire : slice_get (class_of graph.classes n).acquires position ≡ Some pick
      pub from : k ≤ position
      pub outside : set pick ≡ true → ⊥

    -- each deadlock picks one
    pub later : (others : List ℕ) → DeadlockBy (by_closure graph.trace.events) (classes_of graph.classes pattern) others → Later others
    later others deadlock = record {
      pick = other.0;
      position = found.0;
      at = other.1;
      acquire = found.1;
      from = go (three_way k found.0);
      outside = λ member. let in_other = under_deadlock graph pattern is_of positions picks underway.at others deadlock (underway.least others deadlock) set underway.closure other.0 member in let out = deadlock.enabled.2 other.0 (contains_at others i other.0 other.1) in cc;
    }
      where
        other : (o : ℕ) × (slice_get others i ≡ Some o) × Contains (class_of graph.classes n).acquires o
        other = other_pick graph pattern is_of others deadlock i n at_n

        found : (m : ℕ) × (slice_get (class_of graph.classes n).acquires m ≡ Some other.0)
        found = index_of (class_of graph.classes n).acquires other.0 other.2

        go : (k < found.0) ⊎ ((k ≡ found.0) ⊎ (found.0 < k)) → k ≤ found.0
        go (inl less) = omega arith
        go (inr (inl same)) = omega arith
        go (inr (inr more)) = absurd (let down = (class_at_number graph pattern is_of i n at_n).order found.0 k other.0 p more found.1 stands in let le = underway.least others deadlock i p other.0 at_p other.1 in omega arith)

    -- where all acquires from the position on are in the set there is no deadlock
    pub none_left : AreInSet set (class_of graph.classes n).acquires k (length (class_of graph.classes n).acquires) → HasNoDeadlock graph.trace.events (classes_of graph.classes pattern)
    none_left all others deadlock = let l = later others deadlock in l.outside (all l.position l.pick l.from (slice_get_within (class_of graph.classes n).acquires l.position l.pick l.acquire) l.acquire)

    -- the first acquire that is not in the set
    module _ (m q : ℕ) (at_q : slice_get (class_of graph.classes n).acquires m ≡ Some q) (from : k ≤ m) (passed : AreInSet set (class_of graph.classes n).acquires k m) (inside : set p ≡ true) (outside : set q ≡ false) where
      -- has a later position
      pub further : k < m
      further = go (three_way k m)
        where
          go : (k < m) ⊎ ((k ≡ m) ⊎ (m < k)) → k < m
          go (inl less) = less
          go (inr (inl same)) = absurd (let there : slice_get (class_of graph.classes n).acquires m ≡ Some p = subst (λ (j : ℕ). slice_get (class_of graph.classes n).acquires j ≡ Some p) same stands in let own = at_q in let is : p ≡ q = cc in let in_q : set q ≡ true = subst (λ (j : ℕ). set j ≡ true) is inside in let out = outside in cc)
          go (inr (inr more)) = absurd (omega arith)

      -- so it is later
      pub is_later : p < q
      is_later = (class_at_number graph pattern is_of i n at_n).order k m p q further stands at_q

      -- and a place of the trace
      pub is_within : q < length graph.trace.events
      is_within = acquire_in_trace graph pattern is_of i n q at_n (contains_at (class_of graph.classes n).acquires m q at_q)

      -- so the picks with it are nearer to the end
      pub nearer : rest_of (length graph.trace.events) (slice_set picks i q) < rest_of (length graph.trace.events) picks
      nearer = rest_less (length graph.trace.events) picks i p q at_p is_later (let within = is_within in omega arith)

      -- they are at their positions
      moved_at : ArePicksAt graph.classes pattern (slice_set positions i m) (slice_set picks i q)
      moved_at = record {
        positions = length-set positions i m ∙ underway.at.positions;
        picks = length-set picks i q ∙ underway.at.picks;
        each = λ j a b c at_a at_b at_c. each j a b c at_a at_b at_c (cases_eq j i);
      }
        where
          each : (j a b c : ℕ) → slice_get pattern j ≡ Some a → slice_get (slice_set positions i m) j ≡ Some b → slice_get (slice_set picks i q) j ≡ Some c → (j ≡ i) ⊎ (j ≢ i) → slice_get (class_of graph.classes a).acquires b ≡ Some c
          each j a b c at_a at_b at_c (inl same) =
              let own_a : slice_get pattern i ≡ Some a = subst (λ (x : ℕ). slice_get pattern x ≡ Some a) same at_a in
              let own_b : slice_get (slice_set positions i m) i ≡ Some b = subst (λ (x : ℕ). slice_get (slice_set positions i m) x ≡ Some b) same at_b in
              let own_c : slice_get (slice_set picks i q) i ≡ Some c = subst (λ (x : ℕ). slice_get (slice_set picks i q) x ≡ Some c) same at_c in
              let now_b : slice_get (slice_set positions i m) i ≡ Some m = slice_get-set_same positions i m (slice_get_within positions i k at_k) in
              let now_c : slice_get (slice_set picks i q) i ≡ Some q = slice_get-set_same picks i q (slice_get_within picks i p at_p) in
              let old_a = at_n in
              let is_a : n ≡ a = cc in
              let is_b : m ≡ b = cc in
              let is_c : q ≡ c = cc in
              subst (λ (x : ℕ). slice_get (class_of graph.classes x).acquires b ≡ Some c) is_a (subst (λ (x : ℕ). slice_get (class_of graph.classes n).acquires x ≡ Some c) is_b (at_q ∙ ap Some is_c))
          each j a b c at_a at_b at_c (inr other) = underway.at.each j a b c at_a (sym (slice_get-set_other positions i j m other) ∙ at_b) (sym (slice_get-set_other picks i j q other) ∙ at_c)

      -- they are at most those of each deadlock
      moved_least : (others : List ℕ) → DeadlockBy (by_closure graph.trace.events) (classes_of graph.classes pattern) others → AreAtMost (slice_set picks i q) others
      moved_least others deadlock j c o at_c at_o = go (cases_eq j i)
        where
          go : (j ≡ i) ⊎ (j ≢ i) → c ≤ o
          go (inl same) =
              let l = later others deadlock in
              let own_c : slice_get (slice_set picks i q) i ≡ Some c = subst (λ (x : ℕ). slice_get (slice_set picks i q) x ≡ Some c) same at_c in
              let now_c : slice_get (slice_set picks i q) i ≡ Some q = slice_get-set_same picks i q (slice_get_within picks i p at_p) in
              let is_c : q ≡ c = cc in
              let own_o : slice_get others i ≡ Some o = subst (λ (x : ℕ). slice_get others x ≡ Some o) same at_o in
              let now_o = l.at in
              let is_o : l.pick ≡ o = cc in
              let le = past l (three_way m l.position) in
              omega arith
            where
              past : (l : Later others) → (m < l.position) ⊎ ((m ≡ l.position) ⊎ (l.position < m)) → q ≤ l.pick
              past l (inl less) = in_order (class_of graph.classes n).acquires (class_at_number graph pattern is_of i n at_n).order m l.position q l.pick (omega arith) at_q l.acquire
              past l (inr (inl same)) = in_order (class_of graph.classes n).acquires (class_at_number graph pattern is_of i n at_n).order m l.position q l.pick (omega arith) at_q l.acquire
              past l (inr (inr more)) = absurd (l.outside (passed l.position l.pick l.from more l.acquire))
          go (inr other) = underway.least others deadlock j c o (sym (slice_get-set_other picks i j q other) ∙ at_c) at_o

      -- so with the raised cursor they are underway
      pub moves : (more : PlaceSet) → more.trace ≡ cursor.trace → IsClosure cursor.trace.events (λ j. IsTrue (set j) ⊎ Before cursor.trace.events j q) (has more.members) → IsUnderway graph pattern (slice_set positions i m) (slice_set picks i q) more
      moves more same raised = record {
        trace = same ∙ underway.trace;
        at = moved_at;
        closure = closure_moves graph.trace.events picks i p q set (has more.members) underway.closure at_p before (subst (λ (h : History). IsClosure h.events (λ j. IsTrue (set j) ⊎ Before h.events j q) (has more.members)) underway.trace raised);
        least = moved_least;
      }
        where
          before : Before graph.trace.events p q
          before = Before.same_thread (class_of graph.classes n).thread is_later
              (((class_at_number graph pattern is_of i n at_n).members p).0 (contains_at (class_of graph.classes n).acquires k p stands)).acquires.thread
              (((class_at_number graph pattern is_of i n at_n).members q).0 (contains_at (class_of graph.classes n).acquires m q at_q)).acquires.thread

  -- picks that are all outside the set are the least deadlock, with the counts of the set
  pub found : (counts keep : List ℕ) → AreOutside picks set → AreCounts cursor.trace.events cursor.trace.threads set counts → keep ≡ counts → IsFoundDeadlock graph.trace.events graph.trace.threads (by_closure graph.trace.events) (classes_of graph.classes pattern) (record { picks = picks; keep = keep })
  found counts keep outside counted same = record {
    deadlock = record { picked = is_instance graph pattern is_of positions picks underway.at; enabled = (set, underway.closure, outside) };
    least = λ others deadlock. zip_from ◌≤◌ picks others (underway.at.picks ∙ sym (length-map pattern (class_of graph.classes)) ∙ zip_size (λ (class : Class) (a : ℕ). Contains class.acquires a) (classes_of graph.classes pattern) others deadlock.picked) (λ i p o at_p at_o. underway.least others deadlock i p o at_p at_o);
    keep = subst (IsKeep graph.trace.events graph.trace.threads (by_closure graph.trace.events) picks) (sym same) kept;
  }
    where
      counts_here : AreCounts graph.trace.events graph.trace.threads set counts
      counts_here = subst (λ (h : History). AreCounts h.events h.threads set counts) underway.trace counted

      both : (t p : ℕ) → IsMemberOf graph.trace.events t set p ↔ ((thread_at graph.trace.events p ≡ Some t) × (by_closure graph.trace.events).needed picks p)
      both t p = (λ h. (h.0, (set, underway.closure, within_from_thread graph.trace.events p t h.0, h.1)), λ h. (h.0, h.1.1.least set underway.closure.closed underway.closure.all p h.1.3))

      kept : IsKeep graph.trace.events graph.trace.threads (by_closure graph.trace.events) picks counts
      kept = record { size = counts_here.size; counts = λ t less. count_under (IsMemberOf graph.trace.events t set) (λ p. (thread_at graph.trace.events p ≡ Some t) × (by_closure graph.trace.events).needed picks p) (slice_index counts t) (both t) (counts_here.members t less) }

-- What was read of a pattern that is underway: the acquires of the class of a number, and the position of its pick.
module _ (graph : Graph) (pattern : List ℕ) (is_of : IsListedPattern graph pattern) (positions picks : List ℕ) (cursor : PlaceSet) (underway : IsUnderway graph pattern positions picks cursor) (listed : List ℕ) (i : ℕ) (same : listed ≡ pattern) (number : i < length picks) where
  -- the number of the class
  abbrev n : ℕ
  n = slice_index listed i

  -- it stands in the pattern
  at_n : slice_get pattern i ≡ Some n
  at_n = number_at pattern listed i same (let long = underway.at.picks in omega arith)

  -- and is that of a class
  pub number_within : n < length graph.classes
  number_within = is_of.numbers n (contains_at pattern i n at_n)

  -- the pick
  at_p : slice_get picks i ≡ Some (slice_index picks i)
  at_p = slice_get-get_or picks i 0 number

  -- the acquires and the position
  module _ (acquires : List ℕ) (k : ℕ) (read : option_map (λ c. c.acquires) (slice_get graph.classes n) ≡ Some acquires) (position : k ≡ get_or positions i k) where
    -- the acquires are those of the class
    is_acquires : (class_of graph.classes n).acquires ≡ acquires
    is_acquires = read_of (λ c. c.acquires) graph.classes n acquires read

    -- the position is that of the pick
    at_k : slice_get positions i ≡ Some k
    at_k = slice_get-get_or positions i k (let long = underway.at.picks in let short = underway.at.positions in omega arith) ∙ ap Some (sym position)

    -- the acquires are places of the trace
    pub acquires_within : (a : ℕ) → Contains acquires a → a < length cursor.trace.events
    acquires_within a c = subst (λ (h : History). a < length h.events) (sym underway.trace) (acquire_in_trace graph pattern is_of i n a at_n (subst (λ (xs : List ℕ). Contains xs a) (sym is_acquires) c))

    -- the set has with each of them those before it
    pub initial_read : IsInitial (has cursor.members) acquires
    initial_read = subst (IsInitial (has cursor.members)) is_acquires initial
      where
        of_thread : (a : ℕ) → Contains (class_of graph.classes n).acquires a → thread_at graph.trace.events a ≡ Some (class_of graph.classes n).thread
        of_thread a c = (((class_at_number graph pattern is_of i n at_n).members a).0 c).acquires.thread

        initial : IsInitial (has cursor.members) (class_of graph.classes n).acquires
        initial j m a b less at_a at_b member = underway.closure.closed.program a b (Before.same_thread (class_of graph.classes n).thread ((class_at_number graph pattern is_of i n at_n).order j m a b less at_a at_b) (of_thread a (contains_at (class_of graph.classes n).acquires j a at_a)) (of_thread b (contains_at (class_of graph.classes n).acquires m b at_b))) member

    -- where all from the position on are in the set there is no deadlock
    pub none_read : AreInSet (has cursor.members) acquires k (length acquires) → HasNoDeadlock graph.trace.events (classes_of graph.classes pattern)
    none_read all = none_left graph pattern is_of positions picks cursor underway i n k (slice_index picks i) at_n at_k at_p (subst (λ (xs : List ℕ). AreInSet (has cursor.members) xs k (length xs)) (sym is_acquires) all)

    -- the first acquire that is not in the set, where the pick is
    module _ (m : ℕ) (within : m < length acquires) (from : k ≤ m) (passed : AreInSet (has cursor.members) acquires k m) (inside : has cursor.members (slice_index picks i) ≡ true) (outside : has cursor.members (slice_index acquires m) ≡ false) where
      -- it stands in the class
      at_q : slice_get (class_of graph.classes n).acquires m ≡ Some (slice_index acquires m)
      at_q = subst (λ (xs : List ℕ). slice_get xs m ≡ Some (slice_index acquires m)) (sym is_acquires) (slice_get-get_or acquires m 0 within)

      -- the acquires before it are in the set
      passed_class : AreInSet (has cursor.members) (class_of graph.classes n).acquires k m
      passed_class = subst (λ (xs : List ℕ). AreInSet (has cursor.members) xs k m) (sym is_acquires) passed

      -- the picks with it are nearer to the end
      pub nearer_read : rest_of (length graph.trace.events) (slice_set picks i (slice_index acquires m)) < rest_of (length graph.trace.events) picks
      nearer_read = nearer graph pattern is_of positions picks cursor underway i n k (slice_index picks i) at_n at_k at_p m (slice_index acquires m) at_q from passed_class inside outside

      -- and the positions have reached more
      pub reached_read : reached_of positions < reached_of (slice_set positions i m)
      reached_read = reached_further positions i k m at_k (further graph pattern is_of positions picks cursor underway i n k (slice_index picks i) at_n at_k at_p m (slice_index acquires m) at_q from passed_class inside outside)

      -- and underway with the raised cursor
      pub moves_read : (more : PlaceSet) → more.trace ≡ cursor.trace → IsClosure cursor.trace.events (λ j. IsTrue (has cursor.members j) ⊎ Before cursor.trace.events j (slice_index acquires m)) (has more.members) → IsUnderway graph pattern (slice_set positions i m) (slice_set picks i (slice_index acquires m)) more
      moves_read = moves graph pattern is_of positions picks cursor underway i n k (slice_index picks i) at_n at_k at_p m (slice_index acquires m) at_q from passed_class inside outside

-- a set that has an acquire has those from a position on up to it
pub in_set_to : (set : ℕ → Bool) (acquires : List ℕ) (from m a : ℕ) → IsInitial set acquires → slice_get acquires m ≡ Some a → set a ≡ true → AreInSet set acquires from (m + 1)
in_set_to set acquires from m a initial at is k b after less at_b = go (cases_eq k m)
  where
    go : (k ≡ m) ⊎ (k ≢ m) → IsTrue (set b)
    go (inl same) =
        let there : slice_get acquires m ≡ Some b = subst (λ (i : ℕ). slice_get acquires i ≡ Some b) same at_b in
        let own = at in
        let one : a ≡ b = cc in
        subst (λ (i : ℕ). set i ≡ true) one is
    go (inr other) = initial k m b a (omega (arith, other)) at_b at is

-- the first picks are not in a set, and one more
pub outside_more : (set : ℕ → Bool) (picks : List ℕ) (k a : ℕ) → ((m b : ℕ) → m < k → slice_get picks m ≡ Some b → set b ≡ false) → slice_get picks k ≡ Some a → set a ≡ false → (m b : ℕ) → m < k + 1 → slice_get picks m ≡ Some b → set b ≡ false
outside_more set picks k a old at is m b less at_b = go (cases_eq m k)
  where
    go : (m ≡ k) ⊎ (m ≢ k) → set b ≡ false
    go (inl same) =
        let there : slice_get picks k ≡ Some b = subst (λ (i : ℕ). slice_get picks i ≡ Some b) same at_b in
        let own = at in
        let one : a ≡ b = cc in
        subst (λ (i : ℕ). set i ≡ false) one is
    go (inr other) = old m b (omega (arith, other)) at_b
