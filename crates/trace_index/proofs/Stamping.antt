-- The stamps of places.
use Rattle.std.proofs.Common.{◌≡◌, ◌≢◌, ℕ, zero, suc, ◌+◌, ◌-◌, ◌*◌, ◌<◌, ◌≤◌, max, List, [], ◌∷◌, ◌++◌, length, take, drop, Option, Some, None, ◌⊎◌, inl, inr, refl, sym, ap, subst, ◌∙◌, arith, get_or-set_same, get_or-set_other, length-append}
use Rattle.std.specs.Prelude.{◌↔◌, IsTrue, slice_get, slice_index, slice_set}
use Rattle.std.proofs.Math.ListN.{length-set}
use Rattle.std.proofs.Math.Nat.{mul-le-mul_right}
use Rattle.std.proofs.lemmas.Bool.{cases_eq}
use Rattle.std.proofs.lemmas.List.{take_all, take-append-le, drop-append-le, drop_at, length-drop}
use Rattle.trace_laws.specs.Event.{Event}
use Rattle.trace_laws.specs.Trace.{thread_at, Lawful}
use Rattle.trace_laws.specs.Kept.{count_of}
use Rattle.trace_laws.specs.Findings.{HasCount}
use Rattle.trace_laws.proofs.Places.{three_way, within_from_thread}
use Rattle.trace_laws.proofs.Counting.{count_unique}
use Rattle.closed_fronts.specs.Members.{has}
use Rattle.closed_fronts.specs.Cuts.{IsHeld, flags_of}
use Rattle.closed_fronts.specs.Needs.{IsWriterOfRead}
use Rattle.closed_fronts.specs.Tables.{IsLatest, IsOwnBefore, IsJoinBefore}
use Rattle.closed_fronts.specs.Rows.{IsJoin, IsReady, IsBelowCut}
use Rattle.closed_fronts.proofs.Numbering.{count_own, count_other}
use Rattle.closed_fronts.proofs.Counted.{entry_at, count_below, counts_from}
use Rattle.closed_fronts.proofs.Flags.{held_from_has, has_from_held}
use Rattle.closed_fronts.proofs.Joins.{held_left, held_right, held_either, steady_join}
use Rattle.closed_fronts.proofs.Mends.{cut_within}
use Rattle.closed_fronts.proofs.Told.{latest_has}
use Rattle.closed_fronts.proofs.Gains.{own_before, join_before, ready_from, comes, only, steady_itself, within_itself, steady_empty}
use Rattle.trace_index.specs.Stamps.{IsStamp, IsNeededBy, AreCountsFor, IsStampRow, row_at, AreStamps, IsRaised}

-- ---- counts

-- a thread has no fewer places before a later place
count_later : (events : List Event) (t m d : ℕ) → m + d ≤ length events → count_of events t m ≤ count_of events t (m + d)
count_later events t m zero le =
    let same : m ≡ m + 0 = omega arith in
    let here : count_of events t m ≤ count_of events t m = omega arith in
    subst (λ (k : ℕ). count_of events t m ≤ count_of events t k) same here
count_later events t m (suc d) le = go (count_later events t m d (omega arith)) (entry_at events (m + d) (omega arith))
  where
    go : count_of events t m ≤ count_of events t (m + d) → (e : Event) × (slice_get events (m + d) ≡ Some e) → count_of events t m ≤ count_of events t (m + suc d)
    go under entry = split (cases_eq entry.0.thread t)
      where
        next : (n : ℕ) → n ≡ m + d + 1 → count_of events t (m + d) ≤ count_of events t (m + d + 1) → count_of events t m ≤ count_of events t n
        next n is step = let all : count_of events t m ≤ count_of events t (m + d + 1) = omega (arith, under, step) in subst (λ (k : ℕ). count_of events t m ≤ count_of events t k) (sym is) all

        split : (entry.0.thread ≡ t) ⊎ (entry.0.thread ≢ t) → count_of events t m ≤ count_of events t (m + suc d)
        split (inl own) = next (m + suc d) (omega arith) (let more = count_own events (m + d) t entry.0 entry.1 own in omega arith)
        split (inr other) = next (m + suc d) (omega arith) (let same = count_other events (m + d) t entry.0 entry.1 other in omega arith)

-- so the count at the later of two cuts is the greater count
count_max : (events : List Event) (t m n : ℕ) → m ≤ length events → n ≤ length events → count_of events t (max m n) ≡ max (count_of events t m) (count_of events t n)
count_max events t m n under within = go (three_way m n)
  where
    up : (a b : ℕ) → a ≤ b → b ≤ length events → count_of events t a ≤ count_of events t b
    up a b le end = let same : a + (b - a) ≡ b = omega arith in subst (λ (k : ℕ). count_of events t a ≤ count_of events t k) same (count_later events t a (b - a) (omega arith))

    later : (k : ℕ) → k ≡ max m n → count_of events t k ≡ max (count_of events t m) (count_of events t n) → count_of events t (max m n) ≡ max (count_of events t m) (count_of events t n)
    later k is h = subst (λ (j : ℕ). count_of events t j ≡ max (count_of events t m) (count_of events t n)) is h

    go : (m < n) ⊎ ((m ≡ n) ⊎ (n < m)) → count_of events t (max m n) ≡ max (count_of events t m) (count_of events t n)
    go (inl less) = later n (omega arith) (let h = up m n (omega arith) within in omega arith)
    go (inr (inl same)) = later n (omega arith) (let h = up m n (omega arith) within in omega arith)
    go (inr (inr more)) = later m (omega arith) (let h = up n m (omega arith) under in omega arith)

-- ---- joined lists

-- the greater of two numbers at each index of the first list
abbrev joined : List ℕ → List ℕ → List ℕ
joined [] ys = []
joined (x ∷ xs) [] = x ∷ xs
joined (x ∷ xs) (y ∷ ys) = max x y ∷ joined xs ys

-- its size
joined_size : (a b : List ℕ) → length (joined a b) ≡ length a
joined_size [] b = refl
joined_size (x ∷ a) [] = refl
joined_size (x ∷ a) (y ∷ b) = let rest = joined_size a b in omega arith

-- and its numbers
joined_each : (a b : List ℕ) → length a ≡ length b → (t : ℕ) → slice_index (joined a b) t ≡ max (slice_index a t) (slice_index b t)
joined_each [] [] same t = refl
joined_each [] (y ∷ b) same t = absurd (omega arith)
joined_each (x ∷ a) [] same t = absurd (omega arith)
joined_each (x ∷ a) (y ∷ b) same zero = refl
joined_each (x ∷ a) (y ∷ b) same (suc t) = joined_each a b (omega arith) t

-- ---- stamps under way

module _ (events : List Event) (threads p : ℕ) where
  -- at first nothing is counted
  pub stamp_empty : (counts : List ℕ) → length counts ≡ threads → ((t : ℕ) → slice_index counts t ≡ 0) → AreCountsFor events threads p p (λ _. ⊥) counts
  stamp_empty counts size none = record {
    cuts = counts;
    steady = steady_empty events threads counts size none;
    within = λ t. let z = none t in omega arith;
    needed = λ i h. absurd (let b = h.below in let z = none h.thread in omega arith);
    holds = λ i h. absurd h;
    size = size;
    each = λ t. none t ∙ ap (λ (k : ℕ). count_of events t k) (sym (none t));
  }

  -- what a needed place needs is needed
  needed_through : (q i : ℕ) → IsNeededBy events p q → IsNeededBy events q i → IsNeededBy events p i
  needed_through q i first second = λ other ordered has. second other ordered (first other ordered has)

  -- the stamp of a place that is needed is joined
  stamp_join : (P : ℕ → Type 0) (q : ℕ) (a b c : List ℕ) → AreCountsFor events threads p p P a → IsStampRow events threads q b → q < p → IsNeededBy events p q → IsJoin a b c → AreCountsFor events threads p p (λ i. P i ⊎ (i ≡ q)) c
  stamp_join P q a b c old row earlier need join = record {
    cuts = cuts;
    steady = steady_join events threads old.cuts row.cuts cuts joins old.steady row.steady;
    within = λ t. let each = joins.each t in let x = old.within t in let y = row.within t in omega arith;
    needed = λ i h. needed i (held_either events old.cuts row.cuts cuts joins i h);
    holds = holds;
    size = join.size ∙ old.size;
    each = λ t. join.each t ∙ ap (λ (k : ℕ). max k (slice_index b t)) (old.each t) ∙ ap (λ (k : ℕ). max (count_of events t (slice_index old.cuts t)) k) (row.each t)
        ∙ sym (count_max events t (slice_index old.cuts t) (slice_index row.cuts t) (cut_within events threads old.cuts old.steady t) (cut_within events threads row.cuts row.steady t)) ∙ ap (λ (k : ℕ). count_of events t k) (sym (joins.each t));
  }
    where
      cuts : List ℕ
      cuts = joined old.cuts row.cuts

      joins : IsJoin old.cuts row.cuts cuts
      joins = record { size = joined_size old.cuts row.cuts; each = joined_each old.cuts row.cuts (old.steady.size ∙ sym row.steady.size) }

      needed : (i : ℕ) → IsHeld events old.cuts i ⊎ IsHeld events row.cuts i → IsNeededBy events p i
      needed i (inl h) = old.needed i h
      needed i (inr h) = needed_through q i need (row.needed i h)

      holds : (i : ℕ) → P i ⊎ (i ≡ q) → IsHeld events cuts i
      holds i (inl h) = held_left events old.cuts row.cuts cuts joins i (old.holds i h)
      holds i (inr same) = held_right events old.cuts row.cuts cuts joins i (row.holds i same)

  -- the same where it is given
  pub stamp_raised : (P : ℕ → Type 0) (stamps : List ℕ) (source : Option ℕ) (a c : List ℕ) → AreCountsFor events threads p p P a → AreStamps events threads p stamps → ((q : ℕ) → source ≡ Some q → (q < p) × IsNeededBy events p q)
      → IsRaised stamps source a c → AreCountsFor events threads p p (λ i. P i ⊎ (source ≡ Some i)) c
  stamp_raised P stamps source a c old all need raised = go source refl
    where
      again : AreCountsFor events threads p p P c → ((i : ℕ) → source ≡ Some i → ⊥) → AreCountsFor events threads p p (λ i. P i ⊎ (source ≡ Some i)) c
      again h none = record { cuts = h.cuts; steady = h.steady; within = h.within; needed = h.needed; holds = λ i k. holds i k; size = h.size; each = h.each }
        where
          holds : (i : ℕ) → P i ⊎ (source ≡ Some i) → IsHeld events h.cuts i
          holds i (inl x) = h.holds i x
          holds i (inr x) = absurd (none i x)

      further : (q : ℕ) → source ≡ Some q → AreCountsFor events threads p p (λ i. P i ⊎ (i ≡ q)) c → AreCountsFor events threads p p (λ i. P i ⊎ (source ≡ Some i)) c
      further q is h = record { cuts = h.cuts; steady = h.steady; within = h.within; needed = h.needed; holds = λ i k. holds i k; size = h.size; each = h.each }
        where
          holds : (i : ℕ) → P i ⊎ (source ≡ Some i) → IsHeld events h.cuts i
          holds i (inl x) = h.holds i (inl x)
          holds i (inr x) = h.holds i (inr (let same : i ≡ q = cc in same))

      go : (o : Option ℕ) → source ≡ o → AreCountsFor events threads p p (λ i. P i ⊎ (source ≡ Some i)) c
      go None is = again (subst (λ (xs : List ℕ). AreCountsFor events threads p p P xs) (sym (raised.none is)) old) (λ i some. cc)
      go (Some q) is =
          let needs = need q is in
          let join : IsJoin a (row_at stamps threads q) c = subst (λ (w : ℕ). IsJoin a (row_at stamps w q) c) old.size (raised.some q is) in
          further q is (stamp_join P q a (row_at stamps threads q) c old (all.rows q needs.0) needs.0 needs.1 join)

  -- and at last the place itself is counted
  pub stamp_itself : (P : ℕ → Type 0) (t n : ℕ) (counts : List ℕ) → thread_at events p ≡ Some t → t < threads → HasCount (IsBelowCut events t (p + 1)) n → (old : AreCountsFor events threads p p P counts) → IsReady events old.cuts p → IsStampRow events threads p (slice_set counts t n)
  stamp_itself P t n counts own below count old ready = record {
    cuts = slice_set old.cuts t (p + 1);
    steady = steady_itself events threads p t old.cuts own old.steady within inside ready;
    within = within_itself events threads p t old.cuts own old.steady within inside ready;
    needed = λ i h. needed i (only events threads p t old.cuts own old.steady within inside ready i h);
    holds = λ i same. subst (λ (k : ℕ). IsHeld events (slice_set old.cuts t (p + 1)) k) (sym same) (comes events threads p t old.cuts own old.steady within inside ready);
    size = length-set counts t n ∙ old.size;
    each = λ u. each u (cases_eq u t);
  }
    where
      within : (u : ℕ) → slice_index old.cuts u ≤ p + 1
      within u = let w = old.within u in omega arith

      inside : t < length old.cuts
      inside = let size = old.steady.size in omega arith

      needed : (i : ℕ) → IsHeld events old.cuts i ⊎ (i ≡ p) → IsNeededBy events p i
      needed i (inl h) = old.needed i h
      needed i (inr same) = λ other ordered mine. subst (λ (k : ℕ). IsTrue (other k)) (sym same) mine

      is : n ≡ count_of events t (p + 1)
      is = count_unique (IsBelowCut events t (p + 1)) n (count_of events t (p + 1)) count (count_below events t (p + 1) (let less = within_from_thread events p t own in omega arith))

      each : (u : ℕ) → (u ≡ t) ⊎ (u ≢ t) → slice_index (slice_set counts t n) u ≡ count_of events u (slice_index (slice_set old.cuts t (p + 1)) u)
      each u (inl same) = subst (λ (k : ℕ). slice_index (slice_set counts t n) k ≡ count_of events k (slice_index (slice_set old.cuts t (p + 1)) k)) (sym same)
          (get_or-set_same counts t n 0 (let size = old.size in omega arith) ∙ is ∙ ap (λ (k : ℕ). count_of events t k) (sym (get_or-set_same old.cuts t (p + 1) 0 inside)))
      each u (inr other) = get_or-set_other counts t u n 0 other ∙ old.each u ∙ ap (λ (k : ℕ). count_of events u k) (sym (get_or-set_other old.cuts t u (p + 1) 0 other))

-- what comes before a place is needed by it
pub own_needed : (events : List Event) (p : ℕ) (o : Option ℕ) → IsLatest (IsOwnBefore events p) o → (q : ℕ) → o ≡ Some q → (q < p) × IsNeededBy events p q
own_needed events p o latest q is = let h = latest_has (IsOwnBefore events p) o q latest is in (h.before.earlier, λ other ordered mine. ordered.program q p (own_before events p q h) mine)

-- also by the thread that it joins
pub joined_needed : (events : List Event) (p : ℕ) (o : Option ℕ) → IsLatest (IsJoinBefore events p) o → (q : ℕ) → o ≡ Some q → (q < p) × IsNeededBy events p q
joined_needed events p o latest q is = let h = latest_has (IsJoinBefore events p) o q latest is in (h.before.earlier, λ other ordered mine. ordered.program q p (join_before events p q h) mine)

-- and so is its writer
pub writer_needed : (events : List Event) (p q : ℕ) → IsWriterOfRead events p q → (q < p) × IsNeededBy events p q
writer_needed events p q h = (h.last.before, λ other ordered mine. ordered.writers p h.var q h.reads h.last mine)

-- a row of zeros that is joined with what stands before the place, and in which the place is counted, is its stamp
pub stamp_filled : (events : List Event) → Lawful events → (threads p t n : ℕ) (stamps z a b c : List ℕ) (own joined writer : Option ℕ) → AreStamps events threads p stamps → length z ≡ threads → ((u : ℕ) → slice_index z u ≡ 0)
    → IsLatest (IsOwnBefore events p) own → IsLatest (IsJoinBefore events p) joined → ((w : ℕ) → (writer ≡ Some w) ↔ IsWriterOfRead events p w) → IsRaised stamps own z a → IsRaised stamps joined a b → IsRaised stamps writer b c
    → thread_at events p ≡ Some t → t < threads → HasCount (IsBelowCut events t (p + 1)) n → IsStampRow events threads p (slice_set c t n)
stamp_filled events lawful threads p t n stamps z a b c own joined writer all size none latest_own latest_joined tells first second third of_thread below count =
    stamp_itself events threads p (λ i. ((⊥ ⊎ (own ≡ Some i)) ⊎ (joined ≡ Some i)) ⊎ (writer ≡ Some i)) t n c of_thread below count raised (ready_from events lawful threads p raised.cuts raised.steady own joined writer latest_own latest_joined (λ w h. (tells w).1 h) (λ q is. raised.holds q (inl (inl (inr is)))) (λ q is. raised.holds q (inl (inr is))) (λ q is. raised.holds q (inr is)))
  where
    begun : AreCountsFor events threads p p (λ i. ⊥ ⊎ (own ≡ Some i)) a
    begun = stamp_raised events threads p (λ _. ⊥) stamps own z a (stamp_empty events threads p z size none) all (own_needed events p own latest_own) first

    further : AreCountsFor events threads p p (λ i. (⊥ ⊎ (own ≡ Some i)) ⊎ (joined ≡ Some i)) b
    further = stamp_raised events threads p (λ i. ⊥ ⊎ (own ≡ Some i)) stamps joined a b begun all (joined_needed events p joined latest_joined) second

    raised : AreCountsFor events threads p p (λ i. ((⊥ ⊎ (own ≡ Some i)) ⊎ (joined ≡ Some i)) ⊎ (writer ≡ Some i)) c
    raised = stamp_raised events threads p (λ i. (⊥ ⊎ (own ≡ Some i)) ⊎ (joined ≡ Some i)) stamps writer b c further all (λ q is. writer_needed events p q ((tells q).0 is)) third

-- ---- rows of stamps

-- the row of an earlier place is there
pub row_there : (threads p q w n : ℕ) → q < p → w ≡ threads → n ≡ p * threads → q * w + w ≤ n
row_there threads p q w n less wide size =
    let whole : (q + 1) * threads ≤ p * threads = mul-le-mul_right threads (omega arith) in
    let here : q * threads + threads ≤ n = omega arith in
    subst (λ (k : ℕ). q * k + k ≤ n) (sym wide) here

-- a row as it is sliced
pub row_sliced : (stamps items : List ℕ) (threads w p : ℕ) → w ≡ threads → items ≡ stamps → row_at stamps threads p ≡ take (p * w + w - p * w) (drop (p * w) items)
row_sliced stamps items threads w p wide same =
    let size : w ≡ p * w + w - p * w = omega arith in
    ap (λ (k : ℕ). row_at stamps k p) (sym wide) ∙ ap (λ (k : ℕ). take k (drop (p * w) stamps)) size ∙ ap (λ (xs : List ℕ). take (p * w + w - p * w) (drop (p * w) xs)) (sym same)

-- before the first place there is none
pub stamps_none : (events : List Event) (threads : ℕ) → AreStamps events threads 0 []
stamps_none events threads = record { size = omega arith; rows = λ q less. absurd (omega arith) }

-- one row more
pub stamps_more : (events : List Event) (threads n : ℕ) (stamps row : List ℕ) → AreStamps events threads n stamps → IsStampRow events threads n row → AreStamps events threads (n + 1) (stamps ++ row)
stamps_more events threads n stamps row old here = record {
  size = let more = length-append stamps row in let size = old.size in let own = here.size in omega arith;
  rows = λ q less. go q (three_way q n) less;
}
  where
    kept : (q : ℕ) → q < n → row_at (stamps ++ row) threads q ≡ row_at stamps threads q
    kept q less =
        let whole : (q + 1) * threads ≤ n * threads = mul-le-mul_right threads (omega arith) in
        let ends : q * threads + threads ≤ n * threads = omega arith in
        let size = old.size in
        let rest = length-drop (q * threads) stamps in
        ap (λ (xs : List ℕ). take threads xs) (drop-append-le (q * threads) stamps row (omega arith)) ∙ take-append-le threads (drop (q * threads) stamps) row (omega arith)

    last : row_at (stamps ++ row) threads n ≡ row
    last = ap (λ (xs : List ℕ). take threads xs) (drop_at stamps row (n * threads) old.size) ∙ take_all threads row (let size = here.size in omega arith)

    go : (q : ℕ) → (q < n) ⊎ ((q ≡ n) ⊎ (n < q)) → q < n + 1 → IsStampRow events threads q (row_at (stamps ++ row) threads q)
    go q (inl less) _ = subst (λ (xs : List ℕ). IsStampRow events threads q xs) (sym (kept q less)) (old.rows q less)
    go q (inr (inl same)) _ = subst (λ (k : ℕ). IsStampRow events threads k (row_at (stamps ++ row) threads k)) (sym same) (subst (λ (xs : List ℕ). IsStampRow events threads n xs) (sym last) here)
    go q (inr (inr more)) less = absurd (omega arith)

-- a row that was made is the stamp of its place
pub stamp_is : (events : List Event) (threads p : ℕ) (counts : List ℕ) → IsStampRow events threads p counts → IsStamp events threads p counts
stamp_is events threads p counts row = record {
  set = has (flags_of events row.cuts);
  ordered = record {
    program = λ i j before h. has_from_held events row.cuts i (row.steady.program i j before (held_from_has events row.cuts j h));
    writers = λ r x w reads last h. has_from_held events row.cuts w (row.steady.writers r x w reads last (held_from_has events row.cuts r h));
  };
  holds = has_from_held events row.cuts p (row.holds p refl);
  least = λ other ordered mine i h. row.needed i (held_from_has events row.cuts i h) other ordered mine;
  counted = counts_from events threads row.cuts counts row.size (λ t less. subst (λ (n : ℕ). HasCount (IsBelowCut events t (slice_index row.cuts t)) n) (sym (row.each t)) (count_below events t (slice_index row.cuts t) (cut_within events threads row.cuts row.steady t)));
}
