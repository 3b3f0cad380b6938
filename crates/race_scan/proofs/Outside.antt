-- Places that are out, by closures.
use Rattle.std.proofs.Common.{◌≡◌, ℕ, ◌<◌, ◌≤◌, Bool, false, List, [], ◌∷◌, ◌⊎◌, inl, inr, Some, sym, subst, ◌∙◌, arith}
use Rattle.std.specs.Prelude.{IsTrue, nat_lt}
use Rattle.trace_laws.specs.Event.{Event}
use Rattle.trace_laws.specs.Trace.{thread_at, op_at, Before, Lawful, Writes}
use Rattle.trace_laws.specs.Reordering.{Accesses, Conflict}
use Rattle.trace_laws.specs.Findings.{Races}
use Rattle.trace_laws.specs.Closed.{ClosedSet, HoldsAll, IsClosureBefore, BeforeAny}
use Rattle.trace_laws.proofs.Places.{three_way, before_less, contains_head, false_unless}
use Rattle.trace_laws.proofs.ClosedSets.{reorderings_are_closed_lem}
use Rattle.trace_laws.proofs.Enabling.{is_listed, listed_from_contains, contains_from_listed, listed_tells}
use Rattle.closed_fronts.proofs.Flags.{less_from_test, test_from_less}
use Rattle.closed_fronts.specs.Tables.{IsAcquire}
use Rattle.closed_fronts.specs.Rows.{IsImplied}
use Rattle.closed_fronts.proofs.Mends.{release_before}
use Rattle.race_scan.specs.Passed.{IsOut}
use Rattle.race_scan.specs.Enclosed.{IsBegun, IsTakenAgain, EndsBehind}
use Rattle.race_scan.proofs.Pairs.{before_pair, pair_before}

-- the place is in each closed set that has the places before it and before the later one
abbrev pub IsForced : List Event → ℕ → ℕ → Type 0
IsForced trace e l = (other : ℕ → Bool) → ClosedSet trace other → HoldsAll (BeforeAny trace (e ∷ l ∷ [])) other → IsTrue (other e)

-- then the two do not race
no_race : (trace : List Event) (e l : ℕ) → IsForced trace e l → Races trace e l → ⊥
no_race trace e l forced race = (race.enabled.leaves.enabled e (contains_head e (l ∷ []))).absent (contains_from_listed race.enabled.places e (forced (is_listed race.enabled.places) closed holds))
  where
    closed : ClosedSet trace (is_listed race.enabled.places)
    closed = reorderings_are_closed_lem trace race.enabled.places (is_listed race.enabled.places) race.enabled.leaves.correct race.enabled.leaves.preserving (listed_tells race.enabled.places)

    holds : HoldsAll (BeforeAny trace (e ∷ l ∷ [])) (is_listed race.enabled.places)
    holds k h = listed_from_contains race.enabled.places k ((race.enabled.leaves.enabled h.pick h.is_pick).ready k h.before)

-- what comes before a place is in each closed set that has the places before a later one of its thread
pub thread_before : (trace : List Event) (t a b : ℕ) (other : ℕ → Bool) → a ≤ b → thread_at trace a ≡ Some t → thread_at trace b ≡ Some t → ClosedSet trace other → ((i : ℕ) → Before trace i b → IsTrue (other i)) → (j : ℕ) → Before trace j a → IsTrue (other j)
thread_before trace t a b other le is_a is_b closed holds j before = go (three_way a b)
  where
    go : (a < b) ⊎ ((a ≡ b) ⊎ (b < a)) → IsTrue (other j)
    go (inl less) = closed.program j a before (holds a (Before.same_thread t less is_a is_b))
    go (inr (inl same)) = holds j (subst (λ (p : ℕ). Before trace j p) same before)
    go (inr (inr more)) = absurd (omega arith)

-- the places of the closure of what comes before a place and the later one are out, where they are of the thread of the
-- first and at or behind it
pub pair_out : (trace : List Event) (first later t u : ℕ) (set : ℕ → Bool) → thread_at trace later ≡ Some t → thread_at trace first ≡ Some u → IsClosureBefore trace (first ∷ later ∷ []) set → (e : ℕ) → first ≤ e → thread_at trace e ≡ Some u → IsTrue (set e) → IsOut trace later e
pair_out trace first later t u set is_later is_first closure e after is_e member l le like op race = no_race trace e l forced race
  where
    base : (other : ℕ → Bool) → ClosedSet trace other → HoldsAll (BeforeAny trace (e ∷ l ∷ [])) other → (j : ℕ) → Before trace j first ⊎ Before trace j later → IsTrue (other j)
    base other closed holds j (inl h) = thread_before trace u first e other after is_first is_e closed (λ i b. holds i (pair_before trace e l i (inl b))) j h
    base other closed holds j (inr h) = thread_before trace t later l other le is_later (like ∙ is_later) closed (λ i b. holds i (pair_before trace e l i (inr b))) j h

    forced : IsForced trace e l
    forced other closed holds = closure.least other closed (λ j h. base other closed holds j (before_pair trace first later j h)) e member

-- a place conflicts with the later place where it does so with one of its thread and operation
conflict_alike : (trace : List Event) (later l e : ℕ) → thread_at trace l ≡ thread_at trace later → op_at trace l ≡ op_at trace later → Conflict trace e l → Conflict trace e later
conflict_alike trace later l e like op h = record { var = h.var; first = h.first; second = second h.second; apart = λ same. h.apart (same ∙ sym like); writes = writes h.writes }
  where
    second : Accesses trace l h.var → Accesses trace later h.var
    second (inl a) = inl (sym op ∙ a)
    second (inr a) = inr (sym op ∙ a)

    writes : Writes trace e h.var ⊎ Writes trace l h.var → Writes trace e h.var ⊎ Writes trace later h.var
    writes (inl a) = inl a
    writes (inr a) = inr (sym op ∙ a)

-- so one that does not conflict is out
pub out_if_conflict : (trace : List Event) (later e : ℕ) → (Conflict trace e later → IsOut trace later e) → IsOut trace later e
out_if_conflict trace later e out l le like op race = out (conflict_alike trace later l e like op race.conflict) l le like op race

-- what is out for a place is so for a later one of its thread and operation
pub out_on : (trace : List Event) (later l e : ℕ) → later ≤ l → thread_at trace l ≡ thread_at trace later → op_at trace l ≡ op_at trace later → IsOut trace later e → IsOut trace l e
out_on trace later l e le like op out k after same one race = out k (omega arith) (same ∙ like) (one ∙ op) race

-- a place is out that is in each closed set that holds what comes before the later one
pub implied_out : (trace : List Event) (later t e : ℕ) → thread_at trace later ≡ Some t → IsImplied trace later e → IsOut trace later e
implied_out trace later t e is implied l le like op race = no_race trace e l forced race
  where
    forced : IsForced trace e l
    forced other closed holds = implied other closed (λ j h. thread_before trace t later l other le is (like ∙ is) closed (λ i b. holds i (pair_before trace e l i (inr b))) j h)

-- an access is no acquire
not_acquire : (trace : List Event) (e x : ℕ) → Accesses trace e x → IsAcquire trace e → ⊥
not_acquire trace e x (inl reads) (l, acquires) = let a = reads in let b = acquires in cc
not_acquire trace e x (inr writes) (l, acquires) = let a = writes in let b = acquires in cc

-- a place is out whose section ends behind it, and whose lock is taken again before the later place
pub section_out : (trace : List Event) (later t u a e : ℕ) → thread_at trace later ≡ Some t → thread_at trace e ≡ Some u → IsBegun trace e a → IsTakenAgain trace a t later → EndsBehind trace a e → IsOut trace later e
section_out trace later t u a e is_later is_e begun taken ends = out_if_conflict trace later e out
  where
    is_a : thread_at trace a ≡ Some u
    is_a = begun.same ∙ is_e

    is_end : thread_at trace ends.end ≡ Some u
    is_end = let acquires = ends.release.acquires.thread in let releases = ends.release.releases.thread in let own = is_a in cc

    out : Conflict trace e later → IsOut trace later e
    out conflict l le like op race = no_race trace e l forced race
      where
        before : (a < e) ⊎ ((a ≡ e) ⊎ (e < a)) → a < e
        before (inl less) = less
        before (inr (inl same)) = absurd (not_acquire trace e conflict.var conflict.first (subst (IsAcquire trace) same begun.acquire))
        before (inr (inr more)) = absurd (let within = begun.within in omega arith)

        forced : IsForced trace e l
        forced other closed holds = closed.program e ends.end (Before.same_thread u ends.behind is_e is_end)
            (closed.releases a taken.again ends.end taken.excludes ends.release
            (holds a (pair_before trace e l a (inl (Before.same_thread u (before (three_way a e)) is_a is_e))))
            (holds taken.again (pair_before trace e l taken.again (inr (Before.same_thread t (let b = taken.before in omega arith) taken.is_of (like ∙ is_later))))))

-- the places before a place of the trace are closed
beginning_closed : (trace : List Event) → Lawful trace → (n : ℕ) → ClosedSet trace (λ i. nat_lt i n)
beginning_closed trace lawful n = record {
  program = λ i j b m. test_from_less i n (let a = before_less trace i j b in let c = less_from_test j n m in omega arith);
  writers = λ r x w reads last m. test_from_less w n (let a = last.before in let c = less_from_test r n m in omega arith);
  releases = λ a b r excludes release one two. test_from_less r n (let c = release_before trace lawful a b r excludes release in let d = less_from_test b n two in omega arith);
}

-- the closure of what comes before two places has neither the later nor any behind it
pub later_outside : (trace : List Event) → Lawful trace → (e later : ℕ) (set : ℕ → Bool) → e < later → IsClosureBefore trace (e ∷ later ∷ []) set → set later ≡ false
later_outside trace lawful e later set less closure = false_unless (set later) (λ m. let below = less_from_test later later (closure.least (λ i. nat_lt i later) (beginning_closed trace lawful later) all later m) in omega arith)
  where
    side : (i : ℕ) → Before trace i e ⊎ Before trace i later → IsTrue (nat_lt i later)
    side i (inl b) = test_from_less i later (let a = before_less trace i e b in omega arith)
    side i (inr b) = test_from_less i later (before_less trace i later b)

    all : (i : ℕ) → BeforeAny trace (e ∷ later ∷ []) i → IsTrue (nat_lt i later)
    all i h = side i (before_pair trace e later i h)
