-- The open sections of a thread.
use Rattle.std.proofs.Common.{◌≡◌, ◌≢◌, ℕ, ◌+◌, ◌<◌, ◌≤◌, List, length, Option, Some, None, ◌⊎◌, inl, inr, sym, subst, ◌∙◌, arith}
use Rattle.std.specs.Prelude.{slice_get, slice_set, IfSome, IsTrue, ◌↔◌, true, false, leb}
use Rattle.std.proofs.lemmas.Bool.Decides.{nat_tests}
use Rattle.std.specs.Option.{option_map_or}
use Rattle.std.proofs.Math.ListN.{length-set}
use Rattle.std.proofs.lemmas.Bool.{cases_eq}
use Rattle.trace_laws.specs.Event.{Event}
use Rattle.trace_laws.specs.declared.event.Op.TheVariants.{Acquire}
use Rattle.trace_laws.specs.Trace.{thread_at, op_at, Acquires, IsReleaseOf}
use Rattle.trace_laws.proofs.Places.{three_way}
use Rattle.closed_fronts.specs.Tables.{IsLatest, IsOpen, IsOuter, IsAcquireOf, IsCandidate, AreCandidates, HasEnded, AreHeads}
use Rattle.closed_fronts.proofs.Told.{told_set, latest_at_most, latest_has, latest_under, some_if}

module _ (events : List Event) where
  -- an acquire of a thread before a place whose section has not ended there is open
  open_from : (t n a : ℕ) → IsAcquireOf events t a → a < n → ((r : ℕ) → IsReleaseOf events a r → n ≤ r) → IsOpen events t n a
  open_from t n a acquire before on = record { lock = acquire.0; acquires = acquire.1; before = before; open_on = on }

  -- what is open at a place is open at an earlier one behind it
  open_earlier : (t m n a : ℕ) → m ≤ n → a < m → IsOpen events t n a → IsOpen events t m a
  open_earlier t m n a le before h = record { lock = h.lock; acquires = h.acquires; before = before; open_on = λ r release. let on = h.open_on r release in omega arith }

  -- a candidate whose section has not ended is the latest open one
  pub settled : (t p a : ℕ) → IsCandidate events t p a → (HasEnded events a p → ⊥) → AreCandidates events t p (Some a) → IsLatest (IsOpen events t (p + 1)) (Some a)
  settled t p a candidate lasts all = (open_from t (p + 1) a candidate.acquire (let w = candidate.within in omega arith) (λ r release. on r release (three_way r p)), λ x h. all x h)
    where
      on : (r : ℕ) → IsReleaseOf events a r → (r < p) ⊎ ((r ≡ p) ⊎ (p < r)) → p + 1 ≤ r
      on r release (inl less) = absurd (lasts (r, release, omega arith))
      on r release (inr (inl same)) = absurd (lasts (r, release, omega arith))
      on r release (inr (inr more)) = omega arith

  -- where it has ended, the latest that is open before it is the next candidate
  pub candidates_next : (t p a : ℕ) (o : Option ℕ) → IsCandidate events t p a → HasEnded events a p → AreCandidates events t p (Some a) → IsOuter events a o → AreCandidates events t p o
  candidates_next t p a o candidate ended all outer x h = latest_at_most (IsOpen events t a) o (outer t candidate.acquire.1.thread) x (open_earlier t a (p + 1) x (let w = candidate.within in omega arith) before h)
    where
      apart : x ≡ a → ⊥
      apart same =
          let on = h.open_on ended.0 (subst (λ (k : ℕ). IsReleaseOf events k ended.0) (sym same) ended.1) in
          let end : ended.0 ≤ p = ended.2 in
          omega arith

      before : x < a
      before = go (cases_eq x a)
        where
          go : (x ≡ a) ⊎ (x ≢ a) → x < a
          go (inl same) = absurd (apart same)
          go (inr other) = let le : x ≤ a = all x h in omega (arith, other)

  -- it is a candidate
  pub candidate_next : (t p a : ℕ) (o : Option ℕ) → IsCandidate events t p a → IsOuter events a o → IfSome o (IsCandidate events t p)
  candidate_next t p a o candidate outer = some_if (IsCandidate events t p) o (λ b is. make b (latest_has (IsOpen events t a) o b (outer t candidate.acquire.1.thread) is))
    where
      make : (b : ℕ) → IsOpen events t a b → IsCandidate events t p b
      make b h = record { acquire = (h.lock, h.acquires); within = let x = h.before in let y = candidate.within in omega arith }

  -- and an earlier one
  pub candidate_less : (t p a : ℕ) (o : Option ℕ) → IsCandidate events t p a → IsOuter events a o → option_map_or (λ (k : ℕ). k + 1) o 0 < a + 1
  candidate_less t p a o candidate outer = go o (outer t candidate.acquire.1.thread)
    where
      go : (o : Option ℕ) → IsLatest (IsOpen events t a) o → option_map_or (λ (k : ℕ). k + 1) o 0 < a + 1
      go None latest = omega arith
      go (Some b) latest = let less = latest.0.before in omega arith

  -- an acquire is the first candidate
  pub start_acquire : (t p l : ℕ) → Acquires events p t l → IsCandidate events t p p
  start_acquire t p l acquires = record { acquire = (l, acquires); within = omega arith }

  -- and no open section is later
  pub start_all : (t p : ℕ) → AreCandidates events t p (Some p)
  start_all t p x h = let before = h.before in omega arith

  -- otherwise it is the latest section that is open before the place
  pub start_other : (t p : ℕ) (o : Option ℕ) → ((l : ℕ) → op_at events p ≡ Some (Acquire l) → ⊥) → IsLatest (IsOpen events t p) o → AreCandidates events t p o
  start_other t p o none latest x h = latest_at_most (IsOpen events t p) o latest x (open_earlier t p (p + 1) x (omega arith) (before (cases_eq x p)) h)
    where
      before : (x ≡ p) ⊎ (x ≢ p) → x < p
      before (inl same) = absurd (none h.lock (subst (λ (k : ℕ). op_at events k ≡ Some (Acquire h.lock)) same h.acquires.op))
      before (inr other) = let b = h.before in omega (arith, other)

  -- which is a candidate
  pub start_candidate : (t p : ℕ) (o : Option ℕ) → IsLatest (IsOpen events t p) o → IfSome o (IsCandidate events t p)
  start_candidate t p o latest = some_if (IsCandidate events t p) o (λ b is. make b (latest_has (IsOpen events t p) o b latest is))
    where
      make : (b : ℕ) → IsOpen events t p b → IsCandidate events t p b
      make b h = record { acquire = (h.lock, h.acquires); within = let x = h.before in omega arith }

  -- a place of another thread changes nothing
  pub open_on_other : (t u p : ℕ) (o : Option ℕ) → thread_at events p ≡ Some t → u ≢ t → IsLatest (IsOpen events u p) o → IsLatest (IsOpen events u (p + 1)) o
  open_on_other t u p o own other latest = latest_under (IsOpen events u p) (IsOpen events u (p + 1)) o to from latest
    where
      later : (x r : ℕ) → IsOpen events u p x → IsReleaseOf events x r → p ≤ r → (r ≡ p) ⊎ (r ≢ p) → p + 1 ≤ r
      later x r h release past (inl same) =
          let a = h.acquires.thread in
          let b = release.acquires.thread in
          let c = release.releases.thread in
          let d : thread_at events p ≡ Some release.thread = subst (λ (k : ℕ). thread_at events k ≡ Some release.thread) same c in
          absurd (other (let e : u ≡ t = cc in e))
      later x r h release past (inr apart) = omega (arith, apart)

      to : (x : ℕ) → IsOpen events u p x → IsOpen events u (p + 1) x
      to x h = record { lock = h.lock; acquires = h.acquires; before = let b = h.before in omega arith; open_on = λ r release. later x r h release (h.open_on r release) (cases_eq r p) }

      from : (x : ℕ) → IsOpen events u (p + 1) x → IsOpen events u p x
      from x h = open_earlier u p (p + 1) x (omega arith) (before (cases_eq x p)) h
        where
          before : (x ≡ p) ⊎ (x ≢ p) → x < p
          before (inl same) = absurd (other (let a : thread_at events p ≡ Some u = subst (λ (k : ℕ). thread_at events k ≡ Some u) same h.acquires.thread in let e : u ≡ t = cc in e))
          before (inr apart) = let b = h.before in omega (arith, apart)

  -- the heads behind a place
  pub heads_next : (threads t p : ℕ) (heads : List (Option ℕ)) (o : Option ℕ) → thread_at events p ≡ Some t → t < length heads → AreHeads events threads p heads → IsLatest (IsOpen events t (p + 1)) o → AreHeads events threads (p + 1) (slice_set heads t o)
  heads_next threads t p heads o own within old here = record {
    size = length-set heads t o ∙ old.size;
    latest = told_set (λ u x. IsLatest (IsOpen events u p) x) (λ u x. IsLatest (IsOpen events u (p + 1)) x) heads t o within old.latest (λ u x other h. open_on_other t u p x own other h) here;
  }

  -- before the first place nothing is open
  pub heads_none : (threads : ℕ) (heads : List (Option ℕ)) → length heads ≡ threads → ((t : ℕ) (o : Option ℕ) → slice_get heads t ≡ Some o → o ≡ None) → AreHeads events threads 0 heads
  heads_none threads heads size none = record { size = size; latest = λ t o at. subst (λ (x : Option ℕ). IsLatest (IsOpen events t 0) x) (sym (none t o at)) (λ a h. let b = h.before in omega arith) }

-- what a test of numbers says
le_from_test : (a b : ℕ) → leb a b ≡ true → a ≤ b
le_from_test a b h = grind (arith, nat_tests)

-- and conversely
test_from_le : (a b : ℕ) → a ≤ b → leb a b ≡ true
test_from_le a b h = grind (arith, nat_tests)

-- a section ends at or before a place where its release does
pub ended_tells : (events : List Event) (a p r : ℕ) (o : Option ℕ) → ((q : ℕ) → (o ≡ Some q) ↔ IsReleaseOf events a q) → o ≡ Some r → IsTrue (leb r p) ↔ HasEnded events a p
ended_tells events a p r o tells is = (λ h. (r, (tells r).0 is, le_from_test r p h), λ h. test_from_le r p (let some = (tells h.0).1 h.1 in let same : h.0 ≡ r = cc in let le : h.0 ≤ p = h.2 in omega arith))

-- and not where there is none
pub lasts_tells : (events : List Event) (a p : ℕ) (o : Option ℕ) → ((q : ℕ) → (o ≡ Some q) ↔ IsReleaseOf events a q) → o ≡ None → IsTrue false ↔ HasEnded events a p
lasts_tells events a p o tells is = (λ h. absurd (false_is_not_true h), λ h. let some = (tells h.0).1 h.1 in cc)
  where
    false_is_not_true : false ≡ true → ⊥
    false_is_not_true e = cc

-- what is known of a place's thread
pub of_thread : (events : List Event) (p t n : ℕ) (o : Option ℕ) → thread_at events p ≡ Some t → IsLatest (IsOpen events t n) o → (u : ℕ) → thread_at events p ≡ Some u → IsLatest (IsOpen events u n) o
of_thread events p t n o own latest u mine = let same : t ≡ u = cc in subst (λ (k : ℕ). IsLatest (IsOpen events k n) o) same latest
