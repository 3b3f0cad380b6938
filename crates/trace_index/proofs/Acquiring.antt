-- Listing the acquires of locks by threads.
use Rattle.std.proofs.Common.{◌≡◌, ◌≢◌, ℕ, ◌+◌, ◌-◌, ◌*◌, ◌/◌, ◌%◌, ◌<◌, ◌≤◌, List, [], length, Some, ◌⊎◌, inl, inr, sym, subst, ap, ◌∙◌, arith}
use Rattle.std.specs.Prelude.{Vec, slice_get, slice_set}
use Rattle.std.proofs.Math.ListN.{length-set}
use Rattle.std.proofs.lemmas.Bool.{cases_eq}
use Rattle.std.specs.declared.alloc.Global.{Global}
use Rattle.std.proofs.lemmas.Nat.{div-mul-add, mod-mul-add, div-add-mod'}
use Rattle.trace_laws.specs.Event.{Event}
use Rattle.trace_laws.specs.declared.event.Op.TheVariants.{Acquire}
use Rattle.trace_laws.specs.Trace.{op_at, Acquires}
use Rattle.trace_laws.specs.Traces.{AreNamedBelow}
use Rattle.trace_laws.proofs.Places.{contains_none, within_from_op, event_of, thread_from_event}
use Rattle.trace_index.specs.Listed.{ArePlacesBefore, AreListed, IsAddedTo, IsListOf}
use Rattle.trace_index.specs.Acquired.{AreAcquires, IsSectionNumber, StandsAt, ArePositions, pair_of, IsAcquireOfPair}
use Rattle.trace_laws.proofs.Growing.{slice_get-set_same, slice_get-set_other}
use Rattle.trace_index.proofs.Listing.{listed_past, listed_added, list_of}
use Rattle.trace_index.proofs.Positions.{added_stands, added_some, stands_after, list_at, few_before}

module _ (events : List Event) (threads : ℕ) where
  -- an acquire has the number of its lock and its thread
  own_number : (p lock thread : ℕ) → thread < threads → Acquires events p thread lock → IsAcquireOfPair events threads (pair_of threads lock thread) p
  own_number p lock thread below acquires = subst (λ (t : ℕ). Acquires events p t (pair_of threads lock thread / threads)) (sym (mod-mul-add lock threads thread below)) (subst (Acquires events p thread) (sym (div-mul-add lock threads thread below)) acquires)

  -- and no other
  only_number : (p lock thread x : ℕ) → Acquires events p thread lock → IsAcquireOfPair events threads x p → x ≡ pair_of threads lock thread
  only_number p lock thread x acquires other =
      let own_thread = acquires.thread in
      let other_thread = other.thread in
      let own_op = acquires.op in
      let other_op = other.op in
      let same_thread : x % threads ≡ thread = cc in
      let same_lock : x / threads ≡ lock = cc in
      sym (div-add-mod' x threads) ∙ ap (λ (l : ℕ). l * threads + x % threads) same_lock ∙ ap (λ (t : ℕ). lock * threads + t) same_thread

  -- a place that is no acquire changes no list
  pub acquires_past : (n : ℕ) (lists : List (Vec ℕ Global)) → ((l : ℕ) → op_at events n ≡ Some (Acquire l) → ⊥) → AreListed (IsAcquireOfPair events threads) n lists → AreListed (IsAcquireOfPair events threads) (n + 1) lists
  acquires_past n lists none old = listed_past (IsAcquireOfPair events threads) n lists (λ x acquires. none (x / threads) acquires.op) old

  -- an acquire is added to the list of its lock and its thread
  pub acquires_next : (n lock thread : ℕ) (old new : List (Vec ℕ Global)) → thread < threads → Acquires events n thread lock → IsAddedTo old (pair_of threads lock thread) n new
      → AreListed (IsAcquireOfPair events threads) n old → AreListed (IsAcquireOfPair events threads) (n + 1) new
  acquires_next n lock thread old new below acquires added before =
      listed_added (IsAcquireOfPair events threads) n (pair_of threads lock thread) old new (own_number n lock thread below acquires) (λ y other. only_number n lock thread y acquires other) added before

  -- the list of a lock and a thread has their acquires, where those before the end of the trace are listed
  pub all_acquires : (lock thread : ℕ) (lists : List (Vec ℕ Global)) (places : List ℕ) → thread < threads → AreListed (IsAcquireOfPair events threads) (length events) lists → IsListOf lists (pair_of threads lock thread) places
      → AreAcquires events lock thread places
  all_acquires lock thread lists places below listed is =
      let x = pair_of threads lock thread in
      let before : ArePlacesBefore (IsAcquireOfPair events threads x) (length events) places = list_of (IsAcquireOfPair events threads) (length events) x lists places listed is in
      record {
        order = before.order;
        members = λ p. (
          λ c. back p ((before.members p).0 c).1,
          λ h. (before.members p).1 (within_from_op events p (Acquire lock) h.op, own_number p lock thread below h),
        );
      }
    where
      back : (p : ℕ) → IsAcquireOfPair events threads (pair_of threads lock thread) p → Acquires events p thread lock
      back p h = subst (λ (t : ℕ). Acquires events p t lock) (mod-mul-add lock threads thread below) (subst (Acquires events p (pair_of threads lock thread % threads)) (div-mul-add lock threads thread below) h)

  -- a thread that is none of the trace acquires nothing
  pub no_acquires : AreNamedBelow events threads → (lock thread : ℕ) → threads ≤ thread → AreAcquires events lock thread []
  no_acquires named lock thread past = record {
    order = λ a b i j less at_a at_b. cc;
    members = λ p. (λ c. absurd (contains_none p c), λ h. absurd (never p h));
  }
    where
      never : (p : ℕ) → Acquires events p thread lock → ⊥
      never p h =
          let found = event_of events p (Acquire lock) h.op in
          let below = (named p found.0 found.1).0 in
          let of_found = thread_from_event events p found.0 found.1 in
          let of_thread = h.thread in
          let same : found.0.thread ≡ thread = cc in
          omega arith

  -- a place that is no acquire changes no position
  pub positions_past : (n : ℕ) (lists : List (Vec ℕ Global)) (positions : List ℕ) → ((l : ℕ) → op_at events n ≡ Some (Acquire l) → ⊥) → ArePositions events threads n lists positions → ArePositions events threads (n + 1) lists positions
  positions_past n lists positions none old = record {
    places = old.places;
    each = λ a x k less acquires at. go a x k less acquires at (cases_eq a n);
  }
    where
      go : (a x k : ℕ) → a < n + 1 → IsAcquireOfPair events threads x a → slice_get positions a ≡ Some k → (a ≡ n) ⊎ (a ≢ n) → StandsAt lists x k a
      go a x k less acquires at (inl same) = absurd (none (x / threads) (subst (λ (p : ℕ). op_at events p ≡ Some (Acquire (x / threads))) same acquires.op))
      go a x k less acquires at (inr other) = old.each a x k (omega (arith, other)) acquires at

  -- an acquire that was added stands last in its list, and the others stand where they did
  pub positions_next : (n lock thread k : ℕ) (old new : List (Vec ℕ Global)) (positions : List ℕ) (v : Vec ℕ Global) → n < length events → Acquires events n thread lock → IsAddedTo old (pair_of threads lock thread) n new
      → slice_get new (pair_of threads lock thread) ≡ Some v → k ≡ length v.items - 1 → ArePositions events threads n old positions → ArePositions events threads (n + 1) new (slice_set positions n k)
  positions_next n lock thread k old new positions v within acquires added at_v last before = record {
    places = length-set positions n k ∙ before.places;
    each = λ a x m less own at. go a x m less own at (cases_eq a n);
  }
    where
      number : ℕ
      number = pair_of threads lock thread

      own_entry : StandsAt new number k n
      own_entry = added_stands old number n new added v k at_v (let some = added_some old number n new added v at_v in omega arith)

      go : (a x m : ℕ) → a < n + 1 → IsAcquireOfPair events threads x a → slice_get (slice_set positions n k) a ≡ Some m → (a ≡ n) ⊎ (a ≢ n) → StandsAt new x m a
      go a x m less own at (inl same) =
          let size = before.places in
          let now : slice_get (slice_set positions n k) n ≡ Some k = slice_get-set_same positions n k (omega arith) in
          let there : slice_get (slice_set positions n k) n ≡ Some m = subst (λ (p : ℕ). slice_get (slice_set positions n k) p ≡ Some m) same at in
          let is : k ≡ m = cc in
          let pair : x ≡ number = only_number n lock thread x acquires (subst (λ (p : ℕ). IsAcquireOfPair events threads x p) same own) in
          subst (λ (p : ℕ). StandsAt new x m p) (sym same) (subst (λ (y : ℕ). StandsAt new y m n) (sym pair) (subst (λ (j : ℕ). StandsAt new number j n) is own_entry))
      go a x m less own at (inr other) = stands_after old number n new added x m a (before.each a x m (omega (arith, other)) own (sym (slice_get-set_other positions n a k other) ∙ at))

  -- the list of an acquire that was added is no longer than the places up to it
  pub few_acquires : (n lock thread : ℕ) (old new : List (Vec ℕ Global)) (v : Vec ℕ Global) → thread < threads → Acquires events n thread lock → IsAddedTo old (pair_of threads lock thread) n new
      → slice_get new (pair_of threads lock thread) ≡ Some v → AreListed (IsAcquireOfPair events threads) n old → length v.items ≤ n + 1
  few_acquires n lock thread old new v below acquires added at before =
      few_before (IsAcquireOfPair events threads (pair_of threads lock thread)) (n + 1) v.items ((acquires_next n lock thread old new below acquires added before).listed (pair_of threads lock thread) v at)

  -- the position of an acquire is the number of its section
  pub number_of_section : (lists : List (Vec ℕ Global)) (positions : List ℕ) (a k lock thread : ℕ) → thread < threads → Acquires events a thread lock → AreListed (IsAcquireOfPair events threads) (length events) lists → ArePositions events threads (length events) lists positions → slice_get positions a ≡ Some k → IsSectionNumber events a k
  number_of_section lists positions a k lock thread below acquires listed all at =
      let stands = all.each a (pair_of threads lock thread) k (within_from_op events a (Acquire lock) acquires.op) (own_number a lock thread below acquires) at in
      record {
        thread = thread;
        lock = lock;
        acquires = stands.list.items;
        all = all_acquires lock thread lists stands.list.items below listed (list_at lists (pair_of threads lock thread) stands.list stands.at);
        place = stands.entry;
      }
