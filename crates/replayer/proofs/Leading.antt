-- The kept places of a keep are the least reordering that leaves its places enabled.
use Rattle.std.proofs.Common.{◌≡◌, ℕ, ◌<◌, Bool, true, false, List, length, Some, refl, subst, arith}
use Rattle.std.specs.Prelude.{Contains, IsTrue, ◌↔◌, ◌&&◌, slice_index}
use Rattle.trace_laws.specs.Trace.{thread_at, Before}
use Rattle.trace_laws.specs.Traces.{History, IsTrace}
use Rattle.trace_laws.specs.Reordering.{CanLeave, IsNeeded}
use Rattle.trace_laws.specs.Findings.{IsKeep, by_reorderings}
use Rattle.trace_laws.specs.Closed.{ListsInOrder, IsClosureBefore, AreOutside}
use Rattle.trace_laws.specs.Kept.{IsKept, AreKept}
use Rattle.trace_laws.proofs.Places.{before_less, within_from_thread, thread_from_event, true_unless}
use Rattle.trace_laws.proofs.ClosedSets.{closed_sets_are_reorderings_lem}
use Rattle.trace_laws.proofs.Enabling.{enabled_outside_closure_lem, needed_are_the_closure_lem}
use Rattle.trace_laws.proofs.Counting.{tally, count_from_tally, count_unique, number_below_count, count_at_most_number}
use Rattle.trace_laws.proofs.Judges.{closure_before}
use Rattle.replayer.specs.Reorders.{IsLeastReordering, FollowsKeep}
use Rattle.replayer.proofs.Tallied.{is_own, own_from_thread, thread_from_own, local_is_tally, entry_within}

-- picks that can be left enabled, with their keep and the closure of the places before them
module _ (h : History) (trace : IsTrace h.events h.threads) (picks keep : List ℕ) (found : CanLeave h.events picks) (kept : IsKeep h.events h.threads (by_reorderings h.events) picks keep) (set : ℕ → Bool) (closure : IsClosureBefore h.events picks set) where
  -- the picks are places of the trace
  within : (e : ℕ) → Contains picks e → e < length h.events
  within e c = (found.leaves.enabled e c).within

  -- and outside the closure
  outside : AreOutside picks set
  outside = (enabled_outside_closure_lem h.events trace.lawful picks set within closure).0 found

  -- the closure has what is needed
  needed : (p : ℕ) → IsNeeded h.events picks p ↔ ((p < length h.events) × IsTrue (set p))
  needed = needed_are_the_closure_lem h.events trace.lawful picks set within closure outside

  -- of the places of a thread, those in the closure come first
  down : (t i j : ℕ) → i < j → IsTrue (is_own h.events t i) → IsTrue (is_own h.events t j) → IsTrue (set j) → IsTrue (set i)
  down t i j less own_i own_j member = closure.closed.program i j (Before.same_thread t less (thread_from_own h.events t i own_i) (thread_from_own h.events t j own_j)) member

  -- how many places of a thread are in the closure
  abbrev count : ℕ → ℕ
  count t = tally (length h.events) (λ i. is_own h.events t i && set i)

  -- both tests pass
  both : (a b : Bool) → a ≡ true → b ≡ true → (a && b) ≡ true
  both a b x y = rw (x, y) refl

  -- the first passes
  first : (a b : Bool) → (a && b) ≡ true → a ≡ true
  first true b x = refl
  first false b x = cc

  -- and the second
  second : (a b : Bool) → (a && b) ≡ true → b ≡ true
  second true b x = x
  second false b x = cc

  -- the keep has that count
  keep_is_count : (t : ℕ) → t < h.threads → slice_index keep t ≡ count t
  keep_is_count t less = count_unique (λ p. (thread_at h.events p ≡ Some t) × IsNeeded h.events picks p) (slice_index keep t) (count t) (kept.counts t less)
      (count_from_tally (length h.events) (λ i. is_own h.events t i && set i) (λ p. (thread_at h.events p ≡ Some t) × IsNeeded h.events picks p)
      (λ p q. let member = (needed p).0 q.1 in (member.0, both (is_own h.events t p) (set p) (own_from_thread h.events t p q.0) member.1))
      (λ p less passed. (thread_from_own h.events t p (first (is_own h.events t p) (set p) passed), (needed p).1 (less, second (is_own h.events t p) (set p) passed))))

  -- a kept place is in the closure
  member_from_kept : (p : ℕ) → IsKept h.events keep p → IsTrue (set p)
  member_from_kept p k = true_unless (set p) (λ absent.
      let inside = within_from_thread h.events p k.thread k.is_of in
      let number = local_is_tally h.events k.thread p k.is_of (omega arith) in
      let below = k.below in
      let size = keep_is_count k.thread (thread_below k) in
      let most = count_at_most_number (length h.events) (is_own h.events k.thread) set (down k.thread) p inside (own_from_thread h.events k.thread p k.is_of) absent in
      omega arith)
    where
      thread_below : (k : IsKept h.events keep p) → k.thread < h.threads
      thread_below k =
          let inside = within_from_thread h.events p k.thread k.is_of in
          let event = entry_within h.events p inside in
          let own = thread_from_event h.events p event.0 event.1 in
          let is = k.is_of in
          let same : event.0.thread ≡ k.thread = cc in
          subst (λ (t : ℕ). t < h.threads) same (trace.named p event.0 event.1).0

  -- and a place of the closure is kept
  kept_from_member : (p : ℕ) → p < length h.events → IsTrue (set p) → IsKept h.events keep p
  kept_from_member p inside member =
      let event = entry_within h.events p inside in
      let own = thread_from_event h.events p event.0 event.1 in
      let number = local_is_tally h.events event.0.thread p own (omega arith) in
      let size = keep_is_count event.0.thread (trace.named p event.0 event.1).0 in
      let less = number_below_count (length h.events) (is_own h.events event.0.thread) set (down event.0.thread) p inside (own_from_thread h.events event.0.thread p own) member in
      record { thread = event.0.thread; is_of = own; below = omega arith }

  -- the kept places are the closure in the order of the trace
  in_order : (places : List ℕ) → AreKept h.events keep places → ListsInOrder h.events set places
  in_order places are = record {
    rises = are.order;
    within = λ i c. let k = (are.members i).0 c in within_from_thread h.events i k.thread k.is_of;
    members = λ i c. member_from_kept i ((are.members i).0 c);
    complete = λ i inside member. (are.members i).1 (kept_from_member i inside member);
  }

  -- so they leave the picks enabled, with as few places as can be
  least_reordering : (places : List ℕ) → AreKept h.events keep places → IsLeastReordering h.events picks places
  least_reordering places are =
      let lists = in_order places are in
      let lawful = closed_sets_are_reorderings_lem h.events trace.lawful set places closure.closed lists in
      record {
        leaves = record {
          correct = lawful.0;
          preserving = lawful.1;
          enabled = λ e pick. record {
            within = within e pick;
            absent = λ c. let member = lists.members e c in let out = outside e pick in cc;
            ready = λ i before. lists.complete i (let less = before_less h.events i e before in let inside = within e pick in omega arith) (closure.all i (record { pick = e; is_pick = pick; before = before }));
          };
        };
        least = λ p c. (needed p).1 (lists.within p c, lists.members p c);
      }

-- the kept places follow the keep
pub kept_follow : (h : History) → IsTrace h.events h.threads → (keep places : List ℕ) → AreKept h.events keep places → FollowsKeep h keep places
kept_follow h trace keep places are picks found kept = let c = closure_before h.events picks in least_reordering h trace picks keep found kept c.0 c.1 places are
