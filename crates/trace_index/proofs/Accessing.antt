-- Listing the accesses of variables.
use Rattle.std.proofs.Common.{◌≡◌, ℕ, ◌+◌, ◌<◌, ◌≤◌, List, [], length, ◌⊎◌, inl, inr, sym, subst, arith}
use Rattle.std.specs.Prelude.{Vec}
use Rattle.std.specs.declared.alloc.Global.{Global}
use Rattle.std.proofs.Math.ListN.{length-set}
use Rattle.sp_base.specs.declared.limits.TheConstants.{MAX_VARS}
use Rattle.trace_laws.specs.Event.{Event}
use Rattle.trace_laws.specs.Reordering.{Accesses}
use Rattle.trace_laws.proofs.Places.{access_within, three_way}
use Rattle.trace_index.specs.Listed.{ArePlacesBefore, IsAddedTo, IsListOf}
use Rattle.trace_index.specs.Accessed.{AreAccesses, AreVariablesBelow, IsAccessOf, AreAccessLists}
use Rattle.trace_index.proofs.Listing.{listed_none, listed_past, listed_added, list_of}

-- a place accesses one variable only
pub one_variable : (events : List Event) (p x y : ℕ) → Accesses events p x → Accesses events p y → x ≡ y
one_variable events p x y (inl a) (inl b) = cc
one_variable events p x y (inl a) (inr b) = cc
one_variable events p x y (inr a) (inl b) = cc
one_variable events p x y (inr a) (inr b) = cc

-- no lists have the accesses before the first place
pub accesses_none : (events : List Event) → AreAccessLists events 0 []
accesses_none events = record { few = omega arith; each = listed_none (IsAccessOf events) }

-- a place that accesses nothing changes no list
pub accesses_past : (events : List Event) (n : ℕ) (lists : List (Vec ℕ Global)) → ((x : ℕ) → Accesses events n x → ⊥) → AreAccessLists events n lists → AreAccessLists events (n + 1) lists
accesses_past events n lists none old = record { few = old.few; each = listed_past (IsAccessOf events) n lists none old.each }

-- an access is added to the list of its variable
pub accesses_next : (events : List Event) (n x : ℕ) (old new : List (Vec ℕ Global)) → x < MAX_VARS → Accesses events n x → IsAddedTo old x n new → AreAccessLists events n old → AreAccessLists events (n + 1) new
accesses_next events n x old new below access added before = record {
  few = few;
  each = listed_added (IsAccessOf events) n x old new access (λ y other. one_variable events n y x other access) added before.each;
}
  where
    few : length new ≤ MAX_VARS
    few =
        let size : length new ≡ length added.padded = subst (λ (l : List (Vec ℕ Global)). length l ≡ length added.padded) (sym added.set) (length-set added.padded x added.after) in
        let padded = added.padding.size in
        let first = before.few in
        omega arith

-- the list of a variable has its accesses, where those before the end of the trace are listed
pub all_accesses : (events : List Event) (x : ℕ) (lists : List (Vec ℕ Global)) (places : List ℕ) → AreAccessLists events (length events) lists → IsListOf lists x places → AreAccesses events x places
all_accesses events x lists places listed is =
    let before : ArePlacesBefore (IsAccessOf events x) (length events) places = list_of (IsAccessOf events) (length events) x lists places listed.each is in
    record {
      order = before.order;
      members = λ p. (λ c. ((before.members p).0 c).1, λ h. (before.members p).1 (access_within events p x h, h));
    }

-- then the variables are below their greatest number
pub all_below : (events : List Event) (lists : List (Vec ℕ Global)) → AreAccessLists events (length events) lists → AreVariablesBelow events MAX_VARS
all_below events lists listed p x access = go (three_way x MAX_VARS)
  where
    go : (x < MAX_VARS) ⊎ ((x ≡ MAX_VARS) ⊎ (MAX_VARS < x)) → x < MAX_VARS
    go (inl h) = h
    go (inr (inl h)) = let few = listed.few in absurd (listed.each.rest x p (omega arith) (access_within events p x access) access)
    go (inr (inr h)) = let few = listed.few in absurd (listed.each.rest x p (omega arith) (access_within events p x access) access)
