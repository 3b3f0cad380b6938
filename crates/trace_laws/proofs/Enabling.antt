-- Which places a sync-preserving correct reordering can leave enabled.
use Rattle.std.proofs.Common.{◌≡◌, ◌≢◌, ℕ, zero, suc, ◌+◌, ◌<◌, Bool, true, false, cond, List, [], ◌∷◌, ◌++◌, length, Some, ◌⊎◌, inl, inr, refl, sym, subst, ◌∙◌, arith, length-append}
use Rattle.std.specs.Prelude.{slice_get, Contains, IsTrue, ◌↔◌, ◌==◌, ◌||◌}
use Rattle.std.proofs.lemmas.Bool.Decides.{eqb_tells}
use Rattle.std.proofs.lemmas.Option.{slice_get_within}
use Rattle.std.proofs.lemmas.List.Elements.{Contains-push, Contains-push_cases, Contains-append_left}
use Rattle.trace_laws.specs.Event.{Event}
use Rattle.trace_laws.specs.Trace.{Lawful}
use Rattle.trace_laws.specs.Reordering.{Rises, Conflict, LeavesEnabled, CanLeave, IsNeeded}
use Rattle.trace_laws.specs.Findings.{Races}
use Rattle.trace_laws.specs.Closed.{ClosedSet, HoldsAll, ListsInOrder, BeforeAny, IsClosureBefore, AreOutside, EnabledOutsideClosure, RacesOutsideClosure, NeededAreTheClosure}
use Rattle.trace_laws.proofs.Places.{contains_at, before_less, three_way, access_within, false_unless, contains_head, contains_tail, contains_cases, contains_none, slice_get-append_left, slice_get-append_seam}
use Rattle.trace_laws.proofs.ClosedSets.{closed_sets_are_reorderings_lem, reorderings_are_closed_lem}

-- whether a place is in a list
abbrev pub is_listed : List ℕ → ℕ → Bool
is_listed [] i = false
is_listed (p ∷ places) i = (p == i) || is_listed places i

-- a place that passes the test is in the list
pub contains_from_listed : (places : List ℕ) (i : ℕ) → IsTrue (is_listed places i) → Contains places i
contains_from_listed [] i h = cc
contains_from_listed (p ∷ places) i h = go (contains_from_listed places i) (p == i) (eqb_tells p i) h
  where
    go : (IsTrue (is_listed places i) → Contains places i) → (b : Bool) → ((b ≡ true) × (p ≡ i)) ⊎ ((b ≡ false) × (p ≢ i)) → IsTrue (b || is_listed places i) → Contains (p ∷ places) i
    go rest b (inl e) t = subst (λ (q : ℕ). Contains (p ∷ places) q) e.1 (contains_head p places)
    go rest true (inr e) t = cc
    go rest false (inr e) t = contains_tail p places i (rest t)

-- a place of the list passes the test
pub listed_from_contains : (places : List ℕ) (i : ℕ) → Contains places i → IsTrue (is_listed places i)
listed_from_contains [] i h = absurd (contains_none i h)
listed_from_contains (p ∷ places) i h = go (listed_from_contains places i) (p == i) (eqb_tells p i) (contains_cases p places i h)
  where
    go : (Contains places i → IsTrue (is_listed places i)) → (b : Bool) → ((b ≡ true) × (p ≡ i)) ⊎ ((b ≡ false) × (p ≢ i)) → (p ≡ i) ⊎ Contains places i → IsTrue (b || is_listed places i)
    go rest true e c = refl
    go rest false (inl e) c = cc
    go rest false (inr e) (inl same) = absurd (e.1 same)
    go rest false (inr e) (inr c) = rest c

-- the test tells the places of the list
pub listed_tells : (places : List ℕ) (i : ℕ) → IsTrue (is_listed places i) ↔ Contains places i
listed_tells places i = (contains_from_listed places i, listed_from_contains places i)

-- the members below n, in order
abbrev pub members_below : ℕ → (ℕ → Bool) → List ℕ
members_below zero set = []
members_below (suc n) set = cond (set n) (members_below n set ++ n ∷ []) (members_below n set)

-- a list that rises, with a greater number behind it, rises
pub Rises-push : (places : List ℕ) (n : ℕ) → Rises places → ((i : ℕ) → Contains places i → i < n) → Rises (places ++ n ∷ [])
Rises-push places n rises below a b i j less at_a at_b =
    let b_within : b < length (places ++ n ∷ []) = slice_get_within (places ++ n ∷ []) b j at_b in
    let size : length (places ++ n ∷ []) ≡ length places + 1 = length-append places (n ∷ []) in
    let a_left : slice_get places a ≡ Some i = sym (slice_get-append_left places (n ∷ []) a (omega arith)) ∙ at_a in
    go a_left (three_way b (length places))
  where
    go : slice_get places a ≡ Some i → (b < length places) ⊎ ((b ≡ length places) ⊎ (length places < b)) → i < j
    go a_left (inl h) = rises a b i j less a_left (sym (slice_get-append_left places (n ∷ []) b h) ∙ at_b)
    go a_left (inr (inl h)) =
        let seam : slice_get (places ++ n ∷ []) b ≡ Some n = rw h (slice_get-append_seam places n) in
        let same : n ≡ j = cc in
        let up : i < n = below i (contains_at places a i a_left) in
        omega arith
    go a_left (inr (inr h)) =
        let b_within : b < length (places ++ n ∷ []) = slice_get_within (places ++ n ∷ []) b j at_b in
        let size : length (places ++ n ∷ []) ≡ length places + 1 = length-append places (n ∷ []) in
        absurd (omega arith)

-- the listed numbers are below n
pub members_are_below : (n : ℕ) (set : ℕ → Bool) (i : ℕ) → Contains (members_below n set) i → i < n
members_are_below zero set i c = absurd (contains_none i c)
members_are_below (suc n) set i c = go (members_are_below n set i) (set n) c
  where
    go : (Contains (members_below n set) i → i < n) → (b : Bool) → Contains (cond b (members_below n set ++ n ∷ []) (members_below n set)) i → i < suc n
    go rest true h = push (Contains-push_cases (members_below n set) n i h)
      where
        push : Contains (members_below n set) i ⊎ (n ≡ i) → i < suc n
        push (inl old) = let less : i < n = rest old in omega arith
        push (inr new) = omega arith
    go rest false h = let less : i < n = rest h in omega arith

-- the listed numbers rise
pub members_rise : (n : ℕ) (set : ℕ → Bool) → Rises (members_below n set)
members_rise zero set = λ a b i j less at_a at_b. cc
members_rise (suc n) set = go (members_rise n set) (set n)
  where
    go : Rises (members_below n set) → (b : Bool) → Rises (cond b (members_below n set ++ n ∷ []) (members_below n set))
    go rest true = Rises-push (members_below n set) n rest (members_are_below n set)
    go rest false = rest

-- the listed numbers are in the set
pub members_are_in : (n : ℕ) (set : ℕ → Bool) (i : ℕ) → Contains (members_below n set) i → IsTrue (set i)
members_are_in zero set i c = absurd (contains_none i c)
members_are_in (suc n) set i c = go (members_are_in n set i) (set n) refl c
  where
    go : (Contains (members_below n set) i → IsTrue (set i)) → (b : Bool) → set n ≡ b → Contains (cond b (members_below n set ++ n ∷ []) (members_below n set)) i → IsTrue (set i)
    go rest true e h = push (Contains-push_cases (members_below n set) n i h)
      where
        push : Contains (members_below n set) i ⊎ (n ≡ i) → IsTrue (set i)
        push (inl old) = rest old
        push (inr new) = subst (λ (k : ℕ). IsTrue (set k)) new e
    go rest false e h = rest h

-- each number of the set below n is listed
pub members_are_all : (n : ℕ) (set : ℕ → Bool) (i : ℕ) → i < n → IsTrue (set i) → Contains (members_below n set) i
members_are_all zero set i less member = absurd (omega arith)
members_are_all (suc n) set i less member = go (λ h. members_are_all n set i h member) (set n) refl (three_way i n)
  where
    go : (i < n → Contains (members_below n set) i) → (b : Bool) → set n ≡ b → (i < n) ⊎ ((i ≡ n) ⊎ (n < i)) → Contains (cond b (members_below n set ++ n ∷ []) (members_below n set)) i
    go rest true e (inl h) = Contains-append_left (members_below n set) (n ∷ []) i (rest h)
    go rest false e (inl h) = rest h
    go rest true e (inr (inl h)) = subst (λ (k : ℕ). Contains (members_below n set ++ n ∷ []) k) (sym h) (Contains-push (members_below n set) n)
    go rest false e (inr (inl h)) = let in_set : set n ≡ true = subst (λ (k : ℕ). IsTrue (set k)) h member in cc
    go rest b e (inr (inr h)) = absurd (omega arith)

-- the list of the set's places of the trace
pub members_in_order : (trace : List Event) (set : ℕ → Bool) → ListsInOrder trace set (members_below (length trace) set)
members_in_order trace set = record {
  rises = members_rise (length trace) set;
  within = members_are_below (length trace) set;
  members = members_are_in (length trace) set;
  complete = members_are_all (length trace) set;
}

-- whatever leaves the places enabled contains the closure
closure_contained : (trace : List Event) (picks : List ℕ) (set : ℕ → Bool) → IsClosureBefore trace picks set → (places : List ℕ) → LeavesEnabled trace places picks → (i : ℕ) → IsTrue (set i) → Contains places i
closure_contained trace picks set closure places leaves i member =
    let closed : ClosedSet trace (is_listed places) = reorderings_are_closed_lem trace places (is_listed places) leaves.correct leaves.preserving (listed_tells places) in
    let all : HoldsAll (BeforeAny trace picks) (is_listed places) = λ k h. listed_from_contains places k ((leaves.enabled h.pick h.is_pick).ready k h.before) in
    contains_from_listed places i (closure.least (is_listed places) closed all i member)

-- the closure itself leaves them enabled, where none of them is in it
closure_leaves : (trace : List Event) → Lawful trace → (picks : List ℕ) (set : ℕ → Bool) → ((e : ℕ) → Contains picks e → e < length trace) → IsClosureBefore trace picks set → AreOutside picks set → LeavesEnabled trace (members_below (length trace) set) picks
closure_leaves trace lawful picks set within closure outside =
    let both = closed_sets_are_reorderings_lem trace lawful set (members_below (length trace) set) closure.closed (members_in_order trace set) in
    record {
      correct = both.0;
      preserving = both.1;
      enabled = λ e is_pick. record {
        within = within e is_pick;
        absent = λ c. let in_set : set e ≡ true = members_are_in (length trace) set e c in let out : set e ≡ false = outside e is_pick in cc;
        ready = λ i before. let e_within : e < length trace = within e is_pick in let less : i < e = before_less trace i e before in
            members_are_all (length trace) set i (omega arith) (closure.all i (record { pick = e; is_pick = is_pick; before = before }));
      };
    }

-- places can be left enabled together exactly where none is in the closure of those before them
pub enabled_outside_closure_lem : (trace : List Event) → Lawful trace → EnabledOutsideClosure trace
enabled_outside_closure_lem trace lawful picks set within closure = (only, if)
  where
    only : CanLeave trace picks → AreOutside picks set
    only found e is_pick = false_unless (set e) (λ member. (found.leaves.enabled e is_pick).absent (closure_contained trace picks set closure found.places found.leaves e member))

    if : AreOutside picks set → CanLeave trace picks
    if outside = record { places = members_below (length trace) set; leaves = closure_leaves trace lawful picks set within closure outside }

-- both places of a conflict are of the trace
pub conflict_within : (trace : List Event) (e1 e2 : ℕ) → Conflict trace e1 e2 → (e : ℕ) → Contains (e1 ∷ e2 ∷ []) e → e < length trace
conflict_within trace e1 e2 conflict e c = go (contains_cases e1 (e2 ∷ []) e c)
  where
    first_within : e1 < length trace
    first_within = access_within trace e1 conflict.var conflict.first

    second_within : e2 < length trace
    second_within = access_within trace e2 conflict.var conflict.second

    last : (e2 ≡ e) ⊎ Contains [] e → e < length trace
    last (inl h) = subst (λ (k : ℕ). k < length trace) h second_within
    last (inr h) = absurd (contains_none e h)

    go : (e1 ≡ e) ⊎ Contains (e2 ∷ []) e → e < length trace
    go (inl h) = subst (λ (k : ℕ). k < length trace) h first_within
    go (inr h) = last (contains_cases e2 [] e h)

-- two places race exactly where they conflict and neither is in the closure before them
pub races_outside_closure_lem : (trace : List Event) → Lawful trace → RacesOutsideClosure trace
races_outside_closure_lem trace lawful e1 e2 set closure = (only, if)
  where
    only : Races trace e1 e2 → Conflict trace e1 e2 × AreOutside (e1 ∷ e2 ∷ []) set
    only race = (race.conflict, (enabled_outside_closure_lem trace lawful (e1 ∷ e2 ∷ []) set (conflict_within trace e1 e2 race.conflict) closure).0 race.enabled)

    if : Conflict trace e1 e2 × AreOutside (e1 ∷ e2 ∷ []) set → Races trace e1 e2
    if h = record { conflict = h.0; enabled = (enabled_outside_closure_lem trace lawful (e1 ∷ e2 ∷ []) set (conflict_within trace e1 e2 h.0) closure).1 h.1 }

-- the places that enabled places need are the closure before them
pub needed_are_the_closure_lem : (trace : List Event) → Lawful trace → NeededAreTheClosure trace
needed_are_the_closure_lem trace lawful picks set within closure outside p = (only, if)
  where
    only : IsNeeded trace picks p → (p < length trace) × IsTrue (set p)
    only needed = let c = needed (members_below (length trace) set) (closure_leaves trace lawful picks set within closure outside) in
        (members_are_below (length trace) set p c, members_are_in (length trace) set p c)

    if : (p < length trace) × IsTrue (set p) → IsNeeded trace picks p
    if h places leaves = closure_contained trace picks set closure places leaves p h.1
