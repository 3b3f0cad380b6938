-- The races of the places so far.
use Rattle.std.proofs.Common.{◌≡◌, ℕ, ◌+◌, ◌<◌, ◌≤◌, List, [], ◌∷◌, ◌++◌, length, map, ◌⊎◌, inl, inr, sym, subst, ◌∙◌, arith}
use Rattle.std.specs.Prelude.{Option, Some, None, slice_get, Contains, All, AllPairs}
use Rattle.sp_base.specs.declared.limits.TheConstants.{MAX_VARS}
use Rattle.std.proofs.lemmas.List.{map-append}
use Rattle.std.proofs.lemmas.List.Elements.{All-push, Contains-push, Contains-append_left}
use Rattle.std.proofs.lemmas.List.Quantifiers.{all_pairs_push}
use Rattle.trace_laws.specs.Event.{Event}
use Rattle.trace_laws.specs.declared.finding.Race.{Race}
use Rattle.trace_laws.specs.Findings.{Races, FoundRace, IsFoundRace, by_reorderings}
use Rattle.trace_laws.specs.Traces.{History}
use Rattle.trace_laws.proofs.Places.{three_way, contains_head, contains_tail}
use Rattle.trace_laws.proofs.Enabling.{conflict_within}
use Rattle.trace_index.specs.Accessed.{AreVariablesBelow}
use Rattle.race_scan.specs.Scans.{RacesInRange}
use Rattle.predictor.specs.Parts.{race_found, AreSlots}
use Rattle.predictor.specs.Searches.{AreRaces}

-- the races of the places below a number
pub record Scanned (trace : List Event) (threads later : ℕ) (found : List FoundRace) : Type 0 where
  pub order : AllPairs (λ a b. a.later < b.later) found
  pub below : All (λ r. r.later < later) found
  pub races : All (IsFoundRace trace threads (by_reorderings trace)) found
  pub all : (e1 e2 : ℕ) → e1 < e2 → e2 < later → Races trace e1 e2 → Contains (map (λ r. r.later) found) e2

-- places that race with no earlier one
pub scanned_past : (trace : List Event) (threads later next : ℕ) (found : List FoundRace) → Scanned trace threads later found → later ≤ next → ((e1 e2 : ℕ) → later ≤ e2 → e2 < next → e1 < e2 → Races trace e1 e2 → ⊥) → Scanned trace threads next found
scanned_past trace threads later next found s le none = record {
  order = s.order;
  below = λ k d less. let b = s.below k d less in omega arith;
  races = s.races;
  all = λ e1 e2 less within race. at e1 e2 less race (three_way e2 later) within;
}
  where
    at : (e1 e2 : ℕ) → e1 < e2 → Races trace e1 e2 → (e2 < later) ⊎ ((e2 ≡ later) ⊎ (later < e2)) → e2 < next → Contains (map (λ (r : FoundRace). r.later) found) e2
    at e1 e2 less race (inl before) _ = s.all e1 e2 less before race
    at e1 e2 less race (inr (inl same)) within = absurd (none e1 e2 (omega arith) within less race)
    at e1 e2 less race (inr (inr more)) within = absurd (none e1 e2 (omega arith) within less race)

-- a place that races
pub scanned_one : (trace : List Event) (threads later : ℕ) (found : List FoundRace) (f : FoundRace) → Scanned trace threads later found → f.later ≡ later → IsFoundRace trace threads (by_reorderings trace) f → Scanned trace threads (later + 1) (found ++ f ∷ [])
scanned_one trace threads later found f s is race = record {
  order = all_pairs_push (λ a b. a.later < b.later) found f s.order (λ k d less. let b = s.below k d less in omega arith);
  below = All-push (λ (r : FoundRace). r.later < later + 1) found f (λ k d less. let b = s.below k d less in omega arith) (omega arith);
  races = All-push (IsFoundRace trace threads (by_reorderings trace)) found f s.races race;
  all = λ e1 e2 less within other. subst (λ (l : List ℕ). Contains l e2) (sym (map-append (λ (r : FoundRace). r.later) found (f ∷ []))) (at e1 e2 less other (three_way e2 later) within);
}
  where
    at : (e1 e2 : ℕ) → e1 < e2 → Races trace e1 e2 → (e2 < later) ⊎ ((e2 ≡ later) ⊎ (later < e2)) → e2 < later + 1 → Contains (map (λ (r : FoundRace). r.later) found ++ f.later ∷ []) e2
    at e1 e2 less other (inl before) _ = Contains-append_left (map (λ (r : FoundRace). r.later) found) (f.later ∷ []) e2 (s.all e1 e2 less before other)
    at e1 e2 less other (inr (inl same)) _ = subst (λ (k : ℕ). Contains (map (λ (r : FoundRace). r.later) found ++ f.later ∷ []) k) (is ∙ sym same) (Contains-push (map (λ (r : FoundRace). r.later) found) f.later)
    at e1 e2 less other (inr (inr more)) within = absurd (omega arith)

-- the races of all places
pub races_from : (h : History) (later : ℕ) (found : List FoundRace) → length h.events ≤ later → length found ≤ length h.events → Scanned h.events h.threads later found → AreRaces h found
races_from h later found all few s = record {
  order = s.order;
  races = s.races;
  all = λ e1 e2 less race. let within = conflict_within h.events e1 e2 race.conflict e2 (contains_tail e1 (e2 ∷ []) e2 (contains_head e2 [])) in s.all e1 e2 less (omega arith) race;
  few = few;
}

-- a slot that is empty is that of a place that races with no earlier one
pub slot_empty : (h : History) (slots : List (Option (Race × List ℕ))) (place : ℕ) (found : List FoundRace) → AreVariablesBelow h.events MAX_VARS → AreSlots h MAX_VARS slots → slice_get slots place ≡ Some None
    → Scanned h.events h.threads place found → Scanned h.events h.threads (place + 1) found
slot_empty h slots place found variables are at s = scanned_past h.events h.threads place (place + 1) found s (omega arith) (λ e1 e2 after before order race.
    let here : e2 ≡ place = omega arith in
    are.empty place at (subst (RacesInRange h.events 0 MAX_VARS) here (record {
      range = record { var = race.conflict.var; accesses = race.conflict.second; least = omega arith; below = variables e2 race.conflict.var race.conflict.second };
      earlier = e1;
      order = order;
      race = race;
    })))

-- a slot with a race is that of its later place
pub slot_filled : (h : History) (slots : List (Option (Race × List ℕ))) (place : ℕ) (found : List FoundRace) (r : Race × List ℕ) → AreSlots h MAX_VARS slots → slice_get slots place ≡ Some (Some r)
    → Scanned h.events h.threads place found → Scanned h.events h.threads (place + 1) (found ++ race_found r ∷ [])
slot_filled h slots place found r are at s = let is = are.filled place r at in scanned_one h.events h.threads place found (race_found r) s is.0 is.1
