-- Races in the slots of their later places.
use Rattle.std.proofs.Common.{◌≡◌, ◌≢◌, ℕ, ◌<◌, ◌≤◌, List, [], ◌∷◌, ◌++◌, length, map, ◌⊎◌, inl, inr, sym, ap, subst, ◌∙◌, arith}
use Rattle.std.specs.Prelude.{Option, Some, None, slice_get, slice_set, Contains, All}
use Rattle.std.specs.Option.{option_map}
use Rattle.std.proofs.Math.ListN.{length-set}
use Rattle.std.proofs.lemmas.Bool.{cases_eq, cases_lt}
use Rattle.std.proofs.lemmas.List.{map-append}
use Rattle.std.proofs.lemmas.List.Elements.{All-contains, Contains-push_cases}
use Rattle.std.proofs.lemmas.Option.{slice_get_within, slice_get-map, get_or_from_slice_get}
use Rattle.trace_laws.specs.Traces.{History}
use Rattle.trace_laws.specs.Findings.{FoundRace, IsFoundRace, by_reorderings}
use Rattle.trace_laws.specs.declared.finding.Race.{Race}
use Rattle.trace_laws.proofs.Places.{contains_at, contains_none, contains_head, contains_tail}
use Rattle.trace_laws.proofs.Growing.{slice_get-set_same, slice_get-set_other}
use Rattle.trace_laws.proofs.Enabling.{conflict_within}
use Rattle.race_scan.specs.Scans.{RacesInRange}
use Rattle.predictor.specs.Parts.{race_found, AreFilled, AreSlots}
use Rattle.predictor.specs.Searches.{AreRacesIn}

-- slots that are all empty have the races of no variable
pub slots_none : (h : History) (slots : List (Option (Race × List ℕ))) → length slots ≡ length h.events → All (λ slot. slot ≡ None) slots → AreSlots h 0 slots
slots_none h slots size none = record {
  size = size;
  filled = λ place r at.
      let slot : Option (Race × List ℕ) = Some r in
      let is = get_or_from_slice_get slots place slot slot at in
      let empty = none place slot (slice_get_within slots place slot at) in
      absurd (cc);
  empty = λ place at race. let below = race.range.below in absurd (omega arith);
}

-- before the first race is put in
pub filled_none : (h : History) (to : ℕ) (slots : List (Option (Race × List ℕ))) → AreSlots h to slots → AreFilled h slots [] slots
filled_none h to slots are = record {
  size = are.size;
  filled = are.filled;
  empty = λ place at. (at, λ c. contains_none place c);
}

-- the later place of a race is one of the trace
pub later_within : (h : History) (r : Race × List ℕ) → IsFoundRace h.events h.threads (by_reorderings h.events) (race_found r) → r.0.later < length h.events
later_within h r race = conflict_within h.events r.0.earlier r.0.later race.race.conflict r.0.later (contains_tail r.0.earlier (r.0.later ∷ []) r.0.later (contains_head r.0.later []))

-- one of some races
pub race_at : (h : History) (races : List (Race × List ℕ)) (n : ℕ) (r : Race × List ℕ) → All (IsFoundRace h.events h.threads (by_reorderings h.events)) (map race_found races) → slice_get races n ≡ Some r → IsFoundRace h.events h.threads (by_reorderings h.events) (race_found r)
race_at h races n r all at = All-contains (IsFoundRace h.events h.threads (by_reorderings h.events)) (map race_found races) (race_found r) all (contains_at (map race_found races) n (race_found r) (slice_get-map race_found races n ∙ ap (option_map race_found) at))

-- one race more
pub filled_more : (h : History) (before : List (Option (Race × List ℕ))) (races : List FoundRace) (slots : List (Option (Race × List ℕ))) (r : Race × List ℕ) → IsFoundRace h.events h.threads (by_reorderings h.events) (race_found r)
    → AreFilled h before races slots → AreFilled h before (races ++ race_found r ∷ []) (slice_set slots r.0.later (Some r))
filled_more h before races slots r race f = record {
  size = length-set slots r.0.later (Some r) ∙ f.size;
  filled = λ place s at. filled place s at (cases_eq place r.0.later);
  empty = λ place at. empty place at (cases_eq place r.0.later);
}
  where
    within : r.0.later < length slots
    within =
        let less = later_within h r race in
        let size = f.size in
        omega arith

    own : slice_get (slice_set slots r.0.later (Some r)) r.0.later ≡ Some (Some r)
    own = slice_get-set_same slots r.0.later (Some r) within

    filled : (place : ℕ) (s : Race × List ℕ) → slice_get (slice_set slots r.0.later (Some r)) place ≡ Some (Some s) → (place ≡ r.0.later) ⊎ (place ≢ r.0.later) → (s.0.later ≡ place) × IsFoundRace h.events h.threads (by_reorderings h.events) (race_found s)
    filled place s at (inl same) =
        let there : slice_get (slice_set slots r.0.later (Some r)) r.0.later ≡ Some (Some s) = subst (λ (k : ℕ). slice_get (slice_set slots r.0.later (Some r)) k ≡ Some (Some s)) same at in
        let here = own in
        let is : r ≡ s = cc in
        (ap (λ (q : Race × List ℕ). q.0.later) (sym is) ∙ sym same, subst (λ (q : Race × List ℕ). IsFoundRace h.events h.threads (by_reorderings h.events) (race_found q)) is race)
    filled place s at (inr other) = f.filled place s (sym (slice_get-set_other slots r.0.later place (Some r) other) ∙ at)

    empty : (place : ℕ) → slice_get (slice_set slots r.0.later (Some r)) place ≡ Some None → (place ≡ r.0.later) ⊎ (place ≢ r.0.later) → (slice_get before place ≡ Some None) × (Contains (map (λ (q : FoundRace). q.later) (races ++ race_found r ∷ [])) place → ⊥)
    empty place at (inl same) =
        let there : slice_get (slice_set slots r.0.later (Some r)) r.0.later ≡ Some None = subst (λ (k : ℕ). slice_get (slice_set slots r.0.later (Some r)) k ≡ Some None) same at in
        let here = own in
        absurd (cc)
    empty place at (inr other) =
        let old = f.empty place (sym (slice_get-set_other slots r.0.later place (Some r) other) ∙ at) in
        (old.0, λ c. none old.1 (Contains-push_cases (map (λ (q : FoundRace). q.later) races) r.0.later place (subst (λ (l : List ℕ). Contains l place) (map-append (λ (q : FoundRace). q.later) races (race_found r ∷ [])) c)))
      where
        none : (Contains (map (λ (q : FoundRace). q.later) races) place → ⊥) → Contains (map (λ (q : FoundRace). q.later) races) place ⊎ (r.0.later ≡ place) → ⊥
        none old (inl c) = old c
        none old (inr same) = other (sym same)

-- the races of a range of variables more
pub slots_more : (h : History) (from to : ℕ) (before : List (Option (Race × List ℕ))) (races : List FoundRace) (slots : List (Option (Race × List ℕ))) → AreSlots h from before → AreRacesIn h from to races → AreFilled h before races slots → AreSlots h to slots
slots_more h from to before races slots are range f = record {
  size = f.size;
  filled = f.filled;
  empty = λ place at race. empty place (f.empty place at) race (cases_lt race.range.var from);
}
  where
    empty : (place : ℕ) → (slice_get before place ≡ Some None) × (Contains (map (λ (q : FoundRace). q.later) races) place → ⊥) → (race : RacesInRange h.events 0 to place) → (race.range.var < from) ⊎ (from ≤ race.range.var) → ⊥
    empty place old race (inl less) = are.empty place old.0 (record {
      range = record { var = race.range.var; accesses = race.range.accesses; least = race.range.least; below = less };
      earlier = race.earlier;
      order = race.order;
      race = race.race;
    })
    empty place old race (inr least) = old.1 (range.all place (record {
      range = record { var = race.range.var; accesses = race.range.accesses; least = least; below = race.range.below };
      earlier = race.earlier;
      order = race.order;
      race = race.race;
    }))
