-- The races that a scan gave so far.
use Rattle.std.proofs.Common.{◌≡◌, ℕ, ◌+◌, ◌<◌, ◌≤◌, List, [], ◌∷◌, ◌++◌, length, map, ◌⊎◌, inl, inr, sym, subst, arith}
use Rattle.std.specs.Prelude.{Contains, All}
use Rattle.std.proofs.lemmas.List.{map-append}
use Rattle.std.proofs.lemmas.List.Elements.{All-nil, All-push, Contains-push, Contains-append_left}
use Rattle.trace_laws.specs.Findings.{FoundRace, IsFoundRace, by_reorderings}
use Rattle.trace_laws.proofs.Places.{access_within, three_way}
use Rattle.race_scan.specs.Scans.{Scan, IsInRange, RacesInRange, NoRaceBetween, IsNextRace}
use Rattle.predictor.specs.Searches.{AreRacesIn}

-- the scan that has passed so many places
abbrev pub scan_at : Scan → ℕ → Scan
scan_at scan passed = record scan { passed = passed }

-- the races of a scan on its variables, of the places that it has passed
pub record Collected (scan : Scan) (passed : ℕ) (found : List FoundRace) : Type 0 where
  pub within : passed ≤ length scan.trace.events
  pub races : All (IsFoundRace scan.trace.events scan.trace.threads (by_reorderings scan.trace.events)) found
  pub inside : All (λ r. IsInRange scan.trace.events scan.from scan.to r.later) found
  pub all : (later : ℕ) → later < passed → RacesInRange scan.trace.events scan.from scan.to later → Contains (map (λ r. r.later) found) later

-- none at first
pub collected_none : (scan : Scan) → Collected scan 0 []
collected_none scan = record {
  within = omega arith;
  races = All-nil (IsFoundRace scan.trace.events scan.trace.threads (by_reorderings scan.trace.events));
  inside = All-nil (λ (r : FoundRace). IsInRange scan.trace.events scan.from scan.to r.later);
  all = λ later less race. absurd (omega arith);
}

-- one race more
pub collected_more : (scan : Scan) (passed : ℕ) (found : List FoundRace) (r : FoundRace) → Collected scan passed found → IsNextRace (scan_at scan passed) r → Collected scan (r.later + 1) (found ++ r ∷ [])
collected_more scan passed found r c next = record {
  within = let less = access_within scan.trace.events r.later next.range.var next.range.accesses in omega arith;
  races = All-push (IsFoundRace scan.trace.events scan.trace.threads (by_reorderings scan.trace.events)) found r c.races next.is_found;
  inside = All-push (λ (f : FoundRace). IsInRange scan.trace.events scan.from scan.to f.later) found r c.inside next.range;
  all = λ later less race. subst (λ (l : List ℕ). Contains l later) (sym (map-append (λ (f : FoundRace). f.later) found (r ∷ []))) (stands later less race (three_way later r.later));
}
  where
    before : (later : ℕ) → later < r.later → RacesInRange scan.trace.events scan.from scan.to later → (later < passed) ⊎ ((later ≡ passed) ⊎ (passed < later)) → Contains (map (λ (f : FoundRace). f.later) found) later
    before later less race (inl passes) = c.all later passes race
    before later less race (inr (inl same)) = absurd (next.first later (omega arith) less race)
    before later less race (inr (inr more)) = absurd (next.first later (omega arith) less race)

    stands : (later : ℕ) → later < r.later + 1 → RacesInRange scan.trace.events scan.from scan.to later → (later < r.later) ⊎ ((later ≡ r.later) ⊎ (r.later < later)) → Contains (map (λ (f : FoundRace). f.later) found ++ r.later ∷ []) later
    stands later less race (inl earlier) = Contains-append_left (map (λ (f : FoundRace). f.later) found) (r.later ∷ []) later (before later earlier race (three_way later passed))
    stands later less race (inr (inl same)) = subst (λ (k : ℕ). Contains (map (λ (f : FoundRace). f.later) found ++ r.later ∷ []) k) (sym same) (Contains-push (map (λ (f : FoundRace). f.later) found) r.later)
    stands later less race (inr (inr more)) = absurd (omega arith)

-- where the scan gives no further race, they are those of its variables
pub collected_all : (scan : Scan) (passed : ℕ) (found : List FoundRace) → Collected scan passed found → NoRaceBetween scan.trace.events scan.from scan.to passed (length scan.trace.events) → AreRacesIn scan.trace scan.from scan.to found
collected_all scan passed found c none = record {
  races = c.races;
  inside = c.inside;
  all = λ later race. stands later race (three_way later passed);
}
  where
    stands : (later : ℕ) → RacesInRange scan.trace.events scan.from scan.to later → (later < passed) ⊎ ((later ≡ passed) ⊎ (passed < later)) → Contains (map (λ (f : FoundRace). f.later) found) later
    stands later race (inl less) = c.all later less race
    stands later race (inr (inl same)) = absurd (none later (omega arith) (access_within scan.trace.events later race.range.var race.range.accesses) race)
    stands later race (inr (inr more)) = absurd (none later (omega arith) (access_within scan.trace.events later race.range.var race.range.accesses) race)
