-- What is predicted lies within the trace.
use Rattle.std.proofs.Common.{List, [], ◌∷◌, get_or}
use Rattle.std.proofs.lemmas.List.Elements.{Contains-get_or}
use Rattle.std.proofs.lemmas.Option.{slice_get-get_or}
use Rattle.trace_laws.specs.Traces.{History}
use Rattle.trace_laws.specs.Patterns.{Class, IsPattern, IsInstance}
use Rattle.trace_laws.specs.Findings.{Found, FoundRace, FoundDeadlock, IsFoundRace, IsFoundDeadlock, by_reorderings}
use Rattle.trace_laws.proofs.Enabling.{conflict_within}
use Rattle.trace_laws.proofs.Judges.{instance_within}
use Rattle.trace_laws.proofs.Places.{contains_head, contains_tail}
use Rattle.report.specs.Reports.{AreWithin, IsDeadlockWithin, IsRaceWithin}
use Rattle.predictor.specs.Predictions.{ArePredictions, ArePredicted}
use Rattle.answers.proofs.Witnessing.{pattern_of}

-- the places of a race are places of the trace
race_within : (h : History) (r : FoundRace) → IsFoundRace h.events h.threads (by_reorderings h.events) r → IsRaceWithin h.events r
race_within h r is =
    let within = conflict_within h.events r.earlier r.later is.race.conflict in
    record { later = within r.later (contains_tail r.earlier (r.later ∷ []) r.later (contains_head r.later [])); earlier = within r.earlier (contains_head r.earlier (r.later ∷ [])) }

-- the picks of a deadlock are places of the trace
deadlock_within : (h : History) (pattern : List Class) (d : FoundDeadlock) → IsPattern h.events pattern → IsInstance pattern d.picks → IsDeadlockWithin h.events d
deadlock_within h pattern d is picked = λ k e less. instance_within h.events pattern d.picks is picked (get_or d.picks k e) (Contains-get_or d.picks k e less)

-- the places of what is predicted are places of the trace
pub predicted_within : (h : History) (found : Found) → ArePredicted h found → AreWithin h.events found
unfolding ArePredictions
predicted_within h found are = record {
  races = λ k d less. race_within h (get_or found.races k d) (are.1.races k d less);
  deadlocks = λ k d less. let (p, inside, is) = pattern_of (IsFoundDeadlock h.events h.threads (by_reorderings h.events)) are.1.patterns found.deadlocks k (get_or found.deadlocks k d) are.1.deadlocks (slice_get-get_or found.deadlocks k d less) in
      deadlock_within h p (get_or found.deadlocks k d) ((are.1.members p).0 inside).0 is.deadlock.picked;
}
