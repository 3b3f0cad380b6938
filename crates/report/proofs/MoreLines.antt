-- The lines of a list, one more at a time.
use Rattle.std.proofs.Common.{◌≡◌, ℕ, ◌+◌, ◌-◌, ◌<◌, List, [], ◌∷◌, ◌++◌, length, take, get_or, slice_get, Some, ap, ap₂, sym, subst, ◌∙◌, append-nil, append_assoc, arith}
use Rattle.std.specs.List.{flat_map}
use Rattle.std.proofs.lemmas.List.{take_more, take_all}
use Rattle.std.proofs.lemmas.List.Concat.{flat_map-append}
use Rattle.std.proofs.lemmas.Option.{get_or_from_slice_get, slice_get_within}
use Rattle.trace_laws.specs.Event.{Event}
use Rattle.trace_laws.specs.Names.{NameLists}
use Rattle.trace_laws.specs.Findings.{Found}
use Rattle.trace_laws.specs.Stored.{IsAt, deadlock_of, race_of}
use Rattle.trace_laws.specs.declared.finding.Finding.{Finding}
use Rattle.trace_laws.specs.declared.finding.Finding.TheVariants.{Race, Deadlock}
use Rattle.std_text.specs.Writing.{event_line, trace_text}
use Rattle.report.specs.Reports.{AreWithin, IsDeadlockWithin, IsRaceWithin, deadlock_line, race_line}
use Rattle.report.specs.FindingLines.{IsFindingWithin, finding_line}

-- the line of the next item
pub lines_more : {A : Type 0} (line : A → List ℕ) (xs : List A) (i : ℕ) (x : A) → slice_get xs i ≡ Some x → flat_map line (take (i + 1) xs) ≡ flat_map line (take i xs) ++ line x
lines_more line xs i x at =
    let here : get_or xs i x ≡ x = get_or_from_slice_get xs i x x at in
    ap (flat_map line) (take_more xs i x (slice_get_within xs i x at)) ∙ flat_map-append line (take i xs) (get_or xs i x ∷ [])
    ∙ ap (λ y. flat_map line (take i xs) ++ (line y ++ [])) here ∙ ap (λ l. flat_map line (take i xs) ++ l) (append-nil (line x))

-- the line of the next event
pub event_more : (names : NameLists) (es : List Event) (i : ℕ) (e : Event) → i < length es → slice_get es i ≡ Some e → trace_text names (take (i + 1) es) ≡ trace_text names (take i es) ++ event_line names e
event_more names es i e within at = lines_more (event_line names) es i e at

-- the lines of the findings below a number
abbrev pub lines_below : List Event → Found → ℕ → List ℕ
lines_below h found n = flat_map (race_line h) (take n found.races) ++ flat_map (deadlock_line h) (take (n - length found.races) found.deadlocks)

-- the line of the next finding
pub finding_more : (h : List Event) (found : Found) (n : ℕ) (f : Finding) → IsAt found n f → lines_below h found (n + 1) ≡ lines_below h found n ++ finding_line h f
finding_more h found n (Race r keep) at =
    let within = slice_get_within found.races n (race_of (Race r keep)) at in
    let now : n - length found.races ≡ 0 = omega arith in
    let next : (n + 1) - length found.races ≡ 0 = omega arith in
    let more = lines_more (race_line h) found.races n (race_of (Race r keep)) at in
    ap (λ k. flat_map (race_line h) (take (n + 1) found.races) ++ flat_map (deadlock_line h) (take k found.deadlocks)) next
    ∙ append-nil (flat_map (race_line h) (take (n + 1) found.races)) ∙ more
    ∙ ap (λ l. l ++ race_line h (race_of (Race r keep))) (sym (append-nil (flat_map (race_line h) (take n found.races))))
    ∙ ap (λ k. (flat_map (race_line h) (take n found.races) ++ flat_map (deadlock_line h) (take k found.deadlocks)) ++ race_line h (race_of (Race r keep))) (sym now)
finding_more h found n (Deadlock picks keep) (past, at) =
    let now : take n found.races ≡ found.races = take_all n found.races past in
    let next : take (n + 1) found.races ≡ found.races = take_all (n + 1) found.races (omega arith) in
    let step : (n + 1) - length found.races ≡ (n - length found.races) + 1 = omega arith in
    let front = flat_map (race_line h) found.races in
    let more = lines_more (deadlock_line h) found.deadlocks (n - length found.races) (deadlock_of (Deadlock picks keep)) at in
    ap₂ (λ rs k. flat_map (race_line h) rs ++ flat_map (deadlock_line h) (take k found.deadlocks)) next step
    ∙ ap (λ l. front ++ l) more
    ∙ sym (append_assoc front (flat_map (deadlock_line h) (take (n - length found.races) found.deadlocks)) (finding_line h (Deadlock picks keep)))
    ∙ ap (λ rs. (flat_map (race_line h) rs ++ flat_map (deadlock_line h) (take (n - length found.races) found.deadlocks)) ++ finding_line h (Deadlock picks keep)) (sym now)

-- the places of one finding are places of the trace
pub finding_within : (h : List Event) (found : Found) (n : ℕ) (f : Finding) → AreWithin h found → IsAt found n f → IsFindingWithin h f
finding_within h found n (Race r keep) within at =
    let it = race_of (Race r keep) in
    subst (IsRaceWithin h) (get_or_from_slice_get found.races n it it at) (within.races n it (slice_get_within found.races n it at))
finding_within h found n (Deadlock picks keep) within (past, at) =
    let it = deadlock_of (Deadlock picks keep) in
    let k = n - length found.races in
    subst (IsDeadlockWithin h) (get_or_from_slice_get found.deadlocks k it it at) (within.deadlocks k it (slice_get_within found.deadlocks k it at))
