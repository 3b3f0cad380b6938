-- The replays of what is found, line by line.
use Rattle.std.proofs.Common.{◌≡◌, ℕ, ◌+◌, ◌-◌, ◌≤◌, List, [], ◌∷◌, ◌++◌, length, take, refl, sym, ap, ◌∙◌, subst, arith, append-nil, append_assoc, length-append}
use Rattle.std.specs.List.{AllZip}
use Rattle.std.proofs.lemmas.List.{take_all, length-take}
use Rattle.std.proofs.lemmas.Option.{slice_get_within, get_or_from_slice_get}
use Rattle.std.proofs.lemmas.Slice.Zip.{AllZip-long}
use Rattle.trace_laws.specs.Findings.{Found, IsFoundRace, IsFoundDeadlock, by_reorderings}
use Rattle.trace_laws.specs.Names.{NameLists}
use Rattle.trace_laws.specs.Stored.{IsAt, race_of, deadlock_of}
use Rattle.trace_laws.specs.Traces.{History}
use Rattle.trace_laws.specs.declared.finding.Finding.{Finding}
use Rattle.trace_laws.specs.declared.finding.Finding.TheVariants.{Race, Deadlock}
use Rattle.script_machine.specs.Machine.{Script}
use Rattle.script_machine.proofs.OfTrace.{take_next}
use Rattle.replayer.specs.Replayed.{Replayed, IsFindingOf, IsRaceReplay, IsDeadlockReplay}
use Rattle.report.specs.ReachedLines.{reached_line, closing_reached}
use Rattle.predictor.specs.Predictions.{ArePredictions, ArePredicted, count_of_findings}
use Rattle.answers.specs.Replays.{AddsReplay, WritesReplays, reached_lines}
use Rattle.answers.proofs.Witnessing.{pattern_of}

-- one line of a replay more
reached_lines_more : (names : NameLists) (n m : ℕ) (replays : List Replayed) (last : Replayed) → m ≡ n + length replays
    → reached_lines names n (replays ++ last ∷ []) ≡ reached_lines names n replays ++ reached_line names m last
reached_lines_more names n m [] last is = (let same : m ≡ n = omega (arith, is) in rw same (append-nil (reached_line names n last)))
reached_lines_more names n m (first ∷ replays) last is =
    ap (λ l. reached_line names n first ++ l) (reached_lines_more names (n + 1) m replays last (omega (arith, is)))
    ∙ sym (append_assoc (reached_line names n first) (reached_lines names (n + 1) replays) (reached_line names m last))

-- one pair more
zip_push : {A B : Type 0} (R : A → B → Type 0) (xs : List A) (ys : List B) (x : A) (y : B) → AllZip R xs ys → R x y → AllZip R (xs ++ x ∷ []) (ys ++ y ∷ [])
zip_push R [] [] x y h r = (r, tt)
zip_push R [] (b ∷ ys) x y h r = absurd h
zip_push R (a ∷ xs) [] x y h r = absurd h
zip_push R (a ∷ xs) (b ∷ ys) x y h r = (h.0, zip_push R xs ys x y h.1 r)

-- the replays of the first findings, of which the races come first
pub record AreReplayed (script : Script) (run : History) (found : Found) (n : ℕ) (text : List ℕ) : Type 0 where
  pub races : List Replayed
  pub deadlocks : List Replayed
  pub of_races : AllZip (IsRaceReplay script run) (take n found.races) races
  pub of_deadlocks : AllZip (IsDeadlockReplay script run) (take (n - length found.races) found.deadlocks) deadlocks
  pub written : text ≡ reached_lines script.names 1 (races ++ deadlocks)

-- those of none
pub none_replayed : (script : Script) (run : History) (found : Found) → AreReplayed script run found 0 []
none_replayed script run found =
    let zero_left : 0 ≡ 0 - length found.races = omega arith in
    record { races = []; deadlocks = []; of_races = tt; of_deadlocks = subst (λ k. AllZip (IsDeadlockReplay script run) (take k found.deadlocks) []) zero_left tt; written = refl }

-- one replay more
pub one_replayed : (script : Script) (run : History) (found : Found) (n number : ℕ) (f : Finding) (old new : List ℕ) → IsAt found n f → number ≡ n + 1
    → AreReplayed script run found n old → AddsReplay script run f number old new → AreReplayed script run found (n + 1) new
one_replayed script run found n number (Race r keep) old new at counted so adds =
    let within = slice_get_within found.races n (race_of (Race r keep)) at in
    let zero_left : 0 ≡ n - length found.races = omega (arith, within) in
    let none : take (n - length found.races) found.deadlocks ≡ [] = subst (λ k. take k found.deadlocks ≡ []) zero_left refl in
    let none_still : n + 1 - length found.races ≡ n - length found.races = omega (arith, within) in
    let empty : so.deadlocks ≡ [] = nil_of so.deadlocks (subst (λ ds. AllZip (IsDeadlockReplay script run) ds so.deadlocks) none so.of_deadlocks) in
    let size : length so.races ≡ n = AllZip-long (IsRaceReplay script run) (take n found.races) so.races so.of_races ∙ omega (arith, within, length-take n found.races) in
    record {
      races = so.races ++ adds.replay ∷ [];
      deadlocks = so.deadlocks;
      of_races = subst (λ rs. AllZip (IsRaceReplay script run) rs (so.races ++ adds.replay ∷ [])) (sym (take_next found.races n (race_of (Race r keep)) at))
          (zip_push (IsRaceReplay script run) (take n found.races) so.races (race_of (Race r keep)) adds.replay so.of_races adds.is);
      of_deadlocks = subst (λ k. AllZip (IsDeadlockReplay script run) (take k found.deadlocks) so.deadlocks) (sym none_still) so.of_deadlocks;
      written = adds.line ∙ ap (λ l. l ++ reached_line script.names number adds.replay) (so.written ∙ ap (λ ds. reached_lines script.names 1 (so.races ++ ds)) empty ∙ ap (reached_lines script.names 1) (append-nil so.races))
          ∙ sym (reached_lines_more script.names 1 number so.races adds.replay (omega (arith, size, counted)))
          ∙ ap (reached_lines script.names 1) (sym (ap (λ ds. (so.races ++ adds.replay ∷ []) ++ ds) empty ∙ append-nil (so.races ++ adds.replay ∷ [])));
    }
  where
    nil_of : (ds : List Replayed) → AllZip (IsDeadlockReplay script run) [] ds → ds ≡ []
    nil_of [] h = refl
    nil_of (d ∷ ds) h = absurd h
one_replayed script run found n number (Deadlock picks keep) old new at counted so adds =
    let past : length found.races ≤ n = at.0 in
    let here = at.1 in
    let within = slice_get_within found.deadlocks (n - length found.races) (deadlock_of (Deadlock picks keep)) here in
    let next : n + 1 - length found.races ≡ n - length found.races + 1 = omega (arith, past) in
    let all : take n found.races ≡ found.races = take_all n found.races past in
    let all_still : take (n + 1) found.races ≡ found.races = take_all (n + 1) found.races (omega (arith, past)) in
    let races : length so.races ≡ length found.races = AllZip-long (IsRaceReplay script run) (take n found.races) so.races so.of_races ∙ ap length all in
    let deadlocks : length so.deadlocks ≡ n - length found.races = AllZip-long (IsDeadlockReplay script run) (take (n - length found.races) found.deadlocks) so.deadlocks so.of_deadlocks
    ∙ omega (arith, within, length-take (n - length found.races) found.deadlocks) in
    record {
      races = so.races;
      deadlocks = so.deadlocks ++ adds.replay ∷ [];
      of_races = subst (λ rs. AllZip (IsRaceReplay script run) rs so.races) (all ∙ sym all_still) so.of_races;
      of_deadlocks = subst (λ k. AllZip (IsDeadlockReplay script run) (take k found.deadlocks) (so.deadlocks ++ adds.replay ∷ [])) (sym next)
          (subst (λ ds. AllZip (IsDeadlockReplay script run) ds (so.deadlocks ++ adds.replay ∷ [])) (sym (take_next found.deadlocks (n - length found.races) (deadlock_of (Deadlock picks keep)) here))
          (zip_push (IsDeadlockReplay script run) (take (n - length found.races) found.deadlocks) so.deadlocks (deadlock_of (Deadlock picks keep)) adds.replay so.of_deadlocks adds.is));
      written = adds.line ∙ ap (λ l. l ++ reached_line script.names number adds.replay) so.written
          ∙ sym (reached_lines_more script.names 1 number (so.races ++ so.deadlocks) adds.replay (omega (arith, races, deadlocks, counted, past, length-append so.races so.deadlocks)))
          ∙ ap (reached_lines script.names 1) (append_assoc so.races so.deadlocks (adds.replay ∷ []));
    }

-- all of them
pub all_replayed : (script : Script) (run : History) (found : Found) (n : ℕ) (lines text : List ℕ) → n ≡ count_of_findings found
    → AreReplayed script run found n lines → text ≡ lines ++ closing_reached n → WritesReplays script run found text
all_replayed script run found n lines text counted so closed =
    let races : take n found.races ≡ found.races = take_all n found.races (omega (arith, counted)) in
    let deadlocks : take (n - length found.races) found.deadlocks ≡ found.deadlocks = take_all (n - length found.races) found.deadlocks (omega (arith, counted)) in
    let of_races = subst (λ rs. AllZip (IsRaceReplay script run) rs so.races) races so.of_races in
    let of_deadlocks = subst (λ ds. AllZip (IsDeadlockReplay script run) ds so.deadlocks) deadlocks so.of_deadlocks in
    let first = AllZip-long (IsRaceReplay script run) found.races so.races of_races in
    let second = AllZip-long (IsDeadlockReplay script run) found.deadlocks so.deadlocks of_deadlocks in
    let size : n ≡ length (so.races ++ so.deadlocks) = omega (arith, first, second, counted, length-append so.races so.deadlocks) in
    record {
      races = so.races;
      deadlocks = so.deadlocks;
      of_races = of_races;
      of_deadlocks = of_deadlocks;
      written = closed ∙ ap (λ l. l ++ closing_reached n) so.written ∙ ap (λ k. reached_lines script.names 1 (so.races ++ so.deadlocks) ++ closing_reached k) size;
    }

-- what is found is a race or a deadlock of the trace, with its keep
pub finding_of : (h : History) (found : Found) (n : ℕ) (f : Finding) → ArePredicted h found → IsAt found n f → IsFindingOf h f
unfolding ArePredictions
finding_of h found n (Race r keep) (size, are) at =
    let race = race_of (Race r keep) in
    let is = are.races n race (slice_get_within found.races n race at) in
    let here = get_or_from_slice_get found.races n race race at in
    let stands = subst (IsFoundRace h.events h.threads (by_reorderings h.events)) here is in
    record { race = stands.race; keep = stands.keep }
finding_of h found n (Deadlock picks keep) (size, are) at =
    let (p, inside, is) = pattern_of (IsFoundDeadlock h.events h.threads (by_reorderings h.events)) are.patterns found.deadlocks (n - length found.races) (deadlock_of (Deadlock picks keep)) are.deadlocks at.1 in
    record { pattern = p; is_pattern = ((are.members p).0 inside).0; deadlock = is.deadlock; keep = is.keep }
