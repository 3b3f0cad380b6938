-- Which finding has a number, and what its witness is.
use Rattle.std.proofs.Common.{◌≡◌, ℕ, zero, suc, ◌+◌, ◌-◌, ◌<◌, ◌≤◌, List, [], ◌∷◌, ◌++◌, length, map, get_or, Some, ap, subst, ◌∙◌, arith}
use Rattle.std.specs.Prelude.{Contains, All, slice_get}
use Rattle.std.specs.List.{AllZip}
use Rattle.std.specs.Option.{option_map}
use Rattle.std.proofs.lemmas.Option.{slice_get_within, slice_get-map, slice_get-get_or, get_or_from_slice_get}
use Rattle.std.proofs.lemmas.List.{length-map}
use Rattle.trace_laws.specs.Event.{Event}
use Rattle.trace_laws.specs.Traces.{History}
use Rattle.trace_laws.specs.Reordering.{CanLeave}
use Rattle.trace_laws.specs.Findings.{Found, FoundRace, IsFoundRace, IsFoundDeadlock, IsKeep, by_reorderings}
use Rattle.trace_laws.specs.Kept.{AreKept}
use Rattle.trace_laws.specs.Stored.{IsAt, race_of, deadlock_of}
use Rattle.trace_laws.specs.declared.finding.Finding.{Finding}
use Rattle.trace_laws.specs.declared.finding.Finding.TheVariants.{Race, Deadlock}
use Rattle.trace_laws.proofs.Places.{contains_at, contains_head, contains_tail, within_from_thread, slice_get-append_left}
use Rattle.trace_laws.specs.Names.{NameLists}
use Rattle.replayer.specs.Reorders.{FollowsKeep}
use Rattle.replayer.specs.Replays.{along}
use Rattle.std_text.specs.Writing.{trace_text}
use Rattle.predictor.specs.Predictions.{ArePredictions, ArePredicted}
use Rattle.answers.specs.Witnesses.{Target, WritesFinding, IsNumbered, target_of, race_target, deadlock_target}

-- no race
none : FoundRace
none = record { later = 0; earlier = 0; keep = [] }

-- the pattern of a deadlock that is found
pub pattern_of : {A B : Type 0} (R : A → B → Type 0) (xs : List A) (ys : List B) (i : ℕ) (y : B) → AllZip R xs ys → slice_get ys i ≡ Some y → (x : A) × Contains xs x × R x y
pattern_of R [] [] i y h at = absurd (cc)
pattern_of R [] (z ∷ ys) i y h at = absurd h
pattern_of R (x ∷ xs) [] i y h at = absurd h
pattern_of R (x ∷ xs) (z ∷ ys) zero y h at = let same : z ≡ y = cc in (x, contains_head x xs, subst (R x) same h.0)
pattern_of R (x ∷ xs) (z ∷ ys) (suc i) y h at = let (p, inside, is) = pattern_of R xs ys i y h.1 at in (p, contains_tail x xs p inside, is)

-- its places can be left enabled together, and its keep is theirs
pub record Stands (h : History) (target : Target) : Type 0 where
  pub can : CanLeave h.events target.picks
  pub keep : IsKeep h.events h.threads (by_reorderings h.events) target.picks target.keep

-- so it is with what is predicted
finding_stands : (h : History) (size : ℕ) (found : Found) (n : ℕ) (f : Finding) → ArePredictions h size found → IsAt found n f → Stands h (target_of f)
unfolding ArePredictions
finding_stands h size found n (Race r keep) are at =
    let race = are.races n none (slice_get_within found.races n (race_of (Race r keep)) at) in
    let same : get_or found.races n none ≡ race_of (Race r keep) = get_or_from_slice_get found.races n (race_of (Race r keep)) none at in
    let is = subst (IsFoundRace h.events h.threads (by_reorderings h.events)) same race in
    record { can = is.race.enabled; keep = is.keep }
finding_stands h size found n (Deadlock picks keep) are at =
    let (p, inside, is) = pattern_of (IsFoundDeadlock h.events h.threads (by_reorderings h.events)) are.patterns found.deadlocks (n - length found.races) (deadlock_of (Deadlock picks keep)) are.deadlocks at.1 in
    record { can = is.deadlock.enabled; keep = is.keep }

-- an element of the second of two lists
second_part : {X : Type 0} (xs ys : List X) (k n : ℕ) → k ≡ length xs + n → slice_get (xs ++ ys) k ≡ slice_get ys n
second_part [] ys k n is = let same : k ≡ n = omega (arith, is) in ap (slice_get ys) same
second_part (x ∷ xs) ys zero n is = absurd (omega (arith, is))
second_part (x ∷ xs) ys (suc k) n is = second_part xs ys k n (omega (arith, is))

-- a finding has its number, which is one more than that of the code
numbered : (found : Found) (number : ℕ) (f : Finding) → 1 ≤ number → IsAt found (number - 1) f → IsNumbered found number (target_of f)
numbered found number (Race r keep) least at =
    let there = slice_get_within found.races (number - 1) (race_of (Race r keep)) at in
    let size = length-map found.races race_target in
    let within : number - 1 < length (map race_target found.races) = omega arith in (
      least,
      slice_get-append_left (map race_target found.races) (map deadlock_target found.deadlocks) (number - 1) within
          ∙ slice_get-map race_target found.races (number - 1) ∙ ap (option_map race_target) at,
    )
numbered found number (Deadlock picks keep) least at =
    let past = at.0 in
    let size = length-map found.races race_target in
    let place : number - 1 ≡ length (map race_target found.races) + (number - 1 - length found.races) = omega arith in (
      least,
      second_part (map race_target found.races) (map deadlock_target found.deadlocks) (number - 1) (number - 1 - length found.races) place
          ∙ slice_get-map deadlock_target found.deadlocks (number - 1 - length found.races) ∙ ap (option_map deadlock_target) at.1,
    )

-- a keep has a count for each thread
pub keep_size : (h : History) (found : Found) (n : ℕ) (f : Finding) (keep : List ℕ) → ArePredicted h found → IsAt found n f → keep ≡ (target_of f).keep → length keep ≡ h.threads
keep_size h found n f keep are at same = ap length same ∙ (finding_stands h are.0 found n f are.1 at).keep.size

-- kept places are places of the trace
pub kept_within : (events : List Event) (keep places : List ℕ) → AreKept events keep places → All (λ place. place < length events) places
kept_within events keep places kept k d less =
    let here = (kept.members (get_or places k d)).0 (contains_at places k (get_or places k d) (slice_get-get_or places k d less)) in
    within_from_thread events (get_or places k d) here.thread here.is_of

-- the lines of the events that the keep of a finding counts are the text of its witness
pub writes : (names : NameLists) (h : History) (found : Found) (number : ℕ) (f : Finding) (keep places text : List ℕ) → ArePredicted h found → 1 ≤ number → IsAt found (number - 1) f → keep ≡ (target_of f).keep
    → AreKept h.events keep places → FollowsKeep h keep places → text ≡ trace_text names (along h.events places) → WritesFinding names h found number text
writes names h found number f keep places text are least at same kept follows written =
    let stands = finding_stands h are.0 found (number - 1) f are.1 at in
    record {
      target = target_of f;
      numbered = numbered found number f least at;
      places = places;
      witness = record {
        kept = subst (λ k. AreKept h.events k places) same kept;
        least = subst (λ k. FollowsKeep h k places) same follows (target_of f).picks stands.can stands.keep;
      };
      written = written;
    }
