-- The steps of a machine along a correct reordering.
use Rattle.std.proofs.Common.{◌≡◌, ◌<◌, ◌+◌, ℕ, zero, suc, List, [], ◌∷◌, ◌++◌, take, length, Some, None, Option, IfSome, IfNone, slice_get, refl, sym, ap, ◌∙◌, subst, add-one}
use Rattle.std.proofs.lemmas.List.Elements.{filter_map-append}
use Rattle.trace_laws.specs.Event.{Event}
use Rattle.trace_laws.specs.Reordering.{CorrectReordering}
use Rattle.script_machine.specs.Machine.{Script, State, Taken, Step, StepOf, Run, LegalRun, CanStep, start}
use Rattle.script_machine.specs.Held.{Held, meaning}
use Rattle.script_machine.proofs.Steps.{taken_at}
use Rattle.script_machine.proofs.Sizes.{thread_inside, none_at_start}
use Rattle.script_machine.proofs.Runs.{run_push, run_inside}
use Rattle.script_machine.proofs.Determined.{run_unique, step_unique}
use Rattle.replayer.specs.Replays.{along, ReplaysTo}
use Rattle.replayer.proofs.Along.{along_push}
use Rattle.replayer.proofs.Ordering.{take_snoc}
use Rattle.replayer.proofs.Reaching.{replay_law}

-- the machine is one of the script, and the places lead to it
pub record IsAlong (script : Script) (trace : List Event) (places : List ℕ) (m : Held) : Type 0 where
  pub script_is : m.script ≡ script
  pub replayed : ReplaysTo script trace places (meaning m)

-- a list about one of its elements
split_at : {X : Type 0} (xs : List X) (i : ℕ) (x : X) → slice_get xs i ≡ Some x → (rest : List X) × (xs ≡ take i xs ++ x ∷ rest)
split_at [] i x h = absurd (cc)
split_at (y ∷ ys) zero x h = (ys, cc)
split_at (y ∷ ys) (suc i) x h =
    let (rest, same) = split_at ys i x h in
    (rest, ap (λ zs. y ∷ zs) same)

-- a step that a run has, with the states before and after it
record HasStep (script : Script) (s : State) (before : List Taken) (taken : Taken) : Type 0 where
  middle : State
  next : State
  run : Run script s before middle
  step : Step script middle taken next

-- each element of a run is a step of it
step_in : (script : Script) (xs : List Taken) (taken : Taken) (ys : List Taken) (s s' : State) → Run script s (xs ++ taken ∷ ys) s' → HasStep script s xs taken
step_in script [] taken ys s s' (mid, step, more) = record { middle = s; next = mid; run = refl; step = step }
step_in script (x ∷ xs) taken ys s s' (mid, step, more) =
    let rest = step_in script xs taken ys mid s' more in
    record { middle = rest.middle; next = rest.next; run = (mid, step, rest.run); step = rest.step }

module _ (script : Script) (trace : List Event) (places : List ℕ) (correct : CorrectReordering trace places)
    (i p : ℕ) (at_p : slice_get places i ≡ Some p) (e : Event) (here : slice_get trace p ≡ Some e) where
  -- the step at place p, from the state that the places before it lead to
  record NextStep (s : State) (run : List Taken) : Type 0 where
    taken : Taken
    at_place : slice_get run p ≡ Some taken
    same : taken.event ≡ e
    next : State
    step : Step script s taken next

  -- there is one
  next_step : (s : State) (r : ReplaysTo script trace (take i places) s) → NextStep s r.run
  next_step s r =
      let correct_run = subst (λ es. CorrectReordering es places) r.same correct in
      let (z, whole) = replay_law script r.run r.end places r.legal correct_run in
      let (taken, at_place, same) = taken_at r.run p e (subst (λ es. slice_get es p ≡ Some e) r.same here) in
      let (rest, split) = split_at places i p at_p in
      let tail : along r.run (p ∷ rest) ≡ taken ∷ along r.run rest = rw at_place refl in
      let joined : along r.run places ≡ along r.run (take i places) ++ taken ∷ along r.run rest =
      ap (along r.run) split ∙ filter_map-append (slice_get r.run) (take i places) (p ∷ rest) ∙ ap (λ xs. along r.run (take i places) ++ xs) tail in
      let found = step_in script (along r.run (take i places)) taken (along r.run rest) (start script) z (subst (λ xs. Run script (start script) xs z) joined whole) in
      let reached : found.middle ≡ s =
      (run_unique script (along r.run (take i places)) (along r.run (take i places)) (start script) (start script) found.middle s refl found.run r.replayed refl).1 in
      record { taken = taken; at_place = at_place; same = same; next = found.next; step = subst (λ m. Step script m taken found.next) reached found.step }

  -- the thread of the place can step
  pub can_go_on : (s : State) → ReplaysTo script trace (take i places) s → CanStep script s e.thread
  can_go_on s r =
      let n = next_step s r in
      (n.taken, n.next, ap (λ x. x.thread) n.same, n.step)

  -- which is one of the script
  pub is_thread : (s : State) → ReplaysTo script trace (take i places) s → e.thread < length script.bodies
  is_thread s r =
      let n = next_step s r in
      let inside = run_inside script (along r.run (take i places)) (start script) s (none_at_start script) r.replayed in
      subst (λ x. x.thread < length script.bodies) n.same (thread_inside script s n.next n.taken inside n.step)

  -- and its step is the one at the place
  pub goes_on : (s s' : State) (event : Event) → ReplaysTo script trace (take i places) s → StepOf script s e.thread event s'
      → ReplaysTo script trace (take (suc i) places) s'
  goes_on s s' event r of =
      let n = next_step s r in
      let one : Taken = record { event = event; brought = of.brought } in
      let own : one.event.thread ≡ n.taken.event.thread = of.thread ∙ ap (λ x. x.thread) (sym n.same) in
      let both = step_unique script s s' n.next one n.taken of.step n.step own in
      let step = subst (λ x. Step script s x s') both.0 of.step in
      let longer = run_push script (along r.run (take i places)) (start script) s s' n.taken r.replayed step in
      let all : along r.run (take (suc i) places) ≡ along r.run (take i places) ++ n.taken ∷ [] =
      ap (along r.run) (take_snoc places i p at_p) ∙ along_push r.run (take i places) p n.taken n.at_place in
      record {
        run = r.run;
        end = r.end;
        same = r.same;
        legal = r.legal;
        replayed = subst (λ xs. Run script (start script) xs s') (sym all) longer;
      }

  -- what the machine is after a call of `step`
  pub moves_on : (old new : Held) (t : ℕ) (answer : Option Event) → e.thread ≡ t → IsAlong script trace (take i places) old → new.script ≡ old.script
      → IfSome answer (λ event. StepOf old.script (meaning old) t event (meaning new)) → IfNone answer ((CanStep old.script (meaning old) t → ⊥) × (new ≡ old))
      → IsAlong script trace (take (i + 1) places) new
  moves_on old new t None own is same step never =
      let can = subst (λ u. CanStep script (meaning old) u) own (can_go_on (meaning old) is.replayed) in
      absurd (never.0 (subst (λ z. CanStep z (meaning old) t) (sym is.script_is) can))
  moves_on old new t (Some event) own is same step never =
      let of = subst (λ u. StepOf script (meaning old) u event (meaning new)) (sym own) (subst (λ z. StepOf z (meaning old) t event (meaning new)) is.script_is step) in
      record {
        script_is = same ∙ is.script_is;
        replayed = rw add-one (goes_on (meaning old) (meaning new) event is.replayed of);
      }

-- before the first place
pub at_start : (script : Script) (trace : List Event) (end : State) (m : Held) → LegalRun script trace end → m.script ≡ script → meaning m ≡ start script → IsAlong script trace [] m
at_start script trace end m (takens, same, run) script_is is = record {
  script_is = script_is;
  replayed = record { run = takens; end = end; same = same; legal = run; replayed = sym is };
}
