-- Traces that are runs of a script, and the first place of one that is none.
use Rattle.std.proofs.Common.{◌≡◌, ℕ, zero, suc, ◌+◌, ◌≤◌, List, [], ◌∷◌, ◌++◌, length, map, take, slice_get, Some, refl, sym, ap, ◌∙◌, subst, arith}
use Rattle.std.proofs.lemmas.List.{take-map, take_more}
use Rattle.std.proofs.lemmas.Option.{slice_get_within, get_or_from_slice_get}
use Rattle.trace_laws.specs.Event.{Event}
use Rattle.trace_laws.specs.Locations.{without_locations, DoTheSame}
use Rattle.script_machine.specs.Machine.{Script, State, Taken, Step, Run, LegalRun, start, events, next_call}
use Rattle.script_machine.specs.Held.{meaning}
use Rattle.script_machine.specs.Recorded.{Running, IsRun}
use Rattle.script_machine.specs.OfTrace.{NoStepOf, IsFirstNoStep}
use Rattle.script_machine.proofs.Sizes.{thread_inside, none_at_start}
use Rattle.script_machine.proofs.Calls.{call_of_step}
use Rattle.script_machine.proofs.Determined.{parts, run_unique, step_unique}
use Rattle.script_machine.proofs.Runs.{run_inside}

-- what does the same in two parts does the same in one
pub both_parts : (a b c d : List Event) → DoTheSame a b → DoTheSame c d → DoTheSame (a ++ c) (b ++ d)
both_parts [] [] c d first second = second
both_parts [] (y ∷ ys) c d first second = absurd (cc)
both_parts (x ∷ xs) [] c d first second = absurd (cc)
both_parts (x ∷ xs) (y ∷ ys) c d first second =
    let p = parts _ _ _ _ first in
    let rest : without_locations (xs ++ c) ≡ without_locations (ys ++ d) = both_parts xs ys c d p.1 second in
    (λ i. p.0 i ∷ rest i)

-- the front of a list with the element behind it
pub take_next : {X : Type 0} (xs : List X) (i : ℕ) (x : X) → slice_get xs i ≡ Some x → take (i + 1) xs ≡ take i xs ++ x ∷ []
take_next xs i x at = take_more xs i x (slice_get_within xs i x at) ∙ ap (λ y. take i xs ++ y ∷ []) (get_or_from_slice_get xs i x x at)

-- one more event that does the same
pub same_push : (run more : List Event) (taken : Event) (trace : List Event) (place : ℕ) (event : Event) → DoTheSame run (take place trace) → slice_get trace place ≡ Some event
    → more ≡ run ++ taken ∷ [] → DoTheSame (taken ∷ []) (event ∷ []) → DoTheSame more (take (place + 1) trace)
same_push run more taken trace place event before at grown one =
    ap without_locations grown ∙ both_parts run (take place trace) (taken ∷ []) (event ∷ []) before one ∙ ap without_locations (sym (take_next trace place event at))

-- no step is of a thread past the last
pub none_outside : (r : Running) (event : Event) → IsRun r → length r.machine.script.bodies ≤ event.thread → NoStepOf r.machine.script (meaning r.machine) event
none_outside r event run past taken s' step own op =
    let (takens, are, legal) = run.legal in
    let inside = thread_inside r.machine.script (meaning r.machine) s' taken
    (run_inside r.machine.script takens (start r.machine.script) (meaning r.machine) (none_at_start r.machine.script) legal) step in
    absurd (omega (arith, inside, past, own))

-- nor of an operation that is not the thread's next call
pub none_otherwise : (script : Script) (s : State) (event : Event) → (next_call script s event.thread ≡ Some event.op → ⊥) → NoStepOf script s event
none_otherwise script s event other taken s' step own op = other (ap (next_call script s) (sym own) ∙ call_of_step script s s' taken step ∙ ap Some op)

-- the place at which a run stops, which is the place that is told
pub first_no_step : (script : Script) (trace : List Event) (r : Running) (place told : ℕ) (event : Event) → r.machine.script ≡ script
    → LegalRun r.machine.script r.events (meaning r.machine) → DoTheSame r.events (take place trace) → slice_get trace place ≡ Some event
    → NoStepOf r.machine.script (meaning r.machine) event → place ≡ told → IsFirstNoStep script trace told
first_no_step script trace r place told event same legal before at none is =
    subst (IsFirstNoStep script trace) is (record {
      run = r.events;
      end = meaning r.machine;
      legal = subst (λ x. LegalRun x r.events (meaning r.machine)) same legal;
      before = before;
      event = event;
      at = at;
      none = subst (λ x. NoStepOf x (meaning r.machine) event) same none;
    })

-- the threads of what was taken, where it does the same as these events
threads_same : (takens : List Taken) (es : List Event) → DoTheSame (events takens) es → map (λ t. t.event.thread) takens ≡ map (λ e. e.thread) es
threads_same [] [] same = refl
threads_same [] (e ∷ es) same = absurd (cc)
threads_same (t ∷ ts) [] same = absurd (cc)
threads_same (t ∷ ts) (e ∷ es) same =
    let p = parts _ _ _ _ same in
    let one : t.event.thread ≡ e.thread = ap (λ (x : Event). x.thread) p.0 in
    let rest = threads_same ts es p.1 in
    (λ i. one i ∷ rest i)

-- what was taken at a place, where it does the same as an event there
record IsTakenAs (takens : List Taken) (place : ℕ) (event : Event) : Type 0 where
  taken : Taken
  at : slice_get takens place ≡ Some taken
  thread : taken.event.thread ≡ event.thread
  op : taken.event.op ≡ event.op

-- there is such a one
taken_as : (takens : List Taken) (es : List Event) (place : ℕ) (event : Event) → DoTheSame (events takens) es → slice_get es place ≡ Some event → IsTakenAs takens place event
taken_as [] [] place event same at = absurd (cc)
taken_as [] (e ∷ es) place event same at = absurd (cc)
taken_as (t ∷ ts) [] place event same at = absurd (cc)
taken_as (t ∷ ts) (e ∷ es) zero event same at =
    let p = parts _ _ _ _ same in
    let is : e ≡ event = cc in
    record {
      taken = t;
      at = refl;
      thread = ap (λ (x : Event). x.thread) p.0 ∙ ap (λ (x : Event). x.thread) is;
      op = ap (λ (x : Event). x.op) p.0 ∙ ap (λ (x : Event). x.op) is;
    }
taken_as (t ∷ ts) (e ∷ es) (suc place) event same at =
    let p = parts _ _ _ _ same in
    let rest = taken_as ts es place event p.1 at in
    record { taken = rest.taken; at = rest.at; thread = rest.thread; op = rest.op }

-- a run steps on from where one of the same threads as its front stands
steps_on : (script : Script) (takens front : List Taken) (place : ℕ) (taken : Taken) (s z end m : State) → s ≡ z → Run script s takens end → Run script z front m
    → map (λ t. t.event.thread) front ≡ take place (map (λ t. t.event.thread) takens) → slice_get takens place ≡ Some taken → (next : State) × Step script m taken next
steps_on script [] front place taken s z end m same run run' threads at = absurd (cc)
steps_on script (x ∷ xs) [] zero taken s z end m same (mid, step, more) run' threads at =
    let is : x ≡ taken = cc in
    (mid, subst (λ t. Step script m t mid) is (subst (λ w. Step script w x mid) (same ∙ run') step))
steps_on script (x ∷ xs) (y ∷ ys) zero taken s z end m same run run' threads at = absurd (cc)
steps_on script (x ∷ xs) [] (suc place) taken s z end m same run run' threads at = absurd (cc)
steps_on script (x ∷ xs) (y ∷ ys) (suc place) taken s z end m same (mid, step, more) (mid', step', more') threads at =
    let p = parts _ _ _ _ threads in
    let one = step_unique script s mid mid' x y step (subst (λ w. Step script w y mid') (sym same) step') (sym p.0) in
    steps_on script xs ys place taken mid mid' end m one.1 more more' p.1 at

-- a trace that does the same as a legal run has no first place that is no step
pub never_odd : (script : Script) (trace run : List Event) (end : State) → LegalRun script run end → DoTheSame run trace → (place : ℕ) → IsFirstNoStep script trace place → ⊥
never_odd script trace run end (takens, are, legal) same place odd =
    let (front, are', legal') = odd.legal in
    let whole = subst (λ es. DoTheSame es trace) are same in
    let before = threads_same front (take place trace) (subst (λ es. DoTheSame es (take place trace)) are' odd.before) in
    let threads = before ∙ sym (take-map (λ e. e.thread) place trace) ∙ ap (take place) (sym (threads_same takens trace whole)) in
    let there = taken_as takens trace place odd.event whole odd.at in
    let (next, step) = steps_on script takens front place there.taken (start script) (start script) end odd.end refl legal legal' threads there.at in
    odd.none there.taken next step there.thread there.op

-- two legal runs that do the same as one trace are one
pub one_run : (script : Script) (trace run other : List Event) (end end' : State) → LegalRun script run end → DoTheSame run trace → LegalRun script other end' → DoTheSame other trace
    → (run ≡ other) × (end ≡ end')
one_run script trace run other end end' (takens, are, legal) same (takens', are', legal') same' =
    let threads = threads_same takens trace (subst (λ es. DoTheSame es trace) are same) ∙ sym (threads_same takens' trace (subst (λ es. DoTheSame es trace) are' same')) in
    let both = run_unique script takens takens' (start script) (start script) end end' refl legal legal' threads in
    (are ∙ ap events both.0 ∙ sym are', both.1)
