-- Runs in which each step is of the lowest thread that can step, grown by a step.
use Rattle.std.proofs.Common.{◌≡◌, ℕ, List, [], ◌∷◌, ◌++◌, Option, Some, None, IfSome, IfNone, refl, sym, ap, ◌∙◌, subst}
use Rattle.std.proofs.lemmas.List.{map_push}
use Rattle.trace_laws.specs.Event.{Event}
use Rattle.script_machine.specs.Machine.{Script, State, Taken, Step, StepOf, CanStep}
use Rattle.script_machine.specs.Lowest.{NoneBelow, LowestRun, LegalLowestRun}
use Rattle.script_machine.specs.Held.{meaning}
use Rattle.script_machine.specs.Recorded.{Running}

-- one more step of such a run
lowest_push : (script : Script) (takens : List Taken) (s m s' : State) (taken : Taken) → LowestRun script s takens m → Step script m taken s' → NoneBelow script m taken.event.thread
    → LowestRun script s (takens ++ taken ∷ []) s'
lowest_push script [] s m s' taken run step none =
    (s', subst (λ z. Step script z taken s') (sym run) step, subst (λ z. NoneBelow script z taken.event.thread) (sym run) none, refl)
lowest_push script (x ∷ xs) s m s' taken (mid, first, below, run) step none = (mid, first, below, lowest_push script xs mid m s' taken run step none)

-- one more event of such a run
legal_lowest_push : (script : Script) (es : List Event) (m s' : State) (t : ℕ) (event : Event) → LegalLowestRun script es m → StepOf script m t event s' → NoneBelow script m t
    → LegalLowestRun script (es ++ event ∷ []) s'
legal_lowest_push script es m s' t event (takens, are, run) step none =
    let taken : Taken = record { event = event; brought = step.brought } in (
      takens ++ taken ∷ [],
      ap (λ xs. xs ++ event ∷ []) are ∙ sym (map_push (λ x. x.event) takens taken),
      lowest_push script takens _ m s' taken run step.step (subst (NoneBelow script m) (sym step.thread) none),
    )

-- the run after the code's step of a thread that can step, while none below it can
pub lowest_next : (script : Script) (old new : Running) (t : ℕ) (answer : Option Event) → old.machine.script ≡ script → LegalLowestRun script old.events (meaning old.machine)
    → CanStep old.machine.script (meaning old.machine) t → NoneBelow old.machine.script (meaning old.machine) t
    → IfSome answer (λ e. StepOf old.machine.script (meaning old.machine) t e (meaning new.machine)) → IfSome answer (λ e. new.events ≡ old.events ++ e ∷ [])
    → IfNone answer ((CanStep old.machine.script (meaning old.machine) t → ⊥) × (new ≡ old)) → LegalLowestRun script new.events (meaning new.machine)
lowest_next script old new t None same run can none step grown never = absurd (never.0 can)
lowest_next script old new t (Some e) same run can none step grown never =
    subst (λ es. LegalLowestRun script es (meaning new.machine)) (sym grown)
    (legal_lowest_push script old.events (meaning old.machine) (meaning new.machine) t e run
    (subst (λ x. StepOf x (meaning old.machine) t e (meaning new.machine)) same step)
    (subst (λ x. NoneBelow x (meaning old.machine) t) same none))
