-- What a grant counts, and what it grants where a thread can step.
use Rattle.std.proofs.Common.{◌≡◌, ℕ, ◌+◌, List, [], refl, ap, sym, subst, ◌∙◌}
use Rattle.trace_laws.specs.Event.{Event}
use Rattle.script_machine.specs.Machine.{Script, State, CanStep, IsEnded}
use Rattle.script_machine.specs.Held.{meaning}
use Rattle.script_machine.specs.Recorded.{Running}
use Rattle.row_locks.specs.Grants.{Granted, IsGranted, IsBlocked}
use Rattle.row_locks.specs.Tallies.{events_by}
use Rattle.row_locks.specs.declared.state.Grant.{Grant}
use Rattle.row_locks.specs.declared.state.Grant.TheVariants.{Done, Blocked, Ended}

-- a seat of thread t counts one event more than the granted calls before
pub counted_once : (before after : List Event) (t granted number : ℕ) → number ≡ t → events_by t before ≡ granted → events_by t after ≡ events_by t before + 1
    → (count : ℕ) → count ≡ events_by number after → count ≡ granted + 1
counted_once before after t granted number is had own count counts = counts ∙ ap (λ k. events_by k after) is ∙ own ∙ ap (λ n. n + 1) had

-- a thread that has ended cannot step
pub ended_stuck : (script : Script) (s : State) (t : ℕ) → IsEnded script s t → CanStep script s t → ⊥
ended_stuck script s t ended (taken, s', own, step) =
    let next = step.next in
    let none : (s.thread taken.event.thread).left ≡ [] = subst (λ u. (s.thread u).left ≡ []) (sym own) ended.none_left in
    cc

-- a thread that can step makes its step
pub steps : (s s' : Running) (t : ℕ) (grant : Grant) → CanStep s.machine.script (meaning s.machine) t → Granted s t grant s'
    → (grant ≡ Ended → IsEnded s.machine.script (meaning s.machine) t) → (grant ≡ Blocked → IsBlocked s.machine.script (meaning s.machine) t) → (event : Event) × IsGranted s t event s'
steps s s' t (Done event) can granted ended blocked = (event, granted)
steps s s' t Ended can granted ended blocked = absurd (ended_stuck s.machine.script (meaning s.machine) t (ended refl) can)
steps s s' t Blocked can granted ended blocked = absurd ((blocked refl).stuck can)
