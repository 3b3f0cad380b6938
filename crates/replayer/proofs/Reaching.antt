-- What a reordering of a run reaches.
use Rattle.std.proofs.Common.{◌≡◌, ℕ, ◌⊎◌, inl, inr, List, [], ◌∷◌, Some, slice_get, Contains, refl, sym, ap, ◌∙◌, subst, arith}
use Rattle.trace_laws.specs.declared.event.Op.{Op}
use Rattle.trace_laws.specs.declared.event.Op.TheVariants.{Read, Write, Acquire, Release, Fork, Join}
use Rattle.trace_laws.specs.Event.{Event}
use Rattle.trace_laws.specs.Reordering.{CorrectReordering, Enabled, Accesses, Conflict, LeavesEnabled}
use Rattle.trace_laws.proofs.Places.{op_from_event, thread_from_event}
use Rattle.script_machine.specs.Machine.{Script, State, Taken, Step, Run, Can, NextCall, events, start, is_forked}
use Rattle.script_machine.proofs.Steps.{get_in, thread_other, forked_step}
use Rattle.script_machine.proofs.Calls.{can_step}
use Rattle.script_machine.proofs.Determined.{run_unique}
use Rattle.replayer.specs.Replays.{along, Ready, StaysReady, RaceReached}
use Rattle.replayer.proofs.Along.{Enabled as EnabledAfter, forked_stays, awake_too}
use Rattle.replayer.proofs.Replaying.{replay_along}
use Rattle.replayer.proofs.Ordering.{bridge, before_too}

-- an access can be made at any time
can_access : (script : Script) (s : State) (t : ℕ) (op : Op) → ((x : ℕ) × ((op ≡ Read x) ⊎ (op ≡ Write x))) → Can script s t op
can_access script s t (Read x) access = tt
can_access script s t (Write x) access = tt
can_access script s t (Acquire l) (x, access) = absurd (elim access [ inl h ↦ (cc) | inr h ↦ (cc) ])
can_access script s t (Release l) (x, access) = absurd (elim access [ inl h ↦ (cc) | inr h ↦ (cc) ])
can_access script s t (Fork u) access = tt
can_access script s t (Join u) (x, access) = absurd (elim access [ inl h ↦ (cc) | inr h ↦ (cc) ])

-- the step of one thread leaves the next call of another
pub next_stays : (script : Script) (s s' : State) (taken : Taken) → Step script s taken s' → (t : ℕ) (op : Op)
    → (taken.event.thread ≡ t → ⊥) → NextCall script s t op → NextCall script s' t op
next_stays script s s' taken step t op other next = record {
  line = next.line;
  rest = next.rest;
  next = ap (λ l. l.left) (thread_other script s s' taken step t other) ∙ next.next;
  awake = awake_too (is_forked script t) (s.forked t) (s'.forked t) next.awake
      (λ f. forked_step script s s' taken step t ∙ forked_stays s.forked taken.event.op t f);
  op = next.op;
}

-- an access of a thread whose next call it is stays ready after a step of another thread
stays_ready : (script : Script) (s : State) (event : Event) (other : ℕ) → ((x : ℕ) × ((event.op ≡ Read x) ⊎ (event.op ≡ Write x)))
    → (event.thread ≡ other → ⊥) → NextCall script s event.thread event.op → StaysReady script s event other
stays_ready script s event other access apart next = record {
  now = ready s next;
  still = λ taken s' step own. ready s' (next_stays script s s' taken step event.thread event.op (λ e. apart (sym e ∙ own)) next);
}
  where
    ready : (z : State) → NextCall script z event.thread event.op → Ready script z event
    ready z n = record { next = n; can = can_step script z event.thread event.op n (can_access script z event.thread event.op access) }

-- the operation of an access
access_of : (trace : List Event) (e x : ℕ) (event : Event) → slice_get trace e ≡ Some event → Accesses trace e x
    → (y : ℕ) × ((event.op ≡ Read y) ⊎ (event.op ≡ Write y))
access_of trace e x event here access =
    let op = op_from_event trace e event here in (
      x,
      elim access [
        | inl h ↦ inl (let both = sym op ∙ h in cc)
        | inr h ↦ inr (let both = sym op ∙ h in cc)
      ],
    )

-- a place that is left enabled, with its event
pub enabled_after : (trace : List Event) (places : List ℕ) (e : ℕ) (event : Event) → slice_get trace e ≡ Some event → Enabled trace places e → EnabledAfter trace places e event
enabled_after trace places e event here enabled = record {
  here = here;
  open_still = enabled.absent;
  after = λ i before. enabled.ready i (before_too trace i e before);
}

-- each correct reordering of a legal run is a legal run with the same values
pub replay_law : (script : Script) (run : List Taken) (end : State) (places : List ℕ) → Run script (start script) run end
    → CorrectReordering (events run) places → (s : State) × Run script (start script) (along run places) s
replay_law script run end places runs correct =
    let (s, along_run, leaves) = replay_along script run end places runs (bridge (events run) places correct) in
    (s, along_run)

-- the first of two picks
pub first_pick : (p q : ℕ) → Contains (p ∷ q ∷ []) p
first_pick p q = (0, omega arith, refl)

-- and the second
pub second_pick : (p q : ℕ) → Contains (p ∷ q ∷ []) q
second_pick p q = (1, omega arith, refl)

-- after one that leaves two conflicting places enabled, their race is reached
pub race_law : (script : Script) (run : List Taken) (end s : State) (places : List ℕ) (e1 e2 : ℕ) → Run script (start script) run end
    → Conflict (events run) e1 e2 → LeavesEnabled (events run) places (e1 ∷ e2 ∷ []) → Run script (start script) (along run places) s
    → RaceReached script (events run) s e1 e2
race_law script run end s places e1 e2 runs conflict leaves replayed =
    let (z, along_run, left) = replay_along script run end places runs (bridge (events run) places leaves.correct) in
    let same : z ≡ s = (run_unique script (along run places) (along run places) (start script) (start script) z s refl along_run replayed refl).1 in
    let one = leaves.enabled e1 (first_pick e1 e2) in
    let two = leaves.enabled e2 (second_pick e1 e2) in
    let (first, at_first) = get_in (events run) e1 one.within in
    let (second, at_second) = get_in (events run) e2 two.within in
    let apart : first.thread ≡ second.thread → ⊥ =
    λ e. conflict.apart (thread_from_event (events run) e1 first at_first ∙ ap Some e ∙ sym (thread_from_event (events run) e2 second at_second)) in
    let next_first = subst (λ w. NextCall script w first.thread first.op) same (left.next e1 first (enabled_after (events run) places e1 first at_first one)) in
    let next_second = subst (λ w. NextCall script w second.thread second.op) same (left.next e2 second (enabled_after (events run) places e2 second at_second two)) in
    record {
      first = first;
      second = second;
      at_first = at_first;
      at_second = at_second;
      first_ready = stays_ready script s first second.thread (access_of (events run) e1 conflict.var first at_first conflict.first) apart next_first;
      second_ready = stays_ready script s second first.thread (access_of (events run) e2 conflict.var second at_second conflict.second) (λ e. apart (sym e)) next_second;
    }
