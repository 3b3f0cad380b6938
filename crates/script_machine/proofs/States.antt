-- The states of a run, one after each of its events.
use Rattle.std.proofs.Common.{◌≡◌, ℕ, zero, suc, ◌+◌, ◌-◌, ◌<◌, ◌≤◌, true, false, ◌⊎◌, inl, inr, List, [], ◌∷◌, slice_get, Some, length, refl, sym, ap, ◌∙◌, subst, arith, add-zero, add-suc}
use Rattle.trace_laws.specs.declared.event.Op.TheVariants.{Fork}
use Rattle.trace_laws.specs.Event.{Event}
use Rattle.script_machine.specs.Machine.{Script, State, Taken, Step, Run, events, start}
use Rattle.script_machine.proofs.Steps.{taken_at, event_at, get_in, in_range, forked_from, thread_other, forked_step}

-- the state after the first n events of a run
abbrev pub state_at : (script : Script) (run : List Taken) (s s' : State) → Run script s run s' → ℕ → State
state_at script [] s s' r n = s
state_at script (x ∷ xs) s s' r zero = s
state_at script (x ∷ xs) s s' r (suc n) = state_at script xs r.0 s' r.2 n

-- before the first event
pub state_at-zero : (script : Script) (run : List Taken) (s s' : State) (r : Run script s run s') → state_at script run s s' r 0 ≡ s
state_at-zero script [] s s' r = refl
state_at-zero script (x ∷ xs) s s' r = refl

-- from each state to the next there is a step
pub state_at-step : (script : Script) (run : List Taken) (s s' : State) (r : Run script s run s') (p : ℕ) (taken : Taken)
    → slice_get run p ≡ Some taken → Step script (state_at script run s s' r p) taken (state_at script run s s' r (suc p))
state_at-step script [] s s' r p taken h = absurd (cc)
state_at-step script (x ∷ xs) s s' r zero taken h =
    let same : x ≡ taken = cc in
    rw (state_at-zero script xs r.0 s' r.2) (subst (λ y. Step script s y r.0) same r.1)
state_at-step script (x ∷ xs) s s' r (suc p) taken h = state_at-step script xs r.0 s' r.2 p taken h

module _ (script : Script) (run : List Taken) (at : ℕ → State) (first : at 0 ≡ start script)
    (step : (p : ℕ) (taken : Taken) → slice_get run p ≡ Some taken → Step script (at p) taken (at (suc p))) where
  -- a fork that was taken was taken at a place before
  pub forked_at : (n : ℕ) → n ≤ length run → (u : ℕ) → (at n).forked u ≡ true
      → (q : ℕ) × (e : Event) × (q < n) × (slice_get (events run) q ≡ Some e) × (e.op ≡ Fork u)
  forked_at zero h u f = let no : false ≡ true = sym (ap (λ z. z.forked u) first) ∙ f in absurd (cc)
  forked_at (suc n) h u f =
      let (taken, here) = get_in run n (omega arith) in
      let before : ((at n).forked u ≡ true) ⊎ (taken.event.op ≡ Fork u) =
      forked_from (at n).forked taken.event.op u (sym (forked_step script _ _ taken (step n taken here) u) ∙ f) in
      elim before [
        | inl g ↦ (let (q, e, less, is, forks) = forked_at n (omega arith) u g in (q, e, omega arith, is, forks))
        | inr g ↦ (n, taken.event, omega arith, event_at run n taken here, g)
      ]

  -- a thread at its end has no place from there on
  none_left_at : (u n k : ℕ) → n + k ≤ length run → ((at n).thread u).left ≡ [] → ((at (n + k)).thread u).left ≡ []
  none_left_at u n zero h none = rw add-zero none
  none_left_at u n (suc k) h none =
      let within : n + k < length run = omega arith in
      let (taken, here) = get_in run (n + k) within in
      let st = step (n + k) taken here in
      let still = none_left_at u n k (omega arith) none in
      let other : taken.event.thread ≡ u → ⊥ = λ mine. (let full = rw mine at st.next in cc) in
      rw add-suc (rw (thread_other script _ _ taken st u other) still)

  -- after its end a thread has no event
  pub quiet_after_end : (u n q : ℕ) (e : Event) → ((at n).thread u).left ≡ [] → n ≤ q → slice_get (events run) q ≡ Some e → e.thread ≡ u → ⊥
  quiet_after_end u n q e none low is mine =
      let (taken, here, same) = taken_at run q e is in
      let within : q < length run = in_range run q taken here in
      let st = step q taken here in
      let apart : n + (q - n) ≡ q = omega arith in
      let still = none_left_at u n (q - n) (omega arith) none in
      let empty = rw apart at still in
      let own : taken.event.thread ≡ u = ap (λ y. y.thread) same ∙ mine in
      let full = rw own at st.next in
      cc
