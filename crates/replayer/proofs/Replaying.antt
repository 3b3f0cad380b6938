-- A correct reordering of a run is a run of the script.
use Rattle.std.proofs.Common.{◌≡◌, ℕ, zero, suc, ◌+◌, ◌-◌, ◌<◌, ◌≤◌, true, false, inl, inr, List, [], ◌∷◌, ◌++◌, slice_get, Some, length, Contains, refl, sym, ap, ◌∙◌, subst, arith, add-zero, zero-add, add-suc, append-nil, append_assoc}
use Rattle.std.proofs.lemmas.List.Elements.{Contains-push, Contains-push_cases, Contains-append_left}
use Rattle.std.proofs.lemmas.Bool.{cases_eq, cases_order}
use Rattle.trace_laws.specs.declared.event.Op.{Op}
use Rattle.trace_laws.specs.declared.event.Op.TheVariants.{Read, Acquire, Release, Fork, Join}
use Rattle.trace_laws.specs.Event.{Event}
use Rattle.replayer.specs.Replays.{along}
use Rattle.trace_laws.proofs.Places.{contains_none}
use Rattle.script_machine.specs.Machine.{Script, State, Taken, Step, Run, Can, IsEnded, NextCall, after, events, start, is_forked, is_waiting}
use Rattle.script_machine.proofs.States.{state_at, state_at-zero, state_at-step, forked_at, quiet_after_end}
use Rattle.script_machine.proofs.Steps.{taken_at, event_at, get_in, in_range, thread_same, thread_other, owner_step, forked_step}
use Rattle.replayer.proofs.Along.{upto, Before, InOrder, holder, last_write, LockLaw, Follows, Reordering, Enabled, forked_stays, forked_by, value_step, written, holder_push, written_push, brings_same, awake_too}

-- the places of the thread that are done are its places before n
pub record Same (run : List Taken) (t : ℕ) (done : List ℕ) (n : ℕ) : Type 0 where
  pub below : (q : ℕ) (e : Event) → slice_get (events run) q ≡ Some e → e.thread ≡ t → Contains done q → q < n
  pub above : (q : ℕ) (e : Event) → slice_get (events run) q ≡ Some e → e.thread ≡ t → q < n → Contains done q

-- s is what the places that are done leave, where the states of the whole run are those of `at`
pub record Kept (run : List Taken) (at : ℕ → State) (done : List ℕ) (s : State) : Type 0 where
  pub closed : (i j : ℕ) → Contains done j → Before (events run) i j → Contains done i
  pub local : (t n : ℕ) → n ≤ length run → Same run t done n → s.thread t ≡ (at n).thread t
  pub value : (x : ℕ) → s.value x ≡ written run (last_write (events run) x done)
  pub owner : (l : ℕ) → s.owner l ≡ holder l (along (events run) done)
  pub forked : (u q : ℕ) (e : Event) → Contains done q → slice_get (events run) q ≡ Some e → e.op ≡ Fork u → s.forked u ≡ true

module _ (script : Script) (run : List Taken) (at : ℕ → State) (first : at 0 ≡ start script)
    (step : (p : ℕ) (taken : Taken) → slice_get run p ≡ Some taken → Step script (at p) taken (at (suc p))) where
  -- a variable has what its last write before wrote
  values_at : (n : ℕ) → n ≤ length run → (x : ℕ) → (at n).value x ≡ written run (last_write (events run) x (upto n))
  values_at zero h x = ap (λ z. z.value x) first
  values_at (suc n) h x =
      let (taken, here) = get_in run n (omega arith) in
      value_step script _ _ taken (step n taken here) x
      ∙ (rw (values_at n (omega arith) x) (sym (written_push run (upto n) n taken x here)))

  -- a thread stands where it stood, over places that are not its own
  pub local_at : (u m k : ℕ) → m + k ≤ length run
      → ((q : ℕ) (e : Event) → m ≤ q → q < m + k → slice_get (events run) q ≡ Some e → e.thread ≡ u → ⊥)
      → (at (m + k)).thread u ≡ (at m).thread u
  local_at u m zero h quiet = rw add-zero refl
  local_at u m (suc k) h quiet =
      let within : m + k < length run = omega arith in
      let (taken, here) = get_in run (m + k) within in
      rw add-suc (thread_other script _ _ taken (step (m + k) taken here) u
      (quiet (m + k) taken.event (omega arith) (omega arith) (event_at run (m + k) taken here))
      ∙ local_at u m k (omega arith) (λ q e low high is mine. quiet q e low (omega arith) is mine))

  module _ (done : List ℕ) (s : State) (kept : Kept run at done s) (p : ℕ) (taken : Taken) (here : slice_get run p ≡ Some taken)
      (once : Contains done p → ⊥) (before : (i : ℕ) → Before (events run) i p → Contains done i) where
    is_event : slice_get (events run) p ≡ Some taken.event
    is_event = event_at run p taken here

    within : p < length run
    within = in_range run p taken here

    order_of : (q : ℕ) (e : Event) → slice_get (events run) q ≡ Some e → q < p → InOrder e taken.event → Before (events run) q p
    order_of q e is less order = record { less = less; first = e; second = taken.event; at_first = is; at_second = is_event; order = order }

    -- the thread of p has done just what comes before p
    pub same_own : Same run taken.event.thread done p
    same_own = record {
      below = λ q e is mine inside. elim (cases_order q p) [
        | inl same ↦ absurd (once (subst (λ x. Contains done x) same inside))
        | inr (inl less) ↦ less
        | inr (inr more) ↦ absurd (once (kept.closed p q inside (record { less = more; first = taken.event; second = e; at_first = is_event; at_second = is; order = inl (sym mine) })))
      ];
      above = λ q e is mine less. before q (order_of q e is less (inl mine));
    }

    local_own : s.thread taken.event.thread ≡ (at p).thread taken.event.thread
    local_own = kept.local taken.event.thread p (omega (arith, within)) same_own

    -- a fork that comes before p in program order is done
    fork_too : (u : ℕ) → ((e : Event) → e.op ≡ Fork u → InOrder e taken.event) → (at p).forked u ≡ true → s.forked u ≡ true
    fork_too u order f =
        let (q, e, less, is, forks) = forked_at script run at first step p (omega (arith, within)) u f in
        kept.forked u q e (before q (order_of q e is less (order e forks))) is forks

    awake_own : is_waiting script s taken.event.thread ≡ false
    awake_own = awake_too (is_forked script taken.event.thread) ((at p).forked taken.event.thread) (s.forked taken.event.thread)
        (step p taken here).awake (fork_too taken.event.thread (λ e forks. inr (inl forks)))

    ended_too : (u : ℕ) → taken.event.op ≡ Join u → IsEnded script (at p) u → IsEnded script s u
    ended_too u joins ended =
        let same : Same run u done p = record {
          below = λ q e is mine inside. elim (cases_order q p) [
            | inl same ↦ absurd (once (subst (λ x. Contains done x) same inside))
            | inr (inl less) ↦ less
            | inr (inr more) ↦ absurd (quiet_after_end script run at first step u p q e ended.none_left (omega arith) is mine)
          ];
          above = λ q e is mine less. before q (order_of q e is less (inr (inr (inl (joins ∙ ap Join (sym mine))))));
        } in
        record {
          awake = awake_too (is_forked script u) ((at p).forked u) (s.forked u) ended.awake
              (fork_too u (λ e forks. inr (inr (inr (u, forks, joins)))));
          none_left = ap (λ l. l.left) (kept.local u p (omega (arith, within)) same) ∙ ended.none_left;
        }

    pub can_too : (op : Op) → taken.event.op ≡ op → Can script (at p) taken.event.thread op
        → LockLaw (along (events run) done) taken.event.thread op → Can script s taken.event.thread op
    can_too (Acquire l) is can law = kept.owner l ∙ law
    can_too (Release l) is can law = kept.owner l ∙ law
    can_too (Join u) is can law = ended_too u is can
    can_too _ is can law = tt

    -- what a read reads is what it read in the run
    reads_too : (x : ℕ) → taken.event.op ≡ Read x → last_write (events run) x done ≡ last_write (events run) x (upto p) → s.value x ≡ (at p).value x
    reads_too x is same = kept.value x ∙ ap (written run) same ∙ sym (values_at p (omega (arith, within)) x)

    pub next_own : NextCall script s taken.event.thread taken.event.op
    next_own =
        let st = step p taken here in
        record { line = st.line; rest = st.rest; next = ap (λ l. l.left) local_own ∙ st.next; awake = awake_own; op = st.op }

    module _ (law : LockLaw (along (events run) done) taken.event.thread taken.event.op)
        (writer : (x : ℕ) → taken.event.op ≡ Read x → last_write (events run) x done ≡ last_write (events run) x (upto p)) where
      next_state : State
      next_state = after s taken.event.thread taken.event.op taken.brought (step p taken here).rest

      step_too : Step script s taken next_state
      unfolding next_state
      step_too =
          let st = step p taken here in
          record {
            line = st.line;
            rest = st.rest;
            next = ap (λ l. l.left) local_own ∙ st.next;
            awake = awake_own;
            op = st.op;
            loc = st.loc;
            brought = st.brought ∙ sym (brings_same s (at p) taken.event.thread st.line.instruction taken.event.op st.op
                (λ x is. reads_too x is (writer x is)) local_own);
            can = can_too taken.event.op refl st.can law;
            new = refl;
          }

      -- after p its thread stands where it stood after p
      local_next : next_state.thread taken.event.thread ≡ (at (suc p)).thread taken.event.thread
      unfolding step_too next_state
      local_next =
          let st = step p taken here in
          let r : (s.thread taken.event.thread).register ≡ ((at p).thread taken.event.thread).register = ap (λ l. l.register) local_own in
          thread_same script s next_state taken step_too ∙ (rw r (sym (thread_same script (at p) (at (suc p)) taken st)))

      kept_local : (t n : ℕ) → n ≤ length run → Same run t (done ++ p ∷ []) n → next_state.thread t ≡ (at n).thread t
      kept_local t n inside same = elim (cases_eq taken.event.thread t) [
        | inl own ↦
            (let mine = rw (← own) at same in
            let less : p < n = mine.below p taken.event is_event refl (Contains-push done p) in
            let apart : suc p + (n - suc p) ≡ n = omega arith in
            let quiet : (q : ℕ) (e : Event) → suc p ≤ q → q < suc p + (n - suc p) → slice_get (events run) q ≡ Some e → e.thread ≡ taken.event.thread → ⊥ =
            λ q e low high is own_too. elim (Contains-push_cases done p q (mine.above q e is own_too (omega arith))) [
              | inl old ↦ absurd (let less_too : q < p = same_own.below q e is own_too old in omega arith)
              | inr now ↦ absurd (omega arith)
            ] in
            let stays = local_at taken.event.thread (suc p) (n - suc p) (omega arith) quiet in
            let there = rw apart at stays in
            rw (← own) (local_next ∙ sym there))
        | inr other ↦
            thread_other script s next_state taken step_too t other ∙ kept.local t n inside (record {
              below = λ q e is mine old. same.below q e is mine (Contains-append_left done (p ∷ []) q old);
              above = λ q e is mine less. elim (Contains-push_cases done p q (same.above q e is mine less)) [
                | inl old ↦ old
                | inr now ↦ absurd (other (let at_p = rw (← now) at is in let both : taken.event ≡ e = cc is_event in ap (λ y. y.thread) both ∙ mine))
              ];
            })
      ]

      kept_next : Kept run at (done ++ p ∷ []) next_state
      kept_next = record {
        closed = λ i j inside less. elim (Contains-push_cases done p j inside) [
          | inl old ↦ Contains-append_left done (p ∷ []) i (kept.closed i j old less)
          | inr now ↦ Contains-append_left done (p ∷ []) i (before i (rw (← now) at less))
        ];
        local = kept_local;
        value = λ x. value_step script s next_state taken step_too x
            ∙ (rw (kept.value x) (sym (written_push run done p taken x here)));
        owner = λ l. owner_step script s next_state taken step_too l
            ∙ (rw (kept.owner l) (sym (holder_push (events run) done p taken.event l is_event)));
        forked = λ u q e inside is forks. forked_step script s next_state taken step_too u
            ∙ elim (Contains-push_cases done p q inside) [
              | inl old ↦ forked_stays s.forked taken.event.op u (kept.forked u q e old is forks)
              | inr now ↦ forked_by s.forked taken.event.op u (let at_p = rw (← now) at is in let both : taken.event ≡ e = cc is_event in ap (λ y. y.op) both ∙ forks)
            ];
      }

      pub one_more : (s' : State) × Step script s taken s' × Kept run at (done ++ p ∷ []) s'
      one_more = (next_state, step_too, kept_next)

  -- before the first place
  pub none_done : Kept run at [] (start script)
  none_done = record {
    closed = λ i j inside less. absurd (contains_none j inside);
    local = λ t n h same.
        (let quiet : (q : ℕ) (e : Event) → 0 ≤ q → q < 0 + n → slice_get (events run) q ≡ Some e → e.thread ≡ t → ⊥ =
        λ q e low high is mine. contains_none q (same.above q e is mine (omega arith)) in
        let stays = local_at t 0 n (omega arith) quiet in
        let there = rw zero-add at stays in
        ap (λ z. z.thread t) (sym first) ∙ sym there);
    value = λ x. refl;
    owner = λ l. refl;
    forked = λ u q e inside is forks. absurd (contains_none q inside);
  }

  -- the places that are left, one after the other
  pub replay : (done rest : List ℕ) (s : State) → Kept run at done s
      → ((old : List ℕ) (p : ℕ) (more : List ℕ) → done ++ rest ≡ old ++ p ∷ more → Follows (events run) old p)
      → (s' : State) × Run script s (along run rest) s' × Kept run at (done ++ rest) s'
  replay done [] s kept follows = (s, refl, rw append-nil kept)
  replay done (p ∷ rest) s kept follows =
      let f = follows done p rest refl in
      let (taken, here, same) = taken_at run p f.event f.here in
      let one = one_more done s kept p taken here f.once f.after (rw same f.law) (λ x is. f.writer x (ap (λ y. y.op) (sym same) ∙ is)) in
      let joined : (done ++ p ∷ []) ++ rest ≡ done ++ (p ∷ rest) = append_assoc done (p ∷ []) rest in
      let (s', runs, kept') = replay (done ++ p ∷ []) rest one.0 one.2 (λ old q more e. follows old q more (sym joined ∙ e)) in
      (s', rw here (one.0, one.1, runs), subst (λ xs. Kept run at xs s') joined kept')

-- What the places leave: who owns each lock, and of each event that they leave enabled the next call of its thread, and
-- which places of that thread are done.
pub record Leaves (script : Script) (run : List Taken) (places : List ℕ) (s : State) : Type 0 where
  pub owner : (l : ℕ) → s.owner l ≡ holder l (along (events run) places)
  pub next : (p : ℕ) (event : Event) → Enabled (events run) places p event → NextCall script s event.thread event.op
  pub own : (p : ℕ) (event : Event) → Enabled (events run) places p event → Same run event.thread places p

-- the whole list
pub replay_along : (script : Script) (run : List Taken) (end : State) (places : List ℕ) → Run script (start script) run end
    → Reordering (events run) places
    → (s : State) × Run script (start script) (along run places) s × Leaves script run places s
replay_along script run end places runs order =
    let at : ℕ → State = state_at script run (start script) end runs in
    let first : at 0 ≡ start script = state_at-zero script run (start script) end runs in
    let step : (p : ℕ) (taken : Taken) → slice_get run p ≡ Some taken → Step script (at p) taken (at (suc p)) = state_at-step script run (start script) end runs in
    let (s, along_run, kept) = replay script run at first step [] places (start script) (none_done script run at first step) order in (
      s,
      along_run,
      record {
        owner = kept.owner;
        next = λ p event enabled.
            (let (taken, here, same) = taken_at run p event enabled.here in
            let next = next_own script run at first step places s kept p taken here enabled.open_still enabled.after in
            rw (← same) next);
        own = λ p event enabled.
            (let (taken, here, same) = taken_at run p event enabled.here in
            let own = same_own script run at first step places s kept p taken here enabled.open_still enabled.after in
            subst (λ (e : Event). Same run e.thread places p) same own);
      },
    )
