-- Runs are lawful traces.
use Rattle.std.specs.Option.{option_map, unwrap_or}
use Rattle.std.proofs.Common.{◌≡◌, ℕ, zero, suc, ◌+◌, ◌-◌, ◌<◌, ◌≤◌, Bool, true, false, not, ◌&&◌, inl, inr, List, [], ◌∷◌, ◌++◌, nat_eq, slice_get, length, length-append, add-zero, add-suc, Option, Some, None, refl, sym, ap, ◌∙◌, subst, eq-eqb, eqb-true, arith}
use Rattle.std.proofs.lemmas.Bool.{cases_eq, cases_Bool}
use Rattle.trace_laws.specs.declared.event.Op.{Op}
use Rattle.trace_laws.specs.declared.event.Op.TheVariants.{Acquire, Release, Fork, Join}
use Rattle.trace_laws.specs.Event.{Event}
use Rattle.script_machine.specs.Line.{Line}
use Rattle.trace_laws.specs.Trace.{thread_at, op_at, Acquires, Releases, Holds, LockLaw, ThreadLaw, MeetsLaws, Lawful}
use Rattle.script_machine.specs.Machine.{Script, State, Taken, Step, Run, Can, IsEnded, body, events, start, forks, is_forked, is_waiting, ForksOnce}
use Rattle.script_machine.proofs.Steps.{holder_after, taken_at, event_at, get_in, in_range, thread_same, thread_other, owner_step}
use Rattle.script_machine.proofs.States.{state_at, state_at-zero, state_at-step, forked_at, quiet_after_end}
use Rattle.script_machine.proofs.Settled.{settled_short}
use Rattle.script_machine.proofs.Suffixes.{Suffix, settled_suffix, suffix_step, get_front, any_at, forks_op}

-- a body that has a line is one of the script
pub body_there : (bodies : List (List Line)) (t i : ℕ) (x : Line) → slice_get (unwrap_or (slice_get bodies t) []) i ≡ Some x → slice_get bodies t ≡ Some (unwrap_or (slice_get bodies t) [])
body_there [] t i x h = absurd (cc)
body_there (b ∷ bs) zero i x h = refl
body_there (b ∷ bs) (suc t) i x h = body_there bs t i x h

module _ (script : Script) (run : List Taken) (at : ℕ → State) (first : at 0 ≡ start script)
    (step : (p : ℕ) (taken : Taken) → slice_get run p ≡ Some taken → Step script (at p) taken (at (suc p))) (once : ForksOnce script) where
  -- what is left of a body is the end of it
  left_at : (t n : ℕ) → n ≤ length run → Suffix (body script t) ((at n).thread t).left
  left_at t zero h = subst (λ z. Suffix (body script t) (z.thread t).left) (sym first) (settled_suffix 0 (body script t) 0)
  left_at t (suc n) h =
      let (taken, here) = get_in run n (omega arith) in
      let st = step n taken here in
      elim (cases_eq taken.event.thread t) [
        | inl own ↦
            (let before : Suffix (body script taken.event.thread) (st.line ∷ st.rest) = subst (λ xs. Suffix (body script taken.event.thread) xs) st.next (left_at taken.event.thread n (omega arith)) in
            let after : Suffix st.rest ((at (suc n)).thread taken.event.thread).left = subst (λ l. Suffix st.rest l.left) (sym (thread_same script _ _ taken st)) (settled_suffix 0 st.rest _) in
            subst (λ u. Suffix (body script u) ((at (suc n)).thread u).left) own (suffix_step _ _ st.line st.rest before after))
        | inr other ↦ subst (λ l. Suffix (body script t) l.left) (sym (thread_other script _ _ taken st t other)) (left_at t n (omega arith))
      ]

  -- what is left to a thread never grows
  left_falls : (t n k : ℕ) → n + k ≤ length run → length ((at (n + k)).thread t).left ≤ length ((at n).thread t).left
  left_falls t n zero h = rw add-zero (omega arith)
  left_falls t n (suc k) h =
      let (taken, here) = get_in run (n + k) (let within : n + k < length run = omega arith in within) in
      let st = step (n + k) taken here in
      let before : length ((at (n + k)).thread t).left ≤ length ((at n).thread t).left = left_falls t n k (omega arith) in
      rw add-suc (elim (cases_eq taken.event.thread t) [
        | inl own ↦
            (let less : length ((at (suc (n + k))).thread taken.event.thread).left ≤ length st.rest = subst (λ l. length l.left ≤ length st.rest) (sym (thread_same script _ _ taken st)) (settled_short 0 st.rest _) in
            let had : length ((at (n + k)).thread taken.event.thread).left ≡ suc (length st.rest) = ap length st.next in
            let falls : length ((at (suc (n + k))).thread taken.event.thread).left ≤ length ((at (n + k)).thread taken.event.thread).left = omega arith in
            let there = subst (λ u. length ((at (suc (n + k))).thread u).left ≤ length ((at (n + k)).thread u).left) own falls in
            omega arith)
        | inr other ↦
            (let same : length ((at (suc (n + k))).thread t).left ≡ length ((at (n + k)).thread t).left = ap (λ l. length l.left) (thread_other script _ _ taken st t other) in
            omega arith)
      ])

  -- where a fork of u stands in the bodies when it is taken
  record ForkAt (u p : ℕ) : Type 0 where
    thread : ℕ
    place : ℕ
    line : Line
    there : slice_get (body script thread) place ≡ Some line
    forks_u : forks u line.instruction ≡ true
    left : place + length ((at p).thread thread).left ≡ length (body script thread)
    falls : suc (length ((at (suc p)).thread thread).left) ≤ length ((at p).thread thread).left

  -- each fork that is taken stands somewhere
  fork_at : (u p : ℕ) (taken : Taken) → slice_get run p ≡ Some taken → taken.event.op ≡ Fork u → ForkAt u p
  fork_at u p taken here is =
      let st = step p taken here in
      let inside : p < length run = in_range run p taken here in
      let end = left_at taken.event.thread p (omega arith) in
      let whole : body script taken.event.thread ≡ end.front ++ (st.line ∷ st.rest) = end.whole ∙ ap (λ xs. end.front ++ xs) st.next in
      let had : length ((at p).thread taken.event.thread).left ≡ suc (length st.rest) = ap length st.next in
      record {
        thread = taken.event.thread;
        place = length end.front;
        line = st.line;
        there = ap (λ xs. slice_get xs (length end.front)) whole ∙ get_front end.front st.line st.rest;
        forks_u = forks_op st.line.instruction u (st.op ∙ ap Some is);
        left = (let count : length (body script taken.event.thread) ≡ length end.front + length ((at p).thread taken.event.thread).left = ap length end.whole ∙ length-append end.front _ in omega arith);
        falls = (let less : length ((at (suc p)).thread taken.event.thread).left ≤ length st.rest = subst (λ l. length l.left ≤ length st.rest) (sym (thread_same script _ _ taken st)) (settled_short 0 st.rest _) in omega arith);
      }

  -- no thread is forked twice
  one_fork : (u p q : ℕ) (a b : Taken) → p < q → slice_get run p ≡ Some a → slice_get run q ≡ Some b → a.event.op ≡ Fork u → b.event.op ≡ Fork u → ⊥
  one_fork u p q a b less at_p at_q is_a is_b =
      let x = fork_at u p a at_p is_a in
      let y = fork_at u q b at_q is_b in
      let same = once u x.thread y.thread x.place y.place x.line y.line x.there y.there x.forks_u y.forks_u in
      let inside : q < length run = in_range run q b at_q in
      let apart : suc p + (q - suc p) ≡ q = omega arith in
      let fall = rw apart at (left_falls x.thread (suc p) (q - suc p) (omega arith)) in
      let x_left = x.left in
      let y_left = rw (← same.0) at y.left in
      let x_falls = x.falls in
      let place = same.1 in
      omega arith

  -- a thread whose fork is taken is forked by the script
  forked_somewhere : (u p : ℕ) (taken : Taken) → slice_get run p ≡ Some taken → taken.event.op ≡ Fork u → is_forked script u ≡ true
  forked_somewhere u p taken here is =
      let x = fork_at u p taken here is in
      any_at _ script.bodies x.thread (body script x.thread) (body_there script.bodies x.thread x.place x.line x.there) (any_at _ (body script x.thread) x.place x.line x.there x.forks_u)

  -- the event at a place is that of the run there
  event_is : (p : ℕ) (taken : Taken) → slice_get run p ≡ Some taken → slice_get (events run) p ≡ Some taken.event
  event_is p taken here = event_at run p taken here

  -- so is its thread
  thread_is : (p : ℕ) (taken : Taken) → slice_get run p ≡ Some taken → thread_at (events run) p ≡ Some taken.event.thread
  thread_is p taken here = ap (λ o. option_map (λ e. e.thread) o) (event_is p taken here)

  -- and its operation
  op_is : (p : ℕ) (taken : Taken) → slice_get run p ≡ Some taken → op_at (events run) p ≡ Some taken.event.op
  op_is p taken here = ap (λ o. option_map (λ e. e.op) o) (event_is p taken here)

  -- a thread that is forked by the script and awake was forked at a place before
  woken : (u p : ℕ) → p ≤ length run → is_forked script u ≡ true → is_waiting script (at p) u ≡ false
      → (q : ℕ) × (e : Event) × (q < p) × (slice_get (events run) q ≡ Some e) × (e.op ≡ Fork u)
  woken u p h forked awake = forked_at script run at first step p h u (go ((at p).forked u) (rw forked at awake))
    where
      go : (b : Bool) → (true && not b) ≡ false → b ≡ true
      go true e = refl
      go false e = absurd (cc)

  -- an acquire that was not released makes its thread the owner
  owned_from : (t l since k : ℕ) → suc since + k ≤ length run → Acquires (events run) since t l
      → ((r : ℕ) → Releases (events run) r t l → since < r → r < suc since + k → ⊥) → (at (suc since + k)).owner l ≡ Some t
  owned_from t l since zero h acquires kept =
      let (taken, here) = get_in run since (omega arith) in
      let st = step since taken here in
      let own : taken.event.thread ≡ t = (let a = acquires.thread in let b = thread_is since taken here in cc) in
      let op : taken.event.op ≡ Acquire l = (let a = acquires.op in let b = op_is since taken here in cc) in
      rw add-zero (owner_step script _ _ taken st l ∙ (rw (op, own, eq-eqb l l refl) refl))
  owned_from t l since (suc k) h acquires kept =
      let within : suc since + k < length run = omega arith in
      let (taken, here) = get_in run (suc since + k) within in
      let st = step (suc since + k) taken here in
      let before : (at (suc since + k)).owner l ≡ Some t = owned_from t l since k (omega arith) acquires (λ r rel low high. kept r rel low (omega arith)) in
      rw add-suc (owner_step script _ _ taken st l ∙ stays taken here taken.event.op refl st.can before)
    where
      stays : (taken : Taken) → slice_get run (suc since + k) ≡ Some taken → (op : Op) → taken.event.op ≡ op → Can script (at (suc since + k)) taken.event.thread op
          → (at (suc since + k)).owner l ≡ Some t → holder_after l ((at (suc since + k)).owner l) taken.event.thread op ≡ Some t
      stays taken here (Acquire m) is can before = elim (cases_Bool (nat_eq m l)) [
        | inl e ↦ absurd (let same : m ≡ l = eqb-true m l e in let free = rw same at can in let no' : None ≡ Some t = sym free ∙ before in cc)
        | inr e ↦ rw e before
      ]
      stays taken here (Release m) is can before = elim (cases_Bool (nat_eq m l)) [
        | inl e ↦ absurd (
            let same : m ≡ l = eqb-true m l e in
            let mine = rw same at can in
            let own : taken.event.thread ≡ t = (let both : Some taken.event.thread ≡ Some t = sym mine ∙ before in cc) in
            kept (suc since + k) (record { thread = thread_is (suc since + k) taken here ∙ ap Some own; op = op_is (suc since + k) taken here ∙ ap Some (is ∙ ap Release same) }) (omega arith) (omega arith))
        | inr e ↦ rw e before
      ]
      stays taken here _ is can before = before

  -- a thread that holds a lock owns it
  owner_held : (t l j : ℕ) → j ≤ length run → Holds (events run) ◌<◌ j t l → (at j).owner l ≡ Some t
  owner_held t l j h holds =
      let less = holds.before in
      let apart : suc holds.since + (j - suc holds.since) ≡ j = omega arith in
      rw apart at (owned_from t l holds.since (j - suc holds.since) (omega arith) holds.acquired (λ r rel low high. holds.kept r rel low (omega arith)))

  -- an owner holds the lock
  held_owner : (t l n : ℕ) → n ≤ length run → (at n).owner l ≡ Some t → Holds (events run) ◌<◌ n t l
  held_owner t l zero h owner = absurd (let no' : None ≡ Some t = sym (ap (λ z. z.owner l) first) ∙ owner in cc)
  held_owner t l (suc n) h owner =
      let (taken, here) = get_in run n (omega arith) in
      let st = step n taken here in
      from (λ o. held_owner t l n (omega arith) o) taken here taken.event.op refl (sym (owner_step script _ _ taken st l) ∙ owner)
    where
      later : (taken : Taken) → slice_get run n ≡ Some taken → (taken.event.op ≡ Release l → ⊥) → Holds (events run) ◌<◌ n t l → Holds (events run) ◌<◌ (suc n) t l
      later taken here other holds = (let less = holds.before in record {
        since = holds.since;
        acquired = holds.acquired;
        before = omega arith;
        kept = λ r rel low high. elim (cases_eq r n) [
          | inl e ↦ other (let a = rw e at rel.op in let b = op_is n taken here in cc)
          | inr ne ↦ holds.kept r rel low (omega arith)
        ];
      })

      from : ((at n).owner l ≡ Some t → Holds (events run) ◌<◌ n t l) → (taken : Taken) → slice_get run n ≡ Some taken → (op : Op) → taken.event.op ≡ op → holder_after l ((at n).owner l) taken.event.thread op ≡ Some t → Holds (events run) ◌<◌ (suc n) t l
      from again taken here (Acquire m) is now = elim (cases_Bool (nat_eq m l)) [
        | inl e ↦
            (let mine = rw e at now in
            let own : taken.event.thread ≡ t = cc in
            record {
              since = n;
              acquired = record { thread = thread_is n taken here ∙ ap Some own; op = op_is n taken here ∙ ap Some (is ∙ ap Acquire (eqb-true m l e)) };
              before = omega arith;
              kept = λ r rel low high. omega arith;
            })
        | inr e ↦ later taken here (λ rel. (let no' : Acquire m ≡ Release l = sym is ∙ rel in cc)) (again (rw e at now))
      ]
      from again taken here (Release m) is now = elim (cases_Bool (nat_eq m l)) [
        | inl e ↦ absurd (let gone = rw e at now in cc)
        | inr e ↦ later taken here (λ rel. (let no' : Release m ≡ Release l = sym is ∙ rel in let same : m ≡ l = cc in let yes' = eq-eqb m l same in let both : true ≡ false = sym yes' ∙ e in cc)) (again (rw e at now))
      ]
      from again taken here other is now = later taken here (λ rel. (let no' : other ≡ Release l = sym is ∙ rel in cc)) (again now)

  -- a thread that is joined has ended
  joined_ended : (u i : ℕ) → op_at (events run) i ≡ Some (Join u) → (taken : Taken) × (slice_get run i ≡ Some taken) × IsEnded script (at i) u
  joined_ended u i h = go (slice_get (events run) i) refl h
    where
      go : (o : Option Event) → slice_get (events run) i ≡ o → option_map (λ e. e.op) o ≡ Some (Join u) → (taken : Taken) × (slice_get run i ≡ Some taken) × IsEnded script (at i) u
      go None e h = absurd (cc)
      go (Some event) e h =
          let (taken, here, same) = taken_at run i event e in
          let st = step i taken here in
          let is : taken.event.op ≡ Join u = (let a : event.op ≡ Join u = cc in ap (λ y. y.op) same ∙ a) in
          (taken, here, subst (λ op. Can script (at i) taken.event.thread op) is st.can)

  -- the event of a thread at a place is one of the run
  some_event : (i : ℕ) (u : ℕ) → thread_at (events run) i ≡ Some u → (taken : Taken) × (slice_get run i ≡ Some taken) × (taken.event.thread ≡ u)
  some_event i u h = go (slice_get (events run) i) refl h
    where
      go : (o : Option Event) → slice_get (events run) i ≡ o → option_map (λ e. e.thread) o ≡ Some u → (taken : Taken) × (slice_get run i ≡ Some taken) × (taken.event.thread ≡ u)
      go None e h = absurd (cc)
      go (Some event) e h =
          let (taken, here, same) = taken_at run i event e in
          (taken, here, (let a : event.thread ≡ u = cc in ap (λ y. y.thread) same ∙ a))

  -- so is the event of an operation
  some_op : (i : ℕ) (op : Op) → op_at (events run) i ≡ Some op → (taken : Taken) × (slice_get run i ≡ Some taken) × (taken.event.op ≡ op)
  some_op i op h = go (slice_get (events run) i) refl h
    where
      go : (o : Option Event) → slice_get (events run) i ≡ o → option_map (λ e. e.op) o ≡ Some op → (taken : Taken) × (slice_get run i ≡ Some taken) × (taken.event.op ≡ op)
      go None e h = absurd (cc)
      go (Some event) e h =
          let (taken, here, same) = taken_at run i event e in
          (taken, here, (let a : event.op ≡ op = cc in ap (λ y. y.op) same ∙ a))

  -- before its fork no thread is awake
  no_fork_before : (u j i : ℕ) (taken : Taken) → slice_get run j ≡ Some taken → taken.event.op ≡ Fork u → i ≤ j → is_waiting script (at i) u ≡ false → ⊥
  no_fork_before u j i taken here is low awake =
      let inside : j < length run = in_range run j taken here in
      let (q, e, less, at_q, forks_u) = woken u i (omega arith) (forked_somewhere u j taken here is) awake in
      let (a, at_a, same) = taken_at run q e at_q in
      one_fork u q j a taken (omega arith) at_a here (ap (λ y. y.op) same ∙ forks_u) is

  -- each event meets the law of locks
  lock_law : (j : ℕ) (taken : Taken) → slice_get run j ≡ Some taken → (op : Op) → Can script (at j) taken.event.thread op → LockLaw (events run) ◌<◌ j taken.event.thread op
  lock_law j taken here (Acquire l) can = λ u holds. (let inside : j < length run = in_range run j taken here in let mine = owner_held u l j (omega arith) holds in let no' : None ≡ Some u = sym can ∙ mine in cc)
  lock_law j taken here (Release l) can = (let inside : j < length run = in_range run j taken here in held_owner taken.event.thread l j (omega arith) can)
  lock_law j taken here _ can = tt

  -- each event meets the law of threads
  thread_law : (j : ℕ) (taken : Taken) → slice_get run j ≡ Some taken → (op : Op) → taken.event.op ≡ op → Can script (at j) taken.event.thread op → ThreadLaw (events run) j taken.event.thread op
  thread_law j taken here (Fork u) is can = (
    (λ own. no_fork_before u j j taken here is (omega arith) (rw own (step j taken here).awake)),
    (λ joined. (let (i, less, op) = joined in let (a, at_a, ended) = joined_ended u i op in no_fork_before u j i taken here is (omega arith) ended.awake)),
    (λ forked. (let (i, less, op) = forked in let (a, at_a, forks_u) = some_op i (Fork u) op in one_fork u i j a taken less at_a here forks_u is)),
    (λ started. (let (i, less, thread) = started in let (a, at_a, own) = some_event i u thread in no_fork_before u j i taken here is (omega arith) (subst (λ x. is_waiting script (at i) x ≡ false) own (step i a at_a).awake))),
  )
  thread_law j taken here (Join u) is ended = λ own. (let st = step j taken here in let full = subst (λ x. ((at j).thread x).left ≡ st.line ∷ st.rest) (sym own) st.next in let no' : [] ≡ st.line ∷ st.rest = sym ended.none_left ∙ full in cc)
  thread_law j taken here _ is can = tt

  -- each event meets its laws
  pub lawful : Lawful (events run)
  lawful j e h =
      let (taken, here, same) = taken_at run j e h in
      let st = step j taken here in
      subst (λ x. MeetsLaws (events run) j x) same (record {
        not_joined = λ joined. (let (i, less, op) = joined in let (a, at_a, ended) = joined_ended taken.event.thread i op in
            quiet_after_end script run at first step taken.event.thread i j taken.event ended.none_left (omega arith) (event_is j taken here) refl);
        locks = lock_law j taken here taken.event.op st.can;
        threads = thread_law j taken here taken.event.op refl st.can;
      })

-- a run of a script that forks no thread twice is a lawful trace
pub runs_lawful : (script : Script) (run : List Taken) (end : State) → ForksOnce script → Run script (start script) run end → Lawful (events run)
runs_lawful script run end once runs =
    lawful script run (state_at script run (start script) end runs) (state_at-zero script run (start script) end runs)
    (state_at-step script run (start script) end runs) once
