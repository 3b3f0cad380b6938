-- A correct reordering, stated by the order of its list, is one stated by what stands before each of its places.
use Rattle.std.specs.Option.{option_map}
use Rattle.std.proofs.Common.{◌≡◌, ℕ, zero, suc, ◌+◌, ◌-◌, ◌<◌, ◌≤◌, Bool, true, false, cond, inl, inr, List, [], ◌∷◌, ◌++◌, nat_eq, slice_get, length, take, Contains, Option, Some, None, refl, sym, ap, ◌∙◌, subst, eqb-true, eq-eqb, take_at, length-append, arith, add-zero, add-suc}
use Rattle.std.proofs.lemmas.Bool.{cases_Bool, cases_eq, cases_order}
use Rattle.std.proofs.lemmas.Option.{slice_get-get_or}
use Rattle.std.proofs.lemmas.List.{take_all}
use Rattle.std.proofs.lemmas.List.Sums.{fold_push}
use Rattle.trace_laws.specs.declared.event.Op.{Op}
use Rattle.trace_laws.specs.declared.event.Op.TheVariants.{Read, Write, Acquire, Release, Fork, Join}
use Rattle.trace_laws.specs.Event.{Event}
use Rattle.trace_laws.specs.Trace.{Reads, Writes, Acquires, Releases, Holds, IsWriter, LockLaw as OrderLaw, Before as OrderBefore, same_thread, fork_event, event_join, fork_join}
use Rattle.trace_laws.specs.Reordering.{Earlier, CorrectReordering}
use Rattle.trace_laws.proofs.Places.{contains_at, slice_get-append_left, thread_from_event, op_from_event}
use Rattle.script_machine.proofs.Steps.{get_in, in_range, holder_after}
use Rattle.replayer.specs.Replays.{along}
use Rattle.replayer.proofs.Along.{upto, Before, holder, writes_by, is_write, last_write, LockLaw, Reordering, holder_push}

-- the index of an element
pub index_of : (xs : List ℕ) (x : ℕ) → Contains xs x → (k : ℕ) × (k < length xs) × (slice_get xs k ≡ Some x)
index_of xs x (k, less, same) = (k, less, slice_get-get_or xs k x less ∙ ap Some same)

-- the first element after the front
slice_mid : {X : Type 0} (xs : List X) (x : X) (ys : List X) → slice_get (xs ++ x ∷ ys) (length xs) ≡ Some x
slice_mid [] x ys = refl
slice_mid (y ∷ xs) x ys = slice_mid xs x ys

-- one more element of a front
pub take_snoc : {X : Type 0} (xs : List X) (n : ℕ) (x : X) → slice_get xs n ≡ Some x → take (suc n) xs ≡ take n xs ++ x ∷ []
take_snoc [] n x h = absurd (cc)
take_snoc (y ∷ ys) zero x h = let same : y ≡ x = cc in ap (λ z. z ∷ []) same
take_snoc (y ∷ ys) (suc n) x h = ap (λ zs. y ∷ zs) (take_snoc ys n x h)

-- program order by events is program order
pub before_too : (trace : List Event) (i j : ℕ) → Before trace i j → OrderBefore trace i j
before_too trace i j b = elim b.order [
  | inl same ↦ same_thread b.first.thread b.less (thread_from_event trace i b.first b.at_first) (thread_from_event trace j b.second b.at_second ∙ ap Some (sym same))
  | inr (inl forks) ↦ fork_event b.second.thread b.less (op_from_event trace i b.first b.at_first ∙ ap Some forks) (thread_from_event trace j b.second b.at_second)
  | inr (inr (inl joins)) ↦ event_join b.first.thread b.less (thread_from_event trace i b.first b.at_first) (op_from_event trace j b.second b.at_second ∙ ap Some joins)
  | inr (inr (inr both)) ↦ fork_join both.0 b.less (op_from_event trace i b.first b.at_first ∙ ap Some both.1) (op_from_event trace j b.second b.at_second ∙ ap Some both.2)
]

-- the last write of x among the first n places
data LastOf (trace : List Event) (places : List ℕ) (x n : ℕ) : Option ℕ → Type 0 where
  nowhere : ((k v : ℕ) → k < n → slice_get places k ≡ Some v → Writes trace v x → ⊥) → LastOf trace places x n None
  somewhere : (k w : ℕ) → k < n → slice_get places k ≡ Some w → Writes trace w x
      → ((m v : ℕ) → k < m → m < n → slice_get places m ≡ Some v → Writes trace v x → ⊥) → LastOf trace places x n (Some w)

-- a place that is found to write does so
writes_of : (trace : List Event) (v x : ℕ) → is_write x (slice_get trace v) ≡ true → Writes trace v x
writes_of trace v x h = go (slice_get trace v) refl h
  where
    by : (op : Op) → writes_by x op ≡ true → op ≡ Write x
    by (Write y) h = ap Write (eqb-true y x h)
    by (Read y) h = absurd (cc)
    by (Acquire y) h = absurd (cc)
    by (Release y) h = absurd (cc)
    by (Fork y) h = absurd (cc)
    by (Join y) h = absurd (cc)

    go : (o : Option Event) → slice_get trace v ≡ o → is_write x o ≡ true → Writes trace v x
    go None e h = absurd (cc)
    go (Some event) e h = op_from_event trace v event e ∙ ap Some (by event.op h)

-- a place that writes is found to
is_write_of : (trace : List Event) (v x : ℕ) → Writes trace v x → is_write x (slice_get trace v) ≡ true
is_write_of trace v x h = go (slice_get trace v) refl h
  where
    go : (o : Option Event) → slice_get trace v ≡ o → option_map (λ e. e.op) o ≡ Some (Write x) → is_write x o ≡ true
    go None e h = absurd (cc)
    go (Some event) e h = let same : event.op ≡ Write x = cc in rw same (eq-eqb x x refl)

-- the last write is the one that the fold finds
last_of : (trace : List Event) (places : List ℕ) (x n : ℕ) → n ≤ length places → LastOf trace places x n (last_write trace x (take n places))
last_of trace places x zero h = nowhere (λ k v less here writes. omega arith)
last_of trace places x (suc n) h =
    let (q, here) = get_in places n (omega arith) in
    subst (λ xs. LastOf trace places x (suc n) (last_write trace x xs)) (sym (take_snoc places n q here))
    (subst (λ o. LastOf trace places x (suc n) o) (sym (fold_push _ None (take n places) q))
    (go q here (is_write x (slice_get trace q)) refl (last_write trace x (take n places)) (last_of trace places x n (omega arith))))
  where
    go : (q : ℕ) → slice_get places n ≡ Some q → (t : Bool) → is_write x (slice_get trace q) ≡ t → (o : Option ℕ) → LastOf trace places x n o → LastOf trace places x (suc n) (cond t (Some q) o)
    go q here true e o last = somewhere n q (omega arith) here (writes_of trace q x e) (λ m v low high at w. omega arith)
    go q here false e None (nowhere none) = nowhere (λ k v less at w. elim (cases_eq k n) [
      | inl same ↦ (let at_n = rw same at at in let both : v ≡ q = cc in let wr = is_write_of trace v x w in let wr' = rw both at wr in let no' : true ≡ false = sym wr' ∙ e in cc)
      | inr ne ↦ none k v (omega arith) at w
    ])
    go q here false e (Some u) (somewhere k w less at_w wr later) = somewhere k w (omega arith) at_w wr (λ m v low high at ww. elim (cases_eq m n) [
      | inl same ↦ (let at_n = rw same at at in let both : v ≡ q = cc in let wr' = is_write_of trace v x ww in let wr2 = rw both at wr' in let no' : true ≡ false = sym wr2 ∙ e in cc)
      | inr ne ↦ later m v low (omega arith) at ww
    ])

module _ (trace : List Event) (places : List ℕ) (correct : CorrectReordering trace places) where
  -- the order of two indices is the order of their places
  earlier_at : (a b i j : ℕ) → a < b → slice_get places a ≡ Some i → slice_get places b ≡ Some j → Earlier places i j
  earlier_at a b i j less at_i at_j = record { first = a; second = b; rises = less; at_first = at_i; at_second = at_j }

  -- the event at an index of the list
  event_there : (n q : ℕ) → slice_get places n ≡ Some q → (e : Event) × (slice_get trace q ≡ Some e)
  event_there n q at_q = get_in trace q (correct.within q (contains_at places n q at_q))

  -- who holds a lock after one more place
  held_next : (n q : ℕ) (e : Event) (l : ℕ) → slice_get places n ≡ Some q → slice_get trace q ≡ Some e
      → holder l (along trace (take (suc n) places)) ≡ holder_after l (holder l (along trace (take n places))) e.thread e.op
  held_next n q e l at_q here = ap (λ xs. holder l (along trace xs)) (take_snoc places n q at_q) ∙ holder_push trace (take n places) q e l here

  -- whoever holds the lock has acquired it and not released it since
  record Keeps (n l u : ℕ) : Type 0 where
    index : ℕ
    since : ℕ
    less : index < n
    at_since : slice_get places index ≡ Some since
    acquired : Acquires trace since u l
    kept : (m r : ℕ) → index < m → m < n → slice_get places m ≡ Some r → Releases trace r u l → ⊥

  -- the holder keeps the lock
  keeps_of : (n l u : ℕ) → n ≤ length places → holder l (along trace (take n places)) ≡ Some u → Keeps n l u
  keeps_of zero l u h is = absurd (cc)
  keeps_of (suc n) l u h is =
      let (q, at_q) = get_in places n (omega arith) in
      let (e, here) = event_there n q at_q in
      from q at_q e here (λ o. keeps_of n l u (omega arith) o) e.op refl (sym (held_next n q e l at_q here) ∙ is)
    where
      later : (q : ℕ) → slice_get places n ≡ Some q → (e : Event) → slice_get trace q ≡ Some e → (e.op ≡ Release l → ⊥) → Keeps n l u → Keeps (suc n) l u
      later q at_q e here other k = (let less = k.less in record {
        index = k.index;
        since = k.since;
        less = omega arith;
        at_since = k.at_since;
        acquired = k.acquired;
        kept = λ m r low high at_r rel. elim (cases_eq m n) [
          | inl same ↦ (let at_n = rw same at at_r in let both : r ≡ q = cc in let o = rw both at rel.op in let o' = op_from_event trace q e here in other cc)
          | inr ne ↦ k.kept m r low (omega arith) at_r rel
        ];
      })

      from : (q : ℕ) → slice_get places n ≡ Some q → (e : Event) → slice_get trace q ≡ Some e
          → (holder l (along trace (take n places)) ≡ Some u → Keeps n l u)
          → (op : Op) → e.op ≡ op → holder_after l (holder l (along trace (take n places))) e.thread op ≡ Some u → Keeps (suc n) l u
      from q at_q e here again (Acquire m) is now = elim (cases_Bool (nat_eq m l)) [
        | inl t ↦
            (let mine = rw t at now in
            let own : e.thread ≡ u = cc in
            record {
              index = n;
              since = q;
              less = omega arith;
              at_since = at_q;
              acquired = record { thread = thread_from_event trace q e here ∙ ap Some own; op = op_from_event trace q e here ∙ ap Some (is ∙ ap Acquire (eqb-true m l t)) };
              kept = λ m r low high at_r rel. omega arith;
            })
        | inr t ↦ later q at_q e here (λ rel. (let no' : Acquire m ≡ Release l = sym is ∙ rel in cc)) (again (rw t at now))
      ]
      from q at_q e here again (Release m) is now = elim (cases_Bool (nat_eq m l)) [
        | inl t ↦ absurd (let gone = rw t at now in cc)
        | inr t ↦ later q at_q e here (λ rel. (let no' : Release m ≡ Release l = sym is ∙ rel in let same : m ≡ l = cc in let yes' = eq-eqb m l same in let both : true ≡ false = sym yes' ∙ t in cc)) (again (rw t at now))
      ]
      from q at_q e here again other is now = later q at_q e here (λ rel. (let no' : other ≡ Release l = sym is ∙ rel in cc)) (again now)

  -- so it holds the lock along the order of the list
  holds_of : (n p l u : ℕ) → slice_get places n ≡ Some p → Keeps n l u → Holds trace (Earlier places) p u l
  holds_of n p l u at_p k = record {
    since = k.since;
    acquired = k.acquired;
    before = earlier_at k.index n k.since p k.less k.at_since at_p;
    kept = λ r rel low high.
        (let a : low.first ≡ k.index = correct.distinct low.first k.index k.since low.at_first k.at_since in
        let b : high.first ≡ low.second = correct.distinct high.first low.second r high.at_first low.at_second in
        let c : high.second ≡ n = correct.distinct high.second n p high.at_second at_p in
        let rise = low.rises in
        let rise2 = high.rises in
        k.kept low.second r (omega arith) (omega arith) low.at_second rel);
  }

  -- and whoever holds it along that order holds it
  held_of : (bound n : ℕ) → n < bound → (p l t : ℕ) → slice_get places n ≡ Some p → Holds trace (Earlier places) p t l → holder l (along trace (take n places)) ≡ Some t
  held_of zero n h p l t at_p holds = absurd (omega arith)
  held_of (suc bound) n h p l t at_p holds =
      let at_end : holds.before.second ≡ n = correct.distinct holds.before.second n p holds.before.at_second at_p in
      let rise = holds.before.rises in
      let apart : suc holds.before.first + (n - suc holds.before.first) ≡ n = omega arith in
      rw apart at (climb (λ m less q u at_q other. held_of bound m (omega arith) q l u at_q other) (n - suc holds.before.first) (omega arith))
    where
      climb : ((m : ℕ) → m < n → (q u : ℕ) → slice_get places m ≡ Some q → Holds trace (Earlier places) q u l → holder l (along trace (take m places)) ≡ Some u)
          → (k : ℕ) → suc holds.before.first + k ≤ n → holder l (along trace (take (suc holds.before.first + k) places)) ≡ Some t
      climb strong zero high =
          let (e, here) = event_there holds.before.first holds.since holds.before.at_first in
          let own : e.thread ≡ t = (let a = holds.acquired.thread in let b = thread_from_event trace holds.since e here in cc) in
          let op : e.op ≡ Acquire l = (let a = holds.acquired.op in let b = op_from_event trace holds.since e here in cc) in
          rw add-zero (held_next holds.before.first holds.since e l holds.before.at_first here ∙ (rw (op, own, eq-eqb l l refl) refl))
      climb strong (suc k) high =
          let inside : n < length places = in_range places n p at_p in
          let m : ℕ = suc holds.before.first + k in
          let (q, at_q) = get_in places (suc holds.before.first + k) (omega arith) in
          let (e, here) = event_there (suc holds.before.first + k) q at_q in
          let before : holder l (along trace (take (suc holds.before.first + k) places)) ≡ Some t = climb strong k (omega arith) in
          rw add-suc (held_next (suc holds.before.first + k) q e l at_q here
          ∙ stays k q at_q e here (omega arith) (λ u other. strong (suc holds.before.first + k) (omega arith) q u at_q other) e.op refl
          (correct.locks q e (contains_at places (suc holds.before.first + k) q at_q) here) before)
        where
          stays : (k q : ℕ) → slice_get places (suc holds.before.first + k) ≡ Some q → (e : Event) → slice_get trace q ≡ Some e → suc holds.before.first + k < n
              → ((u : ℕ) → Holds trace (Earlier places) q u l → holder l (along trace (take (suc holds.before.first + k) places)) ≡ Some u)
              → (op : Op) → e.op ≡ op → OrderLaw trace (Earlier places) q e.thread op
              → holder l (along trace (take (suc holds.before.first + k) places)) ≡ Some t
              → holder_after l (holder l (along trace (take (suc holds.before.first + k) places))) e.thread op ≡ Some t
          stays k q at_q e here less strong (Acquire m) is law before = elim (cases_Bool (nat_eq m l)) [
            | inl x ↦ absurd (
                let same : m ≡ l = eqb-true m l x in
                law t (record {
                  since = holds.since;
                  acquired = subst (λ y. Acquires trace holds.since t y) (sym same) holds.acquired;
                  before = earlier_at holds.before.first (suc holds.before.first + k) holds.since q (omega arith) holds.before.at_first at_q;
                  kept = λ r rel low high.
                      (let a : high.second ≡ suc holds.before.first + k = correct.distinct high.second (suc holds.before.first + k) q high.at_second at_q in
                      let rise = high.rises in
                      holds.kept r (subst (λ y. Releases trace r t y) same rel) low (earlier_at high.first n r p (omega arith) high.at_first at_p));
                }))
            | inr x ↦ rw x before
          ]
          stays k q at_q e here less strong (Release m) is law before = elim (cases_Bool (nat_eq m l)) [
            | inl x ↦ absurd (
                let same : m ≡ l = eqb-true m l x in
                let by' = strong e.thread (subst (λ y. Holds trace (Earlier places) q e.thread y) same law) in
                let own : e.thread ≡ t = (let both : Some e.thread ≡ Some t = sym by' ∙ before in cc) in
                holds.kept q (record { thread = thread_from_event trace q e here ∙ ap Some own; op = op_from_event trace q e here ∙ ap Some (is ∙ ap Release same) })
                (earlier_at holds.before.first (suc holds.before.first + k) holds.since q (omega arith) holds.before.at_first at_q)
                (earlier_at (suc holds.before.first + k) n q p less at_q at_p))
            | inr x ↦ rw x before
          ]
          stays k q at_q e here less strong other is law before = before

  -- the law of locks along the order is that of the holder
  law_of : (n p : ℕ) (e : Event) → slice_get places n ≡ Some p → slice_get trace p ≡ Some e → (op : Op) → OrderLaw trace (Earlier places) p e.thread op → LockLaw (along trace (take n places)) e.thread op
  law_of n p e at_p here (Acquire l) law = go (holder l (along trace (take n places))) refl
    where
      go : (o : Option ℕ) → holder l (along trace (take n places)) ≡ o → holder l (along trace (take n places)) ≡ None
      go None is = is
      go (Some u) is = absurd (law u (holds_of n p l u at_p (keeps_of n l u (let inside : n < length places = in_range places n p at_p in omega arith) is)))
  law_of n p e at_p here (Release l) law = held_of (suc n) n (omega arith) p l e.thread at_p law
  law_of n p e at_p here other law = tt

  -- the writer along the list is the writer along the order of the list
  writer_of : (n p x : ℕ) → slice_get places n ≡ Some p → (w : Option ℕ) → IsWriter trace (Earlier places) p x w → last_write trace x (take n places) ≡ w
  writer_of n p x at_p w is = go (last_write trace x (take n places)) w is (last_of trace places x n (let inside : n < length places = in_range places n p at_p in omega arith))
    where
      go : (o w : Option ℕ) → IsWriter trace (Earlier places) p x w → LastOf trace places x n o → o ≡ w
      go None None is (nowhere none) = refl
      go None (Some a) is (nowhere none) =
          let at_end : is.before.second ≡ n = correct.distinct is.before.second n p is.before.at_second at_p in
          let rise = is.before.rises in
          absurd (none is.before.first a (omega arith) is.before.at_first is.writes)
      go (Some b) None is (somewhere k b' less at_b wr later) = absurd (is b wr (earlier_at k n b p less at_b at_p))
      go (Some b) (Some a) is (somewhere k b' less at_b wr later) =
          let at_end : is.before.second ≡ n = correct.distinct is.before.second n p is.before.at_second at_p in
          let rise = is.before.rises in
          elim (cases_order k is.before.first) [
            | inl same ↦ (let there = rw same at at_b in let at_a = is.before.at_first in cc)
            | inr (inl first) ↦ absurd (later is.before.first a first (omega arith) is.before.at_first is.writes)
            | inr (inr after) ↦ absurd (is.last b wr (earlier_at is.before.first k a b after is.before.at_first at_b) (earlier_at k n b p less at_b at_p))
          ]

-- the places of a trace in their own order
upto_length : (n : ℕ) → length (upto n) ≡ n
upto_length zero = refl
upto_length (suc n) = let ih = upto_length n in omega (arith, length-append (upto n) (n ∷ []))

-- each of them is its own index
upto_at : (n k : ℕ) → k < n → slice_get (upto n) k ≡ Some k
upto_at zero k h = absurd (omega arith)
upto_at (suc n) k h = elim (cases_eq k n) [
  | inl same ↦ rw same (let mid = slice_mid (upto n) n [] in let there = rw (upto_length n) at mid in there)
  | inr ne ↦ slice_get-append_left (upto n) (n ∷ []) k (let l = upto_length n in omega arith) ∙ upto_at n k (omega arith)
]

-- the writer of a read in the trace
writer_in : (trace : List Event) (p x : ℕ) → IsWriter trace ◌<◌ p x (last_write trace x (upto p))
writer_in trace p x =
    let all : take p (upto p) ≡ upto p = take_all p (upto p) (let l = upto_length p in omega arith) in
    let last = subst (λ xs. LastOf trace (upto p) x p (last_write trace x xs)) all (last_of trace (upto p) x p (let l = upto_length p in omega arith)) in
    go (last_write trace x (upto p)) last
  where
    go : (o : Option ℕ) → LastOf trace (upto p) x p o → IsWriter trace ◌<◌ p x o
    go None (nowhere none) = λ v wr less. none v v less (upto_at p v less) wr
    go (Some w) (somewhere k w' less at_w wr later) =
        let here = upto_at p k less in
        let same : k ≡ w = cc in
        record {
          writes = wr;
          before = omega arith;
          last = λ v wv low high. later v v (omega arith) high (upto_at p v high) wv;
        }

-- a correct reordering has each place after those that it needs
pub bridge : (trace : List Event) (places : List ℕ) → CorrectReordering trace places → Reordering trace places
bridge trace places correct done p rest split =
    let n : ℕ = length done in
    let at_p : slice_get places n ≡ Some p = ap (λ xs. slice_get xs n) split ∙ slice_mid done p rest in
    let there : Contains places p = contains_at places n p at_p in
    let (event, here) = get_in trace p (correct.within p there) in
    let front : take n places ≡ done = ap (take n) split ∙ take_at done (p ∷ rest) n refl in
    let old : (k i : ℕ) → k < n → slice_get done k ≡ Some i → slice_get places k ≡ Some i =
    λ k i less at_i. ap (λ xs. slice_get xs k) split ∙ slice_get-append_left done (p ∷ rest) k less ∙ at_i in
    let new : (k i : ℕ) → k < n → slice_get places k ≡ Some i → slice_get done k ≡ Some i =
    λ k i less at_i. sym (slice_get-append_left done (p ∷ rest) k less) ∙ ap (λ xs. slice_get xs k) (sym split) ∙ at_i in
    record {
      event = event;
      here = here;
      once = λ inside. (let (k, less, at_k) = index_of done p inside in
          let same : k ≡ n = correct.distinct k n p (old k p less at_k) at_p in omega arith);
      after = λ i before. (let e = correct.program i p there (before_too trace i p before) in
          let at_end : e.second ≡ n = correct.distinct e.second n p e.at_second at_p in
          let rise = e.rises in
          contains_at done e.first i (new e.first i (omega arith) e.at_first));
      law = subst (λ xs. LockLaw (along trace xs) event.thread event.op) front (law_of trace places correct n p event at_p here event.op (correct.locks p event there here));
      writer = λ x reads.
          (let read : Reads trace p x = op_from_event trace p event here ∙ ap Some reads in
          subst (λ xs. last_write trace x xs ≡ last_write trace x (upto p)) front
          (writer_of trace places correct n p x at_p (last_write trace x (upto p)) (correct.writers p x (last_write trace x (upto p)) there read (writer_in trace p x))));
    }
