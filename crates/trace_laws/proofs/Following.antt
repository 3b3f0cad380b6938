-- The laws of an event of a trace read the events before it alone.
use Rattle.std.proofs.Common.{◌≡◌, ℕ, ◌<◌, List, [], ◌∷◌, ◌++◌, length, Some, sym, ap, ◌∙◌, arith, append_assoc, length-append}
use Rattle.std.specs.Prelude.{slice_get}
use Rattle.std.specs.Option.{option_map}
use Rattle.trace_laws.specs.Event.{Event}
use Rattle.trace_laws.specs.declared.event.Op.{Op}
use Rattle.trace_laws.specs.declared.event.Op.TheVariants.{Read, Write, Acquire, Release, Fork, Join}
use Rattle.trace_laws.specs.Trace.{thread_at, op_at, Holds, LockLaw, ThreadLaw, IsJoined, MayFollow, Lawful}
use Rattle.trace_laws.proofs.Places.{slice_get-append_left, slice_get-append_seam}

-- a trace, and the events behind it
module _ (front more : List Event) where
  -- a place of the front has the same operation
  op_same : (i : ℕ) → i < length front → op_at (front ++ more) i ≡ op_at front i
  op_same i less = ap (option_map (λ (x : Event). x.op)) (slice_get-append_left front more i less)

  -- and the same thread
  thread_same : (i : ℕ) → i < length front → thread_at (front ++ more) i ≡ thread_at front i
  thread_same i less = ap (option_map (λ (x : Event). x.thread)) (slice_get-append_left front more i less)

  -- what is held in the whole at the end of the front is held in the front
  holds_in_front : (t l : ℕ) → Holds (front ++ more) ◌<◌ (length front) t l → Holds front ◌<◌ (length front) t l
  holds_in_front t l h = record {
    since = h.since;
    acquired = record { thread = sym (thread_same h.since h.before) ∙ h.acquired.thread; op = sym (op_same h.since h.before) ∙ h.acquired.op };
    before = h.before;
    kept = λ r releases after until. h.kept r (record { thread = thread_same r until ∙ releases.thread; op = op_same r until ∙ releases.op }) after until;
  }

  -- and the other way round
  holds_in_whole : (t l : ℕ) → Holds front ◌<◌ (length front) t l → Holds (front ++ more) ◌<◌ (length front) t l
  holds_in_whole t l h = record {
    since = h.since;
    acquired = record { thread = thread_same h.since h.before ∙ h.acquired.thread; op = op_same h.since h.before ∙ h.acquired.op };
    before = h.before;
    kept = λ r releases after until. h.kept r (record { thread = sym (thread_same r until) ∙ releases.thread; op = sym (op_same r until) ∙ releases.op }) after until;
  }

  -- so the law of the event behind the front is the law after the front
  law_in_front : (t : ℕ) (o : Op) → LockLaw (front ++ more) ◌<◌ (length front) t o → LockLaw front ◌<◌ (length front) t o
  law_in_front t (Acquire l) free = λ u h. free u (holds_in_whole u l h)
  law_in_front t (Release l) own = holds_in_front t l own
  law_in_front t (Read x) law = tt
  law_in_front t (Write x) law = tt
  law_in_front t (Fork u) law = tt
  law_in_front t (Join u) law = tt

  -- what is joined, forked or started in the front is so in the whole
  joined_in_whole : (u : ℕ) → IsJoined front (length front) u → IsJoined (front ++ more) (length front) u
  joined_in_whole u h = (h.0, h.1, op_same h.0 h.1 ∙ h.2)

  -- the law of threads of the event behind the front is that after the front
  threads_in_front : (t : ℕ) (o : Op) → ThreadLaw (front ++ more) (length front) t o → ThreadLaw front (length front) t o
  threads_in_front t (Fork u) law = (law.0, (λ h. law.1 (joined_in_whole u h)), (λ h. law.2 (h.0, h.1, op_same h.0 h.1 ∙ h.2)), (λ h. law.3 (h.0, h.1, thread_same h.0 h.1 ∙ h.2)))
  threads_in_front t (Join u) law = law
  threads_in_front t (Acquire l) law = tt
  threads_in_front t (Release l) law = tt
  threads_in_front t (Read x) law = tt
  threads_in_front t (Write x) law = tt

-- an event of a lawful trace may follow those before it
pub follows_front : (front back : List Event) (e : Event) → Lawful (front ++ e ∷ back) → MayFollow front e
follows_front front back e lawful =
    let whole : (front ++ e ∷ []) ++ back ≡ front ++ e ∷ back = append_assoc front (e ∷ []) back in
    let last : slice_get (front ++ e ∷ []) (length front) ≡ Some e = slice_get-append_seam front e in
    let at : slice_get (front ++ e ∷ back) (length front) ≡ Some e = ap (λ (xs : List Event). slice_get xs (length front)) (sym whole) ∙ slice_get-append_left (front ++ e ∷ []) back (length front) (omega (arith, length-append front (e ∷ []))) ∙ last in
    let laws = lawful (length front) e at in record {
      not_joined = λ h. laws.not_joined (joined_in_whole front (e ∷ back) e.thread h);
      locks = law_in_front front (e ∷ back) e.thread e.op laws.locks;
      threads = threads_in_front front (e ∷ back) e.thread e.op laws.threads;
    }
