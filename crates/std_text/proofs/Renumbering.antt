-- Events whose names have other numbers: the law that they break stays.
use Rattle.std.proofs.Common.{◌≡◌, ℕ, Bool, true, false, ◌==◌, cond, List, [], ◌∷◌, ◌++◌, map, Option, Some, None, refl, sym, ap, ◌∙◌}
use Rattle.std.specs.Option.{option_map}
use Rattle.trace_laws.specs.Event.{Event}
use Rattle.trace_laws.specs.declared.event.Op.{Op}
use Rattle.trace_laws.specs.declared.event.Op.TheVariants.{Read, Write, Acquire, Release, Fork, Join}
use Rattle.trace_laws.specs.declared.builder.LawFault.TheVariants as law
use Rattle.std_text.specs.Law.{held_after, holder_from, holder, is_fork_of, is_join_of, was_forked, is_joined, has_started, acquire_fault, release_fault, operation_fault, law_fault}
use Rattle.std_text.proofs.Numbering.{has, place, with_number, has_new, has_more, place_more, same_place}

-- the numbers that came, of each kind
pub record Came : Type 0 where
  pub threads : List ℕ
  pub locks : List ℕ
  pub vars : List ℕ

-- an operation by the places of its numbers
abbrev pub op_with : Came → Op → Op
op_with g (Read x) = Read (place g.vars x)
op_with g (Write x) = Write (place g.vars x)
op_with g (Acquire l) = Acquire (place g.locks l)
op_with g (Release l) = Release (place g.locks l)
op_with g (Fork u) = Fork (place g.threads u)
op_with g (Join u) = Join (place g.threads u)

-- an event by them
abbrev pub event_with : Came → Event → Event
event_with g e = record { thread = place g.threads e.thread; op = op_with g e.op; loc = e.loc }

-- what an operation is on came
abbrev pub HasOperand : Came → Op → Type 0
HasOperand g (Read x) = has g.vars x ≡ true
HasOperand g (Write x) = has g.vars x ≡ true
HasOperand g (Acquire l) = has g.locks l ≡ true
HasOperand g (Release l) = has g.locks l ≡ true
HasOperand g (Fork u) = has g.threads u ≡ true
HasOperand g (Join u) = has g.threads u ≡ true

-- all that an event names came
pub record HasAll (g : Came) (e : Event) : Type 0 where
  pub thread : has g.threads e.thread ≡ true
  pub operand : HasOperand g e.op

-- all that events name came
abbrev pub HaveAll : Came → List Event → Type 0
HaveAll g [] = Unit {0}
HaveAll g (e ∷ events) = HasAll g e × HaveAll g events

-- ---- more numbers

-- numbers that came keep their places
pub record Keeps (old new : Came) : Type 0 where
  pub threads : (n : ℕ) → has old.threads n ≡ true → (has new.threads n ≡ true) × (place new.threads n ≡ place old.threads n)
  pub locks : (n : ℕ) → has old.locks n ≡ true → (has new.locks n ≡ true) × (place new.locks n ≡ place old.locks n)
  pub vars : (n : ℕ) → has old.vars n ≡ true → (has new.vars n ≡ true) × (place new.vars n ≡ place old.vars n)

-- where a thread comes
abbrev pub with_thread_number : Came → ℕ → Came
with_thread_number g t = record g { threads = with_number g.threads t }

-- where what an operation is on comes
abbrev pub with_operand_number : Came → Op → Came
with_operand_number g (Read x) = record g { vars = with_number g.vars x }
with_operand_number g (Write x) = record g { vars = with_number g.vars x }
with_operand_number g (Acquire l) = record g { locks = with_number g.locks l }
with_operand_number g (Release l) = record g { locks = with_number g.locks l }
with_operand_number g (Fork u) = with_thread_number g u
with_operand_number g (Join u) = with_thread_number g u

-- where what an event names comes
abbrev pub with_event : Came → Event → Came
with_event g e = with_operand_number (with_thread_number g e.thread) e.op

-- one list
keeps_one : (came : List ℕ) (n m : ℕ) → has came m ≡ true → (has (with_number came n) m ≡ true) × (place (with_number came n) m ≡ place came m)
keeps_one came n m h = (has_more came n m h, place_more came n m h)

-- and another that stays
keeps_same : (came : List ℕ) (m : ℕ) → has came m ≡ true → (has came m ≡ true) × (place came m ≡ place came m)
keeps_same came m h = (h, refl)

keeps_thread : (g : Came) (t : ℕ) → Keeps g (with_thread_number g t)
keeps_thread g t = record { threads = keeps_one g.threads t; locks = keeps_same g.locks; vars = keeps_same g.vars }

keeps_operand : (g : Came) (o : Op) → Keeps g (with_operand_number g o)
keeps_operand g (Read x) = record { threads = keeps_same g.threads; locks = keeps_same g.locks; vars = keeps_one g.vars x }
keeps_operand g (Write x) = record { threads = keeps_same g.threads; locks = keeps_same g.locks; vars = keeps_one g.vars x }
keeps_operand g (Acquire l) = record { threads = keeps_same g.threads; locks = keeps_one g.locks l; vars = keeps_same g.vars }
keeps_operand g (Release l) = record { threads = keeps_same g.threads; locks = keeps_one g.locks l; vars = keeps_same g.vars }
keeps_operand g (Fork u) = keeps_thread g u
keeps_operand g (Join u) = keeps_thread g u

keeps_both : (first second third : Came) → Keeps first second → Keeps second third → Keeps first third
keeps_both first second third a b = record {
  threads = λ n h. let p = a.threads n h in let q = b.threads n p.0 in (q.0, q.1 ∙ p.1);
  locks = λ n h. let p = a.locks n h in let q = b.locks n p.0 in (q.0, q.1 ∙ p.1);
  vars = λ n h. let p = a.vars n h in let q = b.vars n p.0 in (q.0, q.1 ∙ p.1);
}

-- where an event comes
pub keeps_event : (g : Came) (e : Event) → Keeps g (with_event g e)
keeps_event g e = keeps_both g (with_thread_number g e.thread) (with_event g e) (keeps_thread g e.thread) (keeps_operand (with_thread_number g e.thread) e.op)

-- what it names came then
has_operand : (g : Came) (o : Op) → HasOperand (with_operand_number g o) o
has_operand g (Read x) = has_new g.vars x
has_operand g (Write x) = has_new g.vars x
has_operand g (Acquire l) = has_new g.locks l
has_operand g (Release l) = has_new g.locks l
has_operand g (Fork u) = has_new g.threads u
has_operand g (Join u) = has_new g.threads u

pub has_event : (g : Came) (e : Event) → HasAll (with_event g e) e
has_event g e = record { thread = ((keeps_operand (with_thread_number g e.thread) e.op).threads e.thread (has_new g.threads e.thread)).0; operand = has_operand (with_thread_number g e.thread) e.op }

-- the thread of the event has its place before the operand comes
pub thread_place : (g : Came) (e : Event) → place (with_event g e).threads e.thread ≡ place (with_thread_number g e.thread).threads e.thread
thread_place g e = ((keeps_operand (with_thread_number g e.thread) e.op).threads e.thread (has_new g.threads e.thread)).1

-- events that came stay
more_operand : (old new : Came) (o : Op) → Keeps old new → HasOperand old o → HasOperand new o × (op_with new o ≡ op_with old o)
more_operand old new (Read x) keeps h = let k = keeps.vars x h in (k.0, ap Read k.1)
more_operand old new (Write x) keeps h = let k = keeps.vars x h in (k.0, ap Write k.1)
more_operand old new (Acquire l) keeps h = let k = keeps.locks l h in (k.0, ap Acquire k.1)
more_operand old new (Release l) keeps h = let k = keeps.locks l h in (k.0, ap Release k.1)
more_operand old new (Fork u) keeps h = let k = keeps.threads u h in (k.0, ap Fork k.1)
more_operand old new (Join u) keeps h = let k = keeps.threads u h in (k.0, ap Join k.1)

pub more_events : (old new : Came) (events : List Event) → Keeps old new → HaveAll old events → HaveAll new events × (map (event_with new) events ≡ map (event_with old) events)
more_events old new [] keeps h = (tt, refl)
more_events old new (e ∷ events) keeps h =
    let t = keeps.threads e.thread h.0.thread in
    let o = more_operand old new e.op keeps h.0.operand in
    let rest = more_events old new events keeps h.1 in
    ((record { thread = t.0; operand = o.0 }, rest.0), rw (t.1, o.1, rest.1) refl)

-- and one event more
pub have_push : (g : Came) (events : List Event) (e : Event) → HaveAll g events → HasAll g e → HaveAll g (events ++ e ∷ [])
have_push g [] e h k = (k, tt)
have_push g (d ∷ events) e h k = (h.0, have_push g events e h.1 k)

-- ---- the law

module _ (g : Came) where
  -- two locks and two threads are one where their places are
  fork_same : (t : ℕ) (o : Op) → HasOperand g o → has g.threads t ≡ true → is_fork_of (place g.threads t) (op_with g o) ≡ is_fork_of t o
  fork_same t (Fork u) h k = same_place g.threads u t h k
  fork_same t (Join u) h k = refl
  fork_same t (Read x) h k = refl
  fork_same t (Write x) h k = refl
  fork_same t (Acquire l) h k = refl
  fork_same t (Release l) h k = refl

  join_same : (t : ℕ) (o : Op) → HasOperand g o → has g.threads t ≡ true → is_join_of (place g.threads t) (op_with g o) ≡ is_join_of t o
  join_same t (Join u) h k = same_place g.threads u t h k
  join_same t (Fork u) h k = refl
  join_same t (Read x) h k = refl
  join_same t (Write x) h k = refl
  join_same t (Acquire l) h k = refl
  join_same t (Release l) h k = refl

  -- the marks of a thread
  forked_same : (events : List Event) (t : ℕ) → HaveAll g events → has g.threads t ≡ true → was_forked (map (event_with g) events) (place g.threads t) ≡ was_forked events t
  forked_same [] t h k = refl
  forked_same (e ∷ events) t h k = rw (fork_same t e.op h.0.operand k, forked_same events t h.1 k) refl

  joined_same : (events : List Event) (t : ℕ) → HaveAll g events → has g.threads t ≡ true → is_joined (map (event_with g) events) (place g.threads t) ≡ is_joined events t
  joined_same [] t h k = refl
  joined_same (e ∷ events) t h k = rw (join_same t e.op h.0.operand k, joined_same events t h.1 k) refl

  started_same : (events : List Event) (t : ℕ) → HaveAll g events → has g.threads t ≡ true → has_started (map (event_with g) events) (place g.threads t) ≡ has_started events t
  started_same [] t h k = refl
  started_same (e ∷ events) t h k = rw (same_place g.threads e.thread t h.0.thread k, started_same events t h.1 k) refl

  -- the holder of a lock
  held_same : (l t : ℕ) (held : Option ℕ) (o : Op) → has g.locks l ≡ true → HasOperand g o
      → held_after (place g.locks l) (option_map (place g.threads) held) (place g.threads t) (op_with g o) ≡ option_map (place g.threads) (held_after l held t o)
  held_same l t held (Acquire k) h has_k = rw (same_place g.locks k l has_k h) (by (k == l))
    where
      by : (b : Bool) → cond b (Some (place g.threads t)) (option_map (place g.threads) held) ≡ option_map (place g.threads) (cond b (Some t) held)
      by true = refl
      by false = refl
  held_same l t held (Release k) h has_k = rw (same_place g.locks k l has_k h) (by (k == l))
    where
      by : (b : Bool) → cond b None (option_map (place g.threads) held) ≡ option_map (place g.threads) (cond b None held)
      by true = refl
      by false = refl
  held_same l t held (Read x) h has_k = refl
  held_same l t held (Write x) h has_k = refl
  held_same l t held (Fork u) h has_k = refl
  held_same l t held (Join u) h has_k = refl

  holder_same : (l : ℕ) (held : Option ℕ) (events : List Event) → has g.locks l ≡ true → HaveAll g events
      → holder_from (place g.locks l) (option_map (place g.threads) held) (map (event_with g) events) ≡ option_map (place g.threads) (holder_from l held events)
  holder_same l held [] h k = refl
  holder_same l held (e ∷ events) h k =
      ap (λ o. holder_from (place g.locks l) o (map (event_with g) events)) (held_same l e.thread held e.op h k.0.operand) ∙ holder_same l (held_after l held e.thread e.op) events h k.1

  -- a holder came
  abbrev HasHolder : Option ℕ → Type 0
  HasHolder held = (u : ℕ) → held ≡ Some u → has g.threads u ≡ true

  held_has : (l t : ℕ) (held : Option ℕ) (o : Op) → HasHolder held → has g.threads t ≡ true → HasHolder (held_after l held t o)
  held_has l t held (Acquire k) h has_t = by (k == l)
    where
      by : (b : Bool) → HasHolder (cond b (Some t) held)
      by true u is = let same : t ≡ u = cc in rw (sym same) has_t
      by false u is = h u is
  held_has l t held (Release k) h has_t = by (k == l)
    where
      by : (b : Bool) → HasHolder (cond b None held)
      by true u is = cc
      by false u is = h u is
  held_has l t held (Read x) h has_t = h
  held_has l t held (Write x) h has_t = h
  held_has l t held (Fork u) h has_t = h
  held_has l t held (Join u) h has_t = h

  holder_has : (l : ℕ) (held : Option ℕ) (events : List Event) → HasHolder held → HaveAll g events → HasHolder (holder_from l held events)
  holder_has l held [] h k = h
  holder_has l held (e ∷ events) h k = holder_has l (held_after l held e.thread e.op) events (held_has l e.thread held e.op h k.0.thread) k.1

  -- an acquire and a release that break no law break none
  acquire_none : (t : ℕ) (held : Option ℕ) → acquire_fault t held ≡ None → acquire_fault (place g.threads t) (option_map (place g.threads) held) ≡ None
  acquire_none t None h = refl
  acquire_none t (Some u) h = by (u == t) h
    where
      by : (b : Bool) → cond b (Some law.Reentrant) (Some (law.LockHeld u)) ≡ None → acquire_fault (place g.threads t) (Some (place g.threads u)) ≡ None
      by true h = cc
      by false h = cc

  release_none : (t : ℕ) (held : Option ℕ) → HasHolder held → has g.threads t ≡ true → release_fault t held ≡ None → release_fault (place g.threads t) (option_map (place g.threads) held) ≡ None
  release_none t None k has_t h = cc
  release_none t (Some u) k has_t h = rw (same_place g.threads u t (k u refl) has_t) h

  module _ (events : List Event) (all : HaveAll g events) where
    -- the law of an operation
    operation_none : (t : ℕ) (o : Op) → has g.threads t ≡ true → HasOperand g o → operation_fault events t o ≡ None → operation_fault (map (event_with g) events) (place g.threads t) (op_with g o) ≡ None
    operation_none t (Acquire l) has_t has_o h = rw (holder_same l None events has_o all) (acquire_none t (holder events l) h)
    operation_none t (Release l) has_t has_o h = rw (holder_same l None events has_o all) (release_none t (holder events l) (holder_has l None events (λ u is. cc) all) has_t h)
    operation_none t (Fork u) has_t has_o h = rw (same_place g.threads u t has_o has_t, joined_same events u all has_o, forked_same events u all has_o, started_same events u all has_o) h
    operation_none t (Join u) has_t has_o h = rw (same_place g.threads u t has_o has_t) h
    operation_none t (Read x) has_t has_o h = refl
    operation_none t (Write x) has_t has_o h = refl

    -- the law of an event
    pub law_none : (e : Event) → HasAll g e → law_fault events e ≡ None → law_fault (map (event_with g) events) (event_with g e) ≡ None
    law_none e h none = rw (joined_same events e.thread all h.thread) (by (is_joined events e.thread) none)
      where
        by : (b : Bool) → cond b (Some law.AfterJoin) (operation_fault events e.thread e.op) ≡ None → cond b (Some law.AfterJoin) (operation_fault (map (event_with g) events) (place g.threads e.thread) (op_with g e.op)) ≡ None
        by true h = cc
        by false n = operation_none e.thread e.op h.thread h.operand n
