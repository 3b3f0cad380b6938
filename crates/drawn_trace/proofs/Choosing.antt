-- What is chosen in a turn.
use Rattle.std.proofs.Common.{◌≡◌, ℕ, ◌<◌, ◌%◌, Bool, true, false, true≢false, ◌&&◌, cond, List, refl, sym, arith, nat_lt}
use Rattle.std.proofs.Math.Nat.{mod-lt}
use Rattle.std_text.proofs.Spelling.{both}
use Rattle.trace_laws.specs.declared.event.Op.{Op}
use Rattle.trace_laws.specs.declared.event.Op.TheVariants.{Read, Write, Acquire, Release, Fork, Join}
use Rattle.drawn_trace.specs.declared.numbers.TheConstants.{LOCKS, VARS}
use Rattle.drawn_trace.specs.declared.held.Held.{Held}
use Rattle.drawn_trace.specs.declared.held.Held.TheVariants.{Nothing, One, Two}
use Rattle.drawn_trace.specs.Drawn.{is_free, may_acquire, release_or, acquire_or_release, choose}
use Rattle.drawn_trace.proofs.Holding.{HasRoom, IsLast}

-- an operation that may be chosen
abbrev pub IsChosen : List Held → Held → Op → Type 0
IsChosen held own (Read x) = x < VARS
IsChosen held own (Write x) = x < VARS
IsChosen held own (Acquire l) = (l < LOCKS) × (is_free held l ≡ true) × HasRoom own
IsChosen held own (Release l) = IsLast own l
IsChosen held own (Fork u) = ⊥
IsChosen held own (Join u) = ⊥

module _ (held : List Held) (own : Held) (o : ℕ) where
  -- one of two
  either : (b : Bool) (p q : Op) → (b ≡ true → IsChosen held own p) → IsChosen held own q → IsChosen held own (cond b p q)
  either true p q first second = first refl
  either false p q first second = second

  -- the last lock, or else the other operation
  released : (locks : Held) (p : Op) → IsChosen held locks p → IsChosen held locks (release_or locks p)
  released Nothing p h = h
  released (One k) p h = refl
  released (Two j k) p h = refl

  -- a thread that may take a lock has room
  has_room : (locks : Held) → may_acquire locks o ≡ true → HasRoom locks
  has_room Nothing h = tt
  has_room (One k) h = tt
  has_room (Two j k) h = absurd (true≢false (sym h))

  -- the number of a variable
  of_vars : o % VARS < VARS
  of_vars = mod-lt o (omega arith)

  -- what is chosen where a lock is asked for
  acquired : IsChosen held own (acquire_or_release held own o)
  acquired = either (is_free held (o % LOCKS) && may_acquire own o) (Acquire (o % LOCKS)) (release_or own (Read (o % VARS)))
      (λ h. let parts = both (is_free held (o % LOCKS)) (may_acquire own o) h in (mod-lt o (omega arith), parts.0, has_room own parts.1))
      (released own (Read (o % VARS)) of_vars)

  -- what is chosen
  pub chosen : (a : ℕ) → IsChosen held own (choose held own a o)
  chosen a = either (nat_lt a 3) (Read (o % VARS)) _ (λ h. of_vars)
      (either (nat_lt a 5) (Write (o % VARS)) _ (λ h. of_vars)
      (either (nat_lt a 7) (acquire_or_release held own o) _ (λ h. acquired)
      (released own (Write (o % VARS)) of_vars)))
