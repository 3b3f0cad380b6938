-- What a step leaves, for each part of the state.
use Rattle.std.proofs.Common.{◌≡◌, ℕ, zero, suc, ◌<◌, Bool, true, false, cond, ◌⊎◌, inl, inr, List, [], ◌∷◌, nat_eq, slice_get, Option, Some, None, length, refl, ap, ◌∙◌, arith, eq-eqb, ne_eqb, eqb-true}
use Rattle.trace_laws.specs.declared.event.Op.{Op}
use Rattle.trace_laws.specs.declared.event.Op.TheVariants.{Acquire, Release, Fork}
use Rattle.trace_laws.specs.Event.{Event}
use Rattle.script_machine.specs.Machine.{Script, State, Taken, Step, put, settled, register_after, forked_after, owner_after, events}

-- a changed function, where it was changed
pub put_same : {X : Type 0} (f : ℕ → X) (k : ℕ) (v : X) → put f k v k ≡ v
put_same f k v = rw (eq-eqb k k refl) refl

-- and where it was not
pub put_other : {X : Type 0} (f : ℕ → X) (k : ℕ) (v : X) (i : ℕ) → (k ≡ i → ⊥) → put f k v i ≡ f i
put_other f k v i ne = rw (ne_eqb k i ne) refl

-- an element of the list of events is the event of one of the run
pub taken_at : (run : List Taken) (p : ℕ) (e : Event) → slice_get (events run) p ≡ Some e → (taken : Taken) × (slice_get run p ≡ Some taken) × (taken.event ≡ e)
taken_at [] p e h = absurd (cc)
taken_at (x ∷ xs) zero e h = (x, refl, cc)
taken_at (x ∷ xs) (suc p) e h = taken_at xs p e h

-- the event at a place of the run
pub event_at : (run : List Taken) (p : ℕ) (taken : Taken) → slice_get run p ≡ Some taken → slice_get (events run) p ≡ Some taken.event
event_at [] p taken h = absurd (cc)
event_at (x ∷ xs) zero taken h = let same : x ≡ taken = cc in ap (λ y. Some y.event) same
event_at (x ∷ xs) (suc p) taken h = event_at xs p taken h

-- there is an element at each index within a list
pub get_in : {X : Type 0} (xs : List X) (i : ℕ) → i < length xs → (x : X) × (slice_get xs i ≡ Some x)
get_in [] i h = absurd (omega arith)
get_in (x ∷ xs) zero h = (x, refl)
get_in (x ∷ xs) (suc i) h = get_in xs i (omega arith)

-- an index with an element is within the list
pub in_range : {X : Type 0} (xs : List X) (i : ℕ) (x : X) → slice_get xs i ≡ Some x → i < length xs
in_range [] i x h = absurd (cc)
in_range (y ∷ xs) zero x h = omega arith
in_range (y ∷ xs) (suc i) x h = let l : i < length xs = in_range xs i x h in omega arith

-- who holds the lock after an operation of the thread
abbrev pub holder_after : ℕ → Option ℕ → ℕ → Op → Option ℕ
holder_after lock holder thread (Acquire l) = cond (nat_eq l lock) (Some thread) holder
holder_after lock holder thread (Release l) = cond (nat_eq l lock) None holder
holder_after lock holder thread op = holder

-- the parts of the state after a step
pub owner_is : (owner : ℕ → Option ℕ) (t : ℕ) (op : Op) (l : ℕ) → owner_after owner t op l ≡ holder_after l (owner l) t op
owner_is owner t (Acquire m) l = refl
owner_is owner t (Release m) l = refl
owner_is owner t _ l = refl

-- a fork that is taken after an operation was taken before, or is that operation
pub forked_from : (forked : ℕ → Bool) (op : Op) (u : ℕ) → forked_after forked op u ≡ true → (forked u ≡ true) ⊎ (op ≡ Fork u)
forked_from forked (Fork w) u h = go (nat_eq w u) refl
  where
    go : (b : Bool) → nat_eq w u ≡ b → (forked u ≡ true) ⊎ (Fork w ≡ Fork u)
    go true e = inr (ap Fork (eqb-true w u e))
    go false e = let k = rw e at h in inl k
forked_from forked _ u h = inl h

module _ (script : Script) (s s' : State) (taken : Taken) (step : Step script s taken s') where
  -- the thread of the event has moved on
  pub thread_same : s'.thread taken.event.thread ≡ settled 0 step.rest (register_after (s.thread taken.event.thread).register taken.event.op taken.brought)
  thread_same = ap (λ z. z.thread taken.event.thread) step.new ∙ put_same s.thread taken.event.thread _

  -- every other thread stands where it stood
  pub thread_other : (u : ℕ) → (taken.event.thread ≡ u → ⊥) → s'.thread u ≡ s.thread u
  thread_other u ne = ap (λ z. z.thread u) step.new ∙ put_other s.thread taken.event.thread _ u ne

  -- the owner of each lock
  pub owner_step : (l : ℕ) → s'.owner l ≡ holder_after l (s.owner l) taken.event.thread taken.event.op
  owner_step l = ap (λ z. z.owner l) step.new ∙ owner_is s.owner taken.event.thread taken.event.op l

  -- the forks that were taken
  pub forked_step : (u : ℕ) → s'.forked u ≡ forked_after s.forked taken.event.op u
  forked_step u = ap (λ z. z.forked u) step.new
