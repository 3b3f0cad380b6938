-- What traces keep that have the same threads and operations at the same places.
use Rattle.std.proofs.Common.{◌≡◌, ℕ, ◌<◌, List, length, Option, Some, None, ◌⊎◌, inl, inr, refl, sym, ap, ◌∙◌, subst}
use Rattle.std.specs.Prelude.{slice_get, Contains}
use Rattle.std.specs.Option.{option_map}
use Rattle.std.proofs.lemmas.List.{length-map}
use Rattle.std.proofs.lemmas.Option.{slice_get-map}
use Rattle.trace_laws.specs.Event.{Event}
use Rattle.trace_laws.specs.declared.event.Op.{Op}
use Rattle.trace_laws.specs.declared.event.Op.TheVariants.{Read, Write, Acquire, Release, Fork, Join}
use Rattle.trace_laws.specs.Trace.{thread_at, op_at, Writes, Acquires, Releases, Order, Holds, IsWriter, LockLaw, Before, Excludes}
use Rattle.trace_laws.specs.Reordering.{Earlier, CorrectReordering, SyncPreserving, Enabled, Accesses, Conflict, LeavesEnabled, CanLeave, IsNeeded}
use Rattle.trace_laws.specs.Locations.{without_locations, DoTheSame}
use Rattle.trace_laws.proofs.Places.{mapped_from, op_from_event, thread_from_event}

-- each place has the same thread and the same operation in both traces
pub record Same (a b : List Event) : Type 0 where
  pub threads : (i : ℕ) → thread_at a i ≡ thread_at b i
  pub ops : (i : ℕ) → op_at a i ≡ op_at b i
  pub size : length a ≡ length b

-- and the other way round
pub same_back : {a b : List Event} → Same a b → Same b a
same_back same = record { threads = λ i. sym (same.threads i); ops = λ i. sym (same.ops i); size = sym same.size }

-- an option mapped twice
map_twice : {A B C : Type 0} (f : A → B) (g : B → C) (o : Option A) → option_map g (option_map f o) ≡ option_map (λ x. g (f x)) o
map_twice f g None = refl
map_twice f g (Some x) = refl

-- a trace without its locations has the same threads and operations
without_same : (events : List Event) → Same events (without_locations events)
without_same events = record {
  threads = λ i. sym (ap (option_map (λ (e : Event). e.thread)) (at i) ∙ map_twice bare (λ e. e.thread) (slice_get events i));
  ops = λ i. sym (ap (option_map (λ (e : Event). e.op)) (at i) ∙ map_twice bare (λ e. e.op) (slice_get events i));
  size = sym (length-map events bare);
}
  where
    bare : Event → Event
    bare e = record e { loc = 0 }

    at : (i : ℕ) → slice_get (without_locations events) i ≡ option_map bare (slice_get events i)
    at i = slice_get-map bare events i

-- traces that do the same have the same threads and operations
pub same_from : (a b : List Event) → DoTheSame a b → Same a b
same_from a b h = let from_a = subst (Same a) h (without_same a) in let from_b = same_back (without_same b) in record {
  threads = λ i. from_a.threads i ∙ from_b.threads i;
  ops = λ i. from_a.ops i ∙ from_b.ops i;
  size = from_a.size ∙ from_b.size;
}

-- a property that a trace has where a trace with the same threads and operations has it
abbrev pub Keeps : (List Event → Type 0) → Type 0
Keeps P = (a b : List Event) → Same a b → P a → P b

-- acquires
pub acquires_keep : (i t l : ℕ) → Keeps (λ trace. Acquires trace i t l)
acquires_keep i t l a b same h = record { thread = sym (same.threads i) ∙ h.thread; op = sym (same.ops i) ∙ h.op }

-- releases
releases_keep : (i t l : ℕ) → Keeps (λ trace. Releases trace i t l)
releases_keep i t l a b same h = record { thread = sym (same.threads i) ∙ h.thread; op = sym (same.ops i) ∙ h.op }

-- operations
op_keeps : (i : ℕ) (o : Op) → Keeps (λ trace. op_at trace i ≡ Some o)
op_keeps i o a b same h = sym (same.ops i) ∙ h

-- threads
pub thread_keeps : (i t : ℕ) → Keeps (λ trace. thread_at trace i ≡ Some t)
thread_keeps i t a b same h = sym (same.threads i) ∙ h

-- what is held along an order
pub holds_keep : (earlier : Order) (j t l : ℕ) → Keeps (λ trace. Holds trace earlier j t l)
holds_keep earlier j t l a b same h = record {
  since = h.since;
  acquired = acquires_keep h.since t l a b same h.acquired;
  before = h.before;
  kept = λ r releases. h.kept r (releases_keep r t l b a (same_back same) releases);
}

-- writers along an order
writer_keeps : (earlier : Order) (j x : ℕ) (w : Option ℕ) → Keeps (λ trace. IsWriter trace earlier j x w)
writer_keeps earlier j x (Some w) a b same h = record {
  writes = op_keeps w (Write x) a b same h.writes;
  before = h.before;
  last = λ v writes. h.last v (op_keeps v (Write x) b a (same_back same) writes);
}
writer_keeps earlier j x None a b same h = λ v writes. h v (op_keeps v (Write x) b a (same_back same) writes)

-- the law of locks along an order
lock_law_keeps : (earlier : Order) (j t : ℕ) (o : Op) → Keeps (λ trace. LockLaw trace earlier j t o)
lock_law_keeps earlier j t (Acquire l) a b same h = λ u held. h u (holds_keep earlier j u l b a (same_back same) held)
lock_law_keeps earlier j t (Release l) a b same h = holds_keep earlier j t l a b same h
lock_law_keeps earlier j t _ a b same h = tt

-- program order
before_keeps : (i j : ℕ) → Keeps (λ trace. Before trace i j)
before_keeps i j a b same (Before.same_thread t less h k) = Before.same_thread t less (thread_keeps i t a b same h) (thread_keeps j t a b same k)
before_keeps i j a b same (Before.fork_event u less h k) = Before.fork_event u less (op_keeps i (Fork u) a b same h) (thread_keeps j u a b same k)
before_keeps i j a b same (Before.event_join u less h k) = Before.event_join u less (thread_keeps i u a b same h) (op_keeps j (Join u) a b same k)
before_keeps i j a b same (Before.fork_join u less h k) = Before.fork_join u less (op_keeps i (Fork u) a b same h) (op_keeps j (Join u) a b same k)

-- acquires of one lock
excludes_keep : (i j : ℕ) → Keeps (λ trace. Excludes trace i j)
excludes_keep i j a b same h = record {
  lock = h.lock;
  first = op_keeps i (Acquire h.lock) a b same h.first;
  second = op_keeps j (Acquire h.lock) a b same h.second;
  earlier = h.earlier;
}

-- the other trace's event at a place
event_keeps : (a b : List Event) → Same a b → (j : ℕ) (e : Event) → slice_get b j ≡ Some e → (d : Event) × (slice_get a j ≡ Some d) × (d.thread ≡ e.thread) × (d.op ≡ e.op)
event_keeps a b same j e at =
    let found = mapped_from (λ (x : Event). x.thread) (slice_get a j) e.thread (same.threads j ∙ thread_from_event b j e at) in
    let op_is : Some found.0.op ≡ Some e.op = sym (op_from_event a j found.0 found.1) ∙ same.ops j ∙ op_from_event b j e at in
    (found.0, found.1, found.2, cc)

-- correct reorderings
correct_keeps : (places : List ℕ) → Keeps (λ trace. CorrectReordering trace places)
correct_keeps places a b same h = record {
  within = λ j c. subst (λ (n : ℕ). j < n) same.size (h.within j c);
  distinct = h.distinct;
  program = λ i j c before. h.program i j c (before_keeps i j b a (same_back same) before);
  locks = locks;
  writers = λ r x w c reads writer. writer_keeps (Earlier places) r x w a b same
      (h.writers r x w c (op_keeps r (Read x) b a (same_back same) reads) (writer_keeps ◌<◌ r x w b a (same_back same) writer));
}
  where
    locks : (j : ℕ) (e : Event) → Contains places j → slice_get b j ≡ Some e → LockLaw b (Earlier places) j e.thread e.op
    locks j e c at =
        let found = event_keeps a b same j e at in
        let of_thread = subst (λ (t : ℕ). LockLaw a (Earlier places) j t found.0.op) found.2 (h.locks j found.0 c found.1) in
        let of_event = subst (LockLaw a (Earlier places) j e.thread) found.3 of_thread in
        lock_law_keeps (Earlier places) j e.thread e.op a b same of_event

-- reorderings that preserve synchronization
preserving_keeps : (places : List ℕ) → Keeps (λ trace. SyncPreserving trace places)
preserving_keeps places a b same h = λ i j excludes. h i j (excludes_keep i j b a (same_back same) excludes)

-- enabled places
enabled_keeps : (places : List ℕ) (e : ℕ) → Keeps (λ trace. Enabled trace places e)
enabled_keeps places e a b same h = record {
  within = subst (λ (n : ℕ). e < n) same.size h.within;
  absent = h.absent;
  ready = λ i before. h.ready i (before_keeps i e b a (same_back same) before);
}

-- places that a reordering leaves enabled
leaves_keep : (places picks : List ℕ) → Keeps (λ trace. LeavesEnabled trace places picks)
leaves_keep places picks a b same h = record {
  correct = correct_keeps places a b same h.correct;
  preserving = preserving_keeps places a b same h.preserving;
  enabled = λ e c. enabled_keeps places e a b same (h.enabled e c);
}

-- places that some reordering leaves enabled
pub can_leave_keeps : (picks : List ℕ) → Keeps (λ trace. CanLeave trace picks)
can_leave_keeps picks a b same h = record { places = h.places; leaves = leaves_keep h.places picks a b same h.leaves }

-- places that are needed
pub needed_keeps : (picks : List ℕ) (p : ℕ) → Keeps (λ trace. IsNeeded trace picks p)
needed_keeps picks p a b same h = λ places leaves. h places (leaves_keep places picks b a (same_back same) leaves)

-- accesses
accesses_keep : (e x : ℕ) → Keeps (λ trace. Accesses trace e x)
accesses_keep e x a b same (inl h) = inl (op_keeps e (Read x) a b same h)
accesses_keep e x a b same (inr h) = inr (op_keeps e (Write x) a b same h)

-- conflicts
pub conflict_keeps : (e1 e2 : ℕ) → Keeps (λ trace. Conflict trace e1 e2)
conflict_keeps e1 e2 a b same h = record {
  var = h.var;
  first = accesses_keep e1 h.var a b same h.first;
  second = accesses_keep e2 h.var a b same h.second;
  apart = λ is. h.apart (same.threads e1 ∙ is ∙ sym (same.threads e2));
  writes = writes h.writes;
}
  where
    writes : Writes a e1 h.var ⊎ Writes a e2 h.var → Writes b e1 h.var ⊎ Writes b e2 h.var
    writes (inl w) = inl (op_keeps e1 (Write h.var) a b same w)
    writes (inr w) = inr (op_keeps e2 (Write h.var) a b same w)
