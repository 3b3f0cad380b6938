-- Noting the acquires of a trace, place by place.
use Rattle.std.proofs.Common.{◌≡◌, ◌≢◌, ℕ, ◌+◌, ◌<◌, List, [], ◌∷◌, ◌++◌, length, get_or, Some, ◌⊎◌, inl, inr, refl, sym, ap, subst, ◌∙◌, arith, length-append}
use Rattle.std.specs.Prelude.{slice_get, slice_set, slice_index, Contains}
use Rattle.std.proofs.Math.ListN.{length-set}
use Rattle.std.proofs.lemmas.Bool.{cases_eq}
use Rattle.std.proofs.lemmas.Option.{slice_get_within, slice_get-get_or}
use Rattle.std.proofs.lemmas.List.Elements.{Contains-push, Contains-push_cases, Contains-append_left}
use Rattle.trace_laws.specs.Event.{Event}
use Rattle.trace_laws.specs.declared.event.Op.TheVariants.{Acquire}
use Rattle.trace_laws.specs.Trace.{thread_at, op_at, Acquires, Holds}
use Rattle.trace_laws.specs.Reordering.{Rises}
use Rattle.trace_laws.specs.Patterns.{Class, IsOfClass, first_place}
use Rattle.trace_laws.proofs.Places.{contains_head, contains_cases, contains_none, slice_get-append_left, slice_get-append_seam}
use Rattle.trace_laws.proofs.Enabling.{Rises-push}
use Rattle.trace_laws.proofs.Growing.{slice_get-set_same, slice_get-set_other}
use Rattle.trace_index.specs.HeldSets.{IsAcquire, IsHeldAt, IsHeldSet, IsFirstAlike}
use Rattle.trace_index.proofs.SetNumbering.{push_cases}
use Rattle.lock_graph.specs.declared.entry.Entry.{Entry}
use Rattle.lock_graph.specs.declared.entry.Key.{Key}
use Rattle.lock_graph.specs.Listing.{class_in, IsClassBefore, IsKeyOf, IsNotedIn, AreNoted}
use Rattle.lock_graph.proofs.Alike.{acquire_of_class, same_in_class, of_class, alike_tells}

-- a list that is not empty has its first number
pub has_first : (xs : List ℕ) → xs ≢ [] → Contains xs (slice_index xs 0)
has_first [] some = absurd (some refl)
has_first (x ∷ xs) some = contains_head x xs

-- before the first place nothing is noted
pub noted_none : (events : List Event) (keys : List Key) (entries : List Entry) → keys ≡ [] → entries ≡ [] → AreNoted events 0 keys entries
noted_none events keys entries no_keys no_entries = record {
  few = rw no_entries (omega arith);
  known = ap length no_keys ∙ sym (ap length no_entries);
  distinct = λ i j k at_i at_j. absurd (no_key i k at_i);
  each = λ i e at. absurd (no_entry i e at);
  keyed = λ i e k at_e at_k. absurd (no_entry i e at_e);
  order = λ i j e f less at_e at_f. absurd (no_entry i e at_e);
  all = λ a less acquire. absurd (omega arith);
}
  where
    no_key : (i : ℕ) (k : Key) → slice_get keys i ≡ Some k → ⊥
    no_key i k at = let none = ap (λ (xs : List Key). slice_get xs i) (sym no_keys) ∙ at in cc

    no_entry : (i : ℕ) (e : Entry) → slice_get entries i ≡ Some e → ⊥
    no_entry i e at = let none = ap (λ (xs : List Entry). slice_get xs i) (sym no_entries) ∙ at in cc

-- an acquire of a class is one of a class with the same thread, lock and held set
of_like : (events : List Event) (c d : Class) (a : ℕ) → d.thread ≡ c.thread → d.lock ≡ c.lock → d.held ≡ c.held → IsOfClass events c a → IsOfClass events d a
of_like events c d a thread lock held is = record {
  acquires = record { thread = subst (λ (t : ℕ). thread_at events a ≡ Some t) (sym thread) is.acquires.thread; op = subst (λ (l : ℕ). op_at events a ≡ Some (Acquire l)) (sym lock) is.acquires.op };
  held = λ l. (λ m. subst (λ (t : ℕ). Holds events ◌<◌ a t l) (sym thread) ((is.held l).0 (subst (λ (h : List ℕ). Contains h l) held m)), λ h. subst (λ (g : List ℕ). Contains g l) (sym held) ((is.held l).1 (subst (λ (t : ℕ). Holds events ◌<◌ a t l) thread h)));
}

-- the acquires before a place are noted
module _ (events : List Event) (n : ℕ) (keys : List Key) (entries : List Entry) (old : AreNoted events n keys entries) where
  -- a class without the place stays
  class_stays : (c : Class) → (IsOfClass events c n → ⊥) → IsClassBefore events n c → IsClassBefore events (n + 1) c
  class_stays c other is = record {
    some = is.some;
    held = is.held;
    order = is.order;
    members = λ a. (λ m. let h = (is.members a).0 m in (let less = h.0 in omega arith, h.1), λ h. back a h (cases_eq a n));
  }
    where
      back : (a : ℕ) → (a < n + 1) × IsOfClass events c a → (a ≡ n) ⊎ (a ≢ n) → Contains c.acquires a
      back a h (inl same) = absurd (other (subst (IsOfClass events c) same h.1))
      back a h (inr less) = (is.members a).1 (let below = h.0 in omega (arith, less), h.1)

  -- a place that acquires nothing changes nothing
  pub noted_past : (IsAcquire events n → ⊥) → AreNoted events (n + 1) keys entries
  noted_past other = record {
    few = let few = old.few in omega arith;
    known = old.known;
    distinct = old.distinct;
    each = λ i e at. class_stays (class_in e) (λ is. other (acquire_of_class events (class_in e) n is)) (old.each i e at);
    keyed = old.keyed;
    order = old.order;
    all = λ a less acquire. go a less acquire (cases_eq a n);
  }
    where
      go : (a : ℕ) → a < n + 1 → IsAcquire events a → (a ≡ n) ⊎ (a ≢ n) → IsNotedIn entries a
      go a less acquire (inl same) = absurd (other (subst (IsAcquire events) same acquire))
      go a less acquire (inr place) = old.all a (omega (arith, place)) acquire

  -- the first place of a class that was noted
  first_of : (i : ℕ) (e : Entry) → slice_get entries i ≡ Some e → (first_place (class_in e) < n) × IsOfClass events (class_in e) (first_place (class_in e))
  first_of i e at = let is = old.each i e at in (is.members (first_place (class_in e))).0 (has_first (class_in e).acquires is.some)

  -- the place is an acquire with a key
  module _ (key : Key) (acquires : Acquires events n key.thread key.lock) (alike : IsFirstAlike events n key.alike) where
    -- the class whose key it is has it
    in_class : (i : ℕ) (e : Entry) → slice_get entries i ≡ Some e → slice_get keys i ≡ Some key → IsOfClass events (class_in e) n
    in_class i e at_e at_k =
        let keyed = old.keyed i e key at_e at_k in
        let first = (first_of i e at_e).1 in
        of_class events (class_in e) (first_place (class_in e)) n first
        (record { thread = subst (λ (t : ℕ). thread_at events n ≡ Some t) keyed.thread acquires.thread; op = subst (λ (l : ℕ). op_at events n ≡ Some (Acquire l)) keyed.lock acquires.op })
        ((alike_tells events (first_place (class_in e)) n key.alike key.alike keyed.alike alike).0 refl)

    -- and a class that has it has the key
    has_key : (i : ℕ) (e : Entry) → slice_get entries i ≡ Some e → IsOfClass events (class_in e) n → slice_get keys i ≡ Some key
    has_key i e at is = entry ∙ ap Some same
      where
        k : Key
        k = get_or keys i key

        entry : slice_get keys i ≡ Some k
        entry = slice_get-get_or keys i key (let within = slice_get_within entries i e at in let known = old.known in omega arith)

        keyed : IsKeyOf events (class_in e) k
        keyed = old.keyed i e k at entry

        thread : k.thread ≡ key.thread
        thread = keyed.thread ∙ (let mine = acquires.thread in let its = is.acquires.thread in let same : e.thread ≡ key.thread = cc in same)

        lock : k.lock ≡ key.lock
        lock = keyed.lock ∙ (let mine = acquires.op in let its = is.acquires.op in let same : e.lock ≡ key.lock = cc in same)

        one : k.alike ≡ key.alike
        one = (alike_tells events (first_place (class_in e)) n k.alike key.alike keyed.alike alike).1 (same_in_class events (class_in e) (first_place (class_in e)) n (first_of i e at).1 is)

        same : k ≡ key
        same = λ j. record { thread = thread j; lock = lock j; alike = one j }

    -- the place joins the class of its key
    module _ (i : ℕ) (e f : Entry) (at_e : slice_get entries i ≡ Some e) (at_k : slice_get keys i ≡ Some key) (thread : f.thread ≡ e.thread) (lock : f.lock ≡ e.lock) (held : f.held.now ≡ e.held.now) (joined : f.acquires.items ≡ e.acquires.items ++ n ∷ []) where
      -- the class with the place
      joins : IsClassBefore events (n + 1) (class_in f)
      joins = record {
        some = λ none. let empty : e.acquires.items ++ n ∷ [] ≡ [] = sym joined ∙ none in let size = ap length empty in omega (arith, length-append e.acquires.items (n ∷ []));
        held = subst Rises (sym held) is.held;
        order = subst Rises (sym joined) (Rises-push e.acquires.items n is.order (λ a m. ((is.members a).0 m).0));
        members = λ a. (λ m. forth a (Contains-push_cases e.acquires.items n a (subst (λ (xs : List ℕ). Contains xs a) joined m)), λ h. subst (λ (xs : List ℕ). Contains xs a) (sym joined) (back a h (cases_eq a n)));
      }
        where
          is : IsClassBefore events n (class_in e)
          is = old.each i e at_e

          forth : (a : ℕ) → Contains e.acquires.items a ⊎ (n ≡ a) → (a < n + 1) × IsOfClass events (class_in f) a
          forth a (inl m) = let h = (is.members a).0 m in (let less = h.0 in omega arith, of_like events (class_in e) (class_in f) a thread lock held h.1)
          forth a (inr same) = (omega arith, subst (IsOfClass events (class_in f)) same (of_like events (class_in e) (class_in f) n thread lock held (in_class i e at_e at_k)))

          back : (a : ℕ) → (a < n + 1) × IsOfClass events (class_in f) a → (a ≡ n) ⊎ (a ≢ n) → Contains (e.acquires.items ++ n ∷ []) a
          back a h (inl same) = subst (Contains (e.acquires.items ++ n ∷ [])) (sym same) (Contains-push e.acquires.items n)
          back a h (inr less) = Contains-append_left e.acquires.items (n ∷ []) a ((is.members a).1 (let below = h.0 in omega (arith, less), of_like events (class_in f) (class_in e) a (sym thread) (sym lock) (sym held) h.1))

      -- it has the same first place
      same_first : first_place (class_in f) ≡ first_place (class_in e)
      same_first = ap (λ (xs : List ℕ). slice_index xs 0) joined ∙ front e.acquires.items (old.each i e at_e).some
        where
          front : (xs : List ℕ) → xs ≢ [] → slice_index (xs ++ n ∷ []) 0 ≡ slice_index xs 0
          front [] some = absurd (some refl)
          front (x ∷ xs) some = refl

      -- what stands in the entries now
      now : (j : ℕ) (g : Entry) → slice_get (slice_set entries i f) j ≡ Some g → ((j ≡ i) × (f ≡ g)) ⊎ ((j ≢ i) × (slice_get entries j ≡ Some g))
      now j g at = go (cases_eq j i)
        where
          go : (j ≡ i) ⊎ (j ≢ i) → ((j ≡ i) × (f ≡ g)) ⊎ ((j ≢ i) × (slice_get entries j ≡ Some g))
          go (inl same) = inl (same, (let here : slice_get (slice_set entries i f) i ≡ Some f = slice_get-set_same entries i f (slice_get_within entries i e at_e) in let there : slice_get (slice_set entries i f) i ≡ Some g = subst (λ (k : ℕ). slice_get (slice_set entries i f) k ≡ Some g) same at in cc))
          go (inr other) = inr (other, sym (slice_get-set_other entries i j f other) ∙ at)

      -- an entry of before stands there with its first place
      was : (j : ℕ) (g : Entry) → slice_get (slice_set entries i f) j ≡ Some g → (h : Entry) × (slice_get entries j ≡ Some h) × (first_place (class_in g) ≡ first_place (class_in h))
      was j g at = go (now j g at)
        where
          go : ((j ≡ i) × (f ≡ g)) ⊎ ((j ≢ i) × (slice_get entries j ≡ Some g)) → (h : Entry) × (slice_get entries j ≡ Some h) × (first_place (class_in g) ≡ first_place (class_in h))
          go (inl x) = (e, subst (λ (k : ℕ). slice_get entries k ≡ Some e) (sym x.0) at_e, ap (λ (k : Entry). first_place (class_in k)) (sym x.1) ∙ same_first)
          go (inr x) = (g, x.1, refl)

      -- so the acquires up to the place are noted
      pub noted_joins : AreNoted events (n + 1) keys (slice_set entries i f)
      noted_joins = record {
        few = let few = old.few in let size = length-set entries i f in omega arith;
        known = old.known ∙ sym (length-set entries i f);
        distinct = old.distinct;
        each = λ j g at. each j g (now j g at);
        keyed = λ j g k at at_j. keyed j g k at_j (now j g at);
        order = λ j k g h less at_g at_h. let x = was j g at_g in let y = was k h at_h in let same_x = x.2 in let same_y = y.2 in let up = old.order j k x.0 y.0 less x.1 y.1 in omega arith;
        all = λ a less acquire. all a less acquire (cases_eq a n);
      }
        where
          each : (j : ℕ) (g : Entry) → ((j ≡ i) × (f ≡ g)) ⊎ ((j ≢ i) × (slice_get entries j ≡ Some g)) → IsClassBefore events (n + 1) (class_in g)
          each j g (inl x) = subst (λ (k : Entry). IsClassBefore events (n + 1) (class_in k)) x.1 joins
          each j g (inr x) = class_stays (class_in g) (λ is. x.0 (old.distinct j i key (has_key j g x.1 is) at_k)) (old.each j g x.1)

          keyed : (j : ℕ) (g : Entry) (k : Key) → slice_get keys j ≡ Some k → ((j ≡ i) × (f ≡ g)) ⊎ ((j ≢ i) × (slice_get entries j ≡ Some g)) → IsKeyOf events (class_in g) k
          keyed j g k at_j (inl x) =
              let was_key = old.keyed i e k at_e (subst (λ (m : ℕ). slice_get keys m ≡ Some k) x.0 at_j) in
              subst (λ (m : Entry). IsKeyOf events (class_in m) k) x.1 (record { thread = was_key.thread ∙ sym thread; lock = was_key.lock ∙ sym lock; alike = subst (λ (p : ℕ). IsFirstAlike events p k.alike) (sym same_first) was_key.alike })
          keyed j g k at_j (inr x) = old.keyed j g k x.1 at_j

          here : (a : ℕ) → Contains (e.acquires.items ++ n ∷ []) a → IsNotedIn (slice_set entries i f) a
          here a m = record { number = i; entry = f; at = slice_get-set_same entries i f (slice_get_within entries i e at_e); acquires = subst (λ (xs : List ℕ). Contains xs a) (sym joined) m }

          earlier : (a : ℕ) (g : IsNotedIn entries a) → (g.number ≡ i) ⊎ (g.number ≢ i) → IsNotedIn (slice_set entries i f) a
          earlier a g (inl same) =
              let there : slice_get entries i ≡ Some g.entry = subst (λ (m : ℕ). slice_get entries m ≡ Some g.entry) same g.at in
              let own = at_e in
              let is : g.entry ≡ e = cc in
              here a (Contains-append_left e.acquires.items (n ∷ []) a (subst (λ (m : Entry). Contains m.acquires.items a) is g.acquires))
          earlier a g (inr other) = record { number = g.number; entry = g.entry; at = slice_get-set_other entries i g.number f other ∙ g.at; acquires = g.acquires }

          all : (a : ℕ) → a < n + 1 → IsAcquire events a → (a ≡ n) ⊎ (a ≢ n) → IsNotedIn (slice_set entries i f) a
          all a less acquire (inl same) = here a (subst (Contains (e.acquires.items ++ n ∷ [])) (sym same) (Contains-push e.acquires.items n))
          all a less acquire (inr other) = let g = old.all a (omega (arith, other)) acquire in earlier a g (cases_eq g.number i)

    -- the place is the first of a new class
    module _ (nowhere : (i : ℕ) → slice_get keys i ≡ Some key → ⊥) (f : Entry) (thread : f.thread ≡ key.thread) (lock : f.lock ≡ key.lock) (held : IsHeldSet events n f.held.now) (alone : f.acquires.items ≡ n ∷ []) where
      -- it is of its class
      own : IsOfClass events (class_in f) n
      own = record { acquires = mine; held = λ l. (λ m. own_thread l ((held.members l).0 m), λ h. (held.members l).1 (record { thread = f.thread; is_of = mine.thread; holds = h })) }
        where
          mine : Acquires events n f.thread f.lock
          mine = record { thread = subst (λ (t : ℕ). thread_at events n ≡ Some t) (sym thread) acquires.thread; op = subst (λ (l : ℕ). op_at events n ≡ Some (Acquire l)) (sym lock) acquires.op }

          own_thread : (l : ℕ) → IsHeldAt events n l → Holds events ◌<◌ n f.thread l
          own_thread l h = let its = h.is_of in let has = mine.thread in let same : h.thread ≡ f.thread = cc in subst (λ (t : ℕ). Holds events ◌<◌ n t l) same h.holds

      -- no acquire before it is
      none_before : (a : ℕ) → a < n → IsOfClass events (class_in f) a → ⊥
      none_before a less is =
          let g = old.all a less (acquire_of_class events (class_in f) a is) in
          let in_g : IsOfClass events (class_in g.entry) a = (((old.each g.number g.entry g.at).members a).0 g.acquires).1 in
          let x = in_g.acquires.thread in
          let y = is.acquires.thread in
          let v = in_g.acquires.op in
          let w = is.acquires.op in
          let one_thread : f.thread ≡ g.entry.thread = cc in
          let one_lock : f.lock ≡ g.entry.lock = cc in
          let moved : IsOfClass events (class_in g.entry) n = of_class events (class_in g.entry) a n in_g
          (record { thread = subst (λ (t : ℕ). thread_at events n ≡ Some t) one_thread own.acquires.thread; op = subst (λ (l : ℕ). op_at events n ≡ Some (Acquire l)) one_lock own.acquires.op })
          (same_in_class events (class_in f) a n is own) in
          nowhere g.number (has_key g.number g.entry g.at moved)

      -- so it is alone in it
      begins : IsClassBefore events (n + 1) (class_in f)
      begins = record {
        some = λ none. let empty : n ∷ [] ≡ [] = sym alone ∙ none in cc;
        held = held.order;
        order = subst Rises (sym alone) single;
        members = λ a. (λ m. forth a (contains_cases n [] a (subst (λ (xs : List ℕ). Contains xs a) alone m)), λ h. subst (λ (xs : List ℕ). Contains xs a) (sym alone) (back a h (cases_eq a n)));
      }
        where
          single : Rises (n ∷ [])
          single a b i j less at_a at_b = let within = slice_get_within (n ∷ []) b j at_b in absurd (omega arith)

          forth : (a : ℕ) → (n ≡ a) ⊎ Contains [] a → (a < n + 1) × IsOfClass events (class_in f) a
          forth a (inl same) = (omega arith, subst (IsOfClass events (class_in f)) same own)
          forth a (inr m) = absurd (contains_none a m)

          back : (a : ℕ) → (a < n + 1) × IsOfClass events (class_in f) a → (a ≡ n) ⊎ (a ≢ n) → Contains (n ∷ []) a
          back a h (inl same) = subst (Contains (n ∷ [])) (sym same) (contains_head n [])
          back a h (inr less) = absurd (none_before a (let below = h.0 in omega (arith, less)) h.1)

      -- its first place is the place
      begins_at : first_place (class_in f) ≡ n
      begins_at = ap (λ (xs : List ℕ). slice_index xs 0) alone

      -- so the acquires up to the place are noted
      pub noted_new : AreNoted events (n + 1) (keys ++ key ∷ []) (entries ++ f ∷ [])
      noted_new = record {
        few = let few = old.few in omega (arith, length-append entries (f ∷ []));
        known = let known = old.known in omega (arith, length-append entries (f ∷ []), length-append keys (key ∷ []));
        distinct = λ i j k at_i at_j. distinct i j k (push_cases keys key k i at_i) (push_cases keys key k j at_j);
        each = λ i e at. each i e (push_cases entries f e i at);
        keyed = λ i e k at_e at_k. keyed i e k (push_cases entries f e i at_e) (push_cases keys key k i at_k);
        order = λ i j e g less at_e at_g. order i j e g less (push_cases entries f e i at_e) (push_cases entries f g j at_g);
        all = λ a less acquire. all a less acquire (cases_eq a n);
      }
        where
          distinct : (i j : ℕ) (k : Key) → (slice_get keys i ≡ Some k) ⊎ ((i ≡ length keys) × (key ≡ k)) → (slice_get keys j ≡ Some k) ⊎ ((j ≡ length keys) × (key ≡ k)) → i ≡ j
          distinct i j k (inl x) (inl y) = old.distinct i j k x y
          distinct i j k (inl x) (inr y) = absurd (nowhere i (x ∙ ap Some (sym y.1)))
          distinct i j k (inr x) (inl y) = absurd (nowhere j (y ∙ ap Some (sym x.1)))
          distinct i j k (inr x) (inr y) = x.0 ∙ sym y.0

          each : (i : ℕ) (e : Entry) → (slice_get entries i ≡ Some e) ⊎ ((i ≡ length entries) × (f ≡ e)) → IsClassBefore events (n + 1) (class_in e)
          each i e (inl x) = class_stays (class_in e) (λ is. nowhere i (has_key i e x is)) (old.each i e x)
          each i e (inr x) = subst (λ (g : Entry). IsClassBefore events (n + 1) (class_in g)) x.1 begins

          keyed : (i : ℕ) (e : Entry) (k : Key) → (slice_get entries i ≡ Some e) ⊎ ((i ≡ length entries) × (f ≡ e)) → (slice_get keys i ≡ Some k) ⊎ ((i ≡ length keys) × (key ≡ k)) → IsKeyOf events (class_in e) k
          keyed i e k (inl x) (inl y) = old.keyed i e k x y
          keyed i e k (inl x) (inr y) = absurd (let within = slice_get_within entries i e x in let at = y.0 in let known = old.known in omega arith)
          keyed i e k (inr x) (inl y) = absurd (let within = slice_get_within keys i k y in let at = x.0 in let known = old.known in omega arith)
          keyed i e k (inr x) (inr y) = subst (λ (g : Entry). IsKeyOf events (class_in g) k) x.1 (subst (IsKeyOf events (class_in f)) y.1 (record { thread = sym thread; lock = sym lock; alike = subst (λ (p : ℕ). IsFirstAlike events p key.alike) (sym begins_at) alike }))

          order : (i j : ℕ) (e g : Entry) → i < j → (slice_get entries i ≡ Some e) ⊎ ((i ≡ length entries) × (f ≡ e)) → (slice_get entries j ≡ Some g) ⊎ ((j ≡ length entries) × (f ≡ g)) → first_place (class_in e) < first_place (class_in g)
          order i j e g less (inl x) (inl y) = old.order i j e g less x y
          order i j e g less (inl x) (inr y) = let below = (first_of i e x).0 in let last = begins_at in subst (λ (h : Entry). first_place (class_in e) < first_place (class_in h)) y.1 (omega arith)
          order i j e g less (inr x) (inl y) = absurd (let within = slice_get_within entries j g y in let at = x.0 in omega arith)
          order i j e g less (inr x) (inr y) = absurd (let at_i = x.0 in let at_j = y.0 in omega arith)

          all : (a : ℕ) → a < n + 1 → IsAcquire events a → (a ≡ n) ⊎ (a ≢ n) → IsNotedIn (entries ++ f ∷ []) a
          all a less acquire (inl same) = record { number = length entries; entry = f; at = slice_get-append_seam entries f; acquires = subst (λ (xs : List ℕ). Contains xs a) (sym alone) (subst (Contains (n ∷ [])) (sym same) (contains_head n [])) }
          all a less acquire (inr other) = let g = old.all a (omega (arith, other)) acquire in record { number = g.number; entry = g.entry; at = slice_get-append_left entries (f ∷ []) g.number (slice_get_within entries g.number g.entry g.at) ∙ g.at; acquires = g.acquires }
