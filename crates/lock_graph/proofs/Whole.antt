-- The entries of a whole trace are its classes.
use Rattle.std.proofs.Common.{◌≡◌, ℕ, ◌<◌, ◌≤◌, List, length, map, get_or, Some, sym, ap, subst, ◌∙◌, arith}
use Rattle.std.specs.Prelude.{slice_get, Contains, AllPairs}
use Rattle.std.specs.Option.{option_map}
use Rattle.std.proofs.lemmas.Option.{slice_get-map, slice_get-get_or}
use Rattle.trace_laws.specs.Event.{Event}
use Rattle.trace_laws.specs.Trace.{op_at}
use Rattle.trace_laws.specs.declared.event.Op.TheVariants.{Acquire}
use Rattle.trace_laws.specs.Patterns.{Class, IsClass, IsOfClass, first_place}
use Rattle.trace_laws.proofs.Places.{index_of, contains_at, mapped_from}
use Rattle.trace_index.specs.HeldSets.{IsAcquire, AreLocksBelow}
use Rattle.trace_index.proofs.HeldNumbers.{acquire_within}
use Rattle.lock_graph.specs.declared.entry.Entry.{Entry}
use Rattle.lock_graph.specs.declared.entry.Key.{Key}
use Rattle.lock_graph.specs.Classes.{IsInClass, AreClasses, HaveLocksBelow}
use Rattle.lock_graph.specs.Listing.{class_in, AreNoted}
use Rattle.lock_graph.proofs.Alike.{acquire_of_class, class_unique}
use Rattle.lock_graph.proofs.Noting.{has_first}

-- a class of the entries is that of an entry
pub entry_of : (entries : List Entry) (i : ℕ) (c : Class) → slice_get (map class_in entries) i ≡ Some c → (e : Entry) × (slice_get entries i ≡ Some e) × (class_in e ≡ c)
entry_of entries i c at = mapped_from class_in (slice_get entries i) c (sym (slice_get-map class_in entries i) ∙ at)

-- and the class of an entry is one of them
pub class_at : (entries : List Entry) (i : ℕ) (e : Entry) → slice_get entries i ≡ Some e → slice_get (map class_in entries) i ≡ Some (class_in e)
class_at entries i e at = slice_get-map class_in entries i ∙ ap (option_map class_in) at

-- all acquires of a trace are noted
module _ (events : List Event) (n : ℕ) (keys : List Key) (entries : List Entry) (noted : AreNoted events n keys entries) (whole : length events ≤ n) where
  -- each entry is a class of the trace
  is_class : (i : ℕ) (e : Entry) → slice_get entries i ≡ Some e → IsClass events (class_in e)
  is_class i e at = let is = noted.each i e at in record {
    some = is.some;
    held = is.held;
    order = is.order;
    members = λ a. (λ m. ((is.members a).0 m).1, λ h. (is.members a).1 (let within = acquire_within events a (acquire_of_class events (class_in e) a h) in omega arith, h));
  }

  -- each acquire is in a class
  in_class : (a : ℕ) → IsAcquire events a → IsInClass (map class_in entries) a
  in_class a acquire =
      let within = acquire_within events a acquire in
      let found = noted.all a (omega arith) acquire in
      record { class = class_in found.entry; listed = contains_at (map class_in entries) found.number (class_in found.entry) (class_at entries found.number found.entry found.at); acquires = found.acquires }

  -- each listed class is one of the trace
  listed_is : (c : Class) → Contains (map class_in entries) c → IsClass events c
  listed_is c m =
      let at = index_of (map class_in entries) c m in
      let e = entry_of entries at.0 c at.1 in
      subst (IsClass events) e.2 (is_class at.0 e.0 e.1)

  -- so the entries are the classes of the trace
  pub classes_whole : AreClasses events (map class_in entries)
  classes_whole = record {
    order = order;
    members = λ c. (listed_is c, back c);
    all = in_class;
  }
    where
      order : AllPairs (λ a b. first_place a < first_place b) (map class_in entries)
      order i j d less within =
          let at_i = entry_of entries i (get_or (map class_in entries) i d) (slice_get-get_or (map class_in entries) i d (omega arith)) in
          let at_j = entry_of entries j (get_or (map class_in entries) j d) (slice_get-get_or (map class_in entries) j d within) in
          subst (λ (c : Class). first_place c < first_place (get_or (map class_in entries) j d)) at_i.2
          (subst (λ (c : Class). first_place (class_in at_i.0) < first_place c) at_j.2 (noted.order i j at_i.0 at_j.0 less at_i.1 at_j.1))

      back : (c : Class) → IsClass events c → Contains (map class_in entries) c
      back c is =
          let first = has_first c.acquires is.some in
          let of_c = (is.members (first_place c)).0 first in
          let found = in_class (first_place c) (acquire_of_class events c (first_place c) of_c) in
          subst (Contains (map class_in entries)) (class_unique events found.class c (first_place c) (listed_is found.class found.listed) is found.acquires first) found.listed

-- the locks of the classes are below the greatest number where those of the trace are
pub locks_whole : (events : List Event) (classes : List Class) (bound : ℕ) → AreLocksBelow events bound → AreClasses events classes → HaveLocksBelow classes bound
locks_whole events classes bound below are = record {
  lock = λ c m. below (first_place c) c.lock (of_class c m).acquires.op;
  held = λ c l m h. let holds = ((of_class c m).held l).0 h in below holds.since l holds.acquired.op;
}
  where
    of_class : (c : Class) → Contains classes c → IsOfClass events c (first_place c)
    of_class c m = let is = (are.members c).0 m in (is.members (first_place c)).0 (has_first c.acquires is.some)

-- the locks that classes hold are below a number where those that they take are: each lock that is held was taken
pub held_below : (events : List Event) (classes : List Class) (bound : ℕ) → AreClasses events classes → ((n : ℕ) (c : Class) → slice_get classes n ≡ Some c → c.lock < bound) → HaveLocksBelow classes bound
held_below events classes bound are below = record {
  lock = lock;
  held = λ c l m h. let holds = ((of_class c m).held l).0 h in taken holds.since l holds.acquired.op;
}
  where
    of_class : (c : Class) → Contains classes c → IsOfClass events c (first_place c)
    of_class c m = let is = (are.members c).0 m in (is.members (first_place c)).0 (has_first c.acquires is.some)

    lock : (c : Class) → Contains classes c → c.lock < bound
    lock c m = let at = index_of classes c m in below at.0 c at.1

    -- an acquire of the trace takes the lock of its class
    taken : (a l : ℕ) → op_at events a ≡ Some (Acquire l) → l < bound
    taken a l op =
        let found = are.all a (l, op) in
        let own = (((are.members found.class).0 found.listed).members a).0 found.acquires in
        let there = own.acquires.op in
        let same : Acquire found.class.lock ≡ Acquire l = (let both : Some (Acquire found.class.lock) ≡ Some (Acquire l) = sym there ∙ op in cc) in
        let is : found.class.lock ≡ l = cc in
        subst (λ (k : ℕ). k < bound) is (lock found.class found.listed)
