-- Reading classes from their entries.
use Rattle.std.proofs.Common.{◌≡◌, ◌≢◌, ℕ, ◌<◌, ◌≤◌, ◌⊎◌, inl, inr, Bool, List, [], ◌∷◌, length, map, get_or, Some, None, refl, sym, ap, subst, ◌∙◌, arith}
use Rattle.std.specs.Prelude.{slice_get, Contains, ◌↔◌, IsTrue}
use Rattle.std.specs.Option.{option_map}
use Rattle.std.proofs.lemmas.List.{length-map}
use Rattle.std.proofs.lemmas.Option.{slice_get-get_or, slice_get_cases}
use Rattle.trace_laws.specs.Event.{Event}
use Rattle.trace_laws.specs.Patterns.{Class, IsClass, IsOfClass}
use Rattle.trace_laws.proofs.Places.{contains_at}
use Rattle.trace_index.specs.HeldSets.{IsHeldAt, HaveNoneCommon}
use Rattle.lock_graph.specs.declared.entry.Entry.{Entry}
use Rattle.lock_graph.specs.declared.classes.Classes.TheInside.{Inside}
use Rattle.lock_graph.specs.Classes.{Graph, AreClasses}
use Rattle.lock_graph.specs.Listing.{class_in}
use Rattle.lock_graph.specs.Graphs.{graph_in, IsGraph}
use Rattle.lock_graph.proofs.Alike.{held_of_class}
use Rattle.lock_graph.proofs.Whole.{class_at}

-- entries, as they are seen
module _ (x : Inside) (g : Graph) (view : graph_in x ≡ g) where
  -- there is one for each class
  pub within_entries : (n : ℕ) → n < length g.classes → n < length x.entries.items
  within_entries n less = let seen : n < length (map class_in x.entries.items) = subst (λ (h : Graph). n < length h.classes) (sym view) less in omega (arith, length-map x.entries.items class_in)

  -- a class, as it was read from its entry
  pub class_read : (n : ℕ) (e : Entry) → n < length g.classes → e ≡ get_or x.entries.items n e → slice_get g.classes n ≡ Some (class_in e)
  class_read n e less read =
      let at : slice_get x.entries.items n ≡ Some e = slice_get-get_or x.entries.items n e (within_entries n less) ∙ ap Some (sym read) in
      subst (λ (h : Graph). slice_get h.classes n ≡ Some (class_in e)) view (class_at x.entries.items n e at)

  -- what it has
  pub field_read : {Y : Type 0} (f : Class → Y) (n : ℕ) (e : Entry) → n < length g.classes → e ≡ get_or x.entries.items n e → option_map f (slice_get g.classes n) ≡ Some (f (class_in e))
  field_read f n e less read = ap (option_map f) (class_read n e less read)

  -- where the entries are the classes of the trace
  module _ (is : IsGraph x) where
    -- the classes that are seen are
    pub seen_classes : AreClasses g.trace.events g.classes
    seen_classes = subst (λ (h : Graph). AreClasses h.trace.events h.classes) view is.classes

    -- an entry is a class of the trace
    entry_is : (n : ℕ) (e : Entry) → n < length g.classes → e ≡ get_or x.entries.items n e → IsClass g.trace.events (class_in e)
    entry_is n e less read = (seen_classes.members (class_in e)).0 (contains_at g.classes n (class_in e) (class_read n e less read))

    -- so it has an acquire
    pub has_acquire : (n : ℕ) (e : Entry) → n < length g.classes → e ≡ get_or x.entries.items n e → 0 < length e.acquires.items
    has_acquire n e less read = go e.acquires.items (entry_is n e less read).some
      where
        go : (xs : List ℕ) → xs ≢ [] → 0 < length xs
        go [] some = absurd (some refl)
        go (y ∷ ys) some = omega arith

    -- the first one is of the class
    pub first_read : (n p : ℕ) (e : Entry) → n < length g.classes → e ≡ get_or x.entries.items n e → p ≡ get_or e.acquires.items 0 p → IsOfClass g.trace.events (class_in e) p
    first_read n p e less read first =
        let is_class = entry_is n e less read in
        let at = slice_get-get_or e.acquires.items 0 p (has_acquire n e less read) ∙ ap Some (sym first) in
        (is_class.members p).0 (contains_at e.acquires.items 0 p at)

    -- and of what is seen as the class
    pub first_seen : (n p : ℕ) (e : Entry) (c : Class) → n < length g.classes → e ≡ get_or x.entries.items n e → p ≡ get_or e.acquires.items 0 p → slice_get g.classes n ≡ Some c → IsOfClass g.trace.events c p
    first_seen n p e c less read first at =
        let own = class_read n e less read in
        let same : class_in e ≡ c = cc in
        subst (λ (k : Class). IsOfClass g.trace.events k p) same (first_read n p e less read first)

-- the held set of a class has a lock exactly where that of one of its acquires has it
pub holds_tells : (events : List Event) (c : Class) (p l : ℕ) (r : Bool) → IsOfClass events c p → (IsTrue r ↔ IsHeldAt events p l) → IsTrue r ↔ Contains c.held l
holds_tells events c p l r of_class tells = (λ t. (held_of_class events c p of_class l).1 (tells.0 t), λ h. tells.1 ((held_of_class events c p of_class l).0 h))

-- two classes have no held lock in common exactly where two acquires have none
pub apart_tells : (events : List Event) (c d : Class) (p q : ℕ) (r : Bool) → IsOfClass events c p → IsOfClass events d q → (IsTrue r ↔ HaveNoneCommon events p q) → IsTrue r ↔ ((l : ℕ) → Contains c.held l → Contains d.held l → ⊥)
apart_tells events c d p q r of_c of_d tells = (
  λ t l in_c in_d. tells.0 t l ((held_of_class events c p of_c l).0 in_c) ((held_of_class events d q of_d l).0 in_d),
  λ none. tells.1 (λ l at_p at_q. none l ((held_of_class events c p of_c l).1 at_p) ((held_of_class events d q of_d l).1 at_q)),
)

-- what a class has, as it was read
pub read_is : {Y : Type 0} (f : Class → Y) (classes : List Class) (n : ℕ) (y : Y) (c : Class) → option_map f (slice_get classes n) ≡ Some y → slice_get classes n ≡ Some c → f c ≡ y
read_is f classes n y c read at = let seen : option_map f (Some c) ≡ Some y = subst (λ o. option_map f o ≡ Some y) at read in cc

-- the class of a number
pub listed_at : (classes : List Class) (n : ℕ) → n < length classes → (c : Class) × (slice_get classes n ≡ Some c)
listed_at classes n within = go (slice_get_cases classes n).1
  where
    go : ((c : Class) × (n < length classes) × (slice_get classes n ≡ Some c) × (get_or classes n c ≡ c)) ⊎ ((length classes ≤ n) × (slice_get classes n ≡ None)) → (c : Class) × (slice_get classes n ≡ Some c)
    go (inl found) = (found.0, found.2)
    go (inr past) = absurd (let out = past.0 in omega arith)
