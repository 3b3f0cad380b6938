-- Acquires of one class are those with one key.
use Rattle.std.proofs.Common.{◌≡◌, ℕ, ◌<◌, ◌≤◌, List, Some, sym, subst, arith}
use Rattle.std.specs.Prelude.{Contains, ◌↔◌}
use Rattle.trace_laws.specs.Event.{Event}
use Rattle.trace_laws.specs.declared.event.Op.TheVariants.{Acquire}
use Rattle.trace_laws.specs.Trace.{thread_at, op_at, Acquires, Holds}
use Rattle.trace_laws.specs.Patterns.{Class, IsClass, IsOfClass}
use Rattle.trace_laws.proofs.Ordered.{rising_unique}
use Rattle.trace_index.specs.HeldSets.{IsAcquire, IsHeldAt, HaveSameHeld, IsFirstAlike}

-- the acquires of a class are acquires
pub acquire_of_class : (events : List Event) (class : Class) (a : ℕ) → IsOfClass events class a → IsAcquire events a
acquire_of_class events class a is = (class.lock, is.acquires.op)

-- the held set of a class is that of each of its acquires
pub held_of_class : (events : List Event) (class : Class) (a : ℕ) → IsOfClass events class a → (l : ℕ) → Contains class.held l ↔ IsHeldAt events a l
held_of_class events class a is l = (λ c. record { thread = class.thread; is_of = is.acquires.thread; holds = (is.held l).0 c }, λ h. (is.held l).1 (let own = h.is_of in let mine = is.acquires.thread in let same : h.thread ≡ class.thread = cc in subst (λ (t : ℕ). Holds events ◌<◌ a t l) same h.holds))

-- two acquires of a class have one held set
pub same_in_class : (events : List Event) (class : Class) (a b : ℕ) → IsOfClass events class a → IsOfClass events class b → HaveSameHeld events a b
same_in_class events class a b x y l = (λ h. (held_of_class events class b y l).0 ((held_of_class events class a x l).1 h), λ h. (held_of_class events class a x l).0 ((held_of_class events class b y l).1 h))

-- an acquire with the thread, the lock and the held set of one of a class is of the class
pub of_class : (events : List Event) (class : Class) (a b : ℕ) → IsOfClass events class a → Acquires events b class.thread class.lock → HaveSameHeld events a b → IsOfClass events class b
of_class events class a b is acquires same = record {
  acquires = acquires;
  held = λ l. (λ c. forth l ((same l).0 ((held_of_class events class a is l).0 c)), λ h. (held_of_class events class a is l).1 ((same l).1 (record { thread = class.thread; is_of = acquires.thread; holds = h })));
}
  where
    forth : (l : ℕ) → IsHeldAt events b l → Holds events ◌<◌ b class.thread l
    forth l h = let own = h.is_of in let mine = acquires.thread in let one : h.thread ≡ class.thread = cc in subst (λ (t : ℕ). Holds events ◌<◌ b t l) one h.holds

-- two places with the held set of a third have one
pub same_through : (events : List Event) (a b c : ℕ) → HaveSameHeld events a c → HaveSameHeld events b c → HaveSameHeld events a b
same_through events a b c x y l = (λ h. (y l).1 ((x l).0 h), λ h. (x l).1 ((y l).0 h))

-- two acquires have one held set exactly where their first alike is one
pub alike_tells : (events : List Event) (a b f g : ℕ) → IsFirstAlike events a f → IsFirstAlike events b g → (f ≡ g) ↔ HaveSameHeld events a b
alike_tells events a b f g x y = (λ same. same_through events a b f x.same (subst (HaveSameHeld events b) (sym same) y.same), from)
  where
    from : HaveSameHeld events a b → f ≡ g
    from same =
        let down : f ≤ g = x.least g y.acquire (λ l. (λ h. (y.same l).0 ((same l).0 h), λ h. (same l).1 ((y.same l).1 h))) in
        let up : g ≤ f = y.least f x.acquire (λ l. (λ h. (x.same l).0 ((same l).1 h), λ h. (same l).0 ((x.same l).1 h))) in
        omega arith

-- two classes of a trace with a common acquire are equal
pub class_unique : (events : List Event) (c d : Class) (a : ℕ) → IsClass events c → IsClass events d → Contains c.acquires a → Contains d.acquires a → c ≡ d
class_unique events c d a is_c is_d in_c in_d =
    let of_c = (is_c.members a).0 in_c in
    let of_d = (is_d.members a).0 in_d in
    let thread_c = of_c.acquires.thread in
    let thread_d = of_d.acquires.thread in
    let op_c = of_c.acquires.op in
    let op_d = of_d.acquires.op in
    let thread : c.thread ≡ d.thread = cc in
    let lock : c.lock ≡ d.lock = cc in
    let held : c.held ≡ d.held = rising_unique c.held d.held is_c.held is_d.held
    (λ l m. (held_of_class events d a of_d l).1 ((held_of_class events c a of_c l).0 m))
    (λ l m. (held_of_class events c a of_c l).1 ((held_of_class events d a of_d l).0 m)) in
    let acquires : c.acquires ≡ d.acquires = rising_unique c.acquires d.acquires is_c.order is_d.order
    (λ b m. (is_d.members b).1 (moves c d a of_c of_d thread lock b ((is_c.members b).0 m)))
    (λ b m. (is_c.members b).1 (moves d c a of_d of_c (sym thread) (sym lock) b ((is_d.members b).0 m))) in
    λ j. record { thread = thread j; lock = lock j; held = held j; acquires = acquires j }
  where
    moves : (x y : Class) (p : ℕ) → IsOfClass events x p → IsOfClass events y p → x.thread ≡ y.thread → x.lock ≡ y.lock → (b : ℕ) → IsOfClass events x b → IsOfClass events y b
    moves x y p of_x of_y thread lock b is = of_class events y p b of_y
        (record { thread = subst (λ (t : ℕ). thread_at events b ≡ Some t) thread is.acquires.thread; op = subst (λ (l : ℕ). op_at events b ≡ Some (Acquire l)) lock is.acquires.op })
        (same_in_class events x p b of_x is)
