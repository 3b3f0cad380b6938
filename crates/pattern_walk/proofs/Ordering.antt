-- Listing the classes that hold a lock, and the locks that are held where one is taken.
use Rattle.std.proofs.Common.{◌≡◌, ◌≢◌, ℕ, ◌+◌, ◌<◌, ◌≤◌, Bool, true, false, List, [], ◌∷◌, ◌++◌, length, get_or, Some, ◌⊎◌, inl, inr, eqb, ◌||◌, refl, sym, ap, subst, ◌∙◌, arith}
use Rattle.std.specs.Prelude.{slice_get, slice_set, Vec, Contains, All, ◌↔◌}
use Rattle.std.specs.Option.{option_map}
use Rattle.std.specs.List.{list_any}
use Rattle.std.specs.declared.alloc.Global.{Global}
use Rattle.std.proofs.Math.ListN.{length-set}
use Rattle.std.proofs.lemmas.Bool.{cases_eq, eqb-true}
use Rattle.std.proofs.lemmas.Option.{slice_get_within, slice_get-get_or}
use Rattle.std.proofs.lemmas.List.Elements.{Contains-push, Contains-push_cases, Contains-append_left}
use Rattle.trace_laws.specs.Reordering.{Rises}
use Rattle.trace_laws.specs.Patterns.{Class}
use Rattle.trace_laws.proofs.Places.{index_of, contains_at, contains_head, contains_tail, contains_none, mapped_from}
use Rattle.trace_laws.proofs.Enabling.{Rises-push}
use Rattle.trace_laws.proofs.Growing.{slice_get-set_same, slice_get-set_other}
use Rattle.trace_laws.proofs.Judges.{dec_contains}
use Rattle.lock_graph.specs.Classes.{HaveLocksBelow}
use Rattle.pattern_walk.specs.Cycles.{class_of}
use Rattle.pattern_walk.specs.Linked.{StandsInCycle}
use Rattle.pattern_walk.specs.Orders.{AddsClass, AddsClassBelow, AreHoldersOf, AreHolders, AreBefore}
use Rattle.pattern_walk.proofs.Lists.{all_at}
use Rattle.pattern_walk.proofs.PatternCycles.{class_at, class_is}

-- what a class has, as it was read
pub read_of : {Y : Type 0} (f : Class → Y) (classes : List Class) (n : ℕ) (y : Y) → option_map f (slice_get classes n) ≡ Some y → f (class_of classes n) ≡ y
read_of f classes n y read = let found = mapped_from f (slice_get classes n) y read in ap f (class_is classes n found.0 found.1) ∙ found.2

-- the lock of a class, as it was read, is below a number that all are below
pub lock_below : (classes : List Class) (n lock bound : ℕ) → n < length classes → option_map (λ c. c.lock) (slice_get classes n) ≡ Some lock → HaveLocksBelow classes bound → lock < bound
lock_below classes n lock bound within read below = subst (λ (l : ℕ). l < bound) (read_of (λ c. c.lock) classes n lock read) (below.lock (class_of classes n) (contains_at classes n (class_of classes n) (class_at classes n within)))

-- what stands in a list after a write
written : {X : Type 0} (xs : List X) (l k : ℕ) (x y : X) → l < length xs → slice_get (slice_set xs l x) k ≡ Some y → ((k ≡ l) × (x ≡ y)) ⊎ ((k ≢ l) × (slice_get xs k ≡ Some y))
written {X} xs l k x y within at = go (cases_eq k l)
  where
    go : (k ≡ l) ⊎ (k ≢ l) → ((k ≡ l) × (x ≡ y)) ⊎ ((k ≢ l) × (slice_get xs k ≡ Some y))
    go (inl same) = inl (same, (let here : slice_get (slice_set xs l x) l ≡ Some x = slice_get-set_same xs l x within in let there : slice_get (slice_set xs l x) l ≡ Some y = subst (λ (i : ℕ). slice_get (slice_set xs l x) i ≡ Some y) same at in cc))
    go (inr other) = inr (other, sym (slice_get-set_other xs l k x other) ∙ at)

-- a class is added to the list of each of some locks
module _ (old : List (Vec ℕ Global)) (locks : List ℕ) (class : ℕ) where
  -- of one more
  pub adds_more : (k lock : ℕ) (now : List (Vec ℕ Global)) (w x : Vec ℕ Global) → Rises locks → AddsClassBelow old locks class k now → slice_get locks k ≡ Some lock → slice_get now lock ≡ Some w → x.items ≡ w.items ++ class ∷ [] → AddsClassBelow old locks class (k + 1) (slice_set now lock x)
  adds_more k lock now w x rises adds at_lock at_w grown = record {
    size = length-set now lock x ∙ adds.size;
    added = λ j l v y less at_l at_v at_y. added j l v y less at_l at_v at_y (cases_eq j k);
    same = λ l none. slice_get-set_other now lock l x (λ is. none k (omega arith) (at_lock ∙ ap Some (sym is))) ∙ adds.same l (λ j less at. none j (omega arith) at);
  }
    where
      within : lock < length now
      within = slice_get_within now lock w at_w

      added : (j l : ℕ) (v y : Vec ℕ Global) → j < k + 1 → slice_get locks j ≡ Some l → slice_get old l ≡ Some v → slice_get (slice_set now lock x) l ≡ Some y → (j ≡ k) ⊎ (j ≢ k) → y.items ≡ v.items ++ class ∷ []
      added j l v y less at_l at_v at_y (inl same) =
          let there : slice_get locks k ≡ Some l = subst (λ (i : ℕ). slice_get locks i ≡ Some l) same at_l in
          let own = at_lock in
          let is : l ≡ lock = cc in
          here (subst (λ (i : ℕ). slice_get old i ≡ Some v) is at_v) (written now lock l x y within at_y) is
        where
          here : slice_get old lock ≡ Some v → ((l ≡ lock) × (x ≡ y)) ⊎ ((l ≢ lock) × (slice_get now l ≡ Some y)) → l ≡ lock → y.items ≡ v.items ++ class ∷ []
          here at (inl h) is =
              let stood = adds.same lock (λ i before at_i. let up = rises i k lock lock before at_i at_lock in omega arith) in
              let read = at_w in
              let one : w ≡ v = cc in
              subst (λ (z : Vec ℕ Global). z.items ≡ v.items ++ class ∷ []) h.1 (grown ∙ ap (λ (z : Vec ℕ Global). z.items ++ class ∷ []) one)
          here at (inr h) is = absurd (h.0 is)
      added j l v y less at_l at_v at_y (inr other) = go (written now lock l x y within at_y)
        where
          before : j < k
          before = omega (arith, other)

          go : ((l ≡ lock) × (x ≡ y)) ⊎ ((l ≢ lock) × (slice_get now l ≡ Some y)) → y.items ≡ v.items ++ class ∷ []
          go (inl h) = absurd (let up = rises j k l lock before at_l at_lock in let same = h.0 in omega arith)
          go (inr h) = adds.added j l v y before at_l at_v h.1

  -- of all
  pub adds_all : (k : ℕ) (now : List (Vec ℕ Global)) → length locks ≤ k → AddsClassBelow old locks class k now → AddsClass old locks class now
  adds_all k now all adds = record {
    size = adds.size;
    added = λ l v w c at_v at_w. let at = index_of locks l c in let within = slice_get_within locks at.0 l at.1 in adds.added at.0 l v w (omega arith) at.1 at_v at_w;
    same = λ l none. adds.same l (λ j less at. none (contains_at locks j l at));
  }

-- before the first class no lock is held
pub holders_none : (classes : List Class) (holders : List (Vec ℕ Global)) → HaveLocksBelow classes (length holders) → All (λ (v : Vec ℕ Global). v.items ≡ []) holders → AreHolders classes 0 holders
holders_none classes holders locks empty = record {
  locks = locks;
  each = λ l v at. subst (AreHoldersOf classes 0 l) (sym (all_at (λ (w : Vec ℕ Global). w.items ≡ []) holders empty l v at)) (record {
    order = λ a b i j less at_a at_b. cc;
    only = λ c m. absurd (contains_none c m);
    all = λ c less stands holds. absurd (omega arith);
  });
}

-- the next class is added to the locks that it holds
pub holders_next : (classes : List Class) (n : ℕ) (holders more : List (Vec ℕ Global)) (held : List ℕ) → (class_of classes n).held ≡ held → AreHolders classes n holders → AddsClass holders held n more → AreHolders classes (n + 1) more
holders_next classes n holders more held is old adds = record {
  locks = subst (HaveLocksBelow classes) (sym adds.size) old.locks;
  each = λ l w at. each l w at (dec_contains held l);
}
  where
    each : (l : ℕ) (w : Vec ℕ Global) → slice_get more l ≡ Some w → Dec (Contains held l) → AreHoldersOf classes (n + 1) l w.items
    each l w at (yes has) = subst (AreHoldersOf classes (n + 1) l) (sym (adds.added l v w has at_v at)) (record {
      order = Rises-push v.items n was.order (λ i m. (was.only i m).0);
      only = λ c m. forth c (Contains-push_cases v.items n c m);
      all = λ c less stands holds. back c less stands holds (cases_eq c n);
    })
      where
        v : Vec ℕ Global
        v = get_or holders l w

        at_v : slice_get holders l ≡ Some v
        at_v = slice_get-get_or holders l w (let within = slice_get_within more l w at in let size = adds.size in omega arith)

        was : AreHoldersOf classes n l v.items
        was = old.each l v at_v

        forth : (c : ℕ) → Contains v.items c ⊎ (n ≡ c) → (c < n + 1) × Contains (class_of classes c).held l
        forth c (inl m) = let h = was.only c m in (let less = h.0 in omega arith, h.1)
        forth c (inr same) = (omega arith, subst (λ (k : ℕ). Contains (class_of classes k).held l) same (subst (λ (xs : List ℕ). Contains xs l) (sym is) has))

        back : (c : ℕ) → c < n + 1 → StandsInCycle classes c → Contains (class_of classes c).held l → (c ≡ n) ⊎ (c ≢ n) → Contains (v.items ++ n ∷ []) c
        back c less stands holds (inl same) = subst (Contains (v.items ++ n ∷ [])) (sym same) (Contains-push v.items n)
        back c less stands holds (inr other) = Contains-append_left v.items (n ∷ []) c (was.all c (omega (arith, other)) stands holds)
    each l w at (no lacks) = record {
      order = was.order;
      only = λ c m. let h = was.only c m in (let less = h.0 in omega arith, h.1);
      all = λ c less stands holds. back c less stands holds (cases_eq c n);
    }
      where
        was : AreHoldersOf classes n l w.items
        was = old.each l w (sym (adds.same l lacks) ∙ at)

        back : (c : ℕ) → c < n + 1 → StandsInCycle classes c → Contains (class_of classes c).held l → (c ≡ n) ⊎ (c ≢ n) → Contains w.items c
        back c less stands holds (inl same) = absurd (lacks (subst (λ (xs : List ℕ). Contains xs l) is (subst (λ (k : ℕ). Contains (class_of classes k).held l) same holds)))
        back c less stands holds (inr other) = was.all c (omega (arith, other)) stands holds

-- a class that stands in no cycle is left out
pub holders_past : (classes : List Class) (n : ℕ) (holders : List (Vec ℕ Global)) → AreHolders classes n holders → (StandsInCycle classes n → ⊥) → AreHolders classes (n + 1) holders
holders_past classes n holders old none = record { locks = old.locks; each = λ l v at. each l v (old.each l v at) }
  where
    each : (l : ℕ) (v : Vec ℕ Global) → AreHoldersOf classes n l v.items → AreHoldersOf classes (n + 1) l v.items
    each l v was = record {
      order = was.order;
      only = λ c m. let h = was.only c m in (let less = h.0 in omega arith, h.1);
      all = λ c less stands holds. by c less stands holds (cases_eq c n);
    }
      where
        by : (c : ℕ) → c < n + 1 → StandsInCycle classes c → Contains (class_of classes c).held l → (c ≡ n) ⊎ (c ≢ n) → Contains v.items c
        by c less stands holds (inl same) = absurd (none (subst (StandsInCycle classes) same stands))
        by c less stands holds (inr other) = was.all c (omega (arith, other)) stands holds

-- before the first class no lock is taken
pub before_none : (classes : List Class) (before : List (Vec ℕ Global)) → HaveLocksBelow classes (length before) → All (λ (v : Vec ℕ Global). v.items ≡ []) before → AreBefore classes 0 before
before_none classes before locks empty = record {
  locks = locks;
  all = λ c h v less stands holds at. absurd (omega arith);
  below = λ l h v at m. absurd (contains_none h (subst (λ (xs : List ℕ). Contains xs h) (all_at (λ (w : Vec ℕ Global). w.items ≡ []) before empty l v at) m));
}

-- what the next class holds is before the lock that it takes
pub before_next : (classes : List Class) (n lock : ℕ) (before : List (Vec ℕ Global)) (held : List ℕ) (v w : Vec ℕ Global) → (class_of classes n).held ≡ held → (class_of classes n).lock ≡ lock → AreBefore classes n before → slice_get before lock ≡ Some v → ((h : ℕ) → Contains w.items h ↔ (Contains v.items h ⊎ Contains held h)) → ((h : ℕ) → Contains held h → h < length before) → AreBefore classes (n + 1) (slice_set before lock w)
before_next classes n lock before held v w is_held is_lock old at_v members few = record {
  locks = subst (HaveLocksBelow classes) (sym (length-set before lock w)) old.locks;
  all = λ c h x less stands holds at. all c h x less stands holds (cases_eq c n) (written before lock (class_of classes c).lock w x within at);
  below = λ l h x at m. let few = below l h x m (written before lock l w x within at) in omega (arith, length-set before lock w);
}
  where
    within : lock < length before
    within = slice_get_within before lock v at_v

    all : (c h : ℕ) (x : Vec ℕ Global) → c < n + 1 → StandsInCycle classes c → Contains (class_of classes c).held h → (c ≡ n) ⊎ (c ≢ n) → (((class_of classes c).lock ≡ lock) × (w ≡ x)) ⊎ (((class_of classes c).lock ≢ lock) × (slice_get before (class_of classes c).lock ≡ Some x)) → Contains x.items h
    all c h x less stands holds (inl same) (inl y) = subst (λ (z : Vec ℕ Global). Contains z.items h) y.1 ((members h).1 (inr (subst (λ (xs : List ℕ). Contains xs h) is_held (subst (λ (k : ℕ). Contains (class_of classes k).held h) same holds))))
    all c h x less stands holds (inl same) (inr y) = absurd (y.0 (subst (λ (k : ℕ). (class_of classes k).lock ≡ lock) (sym same) is_lock))
    all c h x less stands holds (inr other) (inl y) =
        let there : slice_get before (class_of classes c).lock ≡ Some v = subst (λ (l : ℕ). slice_get before l ≡ Some v) (sym y.0) at_v in
        subst (λ (z : Vec ℕ Global). Contains z.items h) y.1 ((members h).1 (inl (old.all c h v (omega (arith, other)) stands holds there)))
    all c h x less stands holds (inr other) (inr y) = old.all c h x (omega (arith, other)) stands holds y.1

    below : (l h : ℕ) (x : Vec ℕ Global) → Contains x.items h → ((l ≡ lock) × (w ≡ x)) ⊎ ((l ≢ lock) × (slice_get before l ≡ Some x)) → h < length before
    below l h x m (inl y) = by ((members h).0 (subst (λ (z : Vec ℕ Global). Contains z.items h) (sym y.1) m))
      where
        by : Contains v.items h ⊎ Contains held h → h < length before
        by (inl c) = old.below lock h v at_v c
        by (inr c) = few h c
    below l h x m (inr y) = old.below l h x y.1 m

-- what a class holds that stands in no cycle is left out
pub before_past : (classes : List Class) (n : ℕ) (before : List (Vec ℕ Global)) → AreBefore classes n before → (StandsInCycle classes n → ⊥) → AreBefore classes (n + 1) before
before_past classes n before old none = record { locks = old.locks; all = λ c h v less stands holds at. all c h v less stands holds at (cases_eq c n); below = old.below }
  where
    all : (c h : ℕ) (v : Vec ℕ Global) → c < n + 1 → StandsInCycle classes c → Contains (class_of classes c).held h → slice_get before (class_of classes c).lock ≡ Some v → (c ≡ n) ⊎ (c ≢ n) → Contains v.items h
    all c h v less stands holds at (inl same) = absurd (none (subst (StandsInCycle classes) same stands))
    all c h v less stands holds at (inr other) = old.all c h v (omega (arith, other)) stands holds at

-- a number that a list was tested for is in it
pub contains_tested : (xs : List ℕ) (x : ℕ) → list_any (λ y. eqb y x) xs ≡ true → Contains xs x
contains_tested [] x h = cc
contains_tested (y ∷ ys) x h = go (eqb y x) refl h (contains_tested ys x)
  where
    go : (b : Bool) → eqb y x ≡ b → (b || list_any (λ z. eqb z x) ys) ≡ true → (list_any (λ z. eqb z x) ys ≡ true → Contains ys x) → Contains (y ∷ ys) x
    go true e h rest = subst (Contains (y ∷ ys)) (eqb-true y x e) (contains_head y ys)
    go false e h rest = contains_tail y ys x (rest h)

-- the first k locks of a list were added to another
abbrev pub AreAdded : List ℕ → List ℕ → ℕ → List ℕ → Type 0
AreAdded old locks k now = (x : ℕ) → Contains now x ↔ (Contains old x ⊎ ((j : ℕ) × (j < k) × (slice_get locks j ≡ Some x)))

-- none of them
pub locks_none : (old locks : List ℕ) → AreAdded old locks 0 old
locks_none old locks x = (λ c. inl c, λ h. by h)
  where
    by : Contains old x ⊎ ((j : ℕ) × (j < 0) × (slice_get locks j ≡ Some x)) → Contains old x
    by (inl c) = c
    by (inr h) = let less = h.1 in absurd (omega arith)

-- one more, which is in the list with it and all others
pub locks_more : (old locks : List ℕ) (k lock : ℕ) (now more : List ℕ) → AreAdded old locks k now → slice_get locks k ≡ Some lock → ((x : ℕ) → Contains now x → Contains more x) → Contains more lock → ((x : ℕ) → Contains more x → Contains now x ⊎ (lock ≡ x)) → AreAdded old locks (k + 1) more
locks_more old locks k lock now more added at kept has only x = (λ c. forth (only x c), back)
  where
    wider : Contains old x ⊎ ((j : ℕ) × (j < k) × (slice_get locks j ≡ Some x)) → Contains old x ⊎ ((j : ℕ) × (j < k + 1) × (slice_get locks j ≡ Some x))
    wider (inl c) = inl c
    wider (inr h) = inr (h.0, (let less = h.1 in omega arith), h.2)

    forth : Contains now x ⊎ (lock ≡ x) → Contains old x ⊎ ((j : ℕ) × (j < k + 1) × (slice_get locks j ≡ Some x))
    forth (inl c) = wider ((added x).0 c)
    forth (inr same) = inr (k, omega arith, at ∙ ap Some same)

    back : Contains old x ⊎ ((j : ℕ) × (j < k + 1) × (slice_get locks j ≡ Some x)) → Contains more x
    back (inl c) = kept x ((added x).1 (inl c))
    back (inr h) = go (cases_eq h.0 k)
      where
        go : (h.0 ≡ k) ⊎ (h.0 ≢ k) → Contains more x
        go (inl same) =
            let there : slice_get locks k ≡ Some x = subst (λ (i : ℕ). slice_get locks i ≡ Some x) same h.2 in
            let own = at in
            let is : lock ≡ x = cc in
            subst (Contains more) is has
        go (inr other) = kept x ((added x).1 (inr (h.0, (let less = h.1 in omega (arith, other)), h.2)))

-- all of them
pub locks_all : (old locks : List ℕ) (k : ℕ) (now : List ℕ) → length locks ≤ k → AreAdded old locks k now → (x : ℕ) → Contains now x ↔ (Contains old x ⊎ Contains locks x)
locks_all old locks k now all added x = (λ c. forth ((added x).0 c), λ h. (added x).1 (back h))
  where
    forth : Contains old x ⊎ ((j : ℕ) × (j < k) × (slice_get locks j ≡ Some x)) → Contains old x ⊎ Contains locks x
    forth (inl c) = inl c
    forth (inr h) = inr (contains_at locks h.0 x h.2)

    back : Contains old x ⊎ Contains locks x → Contains old x ⊎ ((j : ℕ) × (j < k) × (slice_get locks j ≡ Some x))
    back (inl c) = inl c
    back (inr c) = let at = index_of locks x c in let within = slice_get_within locks at.0 x at.1 in inr (at.0, omega arith, at.1)
