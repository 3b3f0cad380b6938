-- The numbers of the held sets of acquires.
use Rattle.std.proofs.Common.{◌≡◌, ◌≢◌, ℕ, ◌+◌, ◌<◌, ◌≤◌, List, [], ◌∷◌, ◌++◌, length, get_or, Some, ◌⊎◌, inl, inr, refl, sym, ap, subst, ◌∙◌, arith, length-append}
use Rattle.std.specs.Prelude.{slice_get, slice_set, Contains, ◌↔◌}
use Rattle.std.proofs.Math.ListN.{length-set}
use Rattle.std.proofs.lemmas.Bool.{cases_eq}
use Rattle.std.proofs.lemmas.Option.{slice_get_within, slice_get-get_or}
use Rattle.trace_laws.specs.Event.{Event}
use Rattle.trace_laws.specs.declared.event.Op.TheVariants.{Acquire}
use Rattle.trace_laws.specs.Trace.{thread_at, Holds}
use Rattle.trace_laws.proofs.Ordered.{rising_unique}
use Rattle.trace_laws.proofs.Places.{within_from_op}
use Rattle.trace_laws.proofs.Growing.{slice_get-set_same, slice_get-set_other}
use Rattle.trace_index.specs.HeldSets.{IsAcquire, IsHeldSet, HaveSameHeld, HaveNoneCommon, IsFirstAlike, AreHeldBy, AreAllDistinct, KeepNumbers, IsNumberedSet, IsFirstWith, AreHeldSets}
use Rattle.trace_index.proofs.SetNumbering.{push_cases}

-- an acquire is a place of the trace
pub acquire_within : (events : List Event) (a : ℕ) → IsAcquire events a → a < length events
acquire_within events a acquire = within_from_op events a (Acquire acquire.0) acquire.1

-- what the thread of a place holds just before it is the held set of the place
pub held_at : (events : List Event) (n t : ℕ) (held : List ℕ) → thread_at events n ≡ Some t → AreHeldBy events n t held → IsHeldSet events n held
held_at events n t held is_of by = record {
  order = by.order;
  members = λ l. (λ c. record { thread = t; is_of = is_of; holds = (by.members l).0 c }, λ h. (by.members l).1 (let own = h.is_of in let same : h.thread ≡ t = cc in subst (λ (u : ℕ). Holds events ◌<◌ n u l) same h.holds));
}

-- no acquire is numbered yet
pub sets_none : (events : List Event) (sets : List (List ℕ)) (firsts numbers : List ℕ) → sets ≡ [] → firsts ≡ [] → length numbers ≡ length events → AreHeldSets events 0 sets firsts numbers
sets_none events sets firsts numbers no_sets no_firsts places = record {
  places = places;
  few = rw no_sets (omega arith);
  known = ap length no_firsts ∙ sym (ap length no_sets);
  distinct = λ a b s at_a at_b. absurd (let none = ap (λ (xs : List (List ℕ)). slice_get xs a) (sym no_sets) ∙ at_a in cc);
  numbered = λ a k less acquire at. absurd (omega arith);
  first = λ k f at. absurd (let none = ap (λ (xs : List ℕ). slice_get xs k) (sym no_firsts) ∙ at in cc);
}

-- the acquires before a place are numbered
module _ (events : List Event) (n : ℕ) (sets : List (List ℕ)) (firsts numbers : List ℕ) (old : AreHeldSets events n sets firsts numbers) where
  -- another place changes nothing
  pub sets_stay : (IsAcquire events n → ⊥) → AreHeldSets events (n + 1) sets firsts numbers
  sets_stay other = record {
    places = old.places;
    few = let few = old.few in omega arith;
    known = old.known;
    distinct = old.distinct;
    numbered = λ a k less acquire at. old.numbered a k (earlier a less acquire (cases_eq a n)) acquire at;
    first = λ k f at. let is = old.first k f at in record {
      before = let before = is.before in omega arith;
      acquire = is.acquire;
      own = is.own;
      least = λ a less acquire own. is.least a (earlier a less acquire (cases_eq a n)) acquire own;
    };
  }
    where
      earlier : (a : ℕ) → a < n + 1 → IsAcquire events a → (a ≡ n) ⊎ (a ≢ n) → a < n
      earlier a less acquire (inl same) = absurd (other (subst (IsAcquire events) same acquire))
      earlier a less acquire (inr place) = omega (arith, place)

  -- an acquire gets the number of its held set
  module _ (more : List (List ℕ)) (set : List ℕ) (number : ℕ) (acquire : IsAcquire events n) (held : IsHeldSet events n set) (at_number : slice_get more number ≡ Some set) (distinct : AreAllDistinct more) (kept : KeepNumbers sets more) where
    -- its place has an entry
    within : n < length numbers
    within = let all = acquire_within events n acquire in let size = old.places in omega arith

    -- which is the number
    entry : slice_get (slice_set numbers n number) n ≡ Some number
    entry = slice_get-set_same numbers n number within

    -- other places keep theirs
    keeps : (a k : ℕ) → a ≢ n → slice_get (slice_set numbers n number) a ≡ Some k → slice_get numbers a ≡ Some k
    keeps a k other at = sym (slice_get-set_other numbers n a number other) ∙ at

    -- the acquires up to the place have numbers
    numbered : (a k : ℕ) → a < n + 1 → IsAcquire events a → slice_get (slice_set numbers n number) a ≡ Some k → IsNumberedSet events more a k
    numbered a k less is_acquire at = go (cases_eq a n)
      where
        go : (a ≡ n) ⊎ (a ≢ n) → IsNumberedSet events more a k
        go (inl same) =
            let there : slice_get (slice_set numbers n number) n ≡ Some k = subst (λ (p : ℕ). slice_get (slice_set numbers n number) p ≡ Some k) same at in
            let here = entry in
            let is : number ≡ k = cc in
            record { set = set; at = subst (λ (m : ℕ). slice_get more m ≡ Some set) is at_number; held = subst (λ (p : ℕ). IsHeldSet events p set) (sym same) held }
        go (inr other) = let was = old.numbered a k (omega (arith, other)) is_acquire (keeps a k other at) in record { set = was.set; at = kept k was.set was.at; held = was.held }

    -- a set that had a number keeps its first acquire
    first_stays : (k f : ℕ) → slice_get firsts k ≡ Some f → IsFirstWith events (n + 1) (slice_set numbers n number) k f
    first_stays k f at =
        let is = old.first k f at in
        let before = is.before in
        record {
          before = omega arith;
          acquire = is.acquire;
          own = slice_get-set_other numbers n f number (λ same. omega arith) ∙ is.own;
          least = λ a less is_acquire own. go a less is_acquire own (cases_eq a n);
        }
      where
        go : (a : ℕ) → a < n + 1 → IsAcquire events a → slice_get (slice_set numbers n number) a ≡ Some k → (a ≡ n) ⊎ (a ≢ n) → f ≤ a
        go a less is_acquire own (inl same) = let before = (old.first k f at).before in omega arith
        go a less is_acquire own (inr other) = (old.first k f at).least a (omega (arith, other)) is_acquire (keeps a k other own)

    -- where the set had a number
    pub sets_known : length more ≡ length sets → AreHeldSets events (n + 1) more firsts (slice_set numbers n number)
    sets_known size = record {
      places = length-set numbers n number ∙ old.places;
      few = let few = old.few in omega arith;
      known = old.known ∙ sym size;
      distinct = distinct;
      numbered = numbered;
      first = first_stays;
    }

    -- where it gets the next one
    pub sets_new : number ≡ length sets → length more ≡ length sets + 1 → AreHeldSets events (n + 1) more (firsts ++ n ∷ []) (slice_set numbers n number)
    sets_new last size = record {
      places = length-set numbers n number ∙ old.places;
      few = let few = old.few in omega arith;
      known = let known = old.known in omega (arith, length-append firsts (n ∷ []));
      distinct = distinct;
      numbered = numbered;
      first = λ k f at. go k f (push_cases firsts n f k at);
    }
      where
        new : (a : ℕ) → a < n + 1 → IsAcquire events a → slice_get (slice_set numbers n number) a ≡ Some number → (a ≡ n) ⊎ (a ≢ n) → n ≤ a
        new a less is_acquire own (inl same) = omega arith
        new a less is_acquire own (inr other) =
            let was = old.numbered a number (omega (arith, other)) is_acquire (keeps a number other own) in
            let inside = slice_get_within sets number was.set was.at in
            absurd (omega arith)

        go : (k f : ℕ) → (slice_get firsts k ≡ Some f) ⊎ ((k ≡ length firsts) × (n ≡ f)) → IsFirstWith events (n + 1) (slice_set numbers n number) k f
        go k f (inl at) = first_stays k f at
        go k f (inr h) =
            let known = old.known in
            let is_number : number ≡ k = last ∙ sym known ∙ sym h.0 in
            subst (λ (m : ℕ). IsFirstWith events (n + 1) (slice_set numbers n number) m f) is_number
            (subst (λ (g : ℕ). IsFirstWith events (n + 1) (slice_set numbers n number) number g) h.1
            (record { before = omega arith; acquire = acquire; own = entry; least = λ a less is_acquire own. new a less is_acquire own (cases_eq a n) }))

-- two acquires have one number exactly where their held sets are equal
pub one_number : (events : List Event) (sets : List (List ℕ)) → AreAllDistinct sets → (a b k m : ℕ) → IsNumberedSet events sets a k → IsNumberedSet events sets b m → (k ≡ m) ↔ HaveSameHeld events a b
one_number events sets distinct a b k m x y = (to, from)
  where
    to : k ≡ m → HaveSameHeld events a b
    to same l =
        let at_y : slice_get sets m ≡ Some y.set = y.at in
        let at_x : slice_get sets m ≡ Some x.set = subst (λ (i : ℕ). slice_get sets i ≡ Some x.set) same x.at in
        let one : x.set ≡ y.set = cc in
        (λ h. (y.held.members l).0 (subst (λ (s : List ℕ). Contains s l) one ((x.held.members l).1 h)), λ h. (x.held.members l).0 (subst (λ (s : List ℕ). Contains s l) (sym one) ((y.held.members l).1 h)))

    from : HaveSameHeld events a b → k ≡ m
    from same =
        let one : x.set ≡ y.set = rising_unique x.set y.set x.held.order y.held.order (λ l c. (y.held.members l).1 ((same l).0 ((x.held.members l).0 c))) (λ l c. (x.held.members l).1 ((same l).1 ((y.held.members l).0 c))) in
        distinct k m y.set (x.at ∙ ap Some one) y.at

-- the first acquire with the number of an acquire is the first with its held set
pub first_alike : (events : List Event) (sets : List (List ℕ)) (firsts numbers : List ℕ) → AreHeldSets events (length events) sets firsts numbers → (a k f : ℕ) → IsNumberedSet events sets a k → slice_get firsts k ≡ Some f → IsFirstAlike events a f
first_alike events sets firsts numbers all a k f is at =
    let first = all.first k f at in
    record {
      acquire = first.acquire;
      same = (one_number events sets all.distinct a f k k is (all.numbered f k first.before first.acquire first.own)).0 refl;
      least = least;
    }
  where
    least : (b : ℕ) → IsAcquire events b → HaveSameHeld events a b → f ≤ b
    least b acquire same =
        let within = acquire_within events b acquire in
        let size = all.places in
        go (slice_get-get_or numbers b 0 (omega arith))
      where
        go : slice_get numbers b ≡ Some (get_or numbers b 0) → f ≤ b
        go own =
            let within = acquire_within events b acquire in
            let is_k : k ≡ get_or numbers b 0 = (one_number events sets all.distinct a b k (get_or numbers b 0) is (all.numbered b (get_or numbers b 0) within acquire own)).1 same in
            (all.first k f at).least b within acquire (own ∙ ap Some (sym is_k))

-- two held sets have no lock in common exactly where their lists have none
pub none_common : (events : List Event) (a b : ℕ) (left right : List ℕ) → IsHeldSet events a left → IsHeldSet events b right → ((l : ℕ) → Contains left l → Contains right l → ⊥) ↔ HaveNoneCommon events a b
none_common events a b left right x y = (λ h l in_a in_b. h l ((x.members l).1 in_a) ((y.members l).1 in_b), λ h l in_a in_b. h l ((x.members l).0 in_a) ((y.members l).0 in_b))

-- the tables of a whole trace
module _ (events : List Event) (sets : List (List ℕ)) (firsts numbers : List ℕ) (all : AreHeldSets events (length events) sets firsts numbers) where
  -- the number that an acquire has there is that of its held set
  pub number_at : (a k : ℕ) → IsAcquire events a → k ≡ get_or numbers a k → IsNumberedSet events sets a k
  number_at a k acquire read =
      let within = acquire_within events a acquire in
      let size = all.places in
      all.numbered a k within acquire (slice_get-get_or numbers a k (omega arith) ∙ ap Some (sym read))

  -- it is the number of a set
  pub number_within : (a k : ℕ) → IsAcquire events a → k ≡ get_or numbers a k → k < length sets
  number_within a k acquire read = let is = number_at a k acquire read in slice_get_within sets k is.set is.at

  -- which is the held set
  pub held_is : (a k : ℕ) (set : List ℕ) → IsAcquire events a → k ≡ get_or numbers a k → slice_get sets k ≡ Some set → IsHeldSet events a set
  held_is a k set acquire read at = let is = number_at a k acquire read in let there = is.at in let same : is.set ≡ set = cc in subst (IsHeldSet events a) same is.held

  -- and it has a first acquire
  pub first_is : (a k f : ℕ) → IsAcquire events a → k ≡ get_or numbers a k → f ≡ get_or firsts k f → IsFirstAlike events a f
  first_is a k f acquire read read_first =
      let within = number_within a k acquire read in
      let known = all.known in
      first_alike events sets firsts numbers all a k f (number_at a k acquire read) (slice_get-get_or firsts k f (omega arith) ∙ ap Some (sym read_first))
