-- Races that are added to a list.
use Rattle.std.proofs.Common.{◌≡◌, ℕ, ◌+◌, ◌<◌, ◌≤◌, List, [], ◌∷◌, ◌++◌, length, Some, true, false, ◌⊎◌, inl, inr, refl, sym, subst, ◌∙◌, arith, get_or, ltb}
use Rattle.std.specs.Prelude.{slice_get, min, Contains}
use Rattle.std.specs.List.{AllWithin}
use Rattle.std.specs.List.Sorted.{IsPermutation, IsNonDecreasingBy}
use Rattle.std.proofs.lemmas.Bool.{ltb-true, ltb-false}
use Rattle.std.proofs.lemmas.List.{get_or_default}
use Rattle.std.proofs.lemmas.List.Elements.{Contains-push, Contains-append_left, Contains-push_cases, Contains-get_or}
use Rattle.std.proofs.lemmas.List.Sorted.{IsPermutation-sym, Contains-permutation}
use Rattle.std.proofs.lemmas.Option.{slice_get_within}
use Rattle.sp_base.specs.declared.limits.TheConstants.{MAX_VARS}
use Rattle.trace_laws.specs.Event.{Event}
use Rattle.trace_laws.specs.declared.event.Op.{Op}
use Rattle.trace_laws.specs.declared.event.Op.TheVariants.{Read, Write}
use Rattle.trace_laws.specs.declared.finding.Race.{Race}
use Rattle.trace_laws.specs.Trace.{op_at}
use Rattle.trace_laws.specs.Reordering.{Accesses}
use Rattle.trace_laws.proofs.Places.{three_way, index_of, contains_at}
use Rattle.trace_index.specs.Accessed.{AreVariablesBelow}
use Rattle.race_scan.specs.Partners.{IsPartner, NoRaceBelow}
use Rattle.race_scan.specs.Scans.{IsInRange, NoRaceBetween, IsFirstRace}
use Rattle.race_scan.specs.declared.groups.Group.{Group}
use Rattle.race_scan.specs.Grouped.{IsGroup, HasPlace, AreGroups}
use Rattle.race_scan.specs.Passed.{ArePassed, ArePassedFrom}
use Rattle.race_scan.specs.Listed.{HasRace, IsCovered, IsRaceWhere, AddsRaces, AreAllRaces, IsFirstListed, AreOwn, IsOwn, IsThis, IsOwnAccess}
use Rattle.race_scan.proofs.Pointers.{passed_on}

-- nothing is added where no place has a race
pub adds_none : (events : List Event) (P : ℕ → Type 0) (races : List Race) → ((l : ℕ) → P l → NoRaceBelow events l l) → AddsRaces events P races races
adds_none events P races none = record {
  right = λ r h. inl h;
  keeps = λ r h. h;
  covers = λ l p e less race. absurd (none l p e less race);
}

-- the race of one place is added
pub adds_one : (events : List Event) (races : List Race) (r : Race) → IsPartner events r.later r.earlier → AddsRaces events (λ l. l ≡ r.later) races (races ++ r ∷ [])
adds_one events races r partner = record {
  right = λ x h. go x (Contains-push_cases races r x h);
  keeps = λ x h. Contains-append_left races (r ∷ []) x h;
  covers = λ l same e less race. record { race = r; listed = Contains-push races r; is = sym same };
}
  where
    go : (x : Race) → Contains races x ⊎ (r ≡ x) → Contains races x ⊎ IsRaceWhere events (λ l. l ≡ r.later) x
    go x (inl h) = inl h
    go x (inr same) = inr (subst (IsRaceWhere events (λ l. l ≡ r.later)) same (record { of = refl; partner = partner }))

-- what is listed stays
pub race_kept : (old new : List Race) (later : ℕ) → ((r : Race) → Contains old r → Contains new r) → HasRace old later → HasRace new later
race_kept old new later keeps h = record { race = h.race; listed = keeps h.race h.listed; is = h.is }

-- additions one after the other
pub adds_both : (events : List Event) (P Q R : ℕ → Type 0) (a b c : List Race) → AddsRaces events P a b → AddsRaces events Q b c → ((l : ℕ) → R l → P l ⊎ Q l) → ((l : ℕ) → P l → R l) → ((l : ℕ) → Q l → R l) → AddsRaces events R a c
adds_both events P Q R a b c first second split from_first from_second = record {
  right = λ r h. right r (second.right r h);
  keeps = λ r h. second.keeps r (first.keeps r h);
  covers = λ l h. covers l (split l h);
}
  where
    before : (r : Race) → Contains a r ⊎ IsRaceWhere events P r → Contains a r ⊎ IsRaceWhere events R r
    before r (inl h) = inl h
    before r (inr h) = inr (record { of = from_first r.later h.of; partner = h.partner })

    right : (r : Race) → Contains b r ⊎ IsRaceWhere events Q r → Contains a r ⊎ IsRaceWhere events R r
    right r (inl h) = before r (first.right r h)
    right r (inr h) = inr (record { of = from_second r.later h.of; partner = h.partner })

    covers : (l : ℕ) → P l ⊎ Q l → IsCovered events c l
    covers l (inl p) e less race = race_kept b c l second.keeps (first.covers l p e less race)
    covers l (inr q) e less race = second.covers l q e less race

-- additions of the same places
pub adds_under : (events : List Event) (P R : ℕ → Type 0) (a b : List Race) → AddsRaces events P a b → ((l : ℕ) → R l → P l) → ((l : ℕ) → P l → R l) → AddsRaces events R a b
adds_under events P R a b adds to from = record {
  right = λ r h. right r (adds.right r h);
  keeps = adds.keeps;
  covers = λ l h. adds.covers l (to l h);
}
  where
    right : (r : Race) → Contains a r ⊎ IsRaceWhere events P r → Contains a r ⊎ IsRaceWhere events R r
    right r (inl h) = inl h
    right r (inr h) = inr (record { of = from r.later h.of; partner = h.partner })

-- numbers that are passed for a place are so from it on
pub passed_from : (events : List Event) (op : Op) (later : ℕ) (groups : List Group) (passed : List ℕ) → op_at events later ≡ Some op → ArePassed events later groups passed → ArePassedFrom events op later groups passed
passed_from events op later groups passed is old l le like one = passed_on events later l groups passed le like (one ∙ sym is) old

-- one of the first n of the places, with that operation
abbrev pub IsOwnBelow : List Event → List ℕ → ℕ → Op → ℕ → Type 0
IsOwnBelow events own n op l = ((j : ℕ) × (j < n) × (slice_get own j ≡ Some l)) × (op_at events l ≡ Some op)

-- the first n of the places and the next one
pub own_next : (events : List Event) (own : List ℕ) (n place : ℕ) (op : Op) (a b c : List Race) → slice_get own n ≡ Some place → AddsRaces events (IsOwnBelow events own n op) a b → AddsRaces events (IsThis events place op) b c → AddsRaces events (IsOwnBelow events own (n + 1) op) a c
own_next events own n place op a b c at first second = adds_both events (IsOwnBelow events own n op) (IsThis events place op) (IsOwnBelow events own (n + 1) op) a b c first second split from_first from_second
  where
    split : (l : ℕ) → IsOwnBelow events own (n + 1) op l → IsOwnBelow events own n op l ⊎ IsThis events place op l
    split l h = go (three_way h.0.0 n)
      where
        go : (h.0.0 < n) ⊎ ((h.0.0 ≡ n) ⊎ (n < h.0.0)) → IsOwnBelow events own n op l ⊎ IsThis events place op l
        go (inl less) = inl ((h.0.0, less, h.0.2), h.1)
        go (inr (inl same)) = let there : slice_get own n ≡ Some l = subst (λ (k : ℕ). slice_get own k ≡ Some l) same h.0.2 in inr (cc, h.1)
        go (inr (inr more)) = let less = h.0.1 in absurd (omega arith)

    from_first : (l : ℕ) → IsOwnBelow events own n op l → IsOwnBelow events own (n + 1) op l
    from_first l h = ((h.0.0, (let less = h.0.1 in omega arith), h.0.2), h.1)

    from_second : (l : ℕ) → IsThis events place op l → IsOwnBelow events own (n + 1) op l
    from_second l h = ((n, omega arith, subst (λ (k : ℕ). slice_get own n ≡ Some k) (sym h.0) at), h.1)

-- all of the places
pub own_all : (events : List Event) (own : List ℕ) (n : ℕ) (op : Op) (a b : List Race) → length own ≤ n → AddsRaces events (IsOwnBelow events own n op) a b → AddsRaces events (IsOwn events own op) a b
own_all events own n op a b past adds = adds_under events (IsOwnBelow events own n op) (IsOwn events own op) a b adds
    (λ l h. let at = index_of own l h.0 in ((at.0, (let w = slice_get_within own at.0 l at.1 in omega arith), at.1), h.1))
    (λ l h. (contains_at own h.0.0 l h.0.2, h.1))

-- the numbers that are passed from a place on are so from a later one of its thread
pub passed_along : (events : List Event) (own : List ℕ) (groups : List Group) (passed : List ℕ) (op : Op) (n place j l : ℕ) → AreOwn events own → slice_get own n ≡ Some place → ArePassedFrom events op place groups passed → n + 1 ≤ j → slice_get own j ≡ Some l → ArePassedFrom events op l groups passed
passed_along events own groups passed op n place j l is_own at old after there m le like one = old m (let up : place < l = is_own.order n j place l (omega arith) at there in omega arith) (like ∙ is_own.is_of j l there ∙ sym (is_own.is_of n place at)) one

-- reads and writes of a variable
pub own_accesses : (events : List Event) (own : List ℕ) (x : ℕ) (a b c : List Race) → AddsRaces events (IsOwn events own (Read x)) a b → AddsRaces events (IsOwn events own (Write x)) b c → AddsRaces events (IsOwnAccess events own x) a c
own_accesses events own x a b c first second = adds_both events (IsOwn events own (Read x)) (IsOwn events own (Write x)) (IsOwnAccess events own x) a b c first second (λ l h. split l h.0 h.1) (λ l h. (h.0, inl h.1)) (λ l h. (h.0, inr h.1))
  where
    split : (l : ℕ) → Contains own l → Accesses events l x → IsOwn events own (Read x) l ⊎ IsOwn events own (Write x) l
    split l is (inl read) = inl (is, read)
    split l is (inr write) = inr (is, write)

-- a group is places of one thread
pub own_from_group : (events : List Event) (g : Group) (places : List ℕ) → places ≡ g.places.items → IsGroup events g → AreOwn events places
own_from_group events g places same group = subst (λ (xs : List ℕ). AreOwn events xs) (sym same) (record { order = group.order; thread = g.thread; is_of = group.of_thread })

-- accesses of the variable in the first n groups
abbrev pub IsInFirst : List Event → List Group → ℕ → ℕ → ℕ → Type 0
IsInFirst events groups n x l = ((i : ℕ) × (g : Group) × (i < n) × (slice_get groups i ≡ Some g) × Contains g.places.items l) × Accesses events l x

-- the first n groups and the next one
pub groups_next : (events : List Event) (groups : List Group) (n x : ℕ) (g : Group) (places : List ℕ) (a b c : List Race) → slice_get groups n ≡ Some g → places ≡ g.places.items → AddsRaces events (IsInFirst events groups n x) a b → AddsRaces events (IsOwnAccess events places x) b c → AddsRaces events (IsInFirst events groups (n + 1) x) a c
groups_next events groups n x g places a b c at same first second = adds_both events (IsInFirst events groups n x) (IsOwnAccess events places x) (IsInFirst events groups (n + 1) x) a b c first second split from_first from_second
  where
    split : (l : ℕ) → IsInFirst events groups (n + 1) x l → IsInFirst events groups n x l ⊎ IsOwnAccess events places x l
    split l h = go h.0.0 h.0.1 h.0.2 h.0.3 h.0.4 (three_way h.0.0 n)
      where
        go : (i : ℕ) (m : Group) → i < n + 1 → slice_get groups i ≡ Some m → Contains m.places.items l → (i < n) ⊎ ((i ≡ n) ⊎ (n < i)) → IsInFirst events groups n x l ⊎ IsOwnAccess events places x l
        go i m less there is (inl before) = inl ((i, m, before, there, is), h.1)
        go i m less there is (inr (inl equal)) =
            let here : slice_get groups n ≡ Some m = subst (λ (k : ℕ). slice_get groups k ≡ Some m) equal there in
            let one : m ≡ g = cc in
            inr (subst (λ (xs : List ℕ). Contains xs l) (sym same) (subst (λ (k : Group). Contains k.places.items l) one is), h.1)
        go i m less there is (inr (inr more)) = absurd (omega arith)

    from_first : (l : ℕ) → IsInFirst events groups n x l → IsInFirst events groups (n + 1) x l
    from_first l h = ((h.0.0, h.0.1, (let less = h.0.2 in omega arith), h.0.3, h.0.4), h.1)

    from_second : (l : ℕ) → IsOwnAccess events places x l → IsInFirst events groups (n + 1) x l
    from_second l h = ((n, g, omega arith, at, subst (λ (xs : List ℕ). Contains xs l) same h.0), h.1)

-- all groups
pub groups_all : (events : List Event) (groups : List Group) (n x : ℕ) (a b : List Race) → AreGroups events x groups → length groups ≤ n → AddsRaces events (IsInFirst events groups n x) a b → AddsRaces events (λ l. Accesses events l x) a b
groups_all events groups n x a b all past adds = adds_under events (IsInFirst events groups n x) (λ l. Accesses events l x) a b adds (λ l h. place l (all.all l h) h) (λ l h. h.1)
  where
    place : (l : ℕ) → HasPlace groups l → Accesses events l x → IsInFirst events groups n x l
    place l p access = ((p.group, p.member, (let w = slice_get_within groups p.group p.member p.at in omega arith), p.at, contains_at p.member.places.items p.index l p.is), access)

-- one variable more
pub range_next : (events : List Event) (from n : ℕ) (a b c : List Race) → from ≤ n → AddsRaces events (IsInRange events from n) a b → AddsRaces events (λ l. Accesses events l n) b c → AddsRaces events (IsInRange events from (n + 1)) a c
range_next events from n a b c le first second = adds_both events (IsInRange events from n) (λ l. Accesses events l n) (IsInRange events from (n + 1)) a b c first second split (λ l h. record { var = h.var; accesses = h.accesses; least = h.least; below = let less = h.below in omega arith }) (λ l h. record { var = n; accesses = h; least = le; below = omega arith })
  where
    split : (l : ℕ) → IsInRange events from (n + 1) l → IsInRange events from n l ⊎ Accesses events l n
    split l h = go (three_way h.var n)
      where
        go : (h.var < n) ⊎ ((h.var ≡ n) ⊎ (n < h.var)) → IsInRange events from n l ⊎ Accesses events l n
        go (inl less) = inl (record { var = h.var; accesses = h.accesses; least = h.least; below = less })
        go (inr (inl same)) = inr (subst (Accesses events l) same h.accesses)
        go (inr (inr more)) = let less = h.below in absurd (omega arith)

-- a least number of two reaches one of them
pub reaches : (a b m : ℕ) → m ≡ min a b → (a ≤ m) ⊎ (b ≤ m)
reaches a b m is = go (three_way a b)
  where
    go : (a < b) ⊎ ((a ≡ b) ⊎ (b < a)) → (a ≤ m) ⊎ (b ≤ m)
    go (inl less) = inl (omega arith)
    go (inr (inl same)) = inl (omega arith)
    go (inr (inr more)) = inr (omega arith)

-- all variables of the range
pub range_all : (events : List Event) (from to n end : ℕ) (a b : List Race) → AreVariablesBelow events MAX_VARS → (from < n → n ≤ end) → end ≤ n → end ≤ to → (to ≤ end ⊎ (MAX_VARS ≤ end)) → AddsRaces events (IsInRange events from n) a b → AddsRaces events (IsInRange events from to) a b
range_all events from to n end a b few upto past most reach adds = adds_under events (IsInRange events from n) (IsInRange events from to) a b adds (λ l h. record { var = h.var; accesses = h.accesses; least = h.least; below = below l h reach }) (λ l h. record { var = h.var; accesses = h.accesses; least = h.least; below = back l h })
  where
    below : (l : ℕ) (h : IsInRange events from to l) → (to ≤ end) ⊎ (MAX_VARS ≤ end) → h.var < n
    below l h (inl le) = let less = h.below in omega arith
    below l h (inr le) = let less = few l h.var h.accesses in omega arith

    back : (l : ℕ) (h : IsInRange events from n l) → h.var < to
    back l h = let one = h.least in let two = h.below in let three : n ≤ end = upto (omega arith) in omega arith

-- a sorted list of all races
pub all_sorted : (events : List Event) (from to : ℕ) (races sorted : List Race) → AddsRaces events (IsInRange events from to) [] races → IsPermutation races sorted → IsNonDecreasingBy (λ (r : Race). r.later) sorted → AreAllRaces events from to sorted
all_sorted events from to races sorted adds moved order = record {
  right = λ r h. right r (adds.right r (Contains-permutation sorted races r (IsPermutation-sym races sorted moved) h));
  all = λ l h e less race. race_kept races sorted l (λ r. Contains-permutation races sorted r moved) (adds.covers l h e less race);
  order = order;
}
  where
    right : (r : Race) → Contains [] r ⊎ IsRaceWhere events (IsInRange events from to) r → IsRaceWhere events (IsInRange events from to) r
    right r (inl h) = absurd (let at = index_of [] r h in let w = slice_get_within [] at.0 r at.1 in omega arith)
    right r (inr h) = h

-- the first race that is listed from a place on is the first from there
pub first_of_all : (events : List Event) (from to start : ℕ) (races : List Race) (race : Race) → AreAllRaces events from to races → IsFirstListed races start race → IsFirstRace events from to start race.later race.earlier
first_of_all events from to start races race all first = record {
  from_start = first.from_start;
  range = (all.right race first.listed).of;
  order = (all.right race first.listed).partner.order;
  race = (all.right race first.listed).partner.race;
  earliest = (all.right race first.listed).partner.earliest;
  first = λ later after less h. before later after less (all.all later h.range h.earlier h.order h.race);
}
  where
    before : (later : ℕ) → start ≤ later → later < race.later → HasRace races later → ⊥
    before later after less h = let low = first.first h.race h.listed (let same = h.is in omega arith) in let same = h.is in omega arith

-- where none is listed from a place on there is none
pub none_of_all : (events : List Event) (from to start until : ℕ) (races : List Race) → AreAllRaces events from to races → ((r : Race) → Contains races r → r.later < start) → NoRaceBetween events from to start until
none_of_all events from to start until races all none later after less h = past (all.all later h.range h.earlier h.order h.race)
  where
    past : HasRace races later → ⊥
    past r = let low = none r.race r.listed in let same = r.is in omega arith

-- where the races before a position are those before a place, each is before it where the position is past all
pub none_from_point : (races : List Race) (start i : ℕ) → AllWithin (λ (r : Race). ltb r.later start ≡ true) races 0 i → length races ≤ i → (r : Race) → Contains races r → r.later < start
none_from_point races start i below past r h = subst (λ (x : Race). x.later < start) h.2 (ltb-true _ _ (below h.0 r (omega arith) (let w = h.1 in omega arith)))

-- and the one at the position is the first that is not
pub first_from_point : (races : List Race) (start i : ℕ) (d : Race) → IsNonDecreasingBy (λ (r : Race). r.later) races → AllWithin (λ (r : Race). ltb r.later start ≡ true) races 0 i → AllWithin (λ (r : Race). ltb r.later start ≡ false) races i (length races) → i < length races → IsFirstListed races start (get_or races i d)
first_from_point races start i d order below behind within = record {
  listed = Contains-get_or races i d within;
  from_start = ltb-false _ _ (behind i d (omega arith) within);
  first = λ r h after. go r h after (three_way h.0 i);
}
  where
    up : (r : Race) (h : Contains races r) → i ≤ h.0 → (get_or races i d).later ≤ r.later
    up r h le = subst (λ (x : Race). (get_or races i d).later ≤ x.later) (get_or_default races h.0 d r h.1 ∙ h.2) (order i h.0 d le h.1)

    go : (r : Race) (h : Contains races r) → start ≤ r.later → (h.0 < i) ⊎ ((h.0 ≡ i) ⊎ (i < h.0)) → (get_or races i d).later ≤ r.later
    go r h after (inl less) = absurd (let low : r.later < start = subst (λ (x : Race). x.later < start) h.2 (ltb-true _ _ (below h.0 r (omega arith) less)) in omega arith)
    go r h after (inr (inl same)) = up r h (omega arith)
    go r h after (inr (inr more)) = up r h (omega arith)
