-- How far the groups of a variable are passed.
use Rattle.std.proofs.Common.{◌≡◌, ◌≢◌, ℕ, zero, suc, ◌+◌, ◌<◌, ◌≤◌, Bool, false, List, [], ◌∷◌, length, Option, Some, None, ◌⊎◌, inl, inr, refl, sym, ap, subst, ◌∙◌, arith, get_or, length-set}
use Rattle.std.specs.Prelude.{IsTrue, slice_get, slice_set}
use Rattle.std.proofs.lemmas.Bool.{cases_eq}
use Rattle.std.proofs.lemmas.List.{get_or_past}
use Rattle.std.proofs.lemmas.Option.{slice_get_cases, slice_get_within, slice_get-get_or, get_or_from_slice_get}
use Rattle.trace_laws.specs.Event.{Event}
use Rattle.trace_laws.specs.declared.event.Op.{Op}
use Rattle.trace_laws.specs.Trace.{thread_at, op_at, Lawful}
use Rattle.trace_laws.specs.Reordering.{Conflict}
use Rattle.trace_laws.specs.Closed.{IsClosureBefore}
use Rattle.trace_laws.proofs.Places.{three_way}
use Rattle.trace_laws.proofs.Growing.{slice_get-set_same, slice_get-set_other}
use Rattle.race_scan.specs.Partners.{IsPartner, NoRaceBelow}
use Rattle.race_scan.specs.declared.groups.Group.{Group}
use Rattle.race_scan.specs.Grouped.{IsGroup, AreOfThreads, HasPlace}
use Rattle.race_scan.specs.Passed.{IsOut, ArePassed, IsHead, AreReady, IsEarliest, left_over}
use Rattle.race_scan.proofs.Pairs.{race_from_closure}
use Rattle.race_scan.proofs.Outside.{pair_out, out_on, later_outside}

-- a place of the trace has a thread
pub thread_within : (trace : List Event) (p : ℕ) → p < length trace → (t : ℕ) × (thread_at trace p ≡ Some t)
thread_within trace p within = go (slice_get trace p) refl
  where
    go : (o : Option Event) → slice_get trace p ≡ o → (t : ℕ) × (thread_at trace p ≡ Some t)
    go None is = absurd (let there = slice_get-get_or trace p (record { thread = 0; op = Op.Read 0; loc = 0 }) within in cc)
    go (Some e) is = (e.thread, ap (λ (o : Option Event). thread_of o) is)
      where
        thread_of : Option Event → Option ℕ
        thread_of None = None
        thread_of (Some x) = Some x.thread

-- what holds of the places from one position on and below another, and of the next one
pub passed_one_more : (P : ℕ → Type 0) (places : List ℕ) (start position e : ℕ) → slice_get places position ≡ Some e → ((k d : ℕ) → start ≤ k → k < position → slice_get places k ≡ Some d → P d) → P e
    → (k d : ℕ) → start ≤ k → k < position + 1 → slice_get places k ≡ Some d → P d
passed_one_more P places start position e at below here k d after less is = go (three_way k position)
  where
    go : (k < position) ⊎ ((k ≡ position) ⊎ (position < k)) → P d
    go (inl first) = below k d after first is
    go (inr (inl same)) = let there : slice_get places position ≡ Some d = subst (λ (j : ℕ). slice_get places j ≡ Some d) same is in let one : e ≡ d = cc in subst P one here
    go (inr (inr more)) = absurd (omega arith)

-- the group at which a number is set has that number
module _ (groups : List Group) (passed : List ℕ) (i next : ℕ) (g : Group) (group_at : slice_get groups i ≡ Some g) (size : length passed ≡ length groups) where
  within : i < length passed
  within = let h = slice_get_within groups i g group_at in omega arith

  now : slice_get (slice_set passed i next) i ≡ Some next
  now = slice_get-set_same passed i next within

  -- its first place that is not passed stands there
  pub head_same : (e : ℕ) → IsHead groups (slice_set passed i next) i e → slice_get g.places.items next ≡ Some e
  head_same e h =
      let here = now in
      let at = h.at in
      let there = h.is_next in
      let own = group_at in
      let one : next ≡ h.next = cc in
      let two : h.group ≡ g = cc in
      subst (λ (x : Group). slice_get x.places.items next ≡ Some e) two (subst (λ (k : ℕ). slice_get h.group.places.items k ≡ Some e) (sym one) h.is)

  -- those of the others stay
  pub head_other : (j e : ℕ) → j ≢ i → IsHead groups (slice_set passed i next) j e → IsHead groups passed j e
  head_other j e other h = record { group = h.group; at = h.at; next = h.next; is_next = sym (slice_get-set_other passed i j next other) ∙ h.is_next; is = h.is }

  -- more places of the group are passed
  pub passed_set : (events : List Event) (later start : ℕ) → ArePassed events later groups passed → slice_get passed i ≡ Some start
      → ((k e : ℕ) → start ≤ k → k < next → slice_get g.places.items k ≡ Some e → IsOut events later e) → ArePassed events later groups (slice_set passed i next)
  passed_set events later start old at more = record { size = set_size; out = λ j n k e h. go j n k e h (cases_eq j i) }
    where
      set_size : length (slice_set passed i next) ≡ length groups
      set_size = length-set passed i next ∙ size

      go : (j n k e : ℕ) (h : Group) → (j ≡ i) ⊎ (j ≢ i) → slice_get groups j ≡ Some h → slice_get (slice_set passed i next) j ≡ Some n → k < n → slice_get h.places.items k ≡ Some e → IsOut events later e
      go j n k e h (inr other) there is less place = old.out j n k e h there (sym (slice_get-set_other passed i j next other) ∙ is) less place
      go j n k e h (inl same) there is less place = side (three_way k start)
        where
          here : slice_get groups i ≡ Some h
          here = subst (λ (p : ℕ). slice_get groups p ≡ Some h) same there

          is_here : slice_get (slice_set passed i next) i ≡ Some n
          is_here = subst (λ (p : ℕ). slice_get (slice_set passed i next) p ≡ Some n) same is

          is_group : h ≡ g
          is_group = let a = here in let b = group_at in cc

          is_next : next ≡ n
          is_next = let a = is_here in let b = now in cc

          place_here : slice_get g.places.items k ≡ Some e
          place_here = subst (λ (x : Group). slice_get x.places.items k ≡ Some e) is_group place

          behind : start ≤ k → IsOut events later e
          behind after = more k e after (let s = is_next in omega arith) place_here

          side : (k < start) ⊎ ((k ≡ start) ⊎ (start < k)) → IsOut events later e
          side (inl first) = old.out i start k e g group_at at first place_here
          side (inr (inl equal)) = behind (omega arith)
          side (inr (inr further)) = behind (omega arith)

-- places of a group are out that are in the closure of what comes before the first of them and the later place
pub passed_pair : (events : List Event) (later start next first t : ℕ) (g : Group) (set : ℕ → Bool) → IsGroup events g → slice_get g.places.items start ≡ Some first → thread_at events later ≡ Some t → IsClosureBefore events (first ∷ later ∷ []) set → ((k e : ℕ) → start ≤ k → k < next → slice_get g.places.items k ≡ Some e → IsTrue (set e) ⊎ IsOut events later e)
    → (k e : ℕ) → start ≤ k → k < next → slice_get g.places.items k ≡ Some e → IsOut events later e
passed_pair events later start next first t g set is_group at_first is_later closure passed k e after less at = go (passed k e after less at)
  where
    order : (start < k) ⊎ ((start ≡ k) ⊎ (k < start)) → first ≤ e
    order (inl more) = let up : first < e = is_group.order start k first e more at_first at in omega arith
    order (inr (inl same)) = let there : slice_get g.places.items k ≡ Some first = subst (λ (p : ℕ). slice_get g.places.items p ≡ Some first) same at_first in let one : first ≡ e = cc in omega arith
    order (inr (inr fewer)) = absurd (omega arith)

    go : IsTrue (set e) ⊎ IsOut events later e → IsOut events later e
    go (inl member) = pair_out events first later t g.thread set is_later (is_group.of_thread start first at_first) closure e (order (three_way start k)) (is_group.of_thread k e at) member
    go (inr out) = out

-- the heads of the first groups are ready, and of one more
pub ready_set : (events : List Event) (later : ℕ) (groups : List Group) (passed : List ℕ) (i next : ℕ) (g : Group) → slice_get groups i ≡ Some g → length passed ≡ length groups → ((e : ℕ) → slice_get g.places.items next ≡ Some e → e < later → Conflict events e later)
    → (j e : ℕ) → (j ≢ i → IsHead groups passed j e → e < later → Conflict events e later) → IsHead groups (slice_set passed i next) j e → e < later → Conflict events e later
ready_set events later groups passed i next g at size here j e others head less = go (cases_eq j i)
  where
    go : (j ≡ i) ⊎ (j ≢ i) → Conflict events e later
    go (inl same) = here e (head_same groups passed i next g at size e (subst (λ (k : ℕ). IsHead groups (slice_set passed i next) k e) same head)) less
    go (inr other) = others other (head_other groups passed i next g at size j e other head) less

-- a place that is not passed is at or behind the first one of its group
pub none_below : (events : List Event) (later bound : ℕ) (groups : List Group) (passed : List ℕ) → AreOfThreads events groups → ((e : ℕ) → Conflict events e later → HasPlace groups e) → ArePassed events later groups passed → ((j d : ℕ) → IsHead groups passed j d → bound ≤ d) → NoRaceBelow events later bound
none_below events later bound groups passed each all old least e less race = go (three_way place.index number)
  where
    place : HasPlace groups e
    place = all e race.conflict

    number : ℕ
    number = get_or passed place.group 0

    at : slice_get passed place.group ≡ Some (get_or passed place.group 0)
    at = slice_get-get_or passed place.group 0 (let h = slice_get_within groups place.group place.member place.at in let s = old.size in omega arith)

    out : place.index < number → ⊥
    out first = old.out place.group number place.index e place.member place.at at first place.is later (omega arith) refl refl race

    behind : number ≤ place.index → ⊥
    behind after = (let up = rise (three_way number place.index) in let low = least place.group d (record { group = place.member; at = place.at; next = number; is_next = at; is = head }) in omega arith)
      where
        d : ℕ
        d = get_or place.member.places.items number 0

        head : slice_get place.member.places.items number ≡ Some d
        head = slice_get-get_or place.member.places.items number 0 (let h = slice_get_within place.member.places.items place.index e place.is in omega arith)

        rise : (number < place.index) ⊎ ((number ≡ place.index) ⊎ (place.index < number)) → d ≤ e
        rise (inl more) = let up : d < e = (each place.group place.member place.at).order number place.index d e more head place.is in omega arith
        rise (inr (inl same)) = let there : slice_get place.member.places.items place.index ≡ Some d = subst (λ (p : ℕ). slice_get place.member.places.items p ≡ Some d) same head in let here = place.is in let one : d ≡ e = cc in omega arith
        rise (inr (inr fewer)) = absurd (omega arith)

    go : (place.index < number) ⊎ ((place.index ≡ number) ⊎ (number < place.index)) → ⊥
    go (inl first) = out first
    go (inr (inl same)) = behind (omega arith)
    go (inr (inr more)) = behind (omega arith)

-- the earliest place that is not passed is the partner, where it is outside the closure
pub partner_found : (events : List Event) → Lawful events → (later i e : ℕ) (groups : List Group) (passed : List ℕ) (set : ℕ → Bool) → AreOfThreads events groups → ((e : ℕ) → Conflict events e later → HasPlace groups e) → ArePassed events later groups passed → AreReady events later groups passed
    → IsEarliest groups passed later i e → IsClosureBefore events (e ∷ later ∷ []) set → set e ≡ false → IsPartner events later e
partner_found events lawful later i e groups passed set each all old ready earliest closure out = record {
  order = earliest.before;
  race = race_from_closure events lawful e later set closure (ready i e earliest.head earliest.before) out (later_outside events lawful e later set earliest.before closure);
  earliest = none_below events later e groups passed each all old earliest.least;
}

-- fewer places are left over where a number is raised
pub left_less : (groups : List Group) (passed : List ℕ) (i n m : ℕ) (g : Group) → slice_get groups i ≡ Some g → slice_get passed i ≡ Some n → n < m → n < length g.places.items → left_over groups (slice_set passed i m) < left_over groups passed
left_less [] passed i n m g at is more within = cc
left_less (h ∷ groups) [] i n m g at is more within = cc
left_less (h ∷ groups) (p ∷ passed) zero n m g at is more within =
    let one : h ≡ g = cc in
    let two : p ≡ n = cc in
    let size : length h.places.items ≡ length g.places.items = ap (λ (x : Group). length x.places.items) one in
    omega arith
left_less (h ∷ groups) (p ∷ passed) (suc i) n m g at is more within = let rest = left_less groups passed i n m g at is more within in omega arith

-- numbers that are passed for a place are so for a later one of its thread and operation
pub passed_on : (events : List Event) (later l : ℕ) (groups : List Group) (passed : List ℕ) → later ≤ l → thread_at events l ≡ thread_at events later → op_at events l ≡ op_at events later → ArePassed events later groups passed → ArePassed events l groups passed
passed_on events later l groups passed le like op old = record { size = old.size; out = λ i n k e g at is less place. out_on events later l e le like op (old.out i n k e g at is less place) }

-- a head, where its group and its number are known
pub head_at : (groups : List Group) (passed : List ℕ) (i e n : ℕ) (g : Group) → IsHead groups passed i e → slice_get groups i ≡ Some g → slice_get passed i ≡ Some n → slice_get g.places.items n ≡ Some e
head_at groups passed i e n g h at is =
    let own = h.at in
    let next = h.is_next in
    let one : h.group ≡ g = cc in
    let two : h.next ≡ n = cc in
    subst (λ (x : Group). slice_get x.places.items n ≡ Some e) one (subst (λ (k : ℕ). slice_get h.group.places.items k ≡ Some e) two h.is)

-- and made of these
pub head_made : (groups : List Group) (passed : List ℕ) (i n later : ℕ) (g : Group) → slice_get groups i ≡ Some g → slice_get passed i ≡ Some n → get_or g.places.items n later < later → IsHead groups passed i (get_or g.places.items n later)
head_made groups passed i n later g at is less = record { group = g; at = at; next = n; is_next = is; is = go (slice_get_cases g.places.items n).1 }
  where
    go : ((x : ℕ) × (n < length g.places.items) × (slice_get g.places.items n ≡ Some x) × (get_or g.places.items n x ≡ x)) ⊎ ((length g.places.items ≤ n) × (slice_get g.places.items n ≡ None)) → slice_get g.places.items n ≡ Some (get_or g.places.items n later)
    go (inl h) = slice_get-get_or g.places.items n later h.1
    go (inr h) = absurd (let past : get_or g.places.items n later ≡ later = get_or_past g.places.items n later h.0 in omega arith)

-- the earliest head so far, with one group more
pub record IsLeast (groups : List Group) (passed : List ℕ) (later best bound group : ℕ) : Type 0 where
  pub within : bound ≤ later
  pub head : bound < later → IsHead groups passed best bound
  pub least : (i e : ℕ) → i < group → IsHead groups passed i e → bound ≤ e

module _ (groups : List Group) (passed : List ℕ) (later best bound group n place : ℕ) (g : Group) (old : IsLeast groups passed later best bound group) (at : slice_get groups group ≡ Some g) (is : slice_get passed group ≡ Some n) (here : place ≡ get_or g.places.items n later) where
  value : (e : ℕ) → IsHead groups passed group e → place ≡ e
  value e h = here ∙ get_or_from_slice_get g.places.items n e later (head_at groups passed group e n g h at is)

  least_one : (low : ℕ) → low ≤ bound → low ≤ place → (i e : ℕ) → i < group + 1 → IsHead groups passed i e → low ≤ e
  least_one low a b i e less h = go (three_way i group)
    where
      go : (i < group) ⊎ ((i ≡ group) ⊎ (group < i)) → low ≤ e
      go (inl first) = let o = old.least i e first h in omega arith
      go (inr (inl same)) = let v : place ≡ e = value e (subst (λ (k : ℕ). IsHead groups passed k e) same h) in omega arith
      go (inr (inr more)) = absurd (omega arith)

  pub least_then : place < bound → IsLeast groups passed later group place (group + 1)
  least_then less = record {
    within = let w = old.within in omega arith;
    head = λ before. subst (λ (k : ℕ). IsHead groups passed group k) (sym here) (head_made groups passed group n later g at is (let w = old.within in let h = here in omega arith));
    least = least_one place (omega arith) (omega arith);
  }

  pub least_else : bound ≤ place → IsLeast groups passed later best bound (group + 1)
  least_else le = record { within = old.within; head = old.head; least = least_one bound (omega arith) le }

-- after the last group
pub head_within : (groups : List Group) (passed : List ℕ) (i e : ℕ) → IsHead groups passed i e → i < length groups
head_within groups passed i e h = slice_get_within groups i h.group h.at

-- what a place of a group that is tried and is in the closure brings
pub record IsStep (events : List Event) (later : ℕ) (groups : List Group) (old new : List ℕ) : Type 0 where
  pub passed : ArePassed events later groups new
  pub ready : AreReady events later groups new
  pub less : left_over groups new < left_over groups old

pub step : (events : List Event) (later i e t start next : ℕ) (groups : List Group) (passed places : List ℕ) (g : Group) (set : ℕ → Bool) → AreOfThreads events groups → ArePassed events later groups passed → AreReady events later groups passed → IsHead groups passed i e → slice_get groups i ≡ Some g → slice_get passed i ≡ Some start → places ≡ g.places.items
    → thread_at events later ≡ Some t → IsClosureBefore events (e ∷ later ∷ []) set → ((d : ℕ) → slice_get places start ≡ Some d → d < later → IsTrue (set d) → start < next) → IsTrue (set e) → e < later
    → ((k d : ℕ) → start ≤ k → k < next → slice_get places k ≡ Some d → IsTrue (set d) ⊎ IsOut events later d) → ((d : ℕ) → slice_get places next ≡ Some d → d < later → Conflict events d later)
    → IsStep events later groups passed (slice_set passed i next)
step events later i e t start next groups passed places g set each old ready head at is same is_later closure further member before behind conflict = record {
  passed = passed_set groups passed i next g at old.size events later start old is (passed_pair events later start next e t g set (each i g at) here is_later closure (λ k d after less there. behind k d after less (subst (λ (xs : List ℕ). slice_get xs k ≡ Some d) (sym same) there)));
  ready = λ j d. ready_set events later groups passed i next g at old.size (λ x there. conflict x (subst (λ (xs : List ℕ). slice_get xs next ≡ Some x) (sym same) there)) j d (λ other h. ready j d h);
  less = left_less groups passed i start next g at is (further e (subst (λ (xs : List ℕ). slice_get xs start ≡ Some e) (sym same) here) before member) (slice_get_within g.places.items start e here);
}
  where
    here : slice_get g.places.items start ≡ Some e
    here = head_at groups passed i e start g head at is
