-- Sections that are asked.
use Rattle.std.proofs.Common.{◌≡◌, ℕ, ◌+◌, ◌<◌, ◌≤◌, true, List, [], ◌∷◌, ◌++◌, Option, Some, ◌⊎◌, inl, inr, refl, sym, ap, subst, ◌∙◌, arith, length-append}
use Rattle.std.specs.Prelude.{◌↔◌, Contains, nat_eq, slice_get, slice_index}
use Rattle.std.specs.List.{IsDistinct}
use Rattle.std.specs.Set.{is_member}
use Rattle.std.specs.Cmp.{nat_eq_equiv}
use Rattle.std.proofs.lemmas.Bool.Decides.{Decides-eqb}
use Rattle.std.proofs.lemmas.Map.Keys.{IsDistinct-push}
use Rattle.std.proofs.lemmas.Map.Made.{is_member-Decides, length-le_from_is_member}
use Rattle.std.proofs.lemmas.List.Elements.{Contains-push_cases}
use Rattle.trace_laws.specs.Event.{Event}
use Rattle.trace_laws.specs.Trace.{Acquires, IsReleaseOf}
use Rattle.trace_laws.specs.Findings.{HasCount}
use Rattle.trace_laws.proofs.Places.{false_unless, contains_at, mapped_from}
use Rattle.trace_laws.proofs.Ordered.{rising_unique}
use Rattle.closed_fronts.specs.Cuts.{IsHeld}
use Rattle.closed_fronts.specs.Tables.{IsAcquire}
use Rattle.closed_fronts.specs.Rows.{IsTorn}
use Rattle.closed_fronts.proofs.Releasing.{release_one}
use Rattle.closed_fronts.proofs.Mends.{broken_rises}
use Rattle.closed_fronts.proofs.Told.{if_some_at}
use Rattle.trace_index.specs.Acquired.{AreAcquires, IsSectionAt, IsSectionNumber}
use Rattle.trace_index.specs.declared.section.Section.{Section}
use Rattle.sp_closure.specs.Asked.{HasEnd, AreAsked}

-- a number of a list is told
in_list : (xs : List ℕ) (x : ℕ) → is_member nat_eq xs x ≡ true → Contains xs x
in_list xs x h = (is_member-Decides Decides-eqb xs x).0 h

-- and conversely
told_in : (xs : List ℕ) (x : ℕ) → Contains xs x → is_member nat_eq xs x ≡ true
told_in xs x h = (is_member-Decides Decides-eqb xs x).1 h

-- no section was asked at first
pub asked_none : (events : List Event) (cuts : List ℕ) → AreAsked events cuts 0
unfolding IsDistinct
asked_none events cuts = record { acquires = []; count = refl; distinct = tt; ended = λ a h. cc }

-- the release of a torn section is missing
torn_open : (events : List Event) (cuts : List ℕ) (a : ℕ) → IsTorn events cuts a → HasEnd events cuts a → ⊥
torn_open events cuts a torn end = torn.1.missing (subst (IsHeld events cuts) (release_one events a end.release torn.0 end.is_of torn.1.release) end.held)

-- what was asked stays so in a greater set
pub asked_kept : (events : List Event) (old new : List ℕ) (n : ℕ) → ((i : ℕ) → IsHeld events old i → IsHeld events new i) → AreAsked events old n → AreAsked events new n
asked_kept events old new n keeps asked = record {
  acquires = asked.acquires;
  count = asked.count;
  distinct = asked.distinct;
  ended = λ a h. let end = asked.ended a h in record { release = end.release; is_of = end.is_of; held = keeps end.release end.held };
}

-- one section more was asked, which was torn and has its release now
pub asked_more : (events : List Event) (old new : List ℕ) (n a : ℕ) → ((i : ℕ) → IsHeld events old i → IsHeld events new i) → IsTorn events old a → HasEnd events new a → AreAsked events old n → AreAsked events new (n + 1)
asked_more events old new n a keeps torn end asked = record {
  acquires = asked.acquires ++ a ∷ [];
  count = length-append asked.acquires (a ∷ []) ∙ ap (λ (k : ℕ). k + 1) asked.count;
  distinct = IsDistinct-push nat_eq_equiv asked.acquires a asked.distinct (false_unless (is_member nat_eq asked.acquires a) (λ h. torn_open events old a torn (asked.ended a h)));
  ended = λ b h. go b (Contains-push_cases asked.acquires a b (in_list (asked.acquires ++ a ∷ []) b h));
}
  where
    go : (b : ℕ) → Contains asked.acquires b ⊎ (a ≡ b) → HasEnd events new b
    go b (inl c) = let own = asked.ended b (told_in asked.acquires b c) in record { release = own.release; is_of = own.is_of; held = keeps own.release own.held }
    go b (inr same) = subst (HasEnd events new) same end

-- no more sections are asked than there are
pub asked_few : (events : List Event) (cuts : List ℕ) (n sections : ℕ) → AreAsked events cuts n → HasCount (IsAcquire events) sections → n ≤ sections
asked_few events cuts n sections asked count =
    let le = length-le_from_is_member nat_eq_equiv asked.acquires count.places asked.distinct (λ a h. let end = asked.ended a h in told_in count.places a ((count.members a).1 (end.is_of.lock, end.is_of.acquires.op))) in
    let size = count.size in
    let own = asked.count in
    omega arith

-- a set that got the release of a torn section has a cut that rose
pub torn_rises : (events : List Event) (old new : List ℕ) (a : ℕ) → IsTorn events old a → HasEnd events new a → (t : ℕ) × (slice_index old t < slice_index new t)
torn_rises events old new a torn end = broken_rises events old new a torn.0 torn.1 (subst (IsHeld events new) (release_one events a end.release torn.0 end.is_of torn.1.release) end.held)

-- the section that is asked by the number of an acquire is that of the acquire
module _ (events : List Event) (a number lock thread : ℕ) (section : Option Section) (acquires : Acquires events a thread lock) (is : IsSectionNumber events a number) (asked : IsSectionAt events lock thread number section) where
  -- the acquires among which the number counts
  listed : AreAcquires events lock thread is.acquires
  listed =
      let own = (is.all.members a).0 (contains_at is.acquires number a is.place) in
      let thread_is = own.thread in
      let thread_of = acquires.thread in
      let op_is = own.op in
      let op_of = acquires.op in
      let same_thread : is.thread ≡ thread = cc in
      let same_lock : is.lock ≡ lock = cc in
      subst (λ (l : ℕ). AreAcquires events l thread is.acquires) same_lock (subst (λ (t : ℕ). AreAcquires events is.lock t is.acquires) same_thread is.all)

  -- are those among which it was asked
  same_list : asked.acquires ≡ is.acquires
  same_list = rising_unique asked.acquires is.acquires asked.all.order listed.order (λ p c. (listed.members p).1 ((asked.all.members p).0 c)) (λ p c. (asked.all.members p).1 ((listed.members p).0 c))

  -- there is one
  pub section_there : (s : Section) × (section ≡ Some s) × (s.acquire ≡ a)
  section_there = mapped_from (λ (s : Section). s.acquire) section a (asked.acquire ∙ ap (λ (xs : List ℕ). slice_get xs number) same_list ∙ is.place)

  -- and its release is that of the acquire
  pub section_release : (s : Section) → section ≡ Some s → (r : ℕ) → (s.release ≡ Some r) ↔ IsReleaseOf events a r
  section_release s found = subst (λ (p : ℕ). (r : ℕ) → (s.release ≡ Some r) ↔ IsReleaseOf events p r) own (if_some_at (λ (x : Section). (r : ℕ) → (x.release ≡ Some r) ↔ IsReleaseOf events x.acquire r) section s asked.release found)
    where
      own : s.acquire ≡ a
      own = let there = section_there in let first = there.1 in let same : there.0 ≡ s = cc in ap (λ (x : Section). x.acquire) (sym same) ∙ there.2
