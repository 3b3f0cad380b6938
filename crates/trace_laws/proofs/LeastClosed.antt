-- Each set of places has a least closed set that holds it.
use Rattle.std.proofs.Common.{◌≡◌, ◌≢◌, ℕ, zero, suc, ◌+◌, ◌<◌, ◌≤◌, Bool, true, false, List, length, Option, Some, None, ◌⊎◌, inl, inr, refl, ap, subst, eqb, arith}
use Rattle.std.specs.Prelude.{IsTrue, ◌||◌}
use Rattle.std.proofs.Math.Decide.{dec_lt, map_dec, ℕ_discrete}
use Rattle.std.proofs.lemmas.Bool.Decides.{eqb_tells}
use Rattle.trace_laws.specs.Event.{Event}
use Rattle.trace_laws.specs.declared.event.Op.{Op}
use Rattle.trace_laws.specs.declared.event.Op.TheVariants.{Read, Write, Acquire, Release, Fork, Join}
use Rattle.trace_laws.specs.Trace.{op_at, Reads, Before, IsLastWrite, IsReleaseOf}
use Rattle.trace_laws.specs.Closed.{ClosedSet, IsClosure, Brings}
use Rattle.trace_laws.proofs.Places.{three_way, true_unless, within_from_op, before_less, before_within}
use Rattle.trace_laws.proofs.Deciding.{dec_and, dec_or, dec_some, dec_op, dec_before, dec_last_write, dec_release}

-- the set with one place more
abbrev pub with_place : ℕ → (ℕ → Bool) → ℕ → Bool
with_place c set i = eqb c i || set i

-- what was in the set stays in it
with_place_old : (c : ℕ) (set : ℕ → Bool) (i : ℕ) → IsTrue (set i) → IsTrue (with_place c set i)
with_place_old c set i h = go (eqb c i)
  where
    go : (b : Bool) → IsTrue (b || set i)
    go true = refl
    go false = h

-- what is in the set with the place was in it, or is the place
with_place_cases : (c : ℕ) (set : ℕ → Bool) (i : ℕ) → IsTrue (with_place c set i) → (c ≡ i) ⊎ IsTrue (set i)
with_place_cases c set i h = go (eqb c i) (eqb_tells c i) h
  where
    go : (b : Bool) → ((b ≡ true) × (c ≡ i)) ⊎ ((b ≡ false) × (c ≢ i)) → IsTrue (b || set i) → (c ≡ i) ⊎ IsTrue (set i)
    go b (inl e) k = inl e.1
    go true (inr e) k = absurd (let x = e.0 in cc)
    go false (inr e) k = inr k

-- one for a place that is missing
abbrev pub lack : Bool → ℕ
lack true = 0
lack false = 1

-- how many places below n are missing
abbrev pub missing : ℕ → (ℕ → Bool) → ℕ
missing zero set = 0
missing (suc n) set = lack (set n) + missing n set

-- a place past n leaves the count
missing_above : (n c : ℕ) (set : ℕ → Bool) → n ≤ c → missing n (with_place c set) ≡ missing n set
missing_above zero c set h = refl
missing_above (suc n) c set h = go (missing_above n c set (omega arith)) (eqb c n) (eqb_tells c n)
  where
    go : missing n (with_place c set) ≡ missing n set → (b : Bool) → ((b ≡ true) × (c ≡ n)) ⊎ ((b ≡ false) × (c ≢ n)) → lack (b || set n) + missing n (with_place c set) ≡ lack (set n) + missing n set
    go rest b (inl e) = let same : c ≡ n = e.1 in absurd (omega arith)
    go rest true (inr e) = absurd (let x = e.0 in cc)
    go rest false (inr e) = ap (λ (k : ℕ). lack (set n) + k) rest

-- a place that was missing lowers the count by one
pub missing_less : (n c : ℕ) (set : ℕ → Bool) → c < n → set c ≡ false → missing n (with_place c set) + 1 ≡ missing n set
missing_less zero c set h absent = absurd (omega arith)
missing_less (suc n) c set h absent = go (λ less. missing_less n c set less absent) (eqb c n) (eqb_tells c n) (three_way c n)
  where
    go : (c < n → missing n (with_place c set) + 1 ≡ missing n set) → (b : Bool) → ((b ≡ true) × (c ≡ n)) ⊎ ((b ≡ false) × (c ≢ n)) → (c < n) ⊎ ((c ≡ n) ⊎ (n < c)) → lack (b || set n) + missing n (with_place c set) + 1 ≡ lack (set n) + missing n set
    go rest true (inl e) w =
        let absent_n : set n ≡ false = subst (λ (k : ℕ). set k ≡ false) e.1 absent in
        let same : missing n (with_place c set) ≡ missing n set = missing_above n c set (let s : c ≡ n = e.1 in omega arith) in
        rw absent_n (omega arith)
    go rest false (inl e) w = absurd (let x = e.0 in cc)
    go rest true (inr e) w = absurd (let x = e.0 in cc)
    go rest false (inr e) (inl less) = let r = rest less in omega arith
    go rest false (inr e) (inr (inl same)) = absurd (e.1 same)
    go rest false (inr e) (inr (inr more)) = absurd (omega arith)

-- sets below n, closed under rules of two premises that can be decided
module _ (n : ℕ) (rule : ℕ → ℕ → ℕ → Type 0) (decide : (a b c : ℕ) → Dec (rule a b c)) (bound : (a b c : ℕ) → rule a b c → (a < n) × (b < n) × (c < n)) where
  -- the set keeps the rules
  abbrev Keeps : (ℕ → Bool) → Type 0
  Keeps set = (a b c : ℕ) → rule a b c → IsTrue (set a) → IsTrue (set b) → IsTrue (set c)

  -- a rule that a set breaks
  abbrev Broken : (ℕ → Bool) → Type 0
  Broken set = (a : ℕ) × (a < n) × ((b : ℕ) × (b < n) × ((c : ℕ) × (c < n) × (rule a b c × ((set a ≡ true) × ((set b ≡ true) × (set c ≡ false))))))

  -- whether two tests are equal
  is_bool : (x y : Bool) → Dec (x ≡ y)
  is_bool true true = yes refl
  is_bool true false = no (λ e. cc)
  is_bool false true = no (λ e. cc)
  is_bool false false = yes refl

  -- whether the set breaks a rule
  dec_broken : (set : ℕ → Bool) → Dec (Broken set)
  dec_broken set = dec_some n _ (λ a. dec_some n _ (λ b. dec_some n _ (λ c. dec_and (decide a b c) (dec_and (is_bool (set a) true) (dec_and (is_bool (set b) true) (is_bool (set c) false))))))

  -- the least set that holds the first one and keeps the rules
  pub record Grown (first : ℕ → Bool) : Type 0 where
    pub set : ℕ → Bool
    pub keeps : (a b c : ℕ) → rule a b c → IsTrue (set a) → IsTrue (set b) → IsTrue (set c)
    pub holds : (i : ℕ) → IsTrue (first i) → IsTrue (set i)
    pub least : (other : ℕ → Bool) → Keeps other → ((i : ℕ) → IsTrue (first i) → IsTrue (other i)) → (i : ℕ) → IsTrue (set i) → IsTrue (other i)

  -- one place more, or the set that keeps the rules
  step : (first : ℕ → Bool) → ((next : ℕ → Bool) → missing n next + 1 ≡ missing n first → Grown next) → Dec (Broken first) → Grown first
  step first rest (no whole) = record {
    set = first;
    keeps = λ a b c r in_a in_b. let within = bound a b c r in true_unless (first c) (λ out. whole (a, within.0, (b, within.1, (c, within.2, (r, (in_a, (in_b, out)))))));
    holds = λ i h. h;
    least = λ other keeps holds i h. holds i h;
  }
  step first rest (yes h) =
      let a = h.0 in let b = h.2.0 in let c = h.2.2.0 in
      let r : rule a b c = h.2.2.2.0 in
      let in_a : IsTrue (first a) = h.2.2.2.1.0 in
      let in_b : IsTrue (first b) = h.2.2.2.1.1.0 in
      let more = rest (with_place c first) (missing_less n c first h.2.2.1 h.2.2.2.1.1.1) in
      record {
        set = more.set;
        keeps = more.keeps;
        holds = λ i k. more.holds i (with_place_old c first i k);
        least = λ other keeps holds i k. more.least other keeps (λ q inside. from other q (keeps a b c r (holds a in_a) (holds b in_b)) (holds q) (with_place_cases c first q inside)) i k;
      }
    where
      from : (other : ℕ → Bool) (q : ℕ) → IsTrue (other h.2.2.0) → (IsTrue (first q) → IsTrue (other q)) → (h.2.2.0 ≡ q) ⊎ IsTrue (first q) → IsTrue (other q)
      from other q new old (inl same) = subst (λ (k : ℕ). IsTrue (other k)) same new
      from other q new old (inr k) = old k

  -- growing ends, since fewer places are missing each time
  grow : (fuel : ℕ) (first : ℕ → Bool) → missing n first ≤ fuel → Grown first
  grow zero first enough = step first (λ next fewer. absurd (omega arith)) (dec_broken first)
  grow (suc fuel) first enough = step first (λ next fewer. grow fuel next (omega arith)) (dec_broken first)

  -- there is a least set that holds the first one and keeps the rules
  pub grown_lem : (first : ℕ → Bool) → Grown first
  grown_lem first = grow (missing n first) first (omega arith)

-- whether a place is the writer of a read
dec_reads : (trace : List Event) (a c : ℕ) → Dec ((x : ℕ) × (Reads trace a x) × IsLastWrite trace ◌<◌ a x c)
dec_reads trace a c = go (op_at trace a) refl
  where
    other : (o : Op) → op_at trace a ≡ Some o → ((x : ℕ) → o ≡ Read x → ⊥) → Dec ((x : ℕ) × (Reads trace a x) × IsLastWrite trace ◌<◌ a x c)
    other o e differs = no (λ h. let k = h.1 in differs h.0 cc)

    go : (o : Option Op) → op_at trace a ≡ o → Dec ((x : ℕ) × (Reads trace a x) × IsLastWrite trace ◌<◌ a x c)
    go None e = no (λ h. let k = h.1 in cc)
    go (Some (Read x)) e = map_dec (λ k. (x, e, k)) (λ h. let k = h.1 in let same : h.0 ≡ x = cc in subst (λ (y : ℕ). IsLastWrite trace ◌<◌ a y c) same h.2) (dec_last_write trace a x c)
    go (Some (Write x)) e = other (Write x) e (λ y k. cc)
    go (Some (Acquire x)) e = other (Acquire x) e (λ y k. cc)
    go (Some (Release x)) e = other (Release x) e (λ y k. cc)
    go (Some (Fork x)) e = other (Fork x) e (λ y k. cc)
    go (Some (Join x)) e = other (Join x) e (λ y k. cc)

-- place c is the release of the acquire a, and b is a later acquire of the lock
abbrev Frees : List Event → ℕ → ℕ → ℕ → Type 0
Frees trace a b c = (l : ℕ) × (op_at trace a ≡ Some (Acquire l)) × ((op_at trace b ≡ Some (Acquire l)) × ((a < b) × IsReleaseOf trace a c))

-- whether place c is such a release
dec_frees : (trace : List Event) (a b c : ℕ) → Dec (Frees trace a b c)
dec_frees trace a b c = go (op_at trace a) refl
  where
    other : (o : Op) → op_at trace a ≡ Some o → ((x : ℕ) → o ≡ Acquire x → ⊥) → Dec (Frees trace a b c)
    other o e differs = no (λ h. let k = h.1 in differs h.0 cc)

    go : (o : Option Op) → op_at trace a ≡ o → Dec (Frees trace a b c)
    go None e = no (λ h. let k = h.1 in cc)
    go (Some (Acquire l)) e = map_dec (λ k. (l, e, k)) (λ h. let k = h.1 in let same : h.0 ≡ l = cc in subst (λ (m : ℕ). (op_at trace b ≡ Some (Acquire m)) × ((a < b) × IsReleaseOf trace a c)) same h.2)
        (dec_and (dec_op trace b (Acquire l)) (dec_and (dec_lt a b) (dec_release trace a l c e)))
    go (Some (Read x)) e = other (Read x) e (λ y k. cc)
    go (Some (Write x)) e = other (Write x) e (λ y k. cc)
    go (Some (Release x)) e = other (Release x) e (λ y k. cc)
    go (Some (Fork x)) e = other (Fork x) e (λ y k. cc)
    go (Some (Join x)) e = other (Join x) e (λ y k. cc)

-- whether two places of a closed set bring a third
dec_rule : (trace : List Event) (a b c : ℕ) → Dec (Brings trace a b c)
dec_rule trace a b c = map_dec to from
    (dec_or (dec_and (ℕ_discrete a b) (dec_before trace c a)) (dec_or (dec_and (ℕ_discrete a b) (dec_reads trace a c)) (dec_frees trace a b c)))
  where
    to : ((a ≡ b) × Before trace c a) ⊎ (((a ≡ b) × ((x : ℕ) × (Reads trace a x) × IsLastWrite trace ◌<◌ a x c)) ⊎ Frees trace a b c) → Brings trace a b c
    to (inl h) = Brings.program h.0 h.1
    to (inr (inl h)) = Brings.writer h.1.0 h.0 h.1.1 h.1.2
    to (inr (inr h)) = Brings.release (record { lock = h.0; first = h.1; second = h.2.0; earlier = h.2.1.0 }) h.2.1.1

    from : Brings trace a b c → ((a ≡ b) × Before trace c a) ⊎ (((a ≡ b) × ((x : ℕ) × (Reads trace a x) × IsLastWrite trace ◌<◌ a x c)) ⊎ Frees trace a b c)
    from (Brings.program e h) = inl (e, h)
    from (Brings.writer x e r w) = inr (inl (e, (x, r, w)))
    from (Brings.release both r) = inr (inr (both.lock, both.first, (both.second, (both.earlier, r))))

-- places that bring another, and that one, are of the trace
pub rule_within : (trace : List Event) (a b c : ℕ) → Brings trace a b c → (a < length trace) × (b < length trace) × (c < length trace)
rule_within trace a b c (Brings.program e h) =
    let a_in : a < length trace = before_within trace c a h in
    let less : c < a = before_less trace c a h in
    (a_in, subst (λ (k : ℕ). k < length trace) e a_in, omega arith)
rule_within trace a b c (Brings.writer x e r w) =
    let a_in : a < length trace = within_from_op trace a (Read x) r in
    (a_in, subst (λ (k : ℕ). k < length trace) e a_in, within_from_op trace c (Write x) w.writes)
rule_within trace a b c (Brings.release both r) = (within_from_op trace a (Acquire both.lock) both.first, within_from_op trace b (Acquire both.lock) both.second, within_from_op trace c (Release r.lock) r.releases.op)

-- a set that keeps the rules is closed, and the other way round
pub closed_from_rules : (trace : List Event) (set : ℕ → Bool) → ((a b c : ℕ) → Brings trace a b c → IsTrue (set a) → IsTrue (set b) → IsTrue (set c)) → ClosedSet trace set
closed_from_rules trace set keeps = record {
  program = λ i j before member. keeps j j i (Brings.program refl before) member member;
  writers = λ r x w reads last member. keeps r r w (Brings.writer x refl reads last) member member;
  releases = λ a b r both release in_a in_b. keeps a b r (Brings.release both release) in_a in_b;
}

-- and a closed set keeps the rules
pub rules_from_closed : (trace : List Event) (set : ℕ → Bool) → ClosedSet trace set → (a b c : ℕ) → Brings trace a b c → IsTrue (set a) → IsTrue (set b) → IsTrue (set c)
rules_from_closed trace set closed a b c (Brings.program e before) in_a in_b = closed.program c a before in_a
rules_from_closed trace set closed a b c (Brings.writer x e reads last) in_a in_b = closed.writers a x c reads last in_a
rules_from_closed trace set closed a b c (Brings.release both freed) in_a in_b = closed.releases a b c both freed in_a in_b

-- whether a fact was decided to hold
abbrev is_yes : {A : Type 0} → Dec A → Bool
is_yes (yes a) = true
is_yes (no a) = false

-- what holds was decided to hold
yes_from : {A : Type 0} (d : Dec A) → A → IsTrue (is_yes d)
yes_from (yes a) h = refl
yes_from (no a) h = absurd (a h)

-- and what was decided to hold does
from_yes : {A : Type 0} (d : Dec A) → IsTrue (is_yes d) → A
from_yes (yes a) h = a
from_yes (no a) h = cc

-- the closure of places that can be decided
pub closure_exists : (trace : List Event) (P : ℕ → Type 0) → ((i : ℕ) → Dec (P i)) → (set : ℕ → Bool) × IsClosure trace P set
closure_exists trace P decide =
    let grown = grown_lem (length trace) (Brings trace) (dec_rule trace) (rule_within trace) (λ i. is_yes (decide i)) in (
      grown.set,
      record {
        closed = closed_from_rules trace grown.set grown.keeps;
        all = λ i h. grown.holds i (yes_from (decide i) h);
        least = λ other closed all i h. grown.least other (rules_from_closed trace other closed) (λ k first. all k (from_yes (decide k) first)) i h;
      },
    )
