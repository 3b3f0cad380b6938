-- Of the deadlocks of a pattern one is least in each position.
use Rattle.std.proofs.Common.{◌≡◌, ℕ, zero, suc, ◌+◌, ◌<◌, ◌≤◌, Bool, true, false, List, [], ◌∷◌, length, min, ◌⊎◌, inl, inr, refl, sym, subst, arith}
use Rattle.std.specs.Prelude.{Contains, IsTrue}
use Rattle.std.specs.List.{AllZip}
use Rattle.std.proofs.Math.Decide.{dec_lt, dec_le, map_dec}
use Rattle.trace_laws.specs.Event.{Event}
use Rattle.trace_laws.specs.Trace.{Before, Lawful}
use Rattle.trace_laws.specs.Reordering.{CanLeave}
use Rattle.trace_laws.specs.Patterns.{Class, IsClass, IsPattern, IsInstance}
use Rattle.trace_laws.specs.Findings.{Deadlock}
use Rattle.trace_laws.specs.Closed.{IsClosureBefore, AreOutside, BeforeAny, LeastDeadlockExists}
use Rattle.trace_laws.proofs.Places.{three_way, contains_head, contains_tail, contains_cases, contains_none, false_unless}
use Rattle.trace_laws.proofs.Enabling.{enabled_outside_closure_lem}
use Rattle.trace_laws.proofs.Deciding.{dec_and, dec_not}
use Rattle.trace_laws.proofs.Judges.{closure_before, instance_within}

-- the lesser of two numbers is one of them
lesser : (p q : ℕ) → ((min p q ≡ p) × (p ≤ q)) ⊎ ((min p q ≡ q) × (q < p))
lesser p q = go (three_way p q)
  where
    go : (p < q) ⊎ ((p ≡ q) ⊎ (q < p)) → ((min p q ≡ p) × (p ≤ q)) ⊎ ((min p q ≡ q) × (q < p))
    go (inl h) = inl (omega arith, omega arith)
    go (inr (inl h)) = inl (omega arith, omega arith)
    go (inr (inr h)) = inr (omega arith, h)

-- in each position the lesser pick
abbrev meet : List ℕ → List ℕ → List ℕ
meet [] qs = []
meet (p ∷ ps) [] = []
meet (p ∷ ps) (q ∷ qs) = min p q ∷ meet ps qs

-- an acquire of the class
abbrev Picked : Class → ℕ → Type 0
Picked class a = Contains class.acquires a

-- the lesser picks of two instances are an instance
meet_instance : (pattern : List Class) (ps qs : List ℕ) → IsInstance pattern ps → IsInstance pattern qs → IsInstance pattern (meet ps qs)
meet_instance [] [] [] h k = tt
meet_instance [] [] (q ∷ qs) h k = absurd k
meet_instance [] (p ∷ ps) qs h k = absurd h
meet_instance (c ∷ cs) [] qs h k = absurd h
meet_instance (c ∷ cs) (p ∷ ps) [] h k = absurd k
meet_instance (c ∷ cs) (p ∷ ps) (q ∷ qs) h k = (go (lesser p q), meet_instance cs ps qs h.1 k.1)
  where
    go : ((min p q ≡ p) × (p ≤ q)) ⊎ ((min p q ≡ q) × (q < p)) → Picked c (min p q)
    go (inl x) = subst (Picked c) (sym x.0) h.0
    go (inr x) = subst (Picked c) (sym x.0) k.0

-- a place that is m, or that m comes before
abbrev pub AtOrAfter : List Event → ℕ → ℕ → Type 0
AtOrAfter trace m p = (m ≡ p) ⊎ Before trace m p

-- two picks of one class, the first at most the second
one_class : (trace : List Event) (c : Class) → IsClass trace c → (m p : ℕ) → Picked c m → Picked c p → m ≤ p → AtOrAfter trace m p
one_class trace c is_class m p at_m at_p le = go (three_way m p)
  where
    go : (m < p) ⊎ ((m ≡ p) ⊎ (p < m)) → AtOrAfter trace m p
    go (inl less) = inr (Before.same_thread c.thread less ((is_class.members m).0 at_m).acquires.thread ((is_class.members p).0 at_p).acquires.thread)
    go (inr (inl same)) = inl same
    go (inr (inr more)) = absurd (omega arith)

-- each pick of the meet is a pick of one of the two, and at or before a pick of each
record Below (trace : List Event) (ps qs : List ℕ) (m : ℕ) : Type 0 where
  pub one : Contains ps m ⊎ Contains qs m
  pub left : (p : ℕ) × Contains ps p × AtOrAfter trace m p
  pub right : (q : ℕ) × Contains qs q × AtOrAfter trace m q

-- each of the lesser picks is at or before a pick of each instance
meet_below : (trace : List Event) (pattern : List Class) (ps qs : List ℕ) → ((c : Class) → Contains pattern c → IsClass trace c) → IsInstance pattern ps → IsInstance pattern qs → (m : ℕ) → Contains (meet ps qs) m → Below trace ps qs m
meet_below trace [] [] [] are h k m c = absurd (contains_none m c)
meet_below trace [] [] (q ∷ qs) are h k m c = absurd k
meet_below trace [] (p ∷ ps) qs are h k m c = absurd h
meet_below trace (d ∷ ds) [] qs are h k m c = absurd h
meet_below trace (d ∷ ds) (p ∷ ps) [] are h k m c = absurd k
meet_below trace (d ∷ ds) (p ∷ ps) (q ∷ qs) are h k m c = go (meet_below trace ds ps qs (λ e ce. are e (contains_tail d ds e ce)) h.1 k.1 m) (contains_cases (min p q) (meet ps qs) m c)
  where
    is_class : IsClass trace d
    is_class = are d (contains_head d ds)

    first : ((min p q ≡ p) × (p ≤ q)) ⊎ ((min p q ≡ q) × (q < p)) → Below trace (p ∷ ps) (q ∷ qs) (min p q)
    first (inl x) = subst (Below trace (p ∷ ps) (q ∷ qs)) (sym x.0) (record {
      one = inl (contains_head p ps);
      left = (p, contains_head p ps, inl refl);
      right = (q, contains_head q qs, one_class trace d is_class p q h.0 k.0 x.1);
    })
    first (inr x) = subst (Below trace (p ∷ ps) (q ∷ qs)) (sym x.0) (record {
      one = inr (contains_head q qs);
      left = (p, contains_head p ps, one_class trace d is_class q p k.0 h.0 (let less = x.1 in omega arith));
      right = (q, contains_head q qs, inl refl);
    })

    further : Below trace ps qs m → Below trace (p ∷ ps) (q ∷ qs) m
    further b = record {
      one = either b.one;
      left = (b.left.0, contains_tail p ps b.left.0 b.left.1, b.left.2);
      right = (b.right.0, contains_tail q qs b.right.0 b.right.1, b.right.2);
    }
      where
        either : Contains ps m ⊎ Contains qs m → Contains (p ∷ ps) m ⊎ Contains (q ∷ qs) m
        either (inl x) = inl (contains_tail p ps m x)
        either (inr x) = inr (contains_tail q qs m x)

    go : (Contains (meet ps qs) m → Below trace ps qs m) → (min p q ≡ m) ⊎ Contains (meet ps qs) m → Below trace (p ∷ ps) (q ∷ qs) m
    go rest (inl same) = subst (Below trace (p ∷ ps) (q ∷ qs)) same (first (lesser p q))
    go rest (inr later) = further (rest later)

-- the closure before picks that are at or before others is in the closure before those
pub closure_grows : (trace : List Event) (ms ps : List ℕ) (set other : ℕ → Bool) → ((m : ℕ) → Contains ms m → (p : ℕ) × Contains ps p × AtOrAfter trace m p) → IsClosureBefore trace ms set → IsClosureBefore trace ps other → (i : ℕ) → IsTrue (set i) → IsTrue (other i)
closure_grows trace ms ps set other under small large i member = small.least other large.closed all i member
  where
    place : (k m p : ℕ) → Before trace k m → Contains ps p → AtOrAfter trace m p → IsTrue (other k)
    place k m p before c (inl same) = large.all k (record { pick = p; is_pick = c; before = subst (λ (x : ℕ). Before trace k x) same before })
    place k m p before c (inr after) = large.closed.program k m before (large.all m (record { pick = p; is_pick = c; before = after }))

    all : (k : ℕ) → BeforeAny trace ms k → IsTrue (other k)
    all k b = let u = under b.pick b.is_pick in place k b.pick u.0 b.before u.1 u.2

-- the classes of a pattern are classes of the trace
classes_of : (trace : List Event) (pattern : List Class) → IsPattern trace pattern → (c : Class) → Contains pattern c → IsClass trace c
classes_of trace pattern is_pattern c at = subst (IsClass trace) at.2 (is_pattern.classes at.0 c at.1)

-- two deadlocks of a pattern have one in common below them
meet_deadlock : (trace : List Event) → Lawful trace → (pattern : List Class) (ps qs : List ℕ) → IsPattern trace pattern → Deadlock trace pattern ps → Deadlock trace pattern qs → Deadlock trace pattern (meet ps qs)
meet_deadlock trace lawful pattern ps qs is_pattern dp dq = record { picked = is_instance; enabled = (enabled_outside_closure_lem trace lawful (meet ps qs) m.0 (instance_within trace pattern (meet ps qs) is_pattern is_instance) m.1).1 outside }
  where
    is_instance : IsInstance pattern (meet ps qs)
    is_instance = meet_instance pattern ps qs dp.picked dq.picked

    m : (set : ℕ → Bool) × IsClosureBefore trace (meet ps qs) set
    m = closure_before trace (meet ps qs)

    p : (set : ℕ → Bool) × IsClosureBefore trace ps set
    p = closure_before trace ps

    q : (set : ℕ → Bool) × IsClosureBefore trace qs set
    q = closure_before trace qs

    out_p : AreOutside ps p.0
    out_p = (enabled_outside_closure_lem trace lawful ps p.0 (instance_within trace pattern ps is_pattern dp.picked) p.1).0 dp.enabled

    out_q : AreOutside qs q.0
    out_q = (enabled_outside_closure_lem trace lawful qs q.0 (instance_within trace pattern qs is_pattern dq.picked) q.1).0 dq.enabled

    below : (e : ℕ) → Contains (meet ps qs) e → Below trace ps qs e
    below = meet_below trace pattern ps qs (classes_of trace pattern is_pattern) dp.picked dq.picked

    not_in : (e : ℕ) → IsTrue (m.0 e) → Contains ps e ⊎ Contains qs e → ⊥
    not_in e member (inl c) = let in_p = closure_grows trace (meet ps qs) ps m.0 p.0 (λ k ck. (below k ck).left) m.1 p.1 e member in let out = out_p e c in cc
    not_in e member (inr c) = let in_q = closure_grows trace (meet ps qs) qs m.0 q.0 (λ k ck. (below k ck).right) m.1 q.1 e member in let out = out_q e c in cc

    outside : AreOutside (meet ps qs) m.0
    outside e c = false_unless (m.0 e) (λ member. not_in e member (below e c).one)

-- the picks together
abbrev total : List ℕ → ℕ
total [] = 0
total (p ∷ ps) = p + total ps

-- the lesser picks are at most the first ones
meet_at_most : (ps qs : List ℕ) → total (meet ps qs) ≤ total ps
meet_at_most [] qs = omega arith
meet_at_most (p ∷ ps) [] = omega arith
meet_at_most (p ∷ ps) (q ∷ qs) = let rest = meet_at_most ps qs in omega arith

-- the meet with a deadlock that is not above is less
meet_less : (pattern : List Class) (ps qs : List ℕ) → IsInstance pattern ps → IsInstance pattern qs → (AllZip ◌≤◌ ps qs → ⊥) → total (meet ps qs) < total ps
meet_less [] [] [] h k other = absurd (other tt)
meet_less [] [] (q ∷ qs) h k other = absurd k
meet_less [] (p ∷ ps) qs h k other = absurd h
meet_less (c ∷ cs) [] qs h k other = absurd h
meet_less (c ∷ cs) (p ∷ ps) [] h k other = absurd k
meet_less (c ∷ cs) (p ∷ ps) (q ∷ qs) h k other = go (meet_less cs ps qs h.1 k.1) (lesser p q)
  where
    go : ((AllZip ◌≤◌ ps qs → ⊥) → total (meet ps qs) < total ps) → ((min p q ≡ p) × (p ≤ q)) ⊎ ((min p q ≡ q) × (q < p)) → min p q + total (meet ps qs) < p + total ps
    go rest (inl x) = let same = x.0 in let less = rest (λ below. other (x.1, below)) in omega arith
    go rest (inr x) = let same = x.0 in let less = x.1 in let under = meet_at_most ps qs in omega arith

-- whether some element of a list has the property, and whether each has
dec_some_of : (xs : List ℕ) (P : ℕ → Type 0) → ((a : ℕ) → Dec (P a)) → Dec ((a : ℕ) × Contains xs a × P a)
dec_some_of [] P d = no (λ h. contains_none h.0 h.1)
dec_some_of (x ∷ xs) P d = go (d x) (dec_some_of xs P d)
  where
    go : Dec (P x) → Dec ((a : ℕ) × Contains xs a × P a) → Dec ((a : ℕ) × Contains (x ∷ xs) a × P a)
    go (yes p) rest = yes (x, contains_head x xs, p)
    go (no p) (yes h) = yes (h.0, contains_tail x xs h.0 h.1, h.2)
    go (no p) (no h) = no (λ k. at k.0 k.2 (contains_cases x xs k.0 k.1))
      where
        at : (a : ℕ) → P a → (x ≡ a) ⊎ Contains xs a → ⊥
        at a q (inl same) = p (subst P (sym same) q)
        at a q (inr c) = h (a, c, q)

-- and whether each element has it
dec_each_of : (xs : List ℕ) (P : ℕ → Type 0) → ((a : ℕ) → Dec (P a)) → Dec ((a : ℕ) → Contains xs a → P a)
dec_each_of [] P d = yes (λ a c. absurd (contains_none a c))
dec_each_of (x ∷ xs) P d = go (d x) (dec_each_of xs P d)
  where
    go : Dec (P x) → Dec ((a : ℕ) → Contains xs a → P a) → Dec ((a : ℕ) → Contains (x ∷ xs) a → P a)
    go (no p) rest = no (λ all. p (all x (contains_head x xs)))
    go (yes p) (no h) = no (λ all. h (λ a c. all a (contains_tail x xs a c)))
    go (yes p) (yes h) = yes (λ a c. at a (contains_cases x xs a c))
      where
        at : (a : ℕ) → (x ≡ a) ⊎ Contains xs a → P a
        at a (inl same) = subst P same p
        at a (inr c) = h a c

-- whether some instance of a pattern has the property
dec_instance : (pattern : List Class) (S : List ℕ → Type 0) → ((ps : List ℕ) → Dec (S ps)) → Dec ((ps : List ℕ) × IsInstance pattern ps × S ps)
dec_instance [] S d = map_dec (λ s. ([], tt, s)) (λ h. empty h.0 h.1 h.2) (d [])
  where
    empty : (ps : List ℕ) → IsInstance [] ps → S ps → S []
    empty [] h s = s
    empty (p ∷ ps) h s = absurd h
dec_instance (c ∷ cs) S d = map_dec (λ h. (h.0 ∷ h.2.0, (h.1, h.2.1), h.2.2)) (λ h. split h.0 h.1 h.2)
    (dec_some_of c.acquires (λ a. (ps : List ℕ) × IsInstance cs ps × S (a ∷ ps)) (λ a. dec_instance cs (λ ps. S (a ∷ ps)) (λ ps. d (a ∷ ps))))
  where
    split : (ps : List ℕ) → IsInstance (c ∷ cs) ps → S ps → (a : ℕ) × Contains c.acquires a × ((ps : List ℕ) × IsInstance cs ps × S (a ∷ ps))
    split [] h s = absurd h
    split (p ∷ ps) h s = (p, h.0, (ps, h.1, s))

-- whether picks are at most others, in each position
dec_below : (ps qs : List ℕ) → Dec (AllZip ◌≤◌ ps qs)
dec_below [] [] = yes tt
dec_below [] (q ∷ qs) = no (λ h. h)
dec_below (p ∷ ps) [] = no (λ h. h)
dec_below (p ∷ ps) (q ∷ qs) = dec_and (dec_le p q) (dec_below ps qs)

-- whether a test fails
is_false : (b : Bool) → Dec (b ≡ false)
is_false false = yes refl
is_false true = no (λ e. cc)

-- whether picks can be left enabled
dec_enabled : (trace : List Event) → Lawful trace → (picks : List ℕ) → Dec (CanLeave trace picks)
dec_enabled trace lawful picks = go (dec_each_of picks (λ e. e < length trace) (λ e. dec_lt e (length trace)))
  where
    m : (set : ℕ → Bool) × IsClosureBefore trace picks set
    m = closure_before trace picks

    go : Dec ((e : ℕ) → Contains picks e → e < length trace) → Dec (CanLeave trace picks)
    go (yes within) = let both = enabled_outside_closure_lem trace lawful picks m.0 within m.1 in map_dec both.1 both.0 (dec_each_of picks (λ e. m.0 e ≡ false) (λ e. is_false (m.0 e)))
    go (no outside) = no (λ found. outside (λ e c. (found.leaves.enabled e c).within))

-- down from a deadlock to the least
descend : (trace : List Event) → Lawful trace → (pattern : List Class) → IsPattern trace pattern → (fuel : ℕ) (ps : List ℕ) → Deadlock trace pattern ps → total ps < fuel → (least : List ℕ) × Deadlock trace pattern least × ((others : List ℕ) → Deadlock trace pattern others → AllZip ◌≤◌ least others)
descend trace lawful pattern is_pattern zero ps d less = absurd (omega arith)
descend trace lawful pattern is_pattern (suc fuel) ps d less = go (descend trace lawful pattern is_pattern fuel)
    (dec_instance pattern (λ qs. CanLeave trace qs × (AllZip ◌≤◌ ps qs → ⊥)) (λ qs. dec_and (dec_enabled trace lawful qs) (dec_not (dec_below ps qs))))
  where
    go : ((qs : List ℕ) → Deadlock trace pattern qs → total qs < fuel → (least : List ℕ) × Deadlock trace pattern least × ((others : List ℕ) → Deadlock trace pattern others → AllZip ◌≤◌ least others)) → Dec ((qs : List ℕ) × IsInstance pattern qs × (CanLeave trace qs × (AllZip ◌≤◌ ps qs → ⊥))) → (least : List ℕ) × Deadlock trace pattern least × ((others : List ℕ) → Deadlock trace pattern others → AllZip ◌≤◌ least others)
    go rest (yes h) =
        let fewer = meet_less pattern ps h.0 d.picked h.1 h.2.1 in
        rest (meet ps h.0) (meet_deadlock trace lawful pattern ps h.0 is_pattern d (record { picked = h.1; enabled = h.2.0 })) (omega arith)
    go rest (no h) = (ps, d, λ others other. above others other (dec_below ps others))
      where
        above : (others : List ℕ) → Deadlock trace pattern others → Dec (AllZip ◌≤◌ ps others) → AllZip ◌≤◌ ps others
        above others other (yes below) = below
        above others other (no below) = absurd (h (others, other.picked, (other.enabled, below)))

-- of the deadlocks of a pattern one is least in each position
pub least_deadlock_lem : (trace : List Event) → Lawful trace → LeastDeadlockExists trace
least_deadlock_lem trace lawful pattern picks is_pattern d = descend trace lawful pattern is_pattern (suc (total picks)) picks d (omega arith)
