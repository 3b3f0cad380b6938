-- The rule at the beginning of a lock, and what it says at the end.
use Rattle.std.proofs.Common.{◌≡◌, ℕ, ◌+◌, ◌<◌, List, [], ◌∷◌, sym, refl, ap, ◌∙◌, subst, arith, length, Option, Some, None}
use mathlib.Core.Logic.{dite}
use mathlib.Core.Option.{some, some-injective}
use native.Mathlib.Decide.{ℕ_discrete}
use lib.ListN.{get_elem?}
use Rattle.atomic_table.specs.Table.{State, opening, Final, Seen}
use Rattle.seat_lock.specs.declared.rule.View.{View}
use Rattle.seat_lock.specs.Tallies.{Pairs, below, weight, AreTallied, fresh}
use Rattle.seat_lock.specs.Views.{one_if_taken, opened}
use Rattle.seat_lock.specs.Rule.{ViewRule, LockRule}
use Rattle.seat_lock.proofs.Sums.{total-append, terms_le, total_none, weight-length, below-one, weight-fresh, tallied-append, tallied-fresh}
use Rattle.seat_lock.proofs.Places.{each_one, empty}

module _ {S : Type 0} (tally : S → ℕ → ℕ) (one_origin : S → S → Type 0) (first : S) (seats : ℕ) where
  abbrev Rule : State (Option S) (View S) → Type 0
  Rule = LockRule tally one_origin first seats

  -- the state is in the slot, and one seat owns all numbers
  pub may_open : ((x : S) → one_origin x x) → ((k : ℕ) → k < seats → tally first k ≡ 0) → Rule (opening (0 ∷ []) (Some first ∷ []) (opened tally first seats))
  may_open reflexive none_yet = let last : Pairs = (seats, tally first seats) ∷ [] in record {
    now = first;
    origin = reflexive first;
    wide = refl;
    once = λ f. let more = total-append (λ (q : ℕ × ℕ). f q.0) (fresh 0 seats) last in let all = weight-fresh f 0 seats in let from : 0 + seats ≡ seats = omega arith in let bound = ap (below f) from in omega arith;
    busy = refl;
    low = omega arith;
    home = λ _. refl;
    each = λ j v at. each_one (ViewRule tally first first) (opened tally first seats) record {
      counts = tallied-append (tally first) (fresh 0 seats) last (tallied-fresh (tally first) 0 seats (λ k within. none_yet k (omega arith))) (refl, tt);
      has = λ x is. absurd (cc);
      idle = λ _. refl;
      knows = λ _ _ _. refl;
    } j v at;
  }

  -- where one seat owns all numbers, another has none, so it has taken nothing
  none_out : (s : State (Option S) (View S)) (id : ℕ) (v : View S) → Rule s → get_elem? s.views id ≡ some v → length v.owned ≡ seats + 1 → v.taken ≡ None → (j : ℕ) (u : View S) → get_elem? s.views j ≡ some u → one_if_taken u.taken ≡ 0
  none_out s id v r at long free j u there = dite (ℕ_discrete j id)
      (λ same. let is : get_elem? s.views id ≡ some u = subst (λ (k : ℕ). get_elem? s.views k ≡ some u) same there in let mine : v ≡ u = some-injective v u (sym at ∙ is) in
      let none_mine = ap one_if_taken free in let alike = ap (λ (x : View S). one_if_taken x.taken) mine in omega arith)
      (λ other. let two = terms_le (λ (x : View S). weight (λ _. 1) x.owned) s.views id j v u other at there in let all = r.once (λ _. 1) in let many = below-one seats in let mine = weight-length v.owned in let theirs = weight-length u.owned in
      let none_owned : u.owned ≡ [] = empty u.owned (omega arith) in ap one_if_taken ((r.each j u there).idle none_owned))

  -- what a seat that owns all numbers knows of the state in the slot of a closed table
  pub record Closing (v : View S) (o : Option S) : Type 0 where
    pub state : S
    pub there : o ≡ Some state
    pub origin : one_origin first state
    pub counts : AreTallied (tally state) v.owned

  -- what was taken out of that slot
  pub closing : (ws : List ℕ) (xs : List (Option S)) (id : ℕ) (v : View S) (o : Option S) → Final (Seen Rule id v) ws xs → length v.owned ≡ seats + 1 → v.taken ≡ None → get_elem? xs 0 ≡ some o → Closing v o
  closing ws xs id v o f long free there =
      let r = f.1.0 in let busy = r.busy in let none = total_none (λ (u : View S). one_if_taken u.taken) f.0.views (none_out f.0 id v r f.1.1 long free) in
      let home = r.home (omega arith) in record {
        state = r.now;
        there = sym (some-injective (Some r.now) o (sym (f.4 0 (Some r.now) home) ∙ there));
        origin = r.origin;
        counts = (r.each id v f.1.1).counts;
      }
