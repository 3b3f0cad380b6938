-- A take keeps the rule.
use Rattle.std.proofs.Common.{◌≡◌, ℕ, eqb, ◌∷◌, get_or, set, sym, refl, ap, ◌∙◌, subst, arith, length-set, get_or-set_same, eq-eqb, ne_eqb, Option, Some, None}
use mathlib.Core.Logic.{dite}
use mathlib.Core.Option.{none, some}
use native.Mathlib.Decide.{ℕ_discrete}
use lib.ListN.{get_elem?}
use lib.Seq.{set-get_or}
use prog.Atomic.{either}
use Rattle.atomic_table.specs.Table.{State, step, keeps, takes, stepped, Allows}
use Rattle.atomic_table.proofs.Lists.{set_again}
use Rattle.seat_lock.specs.declared.rule.View.{View}
use Rattle.seat_lock.specs.Tallies.{Pairs, weight}
use Rattle.seat_lock.specs.Views.{one_if_taken, view}
use Rattle.seat_lock.specs.Rule.{ViewRule, LockRule}
use Rattle.seat_lock.specs.Steps.{Seated, took}
use Rattle.seat_lock.proofs.Sums.{total-set}
use Rattle.seat_lock.proofs.Places.{each_set}

module _ {S : Type 0} (tally : S → ℕ → ℕ) (one_origin : S → S → Type 0) (first : S) (seats : ℕ) where
  abbrev Rule : State (Option S) (View S) → Type 0
  Rule = LockRule tally one_origin first seats

  -- the word of a state
  abbrev word : State (Option S) (View S) → ℕ
  word s = get_or s.words 0 0

  -- a step that changes nothing
  unmoved : (s : State (Option S) (View S)) (id : ℕ) (me : Seated S) → Rule s → get_elem? s.views id ≡ some me.0 → Rule (stepped s 0 (word s) id me.1 me.0 keeps)
  unmoved s id me r at = subst Rule (λ i. record { words = sym (set-get_or s.words 0 0) i; homes = s.homes; views = sym (set_again s.views id me.0 at) i }) r

  -- the state is at home, and a seat with a number takes it
  taken : (s : State (Option S) (View S)) (id : ℕ) (me : Seated S) (p : ℕ × ℕ) (ps : Pairs) → me.0.owned ≡ p ∷ ps → me.0.taken ≡ None → (r : Rule s) → get_elem? s.views id ≡ some me.0 → word s ≡ 0
      → Rule (stepped s 0 1 id me.1 (view me.0.owned (Some r.now) me.0.origin) (takes 0 (Some r.now)))
  taken s id me p ps owned free r at hit =
      let mine = r.each id me.0 at in let wide = r.wide in let w : View S = view me.0.owned (Some r.now) me.0.origin in
      let one : get_or (set s.words 0 1) 0 0 ≡ 1 = get_or-set_same s.words 0 1 0 (omega arith) in record {
        now = r.now;
        origin = r.origin;
        wide = length-set s.words 0 1 ∙ wide;
        once = λ f. let change = total-set (λ (v : View S). weight f v.owned) s.views id me.0 w at in let before = r.once f in omega arith;
        busy = let change = total-set (λ (v : View S). one_if_taken v.taken) s.views id me.0 w at in let before = r.busy in let none_mine : one_if_taken me.0.taken ≡ 0 = ap one_if_taken free in omega arith;
        low = omega arith;
        home = λ none_out. absurd (omega arith);
        each = each_set (ViewRule tally first r.now) s.views id w record { counts = mine.counts; has = λ x is. cc; idle = λ none_owned. absurd (cc); knows = mine.knows } (λ j v _. r.each j v);
      }

  -- a compare and exchange of 0 for 1 by a seat with a number, which has taken nothing
  pub may_take : (slots id : ℕ) (me : Seated S) (p : ℕ × ℕ) (ps : Pairs) → me.0.owned ≡ p ∷ ps → me.0.taken ≡ None
      → Allows Rule slots id me 0 (λ x. either (eqb x 0) 1 x) (took tally one_origin (step slots 0 0 1 none) me)
  may_take slots id me p ps owned free s r _ at _ = let x : ℕ = word s in let mine = r.each id me.0 at in let w : View S = view me.0.owned (Some r.now) me.0.origin in dite (ℕ_discrete x 0)
      (λ hit. (
        w,
        takes 0 (Some r.now),
        r.home hit,
        subst (λ b. Rule (stepped s 0 (either b 1 x) id me.1 w (takes 0 (Some r.now)))) (sym (eq-eqb x 0 hit)) (taken s id me p ps owned free r at hit),
        record {
          free = λ _. record {
            state = r.now;
            left = refl;
            counts = mine.counts;
            origin = λ o is. let known = mine.knows p ps owned in let same : first ≡ o = cc in subst (λ (z : S). one_origin z r.now) same r.origin;
          };
          held = λ not. absurd (not hit);
        },
      ))
      (λ miss. (
        me.0,
        keeps,
        tt,
        subst (λ b. Rule (stepped s 0 (either b 1 x) id me.1 me.0 keeps)) (sym (ne_eqb x 0 miss)) (unmoved s id me r at),
        record { free = λ hit. absurd (miss hit); held = λ _. refl },
      ))
