-- Cutting a number off and putting numbers together keeps the rule.
use Rattle.std.proofs.Common.{◌≡◌, ℕ, List, [], ◌∷◌, set, sym, refl, ap, ◌∙◌, subst, arith, Option, None}
use mathlib.Core.Option.{some}
use lib.ListN.{get_elem?}
use Rattle.atomic_table.specs.Table.{State, Splits, Joins}
use Rattle.atomic_table.proofs.Lists.{set_else}
use Rattle.seat_lock.specs.declared.rule.View.{View}
use Rattle.seat_lock.specs.Tallies.{Pairs, weight, AreTallied, head_pairs, tail_pairs}
use Rattle.seat_lock.specs.Views.{one_if_taken, without_first, first_alone, both_views, spent_view}
use Rattle.seat_lock.specs.Rule.{ViewRule, LockRule}
use Rattle.seat_lock.proofs.Sums.{total-append, total-set, tallied-append}
use Rattle.seat_lock.proofs.Places.{each_set, each_snoc}

module _ {S : Type 0} (tally : S → ℕ → ℕ) (one_origin : S → S → Type 0) (first : S) (seats : ℕ) where
  abbrev Rule : State (Option S) (View S) → Type 0
  Rule = LockRule tally one_origin first seats

  -- a seat with a number, which has taken nothing, gives its first number to a new seat
  pub may_split : (id : ℕ) (v : View S) (p : ℕ × ℕ) (ps : Pairs) → v.owned ≡ p ∷ ps → v.taken ≡ None → Splits Rule id v (without_first v) (first_alone v)
  may_split id v p ps owned free s r at =
      let mine = r.each id v at in let left : View S = without_first v in let right : View S = first_alone v in let vs : List (View S) = set s.views id left in
      let head : head_pairs v.owned ≡ p ∷ [] = ap head_pairs owned in let tail : tail_pairs v.owned ≡ ps = ap tail_pairs owned in let known = mine.knows p ps owned in
      let counts : AreTallied (tally r.now) (p ∷ ps) = subst (AreTallied (tally r.now)) owned mine.counts in record {
        now = r.now;
        origin = r.origin;
        wide = r.wide;
        once = λ f. let more = total-append (λ (u : View S). weight f u.owned) vs (right ∷ []) in let change = total-set (λ (u : View S). weight f u.owned) s.views id v left at in
            let before = r.once f in let had = ap (weight f) owned in let gone = ap (weight f) head in let stays = ap (weight f) tail in omega arith;
        busy = let more = total-append (λ (u : View S). one_if_taken u.taken) vs (right ∷ []) in let change = total-set (λ (u : View S). one_if_taken u.taken) s.views id v left at in let before = r.busy in omega arith;
        low = r.low;
        home = r.home;
        each = each_snoc (ViewRule tally first r.now) vs right record { counts = subst (AreTallied (tally r.now)) (sym head) (counts.0, tt); has = λ x is. absurd (cc); idle = λ _. refl; knows = λ _ _ _. known }
            (each_set (ViewRule tally first r.now) s.views id left record { counts = subst (AreTallied (tally r.now)) (sym tail) counts.1; has = mine.has; idle = λ _. free; knows = λ _ _ _. known } (λ j u _. r.each j u));
      }

  -- a seat with a number, which has taken nothing, gets the numbers of another that has taken nothing
  pub may_join : (id : ℕ) (v : View S) (other : ℕ) (w : View S) (p : ℕ × ℕ) (ps : Pairs) → v.owned ≡ p ∷ ps → v.taken ≡ None → w.taken ≡ None → Joins Rule id v other w (both_views v w) spent_view
  may_join id v other w p ps owned free idle s r at apart there =
      let mine = r.each id v at in let both : View S = both_views v w in let vs : List (View S) = set s.views id both in let known = mine.knows p ps owned in
      let was : get_elem? s.views other ≡ some w = sym (set_else s.views id other both apart) ∙ there in let theirs = r.each other w was in record {
        now = r.now;
        origin = r.origin;
        wide = r.wide;
        once = λ f. let change = total-set (λ (u : View S). weight f u.owned) s.views id v both at in let spent = total-set (λ (u : View S). weight f u.owned) vs other w spent_view there in
            let before = r.once f in let sum = total-append (λ (q : ℕ × ℕ). f q.0) v.owned w.owned in omega arith;
        busy = let change = total-set (λ (u : View S). one_if_taken u.taken) s.views id v both at in let spent = total-set (λ (u : View S). one_if_taken u.taken) vs other w spent_view there in
            let before = r.busy in let none_out = ap one_if_taken idle in omega arith;
        low = r.low;
        home = r.home;
        each = each_set (ViewRule tally first r.now) vs other spent_view record { counts = tt; has = λ x is. absurd (cc); idle = λ _. refl; knows = λ q qs is. absurd (cc) }
            (λ j u _. each_set (ViewRule tally first r.now) s.views id both record { counts = tallied-append (tally r.now) v.owned w.owned mine.counts theirs.counts; has = mine.has; idle = λ _. free; knows = λ _ _ _. known } (λ i x _. r.each i x) j u);
      }
