-- A give keeps the rule, and what it tells.
use Rattle.std.proofs.Common.{◌≡◌, ◌≢◌, ℕ, suc, ◌+◌, ◌<◌, List, [], ◌∷◌, get_or, set, sym, refl, ap, ◌∙◌, subst, arith, length-set, get_or-set_same, Option, Some, None}
use mathlib.Core.Option.{none, some}
use lib.ListN.{get_elem?}
use Rattle.atomic_table.specs.Table.{State, step, gives, put_back, Allows, rest}
use Rattle.atomic_table.proofs.Lists.{set_here}
use Rattle.seat_lock.specs.declared.rule.View.{View}
use Rattle.seat_lock.specs.Tallies.{Pairs, weight, first_pair, IsOne}
use Rattle.seat_lock.specs.Views.{one_if_taken, slots_for, view}
use Rattle.seat_lock.specs.Rule.{ViewRule, LockRule}
use Rattle.seat_lock.specs.Steps.{Seated, gave}
use Rattle.seat_lock.proofs.Sums.{total-set, terms_le, only, only-same, below-once, tallied_still}
use Rattle.seat_lock.proofs.Places.{each_set}

-- what lies in the first slot
abbrev slot_value : {S : Type 0} → List (ℕ × Option S) → Option S
slot_value [] = None
slot_value (x ∷ xs) = x.1

-- where nothing counts as taken, nothing is
none_taken : {S : Type 0} (o : Option S) (x : S) → one_if_taken o ≡ 0 → o ≡ Some x → ⊥
none_taken o x none_out is = let one = ap one_if_taken is in absurd (omega arith)

module _ {S : Type 0} (tally : S → ℕ → ℕ) where
  -- what a seat of the number k knows after it gave the state
  abbrev pub emptied : Seated S → ℕ → S → View S
  emptied me k new = view ((k, tally new k) ∷ []) None me.0.origin

  -- the seat that holds the slot is told what it then has
  told : (slots k c : ℕ) (me : Seated S) (new : S) → me.0.owned ≡ (k, c) ∷ [] → me.1 ≡ (0, Some new) ∷ [] → gave tally (step slots 0 0 0 none) me 0 (emptied me k new, rest me.1)
  told slots k c me new owned slot y k' c' there has =
      let number : k ≡ k' = ap (λ (ps : Pairs). (first_pair ps).0) (sym owned ∙ has) in
      let filled : Some new ≡ Some y = ap slot_value (sym slot ∙ there) in
      let same : new ≡ y = cc in
      let none_left : rest me.1 ≡ [] = ap rest slot in
      (λ i. (view ((number i, tally (same i) (number i)) ∷ []) None me.0.origin, none_left i))

  module _ (one_origin : S → S → Type 0) (first : S) (seats : ℕ) where
    abbrev Rule : State (Option S) (View S) → Type 0
    Rule = LockRule tally one_origin first seats

    -- what another seat knows stands, as only the tally of k has changed
    others_still : (s : State (Option S) (View S)) (r : Rule s) (id : ℕ) (me : View S) (k c : ℕ) (old new : S) → me.owned ≡ (k, c) ∷ [] → me.taken ≡ Some old → ((j : ℕ) → j ≢ k → tally new j ≡ tally old j)
        → get_elem? s.views id ≡ some me → (j : ℕ) (v : View S) → j ≢ id → get_elem? s.views j ≡ some v → ViewRule tally first new v
    others_still s r id me k c old new owned taken same at j v other there =
        let ok = r.each j v there in let is : old ≡ r.now = (r.each id me at).has old taken in
        let was : one_if_taken me.taken ≡ 1 = ap one_if_taken taken in
        let own : weight (only k) me.owned ≡ 1 = ap (weight (only k)) owned ∙ (let one = only-same k in let sum : only k k + 0 ≡ 1 = omega arith in sum) in
        let two_taken = terms_le (λ (u : View S). one_if_taken u.taken) s.views id j me v other at there in
        let two_owned = terms_le (λ (u : View S). weight (only k) u.owned) s.views id j me v other at there in
        let all = r.once (only k) in let most = below-once k (suc seats) in let busy = r.busy in let low = r.low in record {
          counts = tallied_still k (tally r.now) (tally new) v.owned (λ i apart. same i apart ∙ ap (λ (z : S). tally z i) is) (omega arith) ok.counts;
          has = λ x has. absurd (none_taken v.taken x (omega arith) has);
          idle = ok.idle;
          knows = ok.knows;
        }

    -- a store of 0 by the seat that has taken the old state, and has put the new one into the slot
    may_give : (slots id : ℕ) (me : Seated S) (k c : ℕ) (old new : S) → ((x y z : S) → one_origin x y → one_origin y z → one_origin x z) → 0 < slots
        → me.0.owned ≡ (k, c) ∷ [] → me.0.taken ≡ Some old → me.1 ≡ (0, Some new) ∷ [] → one_origin old new → ((j : ℕ) → j ≢ k → tally new j ≡ tally old j)
        → Allows Rule slots id me 0 (λ _. 0) (λ _. gave tally (step slots 0 0 0 none) me 0)
    may_give slots id me k c old new transitive room owned taken slot kin same s r home at _ =
        let mine = r.each id me.0 at in let wide = r.wide in let low = r.low in let busy = r.busy in let is : old ≡ r.now = mine.has old taken in
        let w : View S = emptied me k new in let none_now : get_or (set s.words 0 0) 0 0 ≡ 0 = get_or-set_same s.words 0 0 0 (omega arith) in
        let was : one_if_taken me.0.taken ≡ 1 = ap one_if_taken taken in (
          w,
          gives,
          tt,
          record {
            now = new;
            origin = transitive first old new (subst (one_origin first) (sym is) r.origin) kin;
            wide = length-set s.words 0 0 ∙ wide;
            once = λ f. let change = total-set (λ (v : View S). weight f v.owned) s.views id me.0 w at in let before = r.once f in let had = ap (weight f) owned in omega arith;
            busy = let change = total-set (λ (v : View S). one_if_taken v.taken) s.views id me.0 w at in omega arith;
            low = omega arith;
            home = λ _. subst (λ (l : List (ℕ × Option S)). get_elem? (put_back s.homes l) 0 ≡ some (some (Some new))) (sym slot) (set_here s.homes 0 (some (Some new)) (omega arith));
            each = each_set (ViewRule tally first new) s.views id w record { counts = (refl, tt); has = λ x has. absurd (cc); idle = λ _. refl; knows = λ _ _ _. mine.knows (k, c) [] owned }
                (others_still s r id me.0 k c old new owned taken same at);
          },
          told slots k c me new owned slot,
        )

    -- the same, by what a seat is after it has put y into the slot in place of x
    pub may_put_back : (slots id : ℕ) (before after : Seated S) (y x : S) → ((x y z : S) → one_origin x y → one_origin y z → one_origin x z) → 0 < slots → after ≡ (before.0, (0, Some y) ∷ rest before.1) → IsOne before.0.owned
        → before.1 ≡ slots_for before.0.taken → before.0.taken ≡ Some x → one_origin x y → ((j : ℕ) → j ≢ (first_pair before.0.owned).0 → tally y j ≡ tally x j)
        → Allows Rule slots id after 0 (λ _. 0) (λ _. gave tally (step slots 0 0 0 none) after 0)
    may_put_back slots id before after y x transitive room is one slot taken kin same =
        let number : ℕ = (first_pair before.0.owned).0 in let count : ℕ = (first_pair before.0.owned).1 in
        let none_left : rest before.1 ≡ [] = ap rest (slot ∙ ap slots_for taken) in
        may_give slots id after number count x y transitive room (ap (λ (m : Seated S). m.0.owned) is ∙ one) (ap (λ (m : Seated S). m.0.taken) is ∙ taken)
        (ap (λ (m : Seated S). m.1) is ∙ ap (λ l. (0, Some y) ∷ l) none_left) kin same

  -- what the seat is told by such a step
  pub put_back_told : (slots : ℕ) (before filled after : Seated S) (y x : S) → filled ≡ (before.0, (0, Some y) ∷ rest before.1) → IsOne before.0.owned → before.1 ≡ slots_for before.0.taken → before.0.taken ≡ Some x
      → gave tally (step slots 0 0 0 none) filled 0 after → after ≡ (emptied before (first_pair before.0.owned).0 y, [])
  put_back_told slots before filled after y x is one slot taken gave =
      let number : ℕ = (first_pair before.0.owned).0 in let count : ℕ = (first_pair before.0.owned).1 in let none_left : rest before.1 ≡ [] = ap rest (slot ∙ ap slots_for taken) in
      gave y number count (ap (λ (m : Seated S). m.1) is ∙ ap (λ l. (0, Some y) ∷ l) none_left) (ap (λ (m : Seated S). m.0.owned) is ∙ one)
      ∙ (λ i. (view ((number, tally y number) ∷ []) None ((is i).0.origin), []))
