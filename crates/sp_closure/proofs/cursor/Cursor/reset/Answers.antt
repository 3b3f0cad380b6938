use Rattle.std.proofs.Common.{◌≡◌, ℕ, length, vec_len, sym, subst, arith}
use Rattle.std.specs.Prelude.{slice_index}
use Rattle.closed_fronts.proofs.Filled.{all_zero}
use Rattle.closed_fronts.proofs.Flags.{empty_flags}
use Rattle.closed_fronts.proofs.Counted.{counts_empty}
use Rattle.closed_fronts.proofs.Gains.{steady_empty, mended_empty, closed_from}
use Rattle.sp_closure.specs.Asked.{AreAsked}
use Rattle.sp_closure.proofs.Asking.{asked_none}
use Rattle.sp_closure.proofs.cursor.Cursor.reset.Goals as goal

pub invariant_of-self : goal.invariant_of-self
invariant_of-self c =
    let events = c.self.inside.index.now.events in
    let threads = c.self.inside.index.now.threads in
    let cuts = c.fill.new.self.items in
    let counts = c.fill-2.new.self.items in
    let size : length cuts ≡ threads = omega (arith, c.fill.ensures.len, c.self.invariant.steady.size) in
    let counted : length counts ≡ threads = omega (arith, c.fill-2.ensures.len, c.self.invariant.counted.size) in
    let none : (t : ℕ) → slice_index cuts t ≡ 0 = all_zero cuts (vec_len c.self.inside.cuts) (c.fill.ensures.items (λ y h. h)) in
    record {
      trace = c.self.invariant.trace;
      steady = steady_empty events threads cuts size none;
      mended = mended_empty events cuts none;
      counted = counts_empty events threads cuts counts counted none (all_zero counts (vec_len c.self.inside.counts) (c.fill-2.ensures.items (λ y h. h)));
      sections = subst (λ (k : ℕ). AreAsked events cuts k) (sym c.new-self-inside.ensures) (asked_none events cuts);
    }

pub returns-clause-empty : goal.returns-clause-empty
returns-clause-empty c = empty_flags c.self.inside.index.now.events c.fill.new.self.items (all_zero c.fill.new.self.items (vec_len c.self.inside.cuts) (c.fill.ensures.items (λ y h. h)))

pub returns-clause-closed : goal.returns-clause-closed
returns-clause-closed c =
    let made = invariant_of-self c in
    closed_from c.self.inside.index.now.events c.self.inside.index.now.threads c.fill.new.self.items made.steady made.mended
