use Rattle.std.proofs.Common.{◌≡◌, ℕ, length, replicate, sym, ap, subst, ◌∙◌}
use Rattle.std.specs.Prelude.{slice_index}
use Rattle.std.proofs.lemmas.List.{length-replicate}
use Rattle.closed_fronts.proofs.Filled.{all_zero}
use Rattle.closed_fronts.proofs.Flags.{empty_flags}
use Rattle.closed_fronts.proofs.Counted.{counts_empty}
use Rattle.closed_fronts.proofs.Gains.{steady_empty, mended_empty, closed_from}
use Rattle.trace_laws.specs.Traces.{History, IsTrace}
use Rattle.sp_closure.specs.Asked.{AreAsked}
use Rattle.sp_closure.proofs.Asking.{asked_none}
use Rattle.sp_closure.proofs.cursor.Cursor.with_room.Goals as goal

pub invariant_of-result : goal.invariant_of-result
invariant_of-result c =
    let events = c.args.index.now.events in
    let threads = c.args.index.now.threads in
    let cuts = c.in_ok-cuts.cuts.items in
    let counts = c.in_ok-counts.counts.items in
    let n = c.threads-threads.result in
    let cuts_are : cuts ≡ replicate {A = ℕ} n 0 = c.in_ok-cuts.ensures.items_if_clones_equal (λ y h. h) in
    let counts_are : counts ≡ replicate {A = ℕ} n 0 = c.in_ok-counts.ensures.items_if_clones_equal (λ y h. h) in
    let size : length cuts ≡ threads = ap length cuts_are ∙ length-replicate {A = ℕ} n 0 ∙ c.threads-threads.ensures.value ∙ ap (λ (h : History). h.threads) c.fronts.ensures in
    let counted : length counts ≡ threads = ap length counts_are ∙ length-replicate {A = ℕ} n 0 ∙ c.threads-threads.ensures.value ∙ ap (λ (h : History). h.threads) c.fronts.ensures in
    let none : (t : ℕ) → slice_index cuts t ≡ 0 = all_zero cuts n cuts_are in
    record {
      trace = subst (λ (h : History). IsTrace h.events h.threads) c.fronts.ensures c.threads-threads.ensures.trace;
      steady = steady_empty events threads cuts size none;
      mended = mended_empty events cuts none;
      counted = counts_empty events threads cuts counts counted none (all_zero counts n counts_are);
      sections = subst (λ (k : ℕ). AreAsked events cuts k) (sym c.new.ensures) (asked_none events cuts);
    }

pub returns-clause-empty : goal.returns-clause-empty
returns-clause-empty c = empty_flags c.args.index.now.events c.in_ok-cuts.cuts.items (all_zero c.in_ok-cuts.cuts.items c.threads-threads.result (c.in_ok-cuts.ensures.items_if_clones_equal (λ y h. h)))

pub returns-clause-closed : goal.returns-clause-closed
returns-clause-closed c =
    let made = invariant_of-result c in
    closed_from c.args.index.now.events c.args.index.now.threads c.in_ok-cuts.cuts.items made.steady made.mended
