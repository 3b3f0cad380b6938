use Rattle.std.proofs.Common.{◌≡◌, ◌+◌, ◌-◌, ◌<◌, ℕ, Option, Some, subst, arith}
use Rattle.std.specs.Prelude.{slice_index}
use Rattle.trace_laws.specs.Trace.{thread_at}
use Rattle.trace_laws.proofs.Places.{within_from_thread}
use Rattle.closed_fronts.specs.Tables.{IsOpen, IsAtMost}
use Rattle.closed_fronts.specs.Rows.{IsAcquireBelow, IsBrokenAt}
use Rattle.closed_fronts.proofs.Told.{latest_has, some_if, if_some_at}
use Rattle.closed_fronts.proofs.Mends.{cut_within, open_is_below, left_first, left_next}
use Rattle.closed_fronts.proofs.torn.torn_of.Goals as goal

pub opened-open-requires : goal.opened-open-requires
opened-open-requires c =
    let within = cut_within c.args.ties.now.events c.args.ties.now.threads c.args.cuts.now c.requires.steady c.args.thread in
    let some = c.if-cut-eq0.false in
    omega arith

pub loop-open-init : goal.loop-open-init
loop-open-init c =
    let events = c.args.ties.now.events in
    let cuts = c.args.cuts.now in
    let t = c.args.thread in
    let k = slice_index cuts t - 1 in
    let o = c.opened-open.result in
    let some = c.if-cut-eq0.false in
    let is : slice_index cuts t ≡ k + 1 = omega arith in
    let own : thread_at events k ≡ Some t = c.requires.steady.placed t k is in
    let latest = c.opened-open.ensures t own in
    record {
      open_below = some_if (λ a. IsAcquireBelow events cuts a (slice_index cuts t)) o (λ a e. open_is_below events cuts t (k + 1) a (omega arith) (latest_has (IsOpen events t (k + 1)) o a latest e));
      own = some_if (λ a. thread_at events a ≡ Some t) o (λ a e. (latest_has (IsOpen events t (k + 1)) o a latest e).acquires.thread);
      all = left_first events cuts t k o is own c.opened-open.ensures;
    }

pub outer-open-requires : goal.outer-open-requires
outer-open-requires c =
    let events = c.args.ties.now.events in
    within_from_thread events c.in-Some.acquire c.args.thread (if_some_at (λ a. thread_at events a ≡ Some c.args.thread) c.loop-open.open c.in-Some.acquire c.loop-open.invariant.own c.in-Some.is)

pub loop-open-preserved : goal.loop-open-preserved
loop-open-preserved c =
    let events = c.args.ties.now.events in
    let cuts = c.args.cuts.now in
    let t = c.args.thread in
    let b = c.in-Some.acquire in
    let o = c.outer-open.result in
    let at = c.loop-open.invariant in
    let own = if_some_at (λ a. thread_at events a ≡ Some t) c.loop-open.open b at.own c.in-Some.is in
    let under = if_some_at (λ a. IsAcquireBelow events cuts a (slice_index cuts t)) c.loop-open.open b at.open_below c.in-Some.is in
    let below : b < slice_index cuts t = under.below in
    let latest = c.outer-open.ensures t own in
    record {
      open_below = some_if (λ a. IsAcquireBelow events cuts a (slice_index cuts t)) o (λ a e. open_is_below events cuts t b a (omega arith) (latest_has (IsOpen events t b) o a latest e));
      own = some_if (λ a. thread_at events a ≡ Some t) o (λ a e. (latest_has (IsOpen events t b) o a latest e).acquires.thread);
      all = left_next events cuts t b o own below (λ r broken. let test = c.is_torn.ensures.1 (r, broken) in let none = c.if-is_torn.false in cc) (subst (λ (x : Option ℕ). (a r : ℕ) → thread_at events a ≡ Some t → IsBrokenAt events cuts a r → IsAtMost a x) c.in-Some.is at.all) c.outer-open.ensures;
    }

pub returns-clause-none : goal.returns-clause-none
returns-clause-none c =
    let events = c.args.ties.now.events in
    subst (λ (x : Option ℕ). (a r : ℕ) → thread_at events a ≡ Some c.args.thread → IsBrokenAt events c.args.cuts.now a r → IsAtMost a x) c.in_default.is c.loop-open.invariant.all
