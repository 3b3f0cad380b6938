use Rattle.std.proofs.Common.{◌≡◌, ◌<◌, ◌≤◌, ℕ, true, leb, ◌⊎◌, inl, inr, arith}
use Rattle.std.proofs.lemmas.Bool.Decides.{nat_tests}
use Rattle.trace_laws.proofs.Places.{three_way}
use Rattle.closed_fronts.specs.Rows.{IsBrokenAt}
use Rattle.closed_fronts.proofs.Mends.{broken_found, unbroken_open, unbroken_held, broken_followed}
use Rattle.closed_fronts.proofs.torn.is_torn.Goals as goal

-- what a test of numbers says
most_from_test : (a b : ℕ) → leb a b ≡ true → a ≤ b
most_from_test a b h = grind (arith, nat_tests)

-- and conversely
test_from_most : (a b : ℕ) → a ≤ b → leb a b ≡ true
test_from_most a b h = grind (arith, nat_tests)

pub returns-then-not-is_below_some : goal.returns-then-not-is_below_some
returns-then-not-is_below_some c = (
  λ is. cc,
  λ torn. let some = c.is_below_some.ensures.1 (broken_followed c.args.ties.now.events c.args.ties.now.threads c.args.cuts.now c.next.result.now c.args.acquire c.args.cut c.requires.steady c.requires.acquire c.next.ensures torn.0 torn.1) in let none = c.if-not-is_below_some.true in cc,
)

pub returns-in_default : goal.returns-in_default
returns-in_default c = (λ is. cc, λ torn. absurd (unbroken_open c.args.ties.now.events c.args.cuts.now c.args.acquire c.release.result c.release.ensures c.in_default.is torn.0 torn.1))

pub returns : goal.returns
returns c = (
  λ test. (
    c.in-Some.release,
    broken_found c.args.ties.now.events c.args.ties.now.threads c.args.cuts.now c.next.result.now c.args.acquire c.in-Some.release c.args.cut c.requires.steady c.requires.acquire c.next.ensures ((c.release.ensures c.in-Some.release).0 c.in-Some.is)
        (most_from_test c.args.cut c.in-Some.release test) (c.is_below_some.ensures.0 c.if-not-is_below_some.false),
  ),
  λ torn. test_from_most c.args.cut c.in-Some.release (go torn.0 torn.1 (three_way c.in-Some.release c.args.cut)),
)
  where
    go : (r : ℕ) → IsBrokenAt c.args.ties.now.events c.args.cuts.now c.args.acquire r → (c.in-Some.release < c.args.cut) ⊎ ((c.in-Some.release ≡ c.args.cut) ⊎ (c.args.cut < c.in-Some.release)) → c.args.cut ≤ c.in-Some.release
    go r broken (inl less) = absurd (unbroken_held c.args.ties.now.events c.args.cuts.now c.args.acquire c.in-Some.release c.args.cut c.requires.acquire ((c.release.ensures c.in-Some.release).0 c.in-Some.is) less r broken)
    go r broken (inr (inl same)) = omega arith
    go r broken (inr (inr more)) = omega arith
