use Rattle.std.proofs.Common.{◌≡◌, IfSome, refl, ◌∙◌, subst, arith}
use Rattle.script_machine.proofs.ResolveLemmas.{err_same, next_known, next_unknown, next_resolved, next_none}
use Rattle.script_machine.proofs.resolved.resolve.Goals as goal

pub resolved-requires : goal.resolved-requires
resolved-requires c = next_known c.args.tables.now c.loop-place.tables c.args.statements.now c.loop-place.place _ c.loop-place-test.true c.loop-place.invariant.same c.requires

pub returns-in_default-clause-fault : goal.returns-in_default-clause-fault
returns-in_default-clause-fault c = λ f is.
    next_unknown c.args.tables.now c.loop-place.tables c.args.statements.now c.loop-place.place _ c.loop-place-test.true c.loop-place.invariant.same c.in_ok-says.field-0 c.in_default.is c.in_ok-says.ensures.value c.loop-place.invariant.none f (err_same _ _ _ _ refl refl is)

pub loop-place-preserved : goal.loop-place-preserved
loop-place-preserved c = record {
  resolved = next_resolved c.args.tables.now c.loop-place.tables c.args.statements.now c.loop-place.place _ c.loop-place-test.true c.loop-place.invariant.same c.in_ok-says.field-0 c.in-Some.says c.in-Some.is c.in_ok-says.ensures.value
      c.loop-place.resolved.items _ c.loop-place.invariant.resolved c.in-Ok.ensures.items;
  none = next_none c.args.tables.now c.loop-place.tables c.args.statements.now c.loop-place.place _ c.loop-place-test.true c.loop-place.invariant.same c.in_ok-says.field-0 c.in-Some.says c.in-Some.is c.in_ok-says.ensures.value c.loop-place.invariant.none;
  same = subst (λ o. IfSome o (λ _. c.resolved.new.self ≡ c.loop-place.tables)) c.in-Some.is c.in_ok-says.ensures.same ∙ c.loop-place.invariant.same;
  within = omega (arith, c.loop-place-test.true);
}
