use Rattle.std.proofs.Common.{refl, arith, rules}
use Rattle.script_machine.proofs.TakenLemmas.{start_means}
use Rattle.script_machine.proofs.machine.Machine.with_room.Goals as goal

pub returns : goal.returns
returns c = (
  refl,
  start_means
      (record { script = c.args.script.now; threads = c.loop-t.runs.items; forked = c.in_ok-forked.forked.items; owners = c.in_ok-owners.owners.items; values = c.in_ok-values.values.items })
      _ _ _
      (omega (arith, c.loop-t.invariant.count, c.threads-threads.ensures.value, c.loop-t-test.false, c.loop-t.auto.t-end))
      (λ t less. c.loop-t.invariant.each t (omega (arith, c.loop-t-test.false, c.threads-threads.ensures.value)))
      (c.in_ok-forked.ensures.items_if_clones_equal (λ y e. e))
      (c.in_ok-owners.ensures.items_if_clones_equal (search rules))
      (c.in_ok-values.ensures.items_if_clones_equal (λ y e. e)),
)
