use Rattle.std.proofs.Common.{◌≡◌, length, map, take, fold, replicate}
use Rattle.sp_base.specs.declared.limits.TheConstants.{MAX_THREADS}
use Rattle.script_machine.specs.ForkTable.{no_forks, with_forks}
use Rattle.script_machine.proofs.forks.fork_table.Given as goal

abbrev pub invariant-loop-body : goal.invariant-loop-body
invariant-loop-body l = record {
  table : l.table.items ≡ fold with_forks (replicate MAX_THREADS no_forks) (map (λ b. b.items) (take l.body-index l.bodies));
  count : length l.table.items ≡ MAX_THREADS;
}
