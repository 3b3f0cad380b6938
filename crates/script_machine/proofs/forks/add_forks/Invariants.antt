use Rattle.std.proofs.Common.{◌≡◌, length, take}
use Rattle.sp_base.specs.declared.limits.TheConstants.{MAX_THREADS}
use Rattle.script_machine.specs.ForkTable.{with_forks}
use Rattle.script_machine.proofs.forks.add_forks.Given as goal

abbrev pub invariant-loop-line : goal.invariant-loop-line
invariant-loop-line l = record {
  table : l.table ≡ with_forks l.fn.table (take l.line-index l.lines);
  count : length l.table ≡ MAX_THREADS;
}
