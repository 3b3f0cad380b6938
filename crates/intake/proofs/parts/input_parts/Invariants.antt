use Rattle.std.proofs.Common.{◌≡◌, ◌-◌, ◌≤◌, ◌++◌, [], length, take, drop}
use Rattle.intake.specs.Inputs.{before_mark, behind_mark, scripts_in, trace_in}
use Rattle.intake.proofs.parts.input_parts.Given as goal

abbrev pub invariant-loop-start : goal.invariant-loop-start
invariant-loop-start l = record {
  scripts : scripts_in l.input ≡ take l.start l.input ++ before_mark [] (drop l.start l.input);
  trace : trace_in l.input ≡ behind_mark [] (drop l.start l.input);
  within : l.start ≤ length l.input;
}

abbrev pub decreases-loop-start : goal.decreases-loop-start
decreases-loop-start l = length l.input - l.start
