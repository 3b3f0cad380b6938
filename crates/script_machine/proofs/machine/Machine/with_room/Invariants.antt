use Rattle.std.proofs.Common.{◌≡◌, ℕ, ◌<◌, length, get_or, All}
use Rattle.script_machine.specs.Machine.{settled, body, InRange, IsSettled}
use Rattle.script_machine.specs.Held.{at_end}
use Rattle.script_machine.proofs.machine.Machine.with_room.Given as goal

abbrev pub invariant-loop-t : goal.invariant-loop-t
invariant-loop-t l = record {
  count : length l.runs.items ≡ l.t;
  each : (k : ℕ) → k < l.t → get_or l.runs.items k at_end ≡ settled 0 (body l.script k) 0;
  operands : (k : ℕ) → k < l.t → All (λ line. InRange l.script line.instruction) (get_or l.runs.items k at_end).left;
  settled : (k : ℕ) → k < l.t → IsSettled (get_or l.runs.items k at_end);
}
