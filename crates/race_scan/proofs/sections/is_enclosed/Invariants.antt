use Rattle.std.proofs.Common.{ℕ, ◌+◌}
use Rattle.std.specs.Prelude.{IfSome}
use Rattle.std.specs.Option.{option_map_or}
use Rattle.race_scan.specs.Enclosed.{IsBegun}
use Rattle.race_scan.proofs.sections.is_enclosed.Given as goal

abbrev pub invariant-loop-section : goal.invariant-loop-section
invariant-loop-section l = IfSome l.section (IsBegun l.index.events l.place)

abbrev pub decreases-loop-section : goal.decreases-loop-section
decreases-loop-section l = option_map_or (λ (a : ℕ). a + 1) l.section 0
