-- How long an input is.
use Rattle.std.specs.Prelude.{◌≡◌, ◌<◌, ◌≤◌, ◌+◌, ℕ, List, length, take, ◌==◌}
use Rattle.std.specs.List.{count_by}
use Rattle.sp_base.specs.declared.limits.TheConstants.{MAX_INPUT}
use Rattle.std_text.specs.Fields.{newline}
use Rattle.std_text.specs.Refusal.{LineFault}
use Rattle.std_text.specs.declared.fault.StdKind.TheVariants.{InputTooLong}

-- no byte more than the limit and one was taken
abbrev pub IsWithinLimit : List ℕ → Type 0
IsWithinLimit input = length input ≤ MAX_INPUT + 1

-- how many newlines there are
abbrev pub newlines : List ℕ → ℕ
newlines bytes = count_by (λ b. b == newline) bytes

-- the input has the first byte that is one too many, and the fault has the line that it belongs to: a newline belongs to the line that it ends
pub record IsTooLong (input : List ℕ) (fault : LineFault) : Type 0 where
  pub over : MAX_INPUT < length input
  pub line : fault.line ≡ newlines (take MAX_INPUT input) + 1
  pub kind : fault.kind ≡ InputTooLong
