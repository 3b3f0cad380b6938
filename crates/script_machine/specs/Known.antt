-- Statements whose locks and variables have numbers.
use Rattle.std.specs.Prelude.{◌≡◌, false, List, All}
use Rattle.script_machine.specs.ScriptText.{Numbered, Statement, Tables, lock_name, variable_name, is_new}

-- the lock and the variable that the statement names, where it names one, are among the names
pub record IsKnown (names : Tables) (says : Statement) : Type 0 where
  pub lock : is_new (lock_name says) names.locks ≡ false
  pub variable : is_new (variable_name says) names.variables ≡ false

-- so are those of each statement
abbrev pub AreKnown : Tables → List Numbered → Type 0
AreKnown names statements = All (λ s. IsKnown names s.says) statements
