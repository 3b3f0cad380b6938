-- What contracts see of a source and of a sink in memory.
use Rattle.std.specs.Prelude.{ℕ, List}

-- the bytes that a source will still give, and how often it has failed
pub record Supply : Type 0 where
  pub left : List ℕ
  pub faults : ℕ

-- the bytes that a sink was given, and how often it has failed
pub record Collected : Type 0 where
  pub text : List ℕ
  pub faults : ℕ
