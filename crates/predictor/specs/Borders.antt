-- Where a search is cut into jobs.
use Rattle.std.specs.Prelude.{◌≡◌, ◌<◌, ◌≤◌, ◌+◌, ◌-◌, ◌++◌, ◌∷◌, ◌⊎◌, ℕ, List, [], length, Some, slice_get}
use Rattle.predictor.specs.declared.cut.Border.{Border}

-- the border before that variable and that pattern
abbrev pub border : ℕ → ℕ → Border
border variable pattern = record { variable = variable; pattern = pattern }

-- the borders begin with the first variable and the first pattern, rise, and are at most these numbers
pub record Rise (variables patterns : ℕ) (borders : List Border) : Type 0 where
  pub first : slice_get borders 0 ≡ Some (border 0 0)
  pub order : (n : ℕ) (a b : Border) → slice_get borders n ≡ Some a → slice_get borders (n + 1) ≡ Some b → a.pattern ≤ b.pattern
  pub within : (n : ℕ) (b : Border) → slice_get borders n ≡ Some b → (b.variable ≤ variables) × (b.pattern ≤ patterns)

-- the last border is that one
abbrev pub EndAt : ℕ → ℕ → List Border → Type 0
EndAt variables patterns borders = slice_get borders (length borders - 1) ≡ Some (border variables patterns)

-- the borders of ranges that cover so many variables and so many patterns
pub record AreBorders (variables patterns : ℕ) (borders : List Border) : Type 0 where
  pub rise : Rise variables patterns borders
  pub end : EndAt variables patterns borders

-- the border was added as the last one, or none was added
abbrev pub MayEndWith : Border → List Border → List Border → Type 0
MayEndWith b old new = (new ≡ old) ⊎ (new ≡ old ++ b ∷ [])

-- So many first jobs have no pattern, and all others have no variable: up to the border of that number no pattern is passed,
-- and all variables are from there on.
pub record VariablesComeFirst (variables first : ℕ) (borders : List Border) : Type 0 where
  pub within : first < length borders
  pub no_pattern : (n : ℕ) (b : Border) → n ≤ first → slice_get borders n ≡ Some b → b.pattern ≡ 0
  pub no_variable : (n : ℕ) (b : Border) → first ≤ n → slice_get borders n ≡ Some b → b.variable ≡ variables

-- each job has variables alone or patterns alone, those with variables come first, and there are at most so many of each sort
pub record AreOfOneSort (variables most : ℕ) (borders : List Border) : Type 0 where
  pub first : ℕ
  pub sorts : VariablesComeFirst variables first borders
  pub few_of_variables : first ≤ most
  pub few_of_patterns : length borders ≤ first + 1 + most
