-- An input of scripts and a trace: the scripts, a line that is `%%`, and the trace.
use Rattle.std.specs.Prelude.{ℕ, ◌+◌, Bool, List, [], ◌∷◌, ◌++◌, ◌==◌, bytes_eq, codes, if◌then◌else◌}
use Rattle.std_text.specs.Fields.{newline}
use Rattle.std_text.specs.Framing.{content}
use Rattle.intake.specs.Lengths.{newlines}

-- whether a line is the mark between scripts and trace, where one carriage return may end it
abbrev pub is_mark : List ℕ → Bool
is_mark line = bytes_eq (content line) (codes "%%")

-- behind the front of a line, what stands before the first line that is the mark; all, where there is none
abbrev pub before_mark : List ℕ → List ℕ → List ℕ
before_mark front [] = if is_mark front then [] else front
before_mark front (b ∷ bs) =
    if b == newline
    then (if is_mark front then [] else front ++ b ∷ before_mark [] bs)
    else before_mark (front ++ b ∷ []) bs

-- behind the front of a line, what stands behind the first line that is the mark; nothing, where there is none
abbrev pub behind_mark : List ℕ → List ℕ → List ℕ
behind_mark front [] = []
behind_mark front (b ∷ bs) =
    if b == newline
    then (if is_mark front then bs else behind_mark [] bs)
    else behind_mark (front ++ b ∷ []) bs

-- the scripts of an input
abbrev pub scripts_in : List ℕ → List ℕ
scripts_in input = before_mark [] input

-- the trace of an input
abbrev pub trace_in : List ℕ → List ℕ
trace_in input = behind_mark [] input

-- the number of the trace's first line, where lines are counted from 1 through the whole input
abbrev pub trace_line : List ℕ → ℕ
trace_line input = newlines (scripts_in input) + 2
