-- The modes by their names.
use Rattle.std.specs.Prelude.{ℕ, List, [], ◌∷◌, ◌++◌, Option, Some, None, bytes_eq, codes, if◌then◌else◌}
use Rattle.command_words.specs.declared.mode.Mode.{Mode}
use Rattle.command_words.specs.declared.mode.Mode.TheVariants.{Predict, Record, Witness, Replay, Run, Bench}

-- the modes
abbrev pub modes : List (List ℕ × Mode)
modes = (codes "predict", Predict)
    ∷ (codes "record", Record)
    ∷ (codes "witness", Witness)
    ∷ (codes "replay", Replay)
    ∷ (codes "run", Run)
    ∷ (codes "bench", Bench)
    ∷ []

-- the first mode among these whose name is the word
abbrev pub mode_among : List (List ℕ × Mode) → List ℕ → Option Mode
mode_among [] word = None
mode_among (m ∷ rest) word = if bytes_eq word m.0 then Some m.1 else mode_among rest word

-- the mode of a word
abbrev pub mode_named : List ℕ → Option Mode
mode_named word = mode_among modes word

-- the names of modes, each behind a comma
abbrev pub names_behind : List (List ℕ × Mode) → List ℕ
names_behind [] = []
names_behind (m ∷ rest) = codes ", " ++ m.0 ++ names_behind rest

-- the list of modes that a user is shown
abbrev pub list_text : List (List ℕ × Mode) → List ℕ
list_text [] = []
list_text (m ∷ rest) = codes "[possible values: " ++ m.0 ++ names_behind rest ++ codes "]"
