-- The mark between scripts and trace, line by line.
use Rattle.std.proofs.Common.{◌≡◌, ℕ, suc, ◌+◌, ◌-◌, min, Bool, true, false, cond, List, [], ◌∷◌, ◌++◌, ◌==◌, not, length, take, drop, refl, sym, ap, ◌∙◌, arith, append-nil, append_assoc, take-add}
use Rattle.std.specs.List.{prefix_len}
use Rattle.std.proofs.lemmas.List.{take_all, take_min, drop_min, length-drop, drop-drop}
use Rattle.std_text.specs.Fields.{newline}
use Rattle.intake.specs.Inputs.{is_mark, before_mark, behind_mark}

-- how many bytes stand before the first newline
abbrev pub line_length : List ℕ → ℕ
line_length text = prefix_len (λ b. not (b == newline)) text

-- what stands before the mark, by the first line of the text
abbrev BeforeLine : List ℕ → List ℕ → Type 0
BeforeLine front text = before_mark front text
    ≡ cond (is_mark (front ++ take (line_length text) text)) [] (front ++ (take (line_length text + 1) text ++ before_mark [] (drop (line_length text + 1) text)))

before_line : (front text : List ℕ) → BeforeLine front text
before_line front [] = rw (append-nil front) refl
before_line front (b ∷ bs) = by (b == newline) refl (before_line (front ++ b ∷ []) bs)
  where
    by : (t : Bool) → (b == newline) ≡ t → BeforeLine (front ++ b ∷ []) bs → BeforeLine front (b ∷ bs)
    by true is more = rw is (rw (append-nil front) refl)
    by false is more =
        let ahead : line_length (b ∷ bs) ≡ suc (line_length bs) = rw is (omega arith) in
        let next : suc (line_length bs) + 1 ≡ suc (line_length bs + 1) = omega arith in
        let one = append_assoc front (b ∷ []) (take (line_length bs) bs) in
        let two = append_assoc front (b ∷ []) (take (line_length bs + 1) bs ++ before_mark [] (drop (line_length bs + 1) bs)) in
        rw (ahead, next) (rw is (more ∙ rw (one, two) refl))

-- what stands behind the mark, by the first line of the text
abbrev BehindLine : List ℕ → List ℕ → Type 0
BehindLine front text = behind_mark front text
    ≡ cond (is_mark (front ++ take (line_length text) text)) (drop (line_length text + 1) text) (behind_mark [] (drop (line_length text + 1) text))

-- no byte
abbrev none : List ℕ
none = []

-- nothing either way
nothing : (t : Bool) → none ≡ cond t none none
nothing true = refl
nothing false = refl

behind_line : (front text : List ℕ) → BehindLine front text
behind_line front [] = nothing (is_mark (front ++ []))
behind_line front (b ∷ bs) = by (b == newline) refl (behind_line (front ++ b ∷ []) bs)
  where
    by : (t : Bool) → (b == newline) ≡ t → BehindLine (front ++ b ∷ []) bs → BehindLine front (b ∷ bs)
    by true is more = rw is (rw (append-nil front) refl)
    by false is more =
        let ahead : line_length (b ∷ bs) ≡ suc (line_length bs) = rw is (omega arith) in
        let next : suc (line_length bs) + 1 ≡ suc (line_length bs + 1) = omega arith in
        let one = append_assoc front (b ∷ []) (take (line_length bs) bs) in
        rw (ahead, next) (rw is (more ∙ rw one refl))

-- From the line that begins at start and has n bytes: next is where the following one begins.
module _ (input line : List ℕ) (start n next : ℕ) (size : n ≡ line_length (take (length input - start) (drop start input))) (is : line ≡ take (start + n - start) (drop start input)) (to : next ≡ min (start + n + 1) (length input)) where
  -- what is left
  abbrev rest : List ℕ
  rest = drop start input

  -- the slice is what is left
  whole : take (length input - start) rest ≡ rest
  whole = take_all (length input - start) rest (omega (arith, length-drop start input))

  -- n is the length of its first line
  long : n ≡ line_length rest
  long = size ∙ ap line_length whole

  -- the line is that one
  first : line ≡ take (line_length rest) rest
  first = let far : start + n - start ≡ line_length rest = omega (arith, long) in is ∙ ap (λ k. take k rest) far

  -- what is left behind it
  behind : drop next input ≡ drop (line_length rest + 1) rest
  behind =
      let far : start + n + 1 ≡ start + (line_length rest + 1) = omega (arith, long) in
      ap (λ k. drop k input) to ∙ drop_min (start + n + 1) input ∙ ap (λ k. drop k input) far ∙ sym (drop-drop (line_length rest + 1) start input)

  -- what comes up to its end
  before : take next input ≡ take start input ++ take (line_length rest + 1) rest
  before =
      let far : start + n + 1 ≡ start + (line_length rest + 1) = omega (arith, long) in
      ap (λ k. take k input) to ∙ take_min (start + n + 1) input ∙ ap (λ k. take k input) far ∙ take-add start (line_length rest + 1) input

  -- where the line is the mark, the scripts end before it
  pub scripts_end : (scripts : List ℕ) → scripts ≡ take start input ++ before_mark [] rest → is_mark line ≡ true → take start input ≡ scripts
  scripts_end scripts so mark =
      let here : is_mark (take (line_length rest) rest) ≡ true = sym (ap is_mark first) ∙ mark in
      sym (so ∙ ap (λ l. take start input ++ l) (before_line [] rest ∙ rw here refl) ∙ append-nil (take start input))

  -- and the trace begins behind it
  pub trace_begins : (trace : List ℕ) → trace ≡ behind_mark [] rest → is_mark line ≡ true → take (length input - next) (drop next input) ≡ trace
  trace_begins trace so mark =
      let here : is_mark (take (line_length rest) rest) ≡ true = sym (ap is_mark first) ∙ mark in
      take_all (length input - next) (drop next input) (omega (arith, length-drop next input)) ∙ behind ∙ sym (so ∙ behind_line [] rest ∙ rw here refl)

  -- else both go on behind it
  pub scripts_on : (scripts : List ℕ) → scripts ≡ take start input ++ before_mark [] rest → is_mark line ≡ false → scripts ≡ take next input ++ before_mark [] (drop next input)
  scripts_on scripts so mark =
      let here : is_mark (take (line_length rest) rest) ≡ false = sym (ap is_mark first) ∙ mark in
      so ∙ ap (λ l. take start input ++ l) (before_line [] rest ∙ rw here refl)
      ∙ sym (append_assoc (take start input) (take (line_length rest + 1) rest) (before_mark [] (drop (line_length rest + 1) rest)))
      ∙ sym (rw (before, behind) refl)

  -- and so does the trace
  pub trace_on : (trace : List ℕ) → trace ≡ behind_mark [] rest → is_mark line ≡ false → trace ≡ behind_mark [] (drop next input)
  trace_on trace so mark =
      let here : is_mark (take (line_length rest) rest) ≡ false = sym (ap is_mark first) ∙ mark in
      so ∙ behind_line [] rest ∙ rw here refl ∙ sym (ap (behind_mark []) behind)
