-- The lines of the threads, one more at a time.
use Rattle.std.proofs.Common.{◌≡◌, ℕ, zero, suc, ◌+◌, List, [], ◌∷◌, ◌++◌, codes, Some, refl, sym, ap, ◌∙◌, add-zero, add-one, append-nil, arith}
use Rattle.std.specs.List.{flat_map, range_with_len}
use Rattle.std.proofs.lemmas.List.Concat.{flat_map-append}
use Rattle.trace_laws.specs.declared.event.Op.{Op}
use Rattle.trace_laws.specs.Names.{NameLists}
use Rattle.std_text.specs.Writing.{name_at, op_text}
use Rattle.script_machine.specs.Line.{Line}
use Rattle.script_machine.specs.Machine.{Script, State, call_at}
use Rattle.report.specs.EndLines.{end_line, standing_line}

-- one number more
range_more : (a n : ℕ) → range_with_len a (suc n) ≡ range_with_len a n ++ (a + n) ∷ []
range_more a zero = ap (λ k. k ∷ []) (sym (add-zero a))
range_more a (suc n) =
    let at : (a + 1) + n ≡ a + suc n = omega arith in
    ap (λ l. a ∷ l) (range_more (a + 1) n ∙ ap (λ k. range_with_len (a + 1) n ++ k ∷ []) at)

-- the lines of the threads below a number
abbrev pub ends_below : NameLists → Script → State → ℕ → List ℕ
ends_below names script s n = flat_map (end_line names script s) (range_with_len 0 n)

-- the line of the next thread
pub ends_more : (names : NameLists) (script : Script) (s : State) (n : ℕ) → ends_below names script s (n + 1) ≡ ends_below names script s n ++ end_line names script s n
ends_more names script s n =
    let more : range_with_len 0 (n + 1) ≡ range_with_len 0 n ++ n ∷ [] = rw add-one (range_more 0 n ∙ ap (λ k. range_with_len 0 n ++ k ∷ []) (omega arith)) in
    ap (flat_map (end_line names script s)) more ∙ flat_map-append (end_line names script s) (range_with_len 0 n) (n ∷ [])
    ∙ ap (λ l. ends_below names script s n ++ l) (append-nil (end_line names script s n))

-- the line of a thread that stands before this call
pub line_before_call : (names : NameLists) (t : ℕ) (left : List Line) (op : Op) → call_at left ≡ Some op
    → standing_line names t left ≡ codes "blocked " ++ name_at names.threads t ++ codes " at " ++ op_text names op ++ codes "\n"
line_before_call names t [] op is = cc
line_before_call names t (line ∷ rest) op is = rw is refl
