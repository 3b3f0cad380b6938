-- Bodies, one after the other and in blocks.
use Rattle.std.proofs.Common.{◌≡◌, ℕ, zero, suc, ◌+◌, ◌<◌, List, [], ◌∷◌, ◌++◌, length, drop, map, get_or, slice_get, Some, refl, sym, ap, ◌∙◌, append-nil, append_assoc, add-one, arith}
use Rattle.script_machine.specs.Said.{said}
use Rattle.script_machine.specs.declared.read.NumberedStatement.{NumberedStatement}
use Rattle.script_machine.specs.ScriptText.{Numbered, Body, Empty, Simple, Choice, Either, Times, Statement, Act, If, Repeat, Else, End, spelling, at_line, times}
use Rattle.script_machine.specs.Spoken.{numbered}

-- one copy more at the end is one copy more at the front
pub times_push : {X : Type 0} (k : ℕ) (xs : List X) → times k xs ++ xs ≡ times (k + 1) xs
times_push zero xs = sym (append-nil xs)
times_push (suc k) xs = rw add-one (append_assoc xs (times k xs) xs ∙ (let ih = times_push k xs in let ih' = rw add-one at ih in ap (λ ys. xs ++ ys) ih'))

-- a body behind another
abbrev pub joined : Body → Body → Body
joined Empty more = more
joined (Simple line action rest) more = Simple line action (joined rest more)
joined (Choice line n body end rest) more = Choice line n body end (joined rest more)
joined (Either line n body middle other end rest) more = Either line n body middle other end (joined rest more)
joined (Times line n body end rest) more = Times line n body end (joined rest more)

-- a body behind another is spelled behind it
pub spelling_joined : (b more : Body) → spelling (joined b more) ≡ spelling b ++ spelling more
spelling_joined Empty more = refl
spelling_joined (Simple line action rest) more = ap (λ xs. at_line line (Act action) ∷ xs) (spelling_joined rest more)
spelling_joined (Choice line n body end rest) more =
    ap (λ xs. at_line line (If n) ∷ (spelling body ++ (at_line end End ∷ xs))) (spelling_joined rest more)
    ∙ ap (λ xs. at_line line (If n) ∷ xs) (sym (append_assoc (spelling body) (at_line end End ∷ spelling rest) (spelling more)))
spelling_joined (Either line n body middle other end rest) more =
    ap (λ xs. at_line line (If n) ∷ (spelling body ++ (at_line middle Else ∷ (spelling other ++ (at_line end End ∷ xs))))) (spelling_joined rest more)
    ∙ ap (λ xs. at_line line (If n) ∷ (spelling body ++ (at_line middle Else ∷ xs))) (sym (append_assoc (spelling other) (at_line end End ∷ spelling rest) (spelling more)))
    ∙ ap (λ xs. at_line line (If n) ∷ xs) (sym (append_assoc (spelling body) (at_line middle Else ∷ (spelling other ++ (at_line end End ∷ spelling rest))) (spelling more)))
spelling_joined (Times line n body end rest) more =
    ap (λ xs. at_line line (Repeat n) ∷ (spelling body ++ (at_line end End ∷ xs))) (spelling_joined rest more)
    ∙ ap (λ xs. at_line line (Repeat n) ∷ xs) (sym (append_assoc (spelling body) (at_line end End ∷ spelling rest) (spelling more)))

-- the statements from a place on begin with the one that stands there
pub drop_front : (xs : List Numbered) (k : ℕ) (x : Numbered) → slice_get xs k ≡ Some x → drop k xs ≡ x ∷ drop (k + 1) xs
drop_front [] k x h = absurd (cc)
drop_front (y ∷ ys) zero x h = let same : y ≡ x = cc in ap (λ z. z ∷ ys) same
drop_front (y ∷ ys) (suc k) x h = rw add-one (let d = drop_front ys k x h in let d' = rw add-one at d in d')

-- the statement at a place, by what the code read there
pub spoken_of : (xs : List NumberedStatement) (k : ℕ) (d : NumberedStatement) (s : Statement) → k < length xs → said (get_or xs k d).says ≡ s → slice_get (map numbered xs) k ≡ Some (at_line (get_or xs k d).line s)
spoken_of [] k d s h e = absurd (omega arith)
spoken_of (y ∷ ys) zero d s h e = ap (λ z. Some (at_line y.line z)) e
spoken_of (y ∷ ys) (suc k) d s h e = spoken_of ys k d s (omega arith) e
