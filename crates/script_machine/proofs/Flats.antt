-- What the parts of a body that the code reads add up to.
use Rattle.std.specs.Prelude.{◌&&◌}
use Rattle.std.proofs.Common.{◌≡◌, ℕ, zero, suc, ◌+◌, ◌*◌, ◌≤◌, Bool, true, List, [], ◌∷◌, ◌++◌, length, drop, slice_get, nat_lt, Some, None, option_map, refl, sym, ap, ◌∙◌, subst, append-nil, append_assoc, length-append, lt-ltb, arith}
use Rattle.sp_base.specs.declared.limits.TheConstants.{MAX_INSTRUCTIONS}
use Rattle.script_machine.specs.Line.{Line}
use Rattle.script_machine.specs.declared.instruction.Instruction.TheVariants as instruction
use Rattle.script_machine.specs.declared.flatten.Flat.{Flat}
use Rattle.script_machine.specs.declared.text.Statement.{Statement as Spoken}
use Rattle.script_machine.specs.declared.text.Statement.TheVariants as spoken
use Rattle.script_machine.specs.Said.{said, action_in}
use Rattle.script_machine.specs.ScriptText.{Numbered, Tables, Body, Empty, Simple, Choice, Either, Times, Statement, Act, If, Repeat, Else, End, Action, spelling, flattened, at_line, line_of, instruction_of, times}
use Rattle.script_machine.specs.BodyAt.{IsEnder, Ends, capped, IsPart, IsWholeBody, IsPiece, IsFlat}
use Rattle.script_machine.proofs.CappedSizes.{cap_low, cap_self, cap_add, choice_size, either_size, times_size, length_times}
use Rattle.script_machine.proofs.Determined.{parts}
use Rattle.script_machine.proofs.Unique.{lines_equal}
use Rattle.script_machine.proofs.Bodies.{drop_front}

-- Lists

-- what the rest from a place on begins with stands there
pub get_front : (xs : List Numbered) (k : ℕ) (x : Numbered) (ys : List Numbered) → drop k xs ≡ x ∷ ys → slice_get xs k ≡ Some x
get_front [] zero x ys h = absurd (cc)
get_front [] (suc k) x ys h = absurd (cc)
get_front (y ∷ xs) zero x ys h = cc
get_front (y ∷ xs) (suc k) x ys h = get_front xs k x ys h

-- nothing is left past the end
pub drop_past : (xs : List Numbered) (k : ℕ) → length xs ≤ k → drop k xs ≡ []
drop_past [] zero h = refl
drop_past [] (suc k) h = refl
drop_past (x ∷ xs) zero h = absurd (omega arith)
drop_past (x ∷ xs) (suc k) h = drop_past xs k (omega arith)

-- The first statement of a body tells how it begins

-- a body that begins with an `if` has one block or two
if_case : (P : Body → Type 0) (line n : ℕ) (tail behind : List Numbered) (b : Body) → at_line line (If n) ∷ tail ≡ spelling b ++ behind → Ends behind
    → ((body : Body) (end : ℕ) (rest : Body) → tail ≡ spelling body ++ (at_line end End ∷ (spelling rest ++ behind)) → P (Choice line n body end rest))
    → ((body : Body) (middle : ℕ) (other : Body) (end : ℕ) (rest : Body) → tail ≡ spelling body ++ (at_line middle Else ∷ (spelling other ++ (at_line end End ∷ (spelling rest ++ behind))))
    → P (Either line n body middle other end rest))
    → P b
if_case P line n tail behind Empty h ends c e = absurd (subst Ends (sym h) ends)
if_case P line n tail behind (Simple l a rest) h ends c e = absurd (let z = (lines_equal _ _ _ _ (parts _ _ _ _ h).0).1 in cc)
if_case P line n tail behind (Times l k body end rest) h ends c e = absurd (let z = (lines_equal _ _ _ _ (parts _ _ _ _ h).0).1 in cc)
if_case P line n tail behind (Choice l k body end rest) h ends c e =
    let p = parts _ _ _ _ h in
    let s = lines_equal _ _ _ _ p.0 in
    let num : n ≡ k = (let z = s.1 in cc) in
    subst (λ x. P (Choice x k body end rest)) s.0
    (subst (λ x. P (Choice line x body end rest)) num (c body end rest (p.1 ∙ append_assoc (spelling body) (at_line end End ∷ spelling rest) behind)))
if_case P line n tail behind (Either l k body middle other end rest) h ends c e =
    let p = parts _ _ _ _ h in
    let s = lines_equal _ _ _ _ p.0 in
    let num : n ≡ k = (let z = s.1 in cc) in
    subst (λ x. P (Either x k body middle other end rest)) s.0
    (subst (λ x. P (Either line x body middle other end rest)) num (e body middle other end rest
    (p.1 ∙ append_assoc (spelling body) (at_line middle Else ∷ (spelling other ++ (at_line end End ∷ spelling rest))) behind
    ∙ ap (λ xs. spelling body ++ (at_line middle Else ∷ xs)) (append_assoc (spelling other) (at_line end End ∷ spelling rest) behind))))

-- a body that begins with a `repeat` has one block
repeat_case : (P : Body → Type 0) (line n : ℕ) (tail behind : List Numbered) (b : Body) → at_line line (Repeat n) ∷ tail ≡ spelling b ++ behind → Ends behind
    → ((body : Body) (end : ℕ) (rest : Body) → tail ≡ spelling body ++ (at_line end End ∷ (spelling rest ++ behind)) → P (Times line n body end rest))
    → P b
repeat_case P line n tail behind Empty h ends c = absurd (subst Ends (sym h) ends)
repeat_case P line n tail behind (Simple l a rest) h ends c = absurd (let z = (lines_equal _ _ _ _ (parts _ _ _ _ h).0).1 in cc)
repeat_case P line n tail behind (Choice l k body end rest) h ends c = absurd (let z = (lines_equal _ _ _ _ (parts _ _ _ _ h).0).1 in cc)
repeat_case P line n tail behind (Either l k body middle other end rest) h ends c = absurd (let z = (lines_equal _ _ _ _ (parts _ _ _ _ h).0).1 in cc)
repeat_case P line n tail behind (Times l k body end rest) h ends c =
    let p = parts _ _ _ _ h in
    let s = lines_equal _ _ _ _ p.0 in
    let num : n ≡ k = (let z = s.1 in cc) in
    subst (λ x. P (Times x k body end rest)) s.0
    (subst (λ x. P (Times line x body end rest)) num (c body end rest (p.1 ∙ append_assoc (spelling body) (at_line end End ∷ spelling rest) behind)))

-- a body that begins with an action goes on behind it
act_case : (P : Body → Type 0) (line : ℕ) (a : Action) (tail behind : List Numbered) (b : Body) → at_line line (Act a) ∷ tail ≡ spelling b ++ behind → Ends behind
    → ((rest : Body) → tail ≡ spelling rest ++ behind → P (Simple line a rest))
    → P b
act_case P line a tail behind Empty h ends c = absurd (subst Ends (sym h) ends)
act_case P line a tail behind (Choice l k body end rest) h ends c = absurd (let z = (lines_equal _ _ _ _ (parts _ _ _ _ h).0).1 in cc)
act_case P line a tail behind (Either l k body middle other end rest) h ends c = absurd (let z = (lines_equal _ _ _ _ (parts _ _ _ _ h).0).1 in cc)
act_case P line a tail behind (Times l k body end rest) h ends c = absurd (let z = (lines_equal _ _ _ _ (parts _ _ _ _ h).0).1 in cc)
act_case P line a tail behind (Simple l k rest) h ends c =
    let p = parts _ _ _ _ h in
    let s = lines_equal _ _ _ _ p.0 in
    let act : a ≡ k = (let z = s.1 in cc) in
    subst (λ x. P (Simple x k rest)) s.0 (subst (λ x. P (Simple line x rest)) act (c rest p.1))

-- a body that begins with what ends one is empty
none_case : (line : ℕ) (says : Statement) (tail behind : List Numbered) (b : Body) → at_line line says ∷ tail ≡ spelling b ++ behind → IsEnder says → b ≡ Empty
none_case line says tail behind Empty h ends = refl
none_case line says tail behind (Simple l a rest) h ends = absurd (subst IsEnder (lines_equal _ _ _ _ (parts _ _ _ _ h).0).1 ends)
none_case line says tail behind (Choice l k body end rest) h ends = absurd (subst IsEnder (lines_equal _ _ _ _ (parts _ _ _ _ h).0).1 ends)
none_case line says tail behind (Either l k body middle other end rest) h ends = absurd (subst IsEnder (lines_equal _ _ _ _ (parts _ _ _ _ h).0).1 ends)
none_case line says tail behind (Times l k body end rest) h ends = absurd (subst IsEnder (lines_equal _ _ _ _ (parts _ _ _ _ h).0).1 ends)

-- Pieces

-- no part is left past the end
pub past_piece : (names : Tables) (S : List Numbered) (at : ℕ) (write : Bool) → length S ≤ at → IsPiece names S at write None
past_piece names S at write h b behind spelled ends = go b (sym (drop_past S at h) ∙ spelled)
  where
    go : (b : Body) → [] ≡ spelling b ++ behind → b ≡ Empty
    go Empty e = refl
    go (Simple l a rest) e = absurd (cc)
    go (Choice l k body end rest) e = absurd (cc)
    go (Either l k body middle other end rest) e = absurd (cc)
    go (Times l k body end rest) e = absurd (cc)

-- no part is left where a body ends
pub ender_piece : (names : Tables) (S : List Numbered) (at : ℕ) (write : Bool) (line : ℕ) (says : Statement) → slice_get S at ≡ Some (at_line line says) → IsEnder says → IsPiece names S at write None
ender_piece names S at write line says here ends b behind spelled e = none_case line says (drop (at + 1) S) behind b (sym (drop_front S at _ here) ∙ spelled) ends

-- an action is a part
pub act_piece : (names : Tables) (S : List Numbered) (at : ℕ) (write : Bool) (line : ℕ) (a : Action) (lines : List Line) → slice_get S at ≡ Some (at_line line (Act a))
    → (write ≡ true → lines ≡ line_of (instruction_of names a) line ∷ [])
    → (b : Body) (behind : List Numbered) → drop at S ≡ spelling b ++ behind → Ends behind → IsPart names S write b behind 1 lines (at + 1)
act_piece names S at write line a lines here made b behind spelled ends =
    act_case (λ b. IsPart names S write b behind 1 lines (at + 1)) line a (drop (at + 1) S) behind b (sym (drop_front S at _ here) ∙ spelled) ends
    (λ rest tail. record {
      rest = rest;
      left = tail;
      size = (let e : suc (length (flattened names rest)) ≡ 1 + length (flattened names rest) = omega arith in ap capped e);
      lines = λ t small. sym (ap (λ xs. xs ++ flattened names rest) (made t));
    })

-- an `if` with one block is a part
pub choice_piece : (names : Tables) (S : List Numbered) (at : ℕ) (write : Bool) (line n : ℕ) (flat : Flat) (end size : ℕ) (lines : List Line) → slice_get S at ≡ Some (at_line line (If n))
    → IsFlat names S (at + 1) write flat → slice_get S flat.next ≡ Some (at_line end End)
    → (write ≡ true → lines ≡ line_of (instruction.If n flat.size) line ∷ flat.lines.items) → size ≡ capped (1 + flat.size)
    → (b : Body) (behind : List Numbered) → drop at S ≡ spelling b ++ behind → Ends behind → IsPart names S write b behind size lines (flat.next + 1)
choice_piece names S at write line n flat end size lines here inside closes made sized b behind spelled ends =
    if_case (λ b. IsPart names S write b behind size lines (flat.next + 1)) line n (drop (at + 1) S) behind b (sym (drop_front S at _ here) ∙ spelled) ends
    (λ body e rest tail.
    let w = inside body (at_line e End ∷ (spelling rest ++ behind)) tail tt in
    let next = sym (drop_front S flat.next _ closes) ∙ w.left in
    let long : length (flattened names (Choice line n body e rest)) ≡ suc (length (flattened names body) + length (flattened names rest)) = ap suc (length-append (flattened names body) (flattened names rest)) in
    record {
      rest = rest;
      left = (parts _ _ _ _ next).1;
      size = choice_size (length (flattened names body)) (length (flattened names rest)) size _ (sized ∙ ap (λ k. capped (1 + k)) w.size) long;
      lines = λ t small.
          (let few : length (flattened names body) ≤ MAX_INSTRUCTIONS = omega (arith, long, small) in
          let count : flat.size ≡ length (flattened names body) = w.size ∙ cap_low _ few in
          sym (ap (λ xs. xs ++ flattened names rest) (made t ∙ (ap (λ k. line_of (instruction.If n k) line ∷ flat.lines.items) count
          ∙ ap (λ xs. line_of (instruction.If n (length (flattened names body))) line ∷ xs) (w.lines t few)))));
    })
    (λ body m other e rest tail. absurd (
    let w = inside body (at_line m Else ∷ (spelling other ++ (at_line e End ∷ (spelling rest ++ behind)))) tail tt in
    let next = sym (drop_front S flat.next _ closes) ∙ w.left in
    let z = (lines_equal _ _ _ _ (parts _ _ _ _ next).0).1 in
    cc))

-- an `if` without an `else` or an `end` is no part
pub if_piece : (names : Tables) (S : List Numbered) (at : ℕ) (write : Bool) (line n : ℕ) (flat : Flat) → slice_get S at ≡ Some (at_line line (If n)) → IsFlat names S (at + 1) write flat
    → ((e : ℕ) → slice_get S flat.next ≡ Some (at_line e End) → ⊥) → ((e : ℕ) → slice_get S flat.next ≡ Some (at_line e Else) → ⊥) → IsPiece names S at write None
if_piece names S at write line n flat here inside no_end no_else b behind spelled ends =
    if_case (λ b. b ≡ Empty) line n (drop (at + 1) S) behind b (sym (drop_front S at _ here) ∙ spelled) ends
    (λ body e rest tail. absurd (no_end e (get_front S flat.next _ _ (inside body (at_line e End ∷ (spelling rest ++ behind)) tail tt).left)))
    (λ body m other e rest tail. absurd (no_else m (get_front S flat.next _ _ (inside body (at_line m Else ∷ (spelling other ++ (at_line e End ∷ (spelling rest ++ behind)))) tail tt).left)))

-- an `if` with two blocks is a part
pub either_piece : (names : Tables) (S : List Numbered) (at : ℕ) (write : Bool) (line n : ℕ) (flat : Flat) (middle : ℕ) (last : Flat) (end size : ℕ) (lines : List Line) → slice_get S at ≡ Some (at_line line (If n))
    → IsFlat names S (at + 1) write flat → slice_get S flat.next ≡ Some (at_line middle Else) → IsFlat names S (flat.next + 1) write last → slice_get S last.next ≡ Some (at_line end End)
    → (write ≡ true → lines ≡ ((line_of (instruction.If n (capped (flat.size + 1))) line ∷ flat.lines.items) ++ line_of (instruction.Jump last.size) middle ∷ []) ++ last.lines.items)
    → size ≡ capped (2 + flat.size + last.size)
    → (b : Body) (behind : List Numbered) → drop at S ≡ spelling b ++ behind → Ends behind → IsPart names S write b behind size lines (last.next + 1)
either_piece names S at write line n flat middle last end size lines here inside between other closes made sized b behind spelled ends =
    if_case (λ b. IsPart names S write b behind size lines (last.next + 1)) line n (drop (at + 1) S) behind b (sym (drop_front S at _ here) ∙ spelled) ends
    (λ body e rest tail. absurd (
    let w = inside body (at_line e End ∷ (spelling rest ++ behind)) tail tt in
    let next = sym (drop_front S flat.next _ between) ∙ w.left in
    let z = (lines_equal _ _ _ _ (parts _ _ _ _ next).0).1 in
    cc))
    (λ body m o e rest tail.
    let w = inside body (at_line m Else ∷ (spelling o ++ (at_line e End ∷ (spelling rest ++ behind)))) tail tt in
    let next = parts _ _ _ _ (sym (drop_front S flat.next _ between) ∙ w.left) in
    let same : middle ≡ m = (lines_equal _ _ _ _ next.0).0 in
    let v = other o (at_line e End ∷ (spelling rest ++ behind)) next.1 tt in
    let after = parts _ _ _ _ (sym (drop_front S last.next _ closes) ∙ v.left) in
    let A : List Line = flattened names body in
    let B : List Line = flattened names o in
    let R : List Line = flattened names rest in
    let long : length (flattened names (Either line n body m o e rest)) ≡ suc (length A + suc (length B + length R)) =
    ap suc (length-append A (line_of (instruction.Jump (length B)) m ∷ (B ++ R)) ∙ ap (λ k. length A + suc k) (length-append B R)) in
    record {
      rest = rest;
      left = after.1;
      size = either_size (length A) (length B) (length R) size _ (sized ∙ (ap (λ k. capped (2 + k + last.size)) w.size ∙ ap (λ k. capped (2 + capped (length A) + k)) v.size)) long;
      lines = λ t small.
          (let few : length A ≤ MAX_INSTRUCTIONS = omega (arith, long, small) in
          let few' : length B ≤ MAX_INSTRUCTIONS = omega (arith, long, small) in
          let over : length A + 1 ≤ MAX_INSTRUCTIONS = omega (arith, long, small) in
          either_written lines A B R flat.lines.items last.lines.items n line middle m flat.size last.size (made t) (w.size ∙ cap_low _ few) over (v.size ∙ cap_low _ few') same (w.lines t few) (v.lines t few'));
    })
  where
    either_written : (lines A B R inside other : List Line) (n line middle m count count' : ℕ)
        → lines ≡ ((line_of (instruction.If n (capped (count + 1))) line ∷ inside) ++ line_of (instruction.Jump count') middle ∷ []) ++ other
        → count ≡ length A → length A + 1 ≤ MAX_INSTRUCTIONS → count' ≡ length B → middle ≡ m → inside ≡ A → other ≡ B
        → line_of (instruction.If n (length A + 1)) line ∷ (A ++ (line_of (instruction.Jump (length B)) m ∷ (B ++ R))) ≡ lines ++ R
    either_written lines A B R inside other n line middle m count count' made counts over counts' same is is' =
        let head : Line = line_of (instruction.If n (length A + 1)) line in
        let jump : Line = line_of (instruction.Jump (length B)) m in
        let low : capped (count + 1) ≡ length A + 1 = ap (λ k. capped (k + 1)) counts ∙ cap_low (length A + 1) over in
        let first : lines ≡ ((head ∷ A) ++ jump ∷ []) ++ B = made ∙ (ap (λ k. ((line_of (instruction.If n k) line ∷ inside) ++ line_of (instruction.Jump count') middle ∷ []) ++ other) low
        ∙ (ap (λ xs. ((head ∷ xs) ++ line_of (instruction.Jump count') middle ∷ []) ++ other) is
        ∙ (ap (λ k. ((head ∷ A) ++ line_of (instruction.Jump k) middle ∷ []) ++ other) counts'
        ∙ (ap (λ k. ((head ∷ A) ++ line_of (instruction.Jump (length B)) k ∷ []) ++ other) same
        ∙ ap (λ xs. ((head ∷ A) ++ jump ∷ []) ++ xs) is')))) in
        sym (ap (λ xs. xs ++ R) first ∙ (append_assoc ((head ∷ A) ++ jump ∷ []) B R ∙ append_assoc (head ∷ A) (jump ∷ []) (B ++ R)))

-- an `if` whose `else` has no `end` is no part
pub else_piece : (names : Tables) (S : List Numbered) (at : ℕ) (write : Bool) (line n : ℕ) (flat : Flat) (middle : ℕ) (last : Flat) → slice_get S at ≡ Some (at_line line (If n))
    → IsFlat names S (at + 1) write flat → slice_get S flat.next ≡ Some (at_line middle Else) → IsFlat names S (flat.next + 1) write last
    → ((e : ℕ) → slice_get S last.next ≡ Some (at_line e End) → ⊥) → IsPiece names S at write None
else_piece names S at write line n flat middle last here inside between other no_end b behind spelled ends =
    if_case (λ b. b ≡ Empty) line n (drop (at + 1) S) behind b (sym (drop_front S at _ here) ∙ spelled) ends
    (λ body e rest tail. absurd (
    let w = inside body (at_line e End ∷ (spelling rest ++ behind)) tail tt in
    let next = sym (drop_front S flat.next _ between) ∙ w.left in
    let z = (lines_equal _ _ _ _ (parts _ _ _ _ next).0).1 in
    cc))
    (λ body m o e rest tail. absurd (
    let w = inside body (at_line m Else ∷ (spelling o ++ (at_line e End ∷ (spelling rest ++ behind)))) tail tt in
    let next = parts _ _ _ _ (sym (drop_front S flat.next _ between) ∙ w.left) in
    let v = other o (at_line e End ∷ (spelling rest ++ behind)) next.1 tt in
    no_end e (get_front S last.next _ _ v.left)))

-- a `repeat` is a part
pub repeat_piece : (names : Tables) (S : List Numbered) (at : ℕ) (write keep : Bool) (line n : ℕ) (flat : Flat) (end size : ℕ) (lines : List Line) → slice_get S at ≡ Some (at_line line (Repeat n))
    → IsFlat names S (at + 1) keep flat → slice_get S flat.next ≡ Some (at_line end End) → size ≡ capped (capped n * flat.size)
    → ((body : Body) (behind : List Numbered) → drop (at + 1) S ≡ spelling body ++ behind → Ends behind → write ≡ true → length (times n (flattened names body)) ≤ MAX_INSTRUCTIONS → flat.size ≡ capped (length (flattened names body))
    → times n (flattened names body) ≡ lines)
    → (b : Body) (behind : List Numbered) → drop at S ≡ spelling b ++ behind → Ends behind → IsPart names S write b behind size lines (flat.next + 1)
repeat_piece names S at write keep line n flat end size lines here inside closes sized made b behind spelled ends =
    repeat_case (λ b. IsPart names S write b behind size lines (flat.next + 1)) line n (drop (at + 1) S) behind b (sym (drop_front S at _ here) ∙ spelled) ends
    (λ body e rest tail.
    let w = inside body (at_line e End ∷ (spelling rest ++ behind)) tail tt in
    let next = parts _ _ _ _ (sym (drop_front S flat.next _ closes) ∙ w.left) in
    let T : List Line = times n (flattened names body) in
    let long : length (T ++ flattened names rest) ≡ n * length (flattened names body) + length (flattened names rest) =
    length-append T (flattened names rest) ∙ ap (λ k. k + length (flattened names rest)) (length_times n (flattened names body)) in
    record {
      rest = rest;
      left = next.1;
      size = times_size n (length (flattened names body)) (length (flattened names rest)) size _ (sized ∙ ap (λ k. capped (capped n * k)) w.size) long;
      lines = λ t small.
          (let few : length T ≤ MAX_INSTRUCTIONS = omega (arith, length-append T (flattened names rest), small) in
          ap (λ xs. xs ++ flattened names rest) (made body (at_line e End ∷ (spelling rest ++ behind)) tail tt t few w.size));
    })

-- the copies that the code made, where it wrote the block
pub copies_made : (names : Tables) (S : List Numbered) (at n : ℕ) (keep : Bool) (again : Flat) (lines : List Line) (body : Body) (behind : List Numbered) → IsFlat names S at keep again → lines ≡ times n again.lines.items
    → ((k : ℕ) → n ≡ suc k → keep ≡ true) → drop at S ≡ spelling body ++ behind → Ends behind → length (times n (flattened names body)) ≤ MAX_INSTRUCTIONS → times n (flattened names body) ≡ lines
copies_made names S at zero keep again lines body behind inside made on spelled ends few = sym made
copies_made names S at (suc n) keep again lines body behind inside made on spelled ends few =
    let w = inside body behind spelled ends in
    let less : length (flattened names body) ≤ MAX_INSTRUCTIONS = omega (arith, length-append (flattened names body) (times n (flattened names body)), few) in
    sym (made ∙ ap (times (suc n)) (w.lines (on n refl) less))

-- a block that stands at least once is written where its copies are
pub keep_on : (write keep : Bool) (n k : ℕ) → keep ≡ (write && nat_lt 0 n) → write ≡ true → n ≡ suc k → keep ≡ true
keep_on write keep n k is on e = is ∙ (rw (on, e, lt-ltb 0 (suc k) (omega arith)) refl)

-- a `repeat` without an `end` is no part
pub loop_piece : (names : Tables) (S : List Numbered) (at : ℕ) (write keep : Bool) (line n : ℕ) (flat : Flat) → slice_get S at ≡ Some (at_line line (Repeat n)) → IsFlat names S (at + 1) keep flat
    → ((e : ℕ) → slice_get S flat.next ≡ Some (at_line e End) → ⊥) → IsPiece names S at write None
loop_piece names S at write keep line n flat here inside no_end b behind spelled ends =
    repeat_case (λ b. b ≡ Empty) line n (drop (at + 1) S) behind b (sym (drop_front S at _ here) ∙ spelled) ends
    (λ body e rest tail. absurd (no_end e (get_front S flat.next _ _ (inside body (at_line e End ∷ (spelling rest ++ behind)) tail tt).left)))

-- Bodies, piece by piece

-- a part with the next part is a part
pub part_more : (names : Tables) (S : List Numbered) (write : Bool) (b : Body) (behind : List Numbered) (size cursor size' : ℕ) (lines lines' : List Line) (flat : Flat) → IsPart names S write b behind size lines cursor
    → IsPiece names S cursor write (Some flat) → Ends behind → size' ≡ capped (size + flat.size) → lines' ≡ lines ++ flat.lines.items → IsPart names S write b behind size' lines' flat.next
part_more names S write b behind size cursor size' lines lines' flat p piece ends sized joined =
    let q = piece p.rest behind p.left ends in
    let c : ℕ = length (flattened names q.rest) in
    let d : ℕ = length (flattened names p.rest) in
    record {
      rest = q.rest;
      left = q.left;
      size =
          (let one : capped (capped (size + flat.size) + c) ≡ capped (size + flat.size + c) = cap_add (size + flat.size) c in
          let two : size + flat.size + c ≡ flat.size + c + size = omega arith in
          let three : capped (flat.size + c + size) ≡ capped (capped (flat.size + c) + size) = sym (cap_add (flat.size + c) size) in
          let four : capped (capped (flat.size + c) + size) ≡ capped (capped d + size) = ap (λ k. capped (k + size)) (sym q.size) in
          let five : capped (capped d + size) ≡ capped (d + size) = cap_add d size in
          let six : d + size ≡ size + d = omega arith in
          p.size ∙ sym (ap (λ k. capped (k + c)) sized ∙ (one ∙ (ap capped two ∙ (three ∙ (four ∙ (five ∙ ap capped six)))))));
      lines = λ t small.
          (let whole = p.lines t small in
          let less : d ≤ MAX_INSTRUCTIONS = (let k = ap length whole in let l = length-append lines (flattened names p.rest) in omega (arith, k, l, small)) in
          whole ∙ (ap (λ xs. lines ++ xs) (q.lines t less) ∙ (sym (append_assoc lines flat.lines.items (flattened names q.rest)) ∙ ap (λ xs. xs ++ flattened names q.rest) (sym joined))));
    }

-- a part with nothing behind it is the whole
pub part_whole : (names : Tables) (S : List Numbered) (write : Bool) (b : Body) (behind : List Numbered) (flat : Flat) → IsPart names S write b behind flat.size flat.lines.items flat.next
    → IsPiece names S flat.next write None → Ends behind → flat.size ≤ (MAX_INSTRUCTIONS + 1) → IsWholeBody names S write b behind flat
part_whole names S write b behind flat p piece ends few =
    let none : p.rest ≡ Empty = piece p.rest behind p.left ends in
    record {
      size = sym (p.size ∙ (ap (λ x. capped (flat.size + length (flattened names x))) none ∙ (ap capped (let z : flat.size + 0 ≡ flat.size = omega arith in z) ∙ cap_self flat.size few)));
      lines = λ t small. sym (p.lines t small ∙ (ap (λ x. flat.lines.items ++ flattened names x) none ∙ append-nil flat.lines.items));
      left = p.left ∙ ap (λ x. spelling x ++ behind) none;
    }

-- what is neither an action nor an opening ends a body
pub ender_there : (names : Tables) (s : Spoken) → ((n : ℕ) → s ≡ spoken.If n → ⊥) → ((n : ℕ) → s ≡ spoken.Repeat n → ⊥) → None ≡ option_map (λ action. instruction_of names action) (action_in (said s)) → IsEnder (said s)
ender_there names (spoken.Lock name) i r h = absurd (cc)
ender_there names (spoken.Unlock name) i r h = absurd (cc)
ender_there names (spoken.Read name) i r h = absurd (cc)
ender_there names (spoken.Write name) i r h = absurd (cc)
ender_there names (spoken.WriteNumber name n) i r h = absurd (cc)
ender_there names (spoken.Add n) i r h = absurd (cc)
ender_there names (spoken.Fork name) i r h = absurd (cc)
ender_there names (spoken.Join name) i r h = absurd (cc)
ender_there names (spoken.Thread name) i r h = tt
ender_there names (spoken.If n) i r h = absurd (i n refl)
ender_there names (spoken.Repeat n) i r h = absurd (r n refl)
ender_there names spoken.Else i r h = tt
ender_there names spoken.End i r h = tt
