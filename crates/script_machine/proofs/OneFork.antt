-- A script of a text forks no thread twice.
use Rattle.std.specs.Prelude.{◌&&◌, nat_le, count_by, find}
use Rattle.std.proofs.Common.{◌≡◌, ℕ, zero, suc, ◌+◌, ◌<◌, ◌≤◌, Bool, true, false, cond, ◌⊎◌, inl, inr, List, [], ◌∷◌, ◌++◌, length, map, slice_get, sum_by, Option, Some, None, refl, sym, ap, ◌∙◌, subst, eqb-true, le-leb, arith}
use Rattle.std.proofs.lemmas.List.Sums.{sum_by-cons}
use Rattle.std.proofs.lemmas.Bool.{cases_order, and_from, cases_lt}
use Rattle.script_machine.specs.declared.instruction.Instruction.TheVariants as instruction
use Rattle.script_machine.specs.Line.{Line}
use Rattle.script_machine.specs.declared.fault.ScriptKind.TheVariants.{ForkedTwice}
use Rattle.script_machine.specs.Machine.{Script, body, forks, ForksOnce}
use Rattle.script_machine.specs.ScriptText.{Numbered, Tables, Body, Empty, Simple, Choice, Either, Times, Thread, Act, End, Action, Lock, Unlock, Read, Write, Fork, Join, WriteNumber, Add, spelling, at_line, flattened, instruction_of, line_of, number_in, times, ThreadText, threads_spelling, Scripts, statements_of, lines_of, tables_of, forks_up_to, forked_fault, fault_on, size_fault, or_else}
use Rattle.script_machine.proofs.RunsAreLawful.{body_there}

-- x stands in the list
abbrev pub Among : {X : Type 0} → List X → X → Type 0
Among xs x = (k : ℕ) × (slice_get xs k ≡ Some x)

-- what stands in two lists stands in one of them
pub among_split : {X : Type 0} (xs ys : List X) (x : X) → Among (xs ++ ys) x → Among xs x ⊎ Among ys x
among_split [] ys x a = inr a
among_split (y ∷ xs) ys x (zero, h) = inl (zero, h)
among_split (y ∷ xs) ys x (suc k, h) = elim (among_split xs ys x (k, h)) [ inl a ↦ inl (suc a.0, a.1) | inr a ↦ inr a ]

-- what stands in the first stands in both
pub among_left : {X : Type 0} (xs ys : List X) (x : X) → Among xs x → Among (xs ++ ys) x
among_left [] ys x (k, h) = absurd (cc)
among_left (y ∷ xs) ys x (zero, h) = (zero, h)
among_left (y ∷ xs) ys x (suc k, h) = let a = among_left xs ys x (k, h) in (suc a.0, a.1)

-- what stands in the second stands in both
pub among_right : {X : Type 0} (xs ys : List X) (x : X) → Among ys x → Among (xs ++ ys) x
among_right [] ys x a = a
among_right (y ∷ xs) ys x a = let b = among_right xs ys x a in (suc b.0, b.1)

-- what stands in the rest stands in the list
pub among_later : {X : Type 0} (y : X) (xs : List X) (x : X) → Among xs x → Among (y ∷ xs) x
among_later y xs x a = (suc a.0, a.1)

-- what stands in copies stands in what was copied
pub among_times : {X : Type 0} (n : ℕ) (xs : List X) (x : X) → Among (times n xs) x → Among xs x
among_times zero xs x (k, h) = absurd (cc)
among_times (suc n) xs x a = elim (among_split xs (times n xs) x a) [ inl b ↦ b | inr b ↦ among_times n xs x b ]

-- the statement that a flattened fork comes from
record Source (names : Tables) (statements : List Numbered) (u number : ℕ) : Type 0 where
  name : List ℕ
  among : Among statements (at_line number (Act (Fork name)))
  named : number_in names.threads name ≡ u

-- a source stays one among more statements
source_more : (names : Tables) (xs ys : List Numbered) (u number : ℕ) → ((s : Numbered) → Among xs s → Among ys s) → Source names xs u number → Source names ys u number
source_more names xs ys u number more s = record { name = s.name; among = more _ s.among; named = s.named }

-- a flattened fork comes from its action
act_source : (names : Tables) (action : Action) (u line : ℕ) → forks u (instruction_of names action) ≡ true → Source names (at_line line (Act action) ∷ []) u line
act_source names (Fork name) u line h = record { name = name; among = (0, refl); named = eqb-true _ _ h }
act_source names (Lock name) u line h = absurd (cc)
act_source names (Unlock name) u line h = absurd (cc)
act_source names (Read name) u line h = absurd (cc)
act_source names (Write name) u line h = absurd (cc)
act_source names (Join name) u line h = absurd (cc)
act_source names (WriteNumber name n) u line h = absurd (cc)
act_source names (Add n) u line h = absurd (cc)

-- so in a whole body
source : (names : Tables) (b : Body) (u : ℕ) (line : Line) → Among (flattened names b) line → forks u line.instruction ≡ true → Source names (spelling b) u line.number
source names Empty u line (k, h) f = absurd (cc)
source names (Simple l action rest) u line (zero, h) f =
    let same : line_of (instruction_of names action) l ≡ line = cc in
    let here = act_source names action u l (subst (λ x. forks u x.instruction ≡ true) (sym same) f) in
    subst (λ x. Source names (at_line l (Act action) ∷ spelling rest) u x.number) same (source_more names _ _ u l (λ s a. among_left (at_line l (Act action) ∷ []) (spelling rest) s a) here)
source names (Simple l action rest) u line (suc k, h) f = source_more names _ _ u line.number (λ s a. among_later _ _ s a) (source names rest u line (k, h) f)
source names (Choice l n b e rest) u line (zero, h) f = absurd (let same : line_of (instruction.If n (length (flattened names b))) l ≡ line = cc in let no' = subst (λ x. forks u x.instruction ≡ true) (sym same) f in cc)
source names (Choice l n b e rest) u line (suc k, h) f = elim (among_split (flattened names b) (flattened names rest) line (k, h)) [
  | inl a ↦ source_more names _ _ u line.number (λ s x. among_later _ _ s (among_left _ _ s x)) (source names b u line a f)
  | inr a ↦ source_more names _ _ u line.number (λ s x. among_later _ _ s (among_right (spelling b) _ s (among_later _ _ s x))) (source names rest u line a f)
]
source names (Either l n b m o e rest) u line (zero, h) f = absurd (let same : line_of (instruction.If n (length (flattened names b) + 1)) l ≡ line = cc in let no' = subst (λ x. forks u x.instruction ≡ true) (sym same) f in cc)
source names (Either l n b m o e rest) u line (suc k, h) f =
    let jump = line_of (instruction.Jump (length (flattened names o))) m in
    elim (among_split (flattened names b) (jump ∷ (flattened names o ++ flattened names rest)) line (k, h)) [
      | inl a ↦ source_more names _ _ u line.number (λ s x. among_later _ _ s (among_left _ _ s x)) (source names b u line a f)
      | inr a ↦ source_more names _ _ u line.number (λ s x. among_later _ _ s (among_right (spelling b) _ s (among_later _ _ s x)))
          (rest_source a (λ c. source names o u line c f) (λ c. source names rest u line c f))
    ]
  where
    rest_source : Among (line_of (instruction.Jump (length (flattened names o))) m ∷ (flattened names o ++ flattened names rest)) line
        → (Among (flattened names o) line → Source names (spelling o) u line.number) → (Among (flattened names rest) line → Source names (spelling rest) u line.number)
        → Source names (spelling o ++ (at_line e End ∷ spelling rest)) u line.number
    rest_source (zero, h) p q = absurd (let same : line_of (instruction.Jump (length (flattened names o))) m ≡ line = cc in let no' = subst (λ x. forks u x.instruction ≡ true) (sym same) f in cc)
    rest_source (suc k, h) p q = elim (among_split (flattened names o) (flattened names rest) line (k, h)) [
      | inl a ↦ source_more names _ _ u line.number (λ s x. among_left _ _ s x) (p a)
      | inr a ↦ source_more names _ _ u line.number (λ s x. among_right (spelling o) _ s (among_later _ _ s x)) (q a)
    ]
source names (Times l n b e rest) u line a f = elim (among_split (times n (flattened names b)) (flattened names rest) line a) [
  | inl x ↦ source_more names _ _ u line.number (λ s y. among_later _ _ s (among_left _ _ s y)) (source names b u line (among_times n (flattened names b) line x) f)
  | inr x ↦ source_more names _ _ u line.number (λ s y. among_later _ _ s (among_right (spelling b) _ s (among_later _ _ s y))) (source names rest u line x f)
]

-- a count of a list with an element in front
pub count_cons : {X : Type 0} (p : X → Bool) (x : X) (xs : List X) → count_by p (x ∷ xs) ≡ cond (p x) 1 0 + count_by p xs
count_cons p x xs = sum_by-cons (λ y. cond (p y) 1 0) x xs

-- a count is at least one where one element passes
count_one : {X : Type 0} (p : X → Bool) (xs : List X) (i : ℕ) (x : X) → slice_get xs i ≡ Some x → p x ≡ true → 1 ≤ count_by p xs
count_one p [] i x h t = absurd (cc)
count_one p (y ∷ ys) zero x h t = let same : y ≡ x = cc in let c = count_cons p y ys in let one : cond {A = ℕ} (p y) 1 0 ≡ 1 = rw (same, t) refl in omega arith
count_one p (y ∷ ys) (suc i) x h t = let c = count_cons p y ys in let ih = count_one p ys i x h t in omega arith

-- at least two where two do
count_two : {X : Type 0} (p : X → Bool) (xs : List X) (i j : ℕ) (x y : X) → i < j → slice_get xs i ≡ Some x → slice_get xs j ≡ Some y → p x ≡ true → p y ≡ true → 2 ≤ count_by p xs
count_two p [] i j x y less hx hy tx ty = absurd (cc)
count_two p (z ∷ zs) i zero x y less hx hy tx ty = absurd (omega arith)
count_two p (z ∷ zs) zero (suc j) x y less hx hy tx ty =
    let same : z ≡ x = cc in let c = count_cons p z zs in let one : cond {A = ℕ} (p z) 1 0 ≡ 1 = rw (same, tx) refl in let rest = count_one p zs j y hy ty in omega arith
count_two p (z ∷ zs) (suc i) (suc j) x y less hx hy tx ty = let c = count_cons p z zs in let ih = count_two p zs i j x y (omega arith) hx hy tx ty in omega arith

-- a sum is no less than one of its parts
sum_one : {X : Type 0} (f : X → ℕ) (xs : List X) (i : ℕ) (x : X) → slice_get xs i ≡ Some x → f x ≤ sum_by f xs
sum_one f [] i x h = absurd (cc)
sum_one f (y ∷ ys) zero x h = let same : f y ≡ f x = (let e : y ≡ x = cc in ap f e) in let c = sum_by-cons f y ys in omega arith
sum_one f (y ∷ ys) (suc i) x h = let c = sum_by-cons f y ys in let ih = sum_one f ys i x h in omega arith

-- nor than two of them
sum_two : {X : Type 0} (f : X → ℕ) (xs : List X) (i j : ℕ) (x y : X) → i < j → slice_get xs i ≡ Some x → slice_get xs j ≡ Some y → f x + f y ≤ sum_by f xs
sum_two f [] i j x y less hx hy = absurd (cc)
sum_two f (z ∷ zs) i zero x y less hx hy = absurd (omega arith)
sum_two f (z ∷ zs) zero (suc j) x y less hx hy = let same : f z ≡ f x = (let e : z ≡ x = cc in ap f e) in let c = sum_by-cons f z zs in let rest = sum_one f zs j y hy in omega arith
sum_two f (z ∷ zs) (suc i) (suc j) x y less hx hy = let c = sum_by-cons f z zs in let ih = sum_two f zs i j x y (omega arith) hx hy in omega arith

-- no element passes a test that none was found to pass
pub find_none : {X : Type 0} (p : X → Bool) (xs : List X) (x : X) → find p xs ≡ None → Among xs x → p x ≡ false
find_none p [] x h (k, e) = absurd (cc)
find_none p (y ∷ ys) x h (zero, e) = let same : y ≡ x = cc in subst (λ z. p z ≡ false) same (go (p y) refl)
  where
    go : (b : Bool) → p y ≡ b → p y ≡ false
    go true t = absurd (let h' = rw t at h in cc)
    go false t = t
find_none p (y ∷ ys) x h (suc k, e) = find_none p ys x (go (p y) refl) (k, e)
  where
    go : (b : Bool) → p y ≡ b → find p ys ≡ None
    go true t = absurd (let h' = rw t at h in cc)
    go false t = rw t at h

-- so in all bodies
thread_source : (names : Tables) (threads : List ThreadText) (t u : ℕ) (lines : List Line) (line : Line) → slice_get (map (λ x. flattened names x.body) threads) t ≡ Some lines
    → Among lines line → forks u line.instruction ≡ true → Source names (threads_spelling threads) u line.number
thread_source names [] t u lines line h a f = absurd (cc)
thread_source names (x ∷ xs) zero u lines line h a f =
    let same : flattened names x.body ≡ lines = cc in
    source_more names _ _ u line.number (λ s y. among_left (at_line x.line (Thread x.name) ∷ spelling x.body) (threads_spelling xs) s (among_later _ _ s y))
    (source names x.body u line (subst (λ ys. Among ys line) (sym same) a) f)
thread_source names (x ∷ xs) (suc t) u lines line h a f =
    source_more names _ _ u line.number (λ s y. among_right (at_line x.line (Thread x.name) ∷ spelling x.body) (threads_spelling xs) s y) (thread_source names xs t u lines line h a f)

-- the second of two faults is not there where none is
pub or_second : {X : Type 0} (a b : Option X) → or_else a b ≡ None → b ≡ None
or_second None b h = h
or_second (Some x) b h = absurd (cc)

-- no statement has a fault that is not there
pub on_none : (kind : Rattle.script_machine.specs.declared.fault.ScriptKind.ScriptKind) (o : Option Numbered) → fault_on kind o ≡ None → o ≡ None
on_none kind None h = refl
on_none kind (Some s) h = absurd (cc)

-- a fork of the thread on a line up to this one
abbrev up_to : ℕ → ℕ → Line → Bool
up_to u L l = forks u l.instruction && nat_le l.number L

-- a fork on such a line is one
passes : (u L : ℕ) (l : Line) → l.number ≤ L → forks u l.instruction ≡ true → up_to u L l ≡ true
passes u L l low f = and_from _ _ f (le-leb _ _ low)

-- no statement is a second fork
no_second : (text : List ℕ) (script : Script) (s : Scripts text script) (u L : ℕ) → 2 ≤ forks_up_to script u L → Source (tables_of (statements_of (lines_of text))) (threads_spelling s.threads) u L → ⊥
no_second text script s u L many from =
    let statements = statements_of (lines_of text) in
    let none = on_none ForkedTwice _ (or_second (size_fault 0 s.threads script.bodies) (forked_fault script statements) s.flat) in
    let inside : Among statements (at_line L (Act (Fork from.name))) = subst (λ xs. Among xs (at_line L (Act (Fork from.name)))) (sym s.spells.spelled) from.among in
    let not_second = find_none _ statements _ none inside in
    let fewer : nat_le 2 (forks_up_to script u L) ≡ false = subst (λ k. nat_le 2 (forks_up_to script k L) ≡ false) from.named not_second in
    let clash : true ≡ false = sym (le-leb _ _ many) ∙ fewer in
    cc

-- the statement that a fork in a script comes from
source_at : (text : List ℕ) (script : Script) (s : Scripts text script) (u t i : ℕ) (line : Line) → slice_get (body script t) i ≡ Some line → forks u line.instruction ≡ true
    → Source (tables_of (statements_of (lines_of text))) (threads_spelling s.threads) u line.number
source_at text script s u t i line h f =
    thread_source (tables_of (statements_of (lines_of text))) s.threads t u (body script t) line
    (ap (λ bs. slice_get bs t) (sym s.spells.bodies) ∙ body_there script.bodies t i line h) (i, h) f

-- two forks of one thread up to a line, one of them there
clash_of : (text : List ℕ) (script : Script) (s : Scripts text script) (u t t' i i' : ℕ) (line line' : Line) → slice_get (body script t) i ≡ Some line → slice_get (body script t') i' ≡ Some line'
    → forks u line.instruction ≡ true → forks u line'.instruction ≡ true → ((L : ℕ) → line.number ≤ L → line'.number ≤ L → 2 ≤ forks_up_to script u L) → ⊥
clash_of text script s u t t' i i' line line' at_i at_i' f f' many = elim (cases_lt line.number line'.number) [
  | inl less ↦ no_second text script s u line'.number (many line'.number (omega arith) (omega arith)) (source_at text script s u t' i' line' at_i' f')
  | inr more ↦ no_second text script s u line.number (many line.number (omega arith) (omega arith)) (source_at text script s u t i line at_i f)
]

-- two forks in one body
two_in : (script : Script) (u L t i : ℕ) (line : Line) → slice_get (body script t) i ≡ Some line → 2 ≤ count_by (up_to u L) (body script t) → 2 ≤ forks_up_to script u L
two_in script u L t i line h two = let one = sum_one (count_by (up_to u L)) script.bodies t _ (body_there script.bodies t i line h) in omega arith

-- two forks in two bodies
two_apart : (script : Script) (u L t t' i i' : ℕ) (line line' : Line) → t < t' → slice_get (body script t) i ≡ Some line → slice_get (body script t') i' ≡ Some line'
    → up_to u L line ≡ true → up_to u L line' ≡ true → 2 ≤ forks_up_to script u L
two_apart script u L t t' i i' line line' less h h' p p' =
    let both = sum_two (count_by (up_to u L)) script.bodies t t' _ _ less (body_there script.bodies t i line h) (body_there script.bodies t' i' line' h') in
    let one = count_one (up_to u L) (body script t) i line h p in
    let one' = count_one (up_to u L) (body script t') i' line' h' p' in
    omega arith

-- a script of a text forks no thread twice
pub forks_once : (text : List ℕ) (script : Script) → Scripts text script → ForksOnce script
forks_once text script s u t t' i i' line line' at_i at_i' f f' =
    elim (cases_order t t') [
      | inl same ↦
          (let here : slice_get (body script t) i' ≡ Some line' = rw same at_i' in
          elim (cases_order i i') [
            | inl equal ↦ (same, equal)
            | inr (inl less) ↦ absurd (clash_of text script s u t t' i i' line line' at_i at_i' f f' (λ L low low'.
                two_in script u L t i line at_i (count_two (up_to u L) (body script t) i i' line line' less at_i here (passes u L line low f) (passes u L line' low' f'))))
            | inr (inr less) ↦ absurd (clash_of text script s u t t' i i' line line' at_i at_i' f f' (λ L low low'.
                two_in script u L t i line at_i (count_two (up_to u L) (body script t) i' i line' line less here at_i (passes u L line' low' f') (passes u L line low f))))
          ])
      | inr (inl less) ↦ absurd (clash_of text script s u t t' i i' line line' at_i at_i' f f' (λ L low low'.
          two_apart script u L t t' i i' line line' less at_i at_i' (passes u L line low f) (passes u L line' low' f')))
      | inr (inr less) ↦ absurd (clash_of text script s u t t' i i' line line' at_i at_i' f f' (λ L low low'.
          two_apart script u L t' t i' i line' line less at_i' at_i (passes u L line' low' f') (passes u L line low f)))
    ]
