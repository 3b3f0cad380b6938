-- A resolved line tells the statement that it was made of.
use Rattle.std.proofs.Common.{◌≡◌, ℕ, zero, suc, ◌+◌, ◌<◌, ◌≤◌, true, false, ◌⊎◌, inl, inr, List, [], ◌∷◌, ◌++◌, length, map, take, get_or, slice_get, Option, Some, None, refl, sym, ap, ◌∙◌, subst, add-one, arith}
use Rattle.std.proofs.lemmas.List.{length-map}
use Rattle.script_machine.specs.declared.instruction.Instruction.{Instruction}
use Rattle.script_machine.specs.declared.resolved.Resolved.{Resolved}
use Rattle.script_machine.specs.declared.resolved.Resolved.TheVariants as resolved
use Rattle.script_machine.specs.ResolvedLine.{ResolvedLine}
use Rattle.script_machine.specs.Resolving.{resolved_of, resolved_line, AreResolved, end_at, else_at, closes, parting}
use Rattle.script_machine.specs.BodyAt.{IsEnder}
use Rattle.script_machine.specs.ScriptText.{Numbered, Tables, Statement, Thread, Act, If, Repeat, Else, End, Action, at_line, instruction_of}

-- the statement that stands where a resolved line stands
record MadeOf (names : Tables) (statements : List Numbered) (at : ℕ) (r : ResolvedLine) : Type 0 where
  made : Numbered
  there : slice_get statements at ≡ Some made
  is : resolved_line names made ≡ r

-- each resolved line was made of the statement in its place
made_of_line : (names : Tables) (S : List Numbered) (at : ℕ) (r : ResolvedLine) → slice_get (map (resolved_line names) S) at ≡ Some r → MadeOf names S at r
made_of_line names [] at r h = absurd (cc)
made_of_line names (x ∷ xs) zero r h = record { made = x; there = refl; is = cc }
made_of_line names (x ∷ xs) (suc k) r h = let m = made_of_line names xs k r h in record { made = m.made; there = m.there; is = m.is }

-- so where the lines resolve the statements
made_at : (names : Tables) (S : List Numbered) (steps : List ResolvedLine) (at : ℕ) (r : ResolvedLine) → AreResolved names S steps → slice_get steps at ≡ Some r → MadeOf names S at r
made_at names S steps at r is h = made_of_line names S at r (ap (λ xs. slice_get xs at) (sym is) ∙ h)

-- where a statement stands, it stands resolved
pub resolved_at : (names : Tables) (S : List Numbered) (steps : List ResolvedLine) (at : ℕ) (s : Numbered) → AreResolved names S steps → slice_get S at ≡ Some s → slice_get steps at ≡ Some (resolved_line names s)
resolved_at names S steps at s is h = ap (λ xs. slice_get xs at) is ∙ go S at h
  where
    go : (xs : List Numbered) (k : ℕ) → slice_get xs k ≡ Some s → slice_get (map (resolved_line names) xs) k ≡ Some (resolved_line names s)
    go [] k h = absurd (cc)
    go (x ∷ xs) zero h = let same : x ≡ s = cc in ap (λ y. Some (resolved_line names y)) same
    go (x ∷ xs) (suc k) h = go xs k h

-- what is resolved to one of these was one

-- an `if`
if_back : (names : Tables) (s : Statement) (n : ℕ) → resolved_of names s ≡ resolved.If n → s ≡ If n
if_back names (If m) n h = let e : m ≡ n = cc in ap If e
if_back names (Thread name) n h = absurd (cc)
if_back names (Act a) n h = absurd (cc)
if_back names (Repeat m) n h = absurd (cc)
if_back names Else n h = absurd (cc)
if_back names End n h = absurd (cc)

-- a `repeat`
repeat_back : (names : Tables) (s : Statement) (n : ℕ) → resolved_of names s ≡ resolved.Repeat n → s ≡ Repeat n
repeat_back names (Repeat m) n h = let e : m ≡ n = cc in ap Repeat e
repeat_back names (Thread name) n h = absurd (cc)
repeat_back names (Act a) n h = absurd (cc)
repeat_back names (If m) n h = absurd (cc)
repeat_back names Else n h = absurd (cc)
repeat_back names End n h = absurd (cc)

-- an `end`
end_back : (names : Tables) (s : Statement) → closes (resolved_of names s) ≡ true → s ≡ End
end_back names End h = refl
end_back names (Thread name) h = absurd (cc)
end_back names (Act a) h = absurd (cc)
end_back names (If m) h = absurd (cc)
end_back names (Repeat m) h = absurd (cc)
end_back names Else h = absurd (cc)

-- an `else`
else_back : (names : Tables) (s : Statement) (line m : ℕ) → parting line (resolved_of names s) ≡ Some m → (s ≡ Else) × (line ≡ m)
else_back names Else line m h = (refl, cc)
else_back names (Thread name) line m h = absurd (cc)
else_back names (Act a) line m h = absurd (cc)
else_back names (If k) line m h = absurd (cc)
else_back names (Repeat k) line m h = absurd (cc)
else_back names End line m h = absurd (cc)

-- an action, by its instruction
act_back : (names : Tables) (s : Statement) (i : Instruction) → resolved_of names s ≡ resolved.Act i → (a : Action) × (s ≡ Act a) × (i ≡ instruction_of names a)
act_back names (Act a) i h = (a, refl, cc)
act_back names (Thread name) i h = absurd (cc)
act_back names (If m) i h = absurd (cc)
act_back names (Repeat m) i h = absurd (cc)
act_back names Else i h = absurd (cc)
act_back names End i h = absurd (cc)

-- a resolved line that ends a body
abbrev pub EndsBody : Resolved → Type 0
EndsBody resolved.Thread = Unit {0}
EndsBody resolved.Else = Unit {0}
EndsBody resolved.End = Unit {0}
EndsBody says = ⊥

-- three kinds of lines end a body
pub ender_says : (s : Resolved) → (s ≡ resolved.Thread) ⊎ ((s ≡ resolved.Else) ⊎ (s ≡ resolved.End)) → EndsBody s
ender_says s (inl e) = subst EndsBody (sym e) tt
ender_says s (inr (inl e)) = subst EndsBody (sym e) tt
ender_says s (inr (inr e)) = subst EndsBody (sym e) tt

-- what may stand behind a body
ender_back : (names : Tables) (s : Statement) → EndsBody (resolved_of names s) → IsEnder s
ender_back names (Thread name) h = tt
ender_back names (Act a) h = absurd h
ender_back names (If m) h = absurd h
ender_back names (Repeat m) h = absurd h
ender_back names Else h = tt
ender_back names End h = tt

module _ (names : Tables) (S : List Numbered) (steps : List ResolvedLine) (is : AreResolved names S steps) where
  -- an `if` stands where a resolved one does
  pub if_there : (at line n : ℕ) → slice_get steps at ≡ Some (record { line = line; says = resolved.If n }) → slice_get S at ≡ Some (at_line line (If n))
  if_there at line n h =
      let m = made_at names S steps at _ is h in
      let says = if_back names m.made.says n (ap (λ r. r.says) m.is) in
      let number : m.made.line ≡ line = ap (λ r. r.line) m.is in
      m.there ∙ (λ i. Some (at_line (number i) (says i)))

  -- so does a `repeat`
  pub repeat_there : (at line n : ℕ) → slice_get steps at ≡ Some (record { line = line; says = resolved.Repeat n }) → slice_get S at ≡ Some (at_line line (Repeat n))
  repeat_there at line n h =
      let m = made_at names S steps at _ is h in
      let says = repeat_back names m.made.says n (ap (λ r. r.says) m.is) in
      let number : m.made.line ≡ line = ap (λ r. r.line) m.is in
      m.there ∙ (λ i. Some (at_line (number i) (says i)))

  -- so does an action, with its instruction
  pub act_there : (at line : ℕ) (i : Instruction) → slice_get steps at ≡ Some (record { line = line; says = resolved.Act i }) → (a : Action) × (slice_get S at ≡ Some (at_line line (Act a))) × (i ≡ instruction_of names a)
  act_there at line i h =
      let m = made_at names S steps at _ is h in
      let (a, says, same) = act_back names m.made.says i (ap (λ r. r.says) m.is) in
      let number : m.made.line ≡ line = ap (λ r. r.line) m.is in
      (a, m.there ∙ (λ j. Some (at_line (number j) (says j))), same)

  -- so does what ends a body
  pub ender_there : (at : ℕ) (r : ResolvedLine) → slice_get steps at ≡ Some r → EndsBody r.says → (line : ℕ) × (says : Statement) × (slice_get S at ≡ Some (at_line line says)) × IsEnder says
  ender_there at r h ends =
      let m = made_at names S steps at r is h in
      (m.made.line, m.made.says, m.there, ender_back names m.made.says (subst (λ x. EndsBody x.says) (sym m.is) ends))

  -- a statement stands on the line of a resolved one
  pub line_there : (at : ℕ) (r : ResolvedLine) → slice_get steps at ≡ Some r → (says : Statement) × (slice_get S at ≡ Some (at_line r.line says))
  line_there at r h =
      let m = made_at names S steps at r is h in
      let number : m.made.line ≡ r.line = ap (λ x. x.line) m.is in
      (m.made.says, m.there ∙ (λ i. Some (at_line (number i) m.made.says)))

  -- an `end` stands where the code found one
  pub end_there : (at : ℕ) → end_at (slice_get steps at) ≡ true → (line : ℕ) × (slice_get S at ≡ Some (at_line line End))
  end_there at h = go (slice_get steps at) refl
    where
      go : (o : Option ResolvedLine) → slice_get steps at ≡ o → (line : ℕ) × (slice_get S at ≡ Some (at_line line End))
      go None e = absurd (let h' = ap end_at (sym e) ∙ h in cc)
      go (Some r) e =
          let m = made_at names S steps at r is e in
          let says = end_back names m.made.says (ap (λ x. closes x.says) m.is ∙ (ap end_at (sym e) ∙ h)) in
          (m.made.line, m.there ∙ (λ i. Some (at_line m.made.line (says i))))

  -- none stands where it found none
  pub no_end_there : (at : ℕ) → end_at (slice_get steps at) ≡ false → (e : ℕ) → slice_get S at ≡ Some (at_line e End) → ⊥
  no_end_there at h e there = let clash : true ≡ false = sym (ap end_at (resolved_at names S steps at _ is there)) ∙ h in cc

  -- an `else` stands where the code found one
  pub else_there : (at m : ℕ) → else_at (slice_get steps at) ≡ Some m → slice_get S at ≡ Some (at_line m Else)
  else_there at m h = go (slice_get steps at) refl
    where
      go : (o : Option ResolvedLine) → slice_get steps at ≡ o → slice_get S at ≡ Some (at_line m Else)
      go None e = absurd (let h' = ap else_at (sym e) ∙ h in cc)
      go (Some r) e =
          let k = made_at names S steps at r is e in
          let both = else_back names k.made.says k.made.line m (ap (λ x. parting x.line x.says) k.is ∙ (ap else_at (sym e) ∙ h)) in
          k.there ∙ (λ i. Some (at_line (both.1 i) (both.0 i)))

  -- none stands where it found none
  pub no_else_there : (at : ℕ) → else_at (slice_get steps at) ≡ None → (e : ℕ) → slice_get S at ≡ Some (at_line e Else) → ⊥
  no_else_there at h e there = let clash : Some e ≡ None = sym (ap else_at (resolved_at names S steps at _ is there)) ∙ h in cc

  -- a place past the lines is past the statements
  pub past_there : (at : ℕ) → length steps ≤ at → length S ≤ at
  past_there at h = let e = ap length is in omega (arith, e, length-map S (resolved_line names))

  -- a place within the lines is within the statements
  pub within_there : (at : ℕ) → at < length steps → at < length S
  within_there at h = let e = ap length is in omega (arith, e, length-map S (resolved_line names))

-- one more statement taken
pub take_next : (S : List Numbered) (k : ℕ) (s : Numbered) → slice_get S k ≡ Some s → take (k + 1) S ≡ take k S ++ s ∷ []
take_next [] k s h = absurd (cc)
take_next (x ∷ xs) zero s h = let same : x ≡ s = cc in ap (λ y. y ∷ []) same
take_next (x ∷ xs) (suc k) s h = rw add-one (let next = take_next xs k s h in let next' = rw add-one at next in ap (λ ys. x ∷ ys) next')

-- an element that is read within a list stands there
pub read_there : {X : Type 0} (xs : List X) (k : ℕ) (d : X) → k < length xs → slice_get xs k ≡ Some (get_or xs k d)
read_there [] k d h = absurd (omega arith)
read_there (x ∷ xs) zero d h = refl
read_there (x ∷ xs) (suc k) d h = read_there xs k d (omega arith)
