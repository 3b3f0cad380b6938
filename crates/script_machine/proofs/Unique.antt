-- Statements spell one body at most.
use Rattle.std.proofs.Common.{◌≡◌, ℕ, List, [], ◌∷◌, ◌++◌, refl, sym, ap, ◌∙◌, subst, append_assoc}
use Rattle.script_machine.specs.ScriptText.{Numbered, Body, Empty, Simple, Choice, Either, Times, Statement, Thread, Else, End, spelling, at_line, ThreadText, threads_spelling}
use Rattle.script_machine.specs.BodyAt.{Ends}
use Rattle.script_machine.proofs.Determined.{parts}

-- equal statements have equal lines and say the same
pub lines_equal : (l m : ℕ) (s t : Statement) → at_line l s ≡ at_line m t → (l ≡ m) × (s ≡ t)
lines_equal l m s t h = (ap (λ x. x.line) h, ap (λ x. x.says) h)

-- statements spell one body at most
pub unique : (b c : Body) (r q : List Numbered) → Ends r → Ends q → spelling b ++ r ≡ spelling c ++ q → (b ≡ c) × (r ≡ q)
unique Empty Empty r q er eq h = (refl, h)
unique Empty (Simple l a rest) r q er eq h = absurd (subst Ends h er)
unique Empty (Choice l n b e rest) r q er eq h = absurd (subst Ends h er)
unique Empty (Either l n b m o e rest) r q er eq h = absurd (subst Ends h er)
unique Empty (Times l n b e rest) r q er eq h = absurd (subst Ends h er)
unique (Simple l a rest) Empty r q er eq h = absurd (subst Ends (sym h) eq)
unique (Choice l n b e rest) Empty r q er eq h = absurd (subst Ends (sym h) eq)
unique (Either l n b m o e rest) Empty r q er eq h = absurd (subst Ends (sym h) eq)
unique (Times l n b e rest) Empty r q er eq h = absurd (subst Ends (sym h) eq)
unique (Simple l a rest) (Simple l' a' rest') r q er eq h =
    let p = parts _ _ _ _ h in
    let s = lines_equal _ _ _ _ p.0 in
    let i = unique rest rest' r q er eq p.1 in
    let act : a ≡ a' = (let z = s.1 in cc) in
    ((λ j. Simple (s.0 j) (act j) (i.0 j)), i.1)
unique (Choice l n b e rest) (Choice l' n' b' e' rest') r q er eq h =
    let p = parts _ _ _ _ h in
    let s = lines_equal _ _ _ _ p.0 in
    let num : n ≡ n' = (let z = s.1 in cc) in
    let inner = unique b b' (at_line e End ∷ (spelling rest ++ r)) (at_line e' End ∷ (spelling rest' ++ q)) tt tt
    (sym (append_assoc (spelling b) (at_line e End ∷ spelling rest) r) ∙ p.1 ∙ append_assoc (spelling b') (at_line e' End ∷ spelling rest') q) in
    let tail = parts _ _ _ _ inner.1 in
    let i = unique rest rest' r q er eq tail.1 in
    let close = lines_equal _ _ _ _ tail.0 in
    ((λ j. Choice (s.0 j) (num j) (inner.0 j) (close.0 j) (i.0 j)), i.1)
unique (Times l n b e rest) (Times l' n' b' e' rest') r q er eq h =
    let p = parts _ _ _ _ h in
    let s = lines_equal _ _ _ _ p.0 in
    let num : n ≡ n' = (let z = s.1 in cc) in
    let inner = unique b b' (at_line e End ∷ (spelling rest ++ r)) (at_line e' End ∷ (spelling rest' ++ q)) tt tt
    (sym (append_assoc (spelling b) (at_line e End ∷ spelling rest) r) ∙ p.1 ∙ append_assoc (spelling b') (at_line e' End ∷ spelling rest') q) in
    let tail = parts _ _ _ _ inner.1 in
    let i = unique rest rest' r q er eq tail.1 in
    let close = lines_equal _ _ _ _ tail.0 in
    ((λ j. Times (s.0 j) (num j) (inner.0 j) (close.0 j) (i.0 j)), i.1)
unique (Either l n b m o e rest) (Either l' n' b' m' o' e' rest') r q er eq h =
    let p = parts _ _ _ _ h in
    let s = lines_equal _ _ _ _ p.0 in
    let num : n ≡ n' = (let z = s.1 in cc) in
    let inner = unique b b' (at_line m Else ∷ ((spelling o ++ (at_line e End ∷ spelling rest)) ++ r)) (at_line m' Else ∷ ((spelling o' ++ (at_line e' End ∷ spelling rest')) ++ q)) tt tt
    (sym (append_assoc (spelling b) (at_line m Else ∷ (spelling o ++ (at_line e End ∷ spelling rest))) r) ∙ p.1 ∙ append_assoc (spelling b') (at_line m' Else ∷ (spelling o' ++ (at_line e' End ∷ spelling rest'))) q) in
    let half = parts _ _ _ _ inner.1 in
    let middle = lines_equal _ _ _ _ half.0 in
    let other = unique o o' (at_line e End ∷ (spelling rest ++ r)) (at_line e' End ∷ (spelling rest' ++ q)) tt tt
    (sym (append_assoc (spelling o) (at_line e End ∷ spelling rest) r) ∙ half.1 ∙ append_assoc (spelling o') (at_line e' End ∷ spelling rest') q) in
    let tail = parts _ _ _ _ other.1 in
    let i = unique rest rest' r q er eq tail.1 in
    let close = lines_equal _ _ _ _ tail.0 in
    ((λ j. Either (s.0 j) (num j) (inner.0 j) (middle.0 j) (other.0 j) (close.0 j) (i.0 j)), i.1)
unique (Choice l n b e rest) (Either l' n' b' m' o' e' rest') r q er eq h =
    let p = parts _ _ _ _ h in
    let inner = unique b b' (at_line e End ∷ (spelling rest ++ r)) (at_line m' Else ∷ ((spelling o' ++ (at_line e' End ∷ spelling rest')) ++ q)) tt tt
    (sym (append_assoc (spelling b) (at_line e End ∷ spelling rest) r) ∙ p.1 ∙ append_assoc (spelling b') (at_line m' Else ∷ (spelling o' ++ (at_line e' End ∷ spelling rest'))) q) in
    let clash = lines_equal _ _ _ _ (parts _ _ _ _ inner.1).0 in
    absurd (let z = clash.1 in cc)
unique (Either l n b m o e rest) (Choice l' n' b' e' rest') r q er eq h =
    let p = parts _ _ _ _ h in
    let inner = unique b b' (at_line m Else ∷ ((spelling o ++ (at_line e End ∷ spelling rest)) ++ r)) (at_line e' End ∷ (spelling rest' ++ q)) tt tt
    (sym (append_assoc (spelling b) (at_line m Else ∷ (spelling o ++ (at_line e End ∷ spelling rest))) r) ∙ p.1 ∙ append_assoc (spelling b') (at_line e' End ∷ spelling rest') q) in
    let clash = lines_equal _ _ _ _ (parts _ _ _ _ inner.1).0 in
    absurd (let z = clash.1 in cc)
unique (Simple l a rest) c r q er eq h = absurd (let z = (lines_equal _ _ _ _ (parts _ _ _ _ h).0).1 in cc)
unique (Choice l n b e rest) c r q er eq h = absurd (let z = (lines_equal _ _ _ _ (parts _ _ _ _ h).0).1 in cc)
unique (Either l n b m o e rest) c r q er eq h = absurd (let z = (lines_equal _ _ _ _ (parts _ _ _ _ h).0).1 in cc)
unique (Times l n b e rest) c r q er eq h = absurd (let z = (lines_equal _ _ _ _ (parts _ _ _ _ h).0).1 in cc)

-- the statements of threads begin with what ends a body
pub threads_end : (threads : List ThreadText) → Ends (threads_spelling threads)
threads_end [] = tt
threads_end (t ∷ ts) = tt

-- statements spell one list of threads at most
pub threads_unique : (ts us : List ThreadText) → threads_spelling ts ≡ threads_spelling us → ts ≡ us
threads_unique [] [] h = refl
threads_unique [] (u ∷ us) h = absurd (cc)
threads_unique (t ∷ ts) [] h = absurd (cc)
threads_unique (t ∷ ts) (u ∷ us) h =
    let p = parts _ _ _ _ h in
    let s = lines_equal t.line u.line (Thread t.name) (Thread u.name) p.0 in
    let name : t.name ≡ u.name = (let z = s.1 in cc) in
    let b = unique t.body u.body (threads_spelling ts) (threads_spelling us) (threads_end ts) (threads_end us) p.1 in
    let rest = threads_unique ts us b.1 in
    λ j. record { line = s.0 j; name = name j; body = b.0 j } ∷ rest j
