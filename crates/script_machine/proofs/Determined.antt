-- The threads that step determine a run.
use Rattle.std.proofs.Common.{◌≡◌, List, [], ◌∷◌, map, Some, refl, sym, ap, ◌∙◌, subst}
use Rattle.script_machine.specs.Machine.{Script, State, Taken, Step, Run, after, brings, op_of}

-- equal lists have equal parts
pub parts : {X : Type 0} (x y : X) (xs ys : List X) → x ∷ xs ≡ y ∷ ys → (x ≡ y) × (xs ≡ ys)
parts x y xs ys h = (cc, cc)

-- equal options have equal values
same_some : {X : Type 0} (x y : X) → Some x ≡ Some y → x ≡ y
same_some x y h = cc

-- one step of a thread from a state
pub step_unique : (script : Script) (s m n : State) (a b : Taken) → Step script s a m → Step script s b n → a.event.thread ≡ b.event.thread → (a ≡ b) × (m ≡ n)
step_unique script s m n a b x y thread =
    let p = parts x.line y.line x.rest y.rest (sym x.next ∙ ap (λ t. (s.thread t).left) thread ∙ y.next) in
    let op : a.event.op ≡ b.event.op = same_some _ _ (sym x.op ∙ ap (λ l. op_of l.instruction) p.0 ∙ y.op) in
    let loc : a.event.loc ≡ b.event.loc = x.loc ∙ ap (λ l. l.number) p.0 ∙ sym y.loc in
    let brought : a.brought ≡ b.brought = x.brought ∙ (λ i. brings s (thread i) (p.0 i).instruction) ∙ sym y.brought in (
      (λ i. record { event = record { thread = thread i; op = op i; loc = loc i }; brought = brought i }),
      x.new ∙ (λ i. after s (thread i) (op i) (brought i) (p.1 i)) ∙ sym y.new,
    )

-- runs from one state whose steps are of the same threads are one
pub run_unique : (script : Script) (xs ys : List Taken) (s z m n : State) → s ≡ z → Run script s xs m → Run script z ys n → map (λ t. t.event.thread) xs ≡ map (λ t. t.event.thread) ys → (xs ≡ ys) × (m ≡ n)
run_unique script [] [] s z m n e x y h = (refl, sym x ∙ e ∙ y)
run_unique script [] (b ∷ ys) s z m n e x y h = absurd (cc)
run_unique script (a ∷ xs) [] s z m n e x y h = absurd (cc)
run_unique script (a ∷ xs) (b ∷ ys) s z m n e (mid, first, more) (mid', first', more') h =
    let p = parts _ _ _ _ h in
    let one = step_unique script s mid mid' a b first (subst (λ w. Step script w b mid') (sym e) first') p.0 in
    let rest = run_unique script xs ys mid mid' m n one.1 more more' p.1 in
    ((λ i. one.0 i ∷ rest.0 i), rest.1)
