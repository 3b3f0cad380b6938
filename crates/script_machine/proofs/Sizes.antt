-- A run has at most as many events as the script has instructions.
use Rattle.std.specs.Option.{unwrap_or}
use Rattle.std.proofs.Common.{◌≡◌, ℕ, zero, suc, ◌+◌, ◌<◌, ◌≤◌, inl, inr, List, [], ◌∷◌, length, slice_get, sum_by, refl, sym, ap, ◌∙◌, subst, arith}
use Rattle.std.proofs.lemmas.List.Sums.{sum_by-cons}
use Rattle.std.proofs.lemmas.Bool.{cases_eq, cases_lt}
use Rattle.script_machine.specs.Line.{Line}
use Rattle.script_machine.specs.Machine.{Script, State, Taken, Step, Run, body, settled, start, size_of}
use Rattle.script_machine.proofs.Steps.{thread_same, thread_other}
use Rattle.script_machine.proofs.Settled.{settled_short}

-- the sum of f below n
abbrev pub total : ℕ → (ℕ → ℕ) → ℕ
total zero f = 0
total (suc n) f = total n f + f n

-- equal terms have equal sums
total_same : (n : ℕ) (f g : ℕ → ℕ) → ((u : ℕ) → u < n → g u ≡ f u) → total n g ≡ total n f
total_same zero f g h = refl
total_same (suc n) f g h =
    let a : total n g ≡ total n f = total_same n f g (λ u l. h u (omega arith)) in
    let b : g n ≡ f n = h n (omega arith) in
    omega arith

-- terms that are no greater have no greater sum
total_le : (n : ℕ) (f g : ℕ → ℕ) → ((u : ℕ) → g u ≤ f u) → total n g ≤ total n f
total_le zero f g h = omega arith
total_le (suc n) f g h =
    let a : total n g ≤ total n f = total_le n f g h in
    let b : g n ≤ f n = h n in
    omega arith

-- where one term is less and the others are equal, the sum is less
total_less : (n : ℕ) (f g : ℕ → ℕ) (t : ℕ) → t < n → suc (g t) ≤ f t → ((u : ℕ) → (t ≡ u → ⊥) → g u ≡ f u) → suc (total n g) ≤ total n f
total_less zero f g t h less others = absurd (omega arith)
total_less (suc n) f g t h less others = elim (cases_eq t n) [
  | inl e ↦
      (let a : total n g ≡ total n f = total_same n f g (λ u l. others u (λ e2. omega arith)) in
      let b : suc (g n) ≤ f n = subst (λ k. suc (g k) ≤ f k) e less in
      omega arith)
  | inr ne ↦
      (let a : suc (total n g) ≤ total n f = total_less n f g t (omega arith) less others in
      let b : g n ≡ f n = others n ne in
      omega arith)
]

-- a sum by its first term
total_front : (n : ℕ) (f : ℕ → ℕ) → total (suc n) f ≡ f 0 + total n (λ i. f (suc i))
total_front zero f = omega arith
total_front (suc n) f = let a = total_front n f in omega arith

-- the sizes of the bodies, summed by thread
total_sum : (bodies : List (List Line)) → total (length bodies) (λ t. length (unwrap_or (slice_get bodies t) [])) ≡ sum_by length bodies
total_sum [] = refl
total_sum (b ∷ bs) =
    let a = total_front (length bs) (λ t. length (unwrap_or (slice_get (b ∷ bs) t) [])) in
    let s : total (length bs) (λ t. length (unwrap_or (slice_get bs t) [])) ≡ sum_by length bs = total_sum bs in
    a ∙ ap (λ k. length b + k) s ∙ sym (sum_by-cons length b bs)

-- how many instructions are left to all threads
abbrev pub left_total : Script → State → ℕ
left_total script s = total (length script.bodies) (λ t. length (s.thread t).left)

-- nothing is left past the last thread
abbrev pub NoneOutside : Script → State → Type 0
NoneOutside script s = (t : ℕ) → length script.bodies ≤ t → (s.thread t).left ≡ []

-- the thread of a step is one of the script
pub thread_inside : (script : Script) (s s' : State) (taken : Taken) → NoneOutside script s → Step script s taken s' → taken.event.thread < length script.bodies
thread_inside script s s' taken none step = elim (cases_lt taken.event.thread (length script.bodies)) [
  | inl less ↦ less
  | inr more ↦ absurd (let e : [] ≡ step.line ∷ step.rest = sym (none taken.event.thread more) ∙ step.next in cc)
]

-- nor after a step
pub none_after : (script : Script) (s s' : State) (taken : Taken) → NoneOutside script s → Step script s taken s' → NoneOutside script s'
none_after script s s' taken none step t more =
    let inside = thread_inside script s s' taken none step in
    ap (λ l. l.left) (thread_other script s s' taken step t (λ e. omega arith)) ∙ none t more

-- a step leaves fewer instructions
shortens : (script : Script) (s s' : State) (taken : Taken) → NoneOutside script s → Step script s taken s' → suc (left_total script s') ≤ left_total script s
shortens script s s' taken none step =
    total_less (length script.bodies) (λ t. length (s.thread t).left) (λ t. length (s'.thread t).left) taken.event.thread
    (thread_inside script s s' taken none step)
    (let a : length (s'.thread taken.event.thread).left ≤ length step.rest =
    subst (λ l. length l.left ≤ length step.rest) (sym (thread_same script s s' taken step)) (settled_short 0 step.rest _) in
    let b : length (s.thread taken.event.thread).left ≡ suc (length step.rest) = ap length step.next in
    omega arith)
    (λ u ne. ap (λ l. length l.left) (thread_other script s s' taken step u ne))

-- each event of a run takes an instruction
run_shortens : (script : Script) (takens : List Taken) (s s' : State) → NoneOutside script s → Run script s takens s' → length takens + left_total script s' ≤ left_total script s
run_shortens script [] s s' none run = subst (λ z. 0 + left_total script z ≤ left_total script s) run (omega arith)
run_shortens script (x ∷ xs) s s' none (mid, step, run) =
    let a = run_shortens script xs mid s' (none_after script s mid x none step) run in
    let b = shortens script s mid x none step in
    omega arith

-- past the last thread there is no body
pub no_body : (bodies : List (List Line)) (t : ℕ) → length bodies ≤ t → unwrap_or (slice_get bodies t) [] ≡ []
no_body [] t h = refl
no_body (b ∷ bs) zero h = absurd (omega arith)
no_body (b ∷ bs) (suc t) h = no_body bs t (omega arith)

-- at the start nothing is left past the last thread
pub none_at_start : (script : Script) → NoneOutside script (start script)
none_at_start script t more = ap (λ xs. (settled 0 xs 0).left) (no_body script.bodies t more)

-- a run has at most as many events as there are instructions
pub run_size : (script : Script) (takens : List Taken) (s : State) → Run script (start script) takens s → length takens ≤ size_of script
run_size script takens s run =
    let a = run_shortens script takens (start script) s (none_at_start script) run in
    let b : left_total script (start script) ≤ total (length script.bodies) (λ t. length (body script t)) =
    total_le (length script.bodies) (λ t. length (body script t)) (λ t. length (settled 0 (body script t) 0).left) (λ t. settled_short 0 (body script t) 0) in
    let c : total (length script.bodies) (λ t. length (body script t)) ≡ size_of script = total_sum script.bodies in
    omega arith
