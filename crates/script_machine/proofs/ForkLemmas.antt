-- What the two smallest lines of a thread's forks tell of its forks up to a line.
use Rattle.std.specs.Prelude.{◌&&◌, ◌||◌, nat_le, count_by, is_some, find}
use Rattle.std.specs.List.{list_any}
use Rattle.std.proofs.Common.{◌≡◌, ℕ, zero, suc, ◌+◌, ◌<◌, ◌≤◌, Bool, true, false, cond, inl, inr, List, [], ◌∷◌, length, map, set, get_or, replicate, fold, sum_by, Option, Some, None, refl, sym, ap, ◌∙◌, subst, get_or-set_same, get_or-set_other, length-set, le-leb, eq-eqb, ne_eqb, add_assoc, arith}
use Rattle.std.proofs.lemmas.List.Sums.{sum_by-cons}
use Rattle.std.proofs.lemmas.Bool.{cases_Bool, cases_eq, lt-leb, leb-true, leb-false}
use Rattle.std.proofs.lemmas.List.{length-replicate}
use Rattle.sp_base.specs.declared.limits.TheConstants.{MAX_THREADS}
use Rattle.trace_laws.specs.declared.event.Op.TheVariants as op
use Rattle.script_machine.specs.Line.{Line}
use Rattle.script_machine.specs.declared.instruction.Instruction.{Instruction}
use Rattle.script_machine.specs.declared.instruction.Instruction.TheVariants as instruction
use Rattle.script_machine.specs.declared.forks.ForkLines.{ForkLines}
use Rattle.script_machine.specs.declared.fault.ScriptKind.TheVariants.{ForkedTwice}
use Rattle.script_machine.specs.Machine.{Script, forks, is_forked}
use Rattle.script_machine.specs.BodyAt.{made_of}
use Rattle.script_machine.specs.ForkTable.{no_forks, reaches, lesser, noted, lines_for, forked_by, with_fork, with_forks, is_second, second_fork}
use Rattle.script_machine.specs.Resolving.{resolved_of, resolved_line}
use Rattle.script_machine.proofs.OneFork.{Among, count_cons}
use Rattle.script_machine.specs.ScriptText.{Numbered, Tables, Statement, Thread, Act, If, Repeat, Else, End, Lock, Unlock, Read, Write, Fork, Join, WriteNumber, Add, number_in, is_second_fork, fault_on, forks_up_to}

-- the entry tells how many forks there are up to each line, and whether there is one
pub record Tells (e : ForkLines) (count : ℕ → ℕ) (some : Bool) : Type 0 where
  pub one : (limit : ℕ) → nat_le 1 (count limit) ≡ reaches e.first limit
  pub two : (limit : ℕ) → nat_le 2 (count limit) ≡ reaches e.second limit
  pub any : is_some e.first ≡ some

-- what is reached stays reached further on
reach_on : (o : Option ℕ) (a b : ℕ) → a ≤ b → reaches o a ≡ true → reaches o b ≡ true
reach_on None a b h t = absurd (cc)
reach_on (Some n) a b h t = let m = leb-true n a t in le-leb n b (omega arith)

-- what is not reached is not reached before
reach_back : (o : Option ℕ) (a b : ℕ) → a ≤ b → reaches o b ≡ false → reaches o a ≡ false
reach_back o a b h f = elim (cases_Bool (reaches o a)) [
  | inl t ↦ absurd (let t' = reach_on o a b h t in let clash : true ≡ false = sym t' ∙ f in cc)
  | inr t ↦ t
]

-- what is reached is there
reached_some : (o : Option ℕ) (a : ℕ) → reaches o a ≡ true → is_some o ≡ true
reached_some None a t = absurd (cc)
reached_some (Some n) a t = refl

-- the lesser of two is reached where the second is
lesser_low : (o : Option ℕ) (n limit : ℕ) → n ≤ limit → nat_le (lesser o n) limit ≡ true
lesser_low None n limit h = le-leb n limit h
lesser_low (Some m) n limit h = elim (cases_Bool (nat_le m n)) [
  | inl t ↦ rw t (let l = leb-true m n t in le-leb m limit (omega arith))
  | inr f ↦ rw f (le-leb n limit h)
]

-- where the second is not, it is as the first
lesser_high : (o : Option ℕ) (n limit : ℕ) → limit < n → nat_le (lesser o n) limit ≡ reaches o limit
lesser_high None n limit h = lt-leb n limit h
lesser_high (Some m) n limit h = elim (cases_Bool (nat_le m n)) [
  | inl t ↦ rw t refl
  | inr f ↦ rw f (lt-leb n limit h ∙ sym (lt-leb m limit (let l = leb-false m n f in omega arith)))
]

-- the count with one more at line n
abbrev plus_one : (ℕ → ℕ) → ℕ → ℕ → ℕ
plus_one count n limit = count limit + cond (nat_le n limit) 1 0

-- one more makes two of one
two_of_more : (k : ℕ) → nat_le 2 (k + 1) ≡ nat_le 1 k
two_of_more zero = refl
two_of_more (suc k) = le-leb 2 (suc k + 1) (omega arith) ∙ sym (le-leb 1 (suc k) (omega arith))

-- where there is not one, there are not two
two_of_none : (k : ℕ) → nat_le 1 k ≡ false → nat_le 2 k ≡ false
two_of_none k f = lt-leb 2 k (let l = leb-false 1 k f in omega arith)

-- one more makes at least one
one_of_more : (k : ℕ) → nat_le 1 (k + 1) ≡ true
one_of_more k = le-leb 1 (k + 1) (omega arith)

-- nothing more changes no count
same_count : (k : ℕ) → k + 0 ≡ k
same_count k = omega arith

-- one more fork
note_tells : (e : ForkLines) (count : ℕ → ℕ) (some : Bool) (n : ℕ) → Tells e count some → Tells (noted e n) (plus_one count n) true
note_tells e count some n t = go (reaches e.first n) refl
  where
    -- past the limit
    past : (limit : ℕ) → nat_le n limit ≡ false → plus_one count n limit ≡ count limit
    past limit f = rw f (same_count (count limit))

    here : (limit : ℕ) → nat_le n limit ≡ true → plus_one count n limit ≡ count limit + 1
    here limit f = rw f refl

    go : (b : Bool) → reaches e.first n ≡ b → Tells (noted e n) (plus_one count n) true
    go true r = rw r (record {
      one = λ limit. elim (cases_Bool (nat_le n limit)) [
        | inl l ↦ ap (nat_le 1) (here limit l) ∙ one_of_more (count limit) ∙ sym (reach_on e.first n limit (leb-true n limit l) r)
        | inr l ↦ ap (nat_le 1) (past limit l) ∙ t.one limit
      ];
      two = λ limit. elim (cases_Bool (nat_le n limit)) [
        | inl l ↦ ap (nat_le 2) (here limit l) ∙ two_of_more (count limit) ∙ t.one limit ∙ reach_on e.first n limit (leb-true n limit l) r ∙ sym (lesser_low e.second n limit (leb-true n limit l))
        | inr l ↦ ap (nat_le 2) (past limit l) ∙ t.two limit ∙ sym (lesser_high e.second n limit (leb-false n limit l))
      ];
      any = reached_some e.first n r;
    })
    go false r = rw r (record {
      one = λ limit. elim (cases_Bool (nat_le n limit)) [
        | inl l ↦ ap (nat_le 1) (here limit l) ∙ one_of_more (count limit) ∙ sym l
        | inr l ↦ ap (nat_le 1) (past limit l) ∙ t.one limit ∙ reach_back e.first limit n (let m = leb-false n limit l in omega arith) r ∙ sym l
      ];
      two = λ limit. elim (cases_Bool (nat_le n limit)) [
        | inl l ↦ ap (nat_le 2) (here limit l) ∙ two_of_more (count limit) ∙ t.one limit
        | inr l ↦
            (let none = t.one limit ∙ reach_back e.first limit n (let m = leb-false n limit l in omega arith) r in
            ap (nat_le 2) (past limit l) ∙ two_of_none (count limit) none ∙ sym (sym (t.one limit) ∙ none))
      ];
      any = refl;
    })

-- the same told of counts that are equal
tells_same : (e : ForkLines) (count count' : ℕ → ℕ) (some some' : Bool) → ((limit : ℕ) → count' limit ≡ count limit) → some' ≡ some → Tells e count some → Tells e count' some'
tells_same e count count' some some' same is t = record {
  one = λ limit. ap (nat_le 1) (same limit) ∙ t.one limit;
  two = λ limit. ap (nat_le 2) (same limit) ∙ t.two limit;
  any = t.any ∙ sym is;
}

-- a test or true is true
or_right : (b : Bool) → (b || true) ≡ true
or_right true = refl
or_right false = refl

-- a test or false is the test
or_none : (b : Bool) → (b || false) ≡ b
or_none true = refl
or_none false = refl

-- a fork does not change how many entries there are
length_fork : (table : List ForkLines) (o : Option ℕ) (n : ℕ) → length (with_fork table o n) ≡ length table
length_fork table None n = refl
length_fork table (Some u) n = length-set table u _

-- what an instruction that may fork adds to the entry of a thread
fork_tells : (table : List ForkLines) (t : ℕ) (count : ℕ → ℕ) (some : Bool) (i : Instruction) (n : ℕ) → t < length table → Tells (lines_for table t) count some
    → Tells (lines_for (with_fork table (forked_by i) n) t) (λ limit. count limit + cond (forks t i && nat_le n limit) 1 0) (some || forks t i)
fork_tells table t count some (instruction.Do (op.Fork u)) n less told = elim (cases_eq u t) [
  | inl same ↦
      (let here : get_or (set table t (noted (lines_for table t) n)) t no_forks ≡ noted (lines_for table t) n = get_or-set_same table t (noted (lines_for table t) n) no_forks less in
      let entry : lines_for (with_fork table (Some u) n) t ≡ noted (lines_for table t) n = subst (λ v. get_or (set table v (noted (lines_for table v) n)) t no_forks ≡ noted (lines_for table t) n) (sym same) here in
      let is : forks t (instruction.Do (op.Fork u)) ≡ true = eq-eqb u t same in
      subst (λ e. Tells e (λ limit. count limit + cond (forks t (instruction.Do (op.Fork u)) && nat_le n limit) 1 0) (some || forks t (instruction.Do (op.Fork u)))) (sym entry)
      (tells_same (noted (lines_for table t) n) (plus_one count n) _ true _ (λ limit. ap (λ b. count limit + cond (b && nat_le n limit) 1 0) is) (ap (λ b. some || b) is ∙ or_right some)
      (note_tells (lines_for table t) count some n told)))
  | inr other ↦
      (let entry : lines_for (with_fork table (Some u) n) t ≡ lines_for table t = get_or-set_other table u t (noted (lines_for table u) n) no_forks (λ e. other (sym e)) in
      let is : forks t (instruction.Do (op.Fork u)) ≡ false = ne_eqb u t other in
      subst (λ e. Tells e (λ limit. count limit + cond (forks t (instruction.Do (op.Fork u)) && nat_le n limit) 1 0) (some || forks t (instruction.Do (op.Fork u)))) (sym entry)
      (tells_same (lines_for table t) count _ some _ (λ limit. ap (λ b. count limit + cond (b && nat_le n limit) 1 0) is ∙ same_count (count limit)) (ap (λ b. some || b) is ∙ or_none some) told))
]
fork_tells table t count some (instruction.Do (op.Read x)) n less told = tells_same (lines_for table t) count _ some _ (λ limit. same_count (count limit)) (or_none some) told
fork_tells table t count some (instruction.Do (op.Write x)) n less told = tells_same (lines_for table t) count _ some _ (λ limit. same_count (count limit)) (or_none some) told
fork_tells table t count some (instruction.Do (op.Acquire l)) n less told = tells_same (lines_for table t) count _ some _ (λ limit. same_count (count limit)) (or_none some) told
fork_tells table t count some (instruction.Do (op.Release l)) n less told = tells_same (lines_for table t) count _ some _ (λ limit. same_count (count limit)) (or_none some) told
fork_tells table t count some (instruction.Do (op.Join u)) n less told = tells_same (lines_for table t) count _ some _ (λ limit. same_count (count limit)) (or_none some) told
fork_tells table t count some (instruction.WriteNumber x m) n less told = tells_same (lines_for table t) count _ some _ (λ limit. same_count (count limit)) (or_none some) told
fork_tells table t count some (instruction.Add m) n less told = tells_same (lines_for table t) count _ some _ (λ limit. same_count (count limit)) (or_none some) told
fork_tells table t count some (instruction.If m k) n less told = tells_same (lines_for table t) count _ some _ (λ limit. same_count (count limit)) (or_none some) told
fork_tells table t count some (instruction.Jump k) n less told = tells_same (lines_for table t) count _ some _ (λ limit. same_count (count limit)) (or_none some) told

-- tests may be joined in either order
or_join : (a b c : Bool) → (a || (b || c)) ≡ ((a || b) || c)
or_join true b c = refl
or_join false b c = refl

-- the instructions of a body
body_tells : (lines : List Line) (table : List ForkLines) (t : ℕ) (count : ℕ → ℕ) (some : Bool) → t < length table → Tells (lines_for table t) count some
    → Tells (lines_for (with_forks table lines) t) (λ limit. count limit + count_by (λ l. forks t l.instruction && nat_le l.number limit) lines) (some || list_any (λ l. forks t l.instruction) lines)
body_tells [] table t count some less told = tells_same (lines_for table t) count _ some _ (λ limit. same_count (count limit)) (or_none some) told
body_tells (x ∷ xs) table t count some less told =
    let next = fork_tells table t count some x.instruction x.number less told in
    let more = body_tells xs (with_fork table (forked_by x.instruction) x.number) t _ _ (omega (arith, length_fork table (forked_by x.instruction) x.number, less)) next in
    tells_same (lines_for (with_forks table (x ∷ xs)) t) _ _ _ _
    (λ limit. (let c = count_cons (λ l. forks t l.instruction && nat_le l.number limit) x xs in
    ap (λ k. count limit + k) c ∙ sym (add_assoc (count limit) (cond (forks t x.instruction && nat_le x.number limit) 1 0) (count_by (λ l. forks t l.instruction && nat_le l.number limit) xs))))
    (or_join some (forks t x.instruction) (list_any (λ l. forks t l.instruction) xs)) more

-- nor do the forks of a body
length_body : (lines : List Line) (table : List ForkLines) → length (with_forks table lines) ≡ length table
length_body [] table = refl
length_body (x ∷ xs) table = length_body xs (with_fork table (forked_by x.instruction) x.number) ∙ length_fork table (forked_by x.instruction) x.number

-- all bodies
bodies_tell : (bodies : List (List Line)) (table : List ForkLines) (t : ℕ) (count : ℕ → ℕ) (some : Bool) → t < length table → Tells (lines_for table t) count some
    → Tells (lines_for (fold with_forks table bodies) t) (λ limit. count limit + sum_by (count_by (λ l. forks t l.instruction && nat_le l.number limit)) bodies)
    (some || list_any (λ lines. list_any (λ l. forks t l.instruction) lines) bodies)
bodies_tell [] table t count some less told = tells_same (lines_for table t) count _ some _ (λ limit. same_count (count limit)) (or_none some) told
bodies_tell (b ∷ bs) table t count some less told =
    let next = body_tells b table t count some less told in
    let more = bodies_tell bs (with_forks table b) t _ _ (omega (arith, length_body b table, less)) next in
    tells_same (lines_for (fold with_forks table (b ∷ bs)) t) _ _ _ _
    (λ limit. (let c = sum_by-cons (count_by (λ l. forks t l.instruction && nat_le l.number limit)) b bs in
    ap (λ k. count limit + k) c ∙ sym (add_assoc (count limit) (count_by (λ l. forks t l.instruction && nat_le l.number limit) b) (sum_by (count_by (λ l. forks t l.instruction && nat_le l.number limit)) bs))))
    (or_join some (list_any (λ l. forks t l.instruction) b) (list_any (λ lines. list_any (λ l. forks t l.instruction) lines) bs)) more

-- each entry at the start has no forks
none_at : (n t : ℕ) → get_or (replicate n no_forks) t no_forks ≡ no_forks
none_at zero t = refl
none_at (suc n) zero = refl
none_at (suc n) (suc t) = none_at n t

-- at the start there are no forks
none_told : (n t : ℕ) → Tells (lines_for (replicate n no_forks) t) (λ limit. 0) false
none_told n t = subst (λ e. Tells e (λ limit. 0) false) (sym (none_at n t)) (record { one = λ limit. refl; two = λ limit. refl; any = refl })

-- the table of the bodies tells of each thread
pub table_tells : (bodies : List (List Line)) (t : ℕ) → t < MAX_THREADS
    → Tells (lines_for (fold with_forks (replicate MAX_THREADS no_forks) bodies) t) (λ limit. forks_up_to (made_of bodies) t limit) (is_forked (made_of bodies) t)
table_tells bodies t less =
    let told = bodies_tell bodies (replicate MAX_THREADS no_forks) t (λ limit. 0) false (omega (arith, length-replicate MAX_THREADS no_forks)) (none_told MAX_THREADS t) in
    tells_same (lines_for (fold with_forks (replicate MAX_THREADS no_forks) bodies) t) _ _ _ _ (λ limit. (let z : forks_up_to (made_of bodies) t limit ≡ 0 + forks_up_to (made_of bodies) t limit = omega arith in z)) refl told

-- a statement that forks a thread, by the table and by the bodies
second_same : (names : Tables) (table : List ForkLines) (script : Script) (line : ℕ) (says : Statement)
    → ((name : List ℕ) → says ≡ Act (Fork name) → reaches (lines_for table (number_in names.threads name)).second line ≡ nat_le 2 (forks_up_to script (number_in names.threads name) line))
    → is_second table line (resolved_of names says) ≡ is_second_fork script names.threads line says
second_same names table script line (Act (Fork name)) told = told name refl
second_same names table script line (Act (Lock name)) told = refl
second_same names table script line (Act (Unlock name)) told = refl
second_same names table script line (Act (Read name)) told = refl
second_same names table script line (Act (Write name)) told = refl
second_same names table script line (Act (WriteNumber name n)) told = refl
second_same names table script line (Act (Add n)) told = refl
second_same names table script line (Act (Join name)) told = refl
second_same names table script line (Thread name) told = refl
second_same names table script line (If n) told = refl
second_same names table script line (Repeat n) told = refl
second_same names table script line Else told = refl
second_same names table script line End told = refl

-- the first second fork, by the table and by the bodies
pub second_there : (names : Tables) (table : List ForkLines) (script : Script) (S : List Numbered)
    → ((t limit : ℕ) → t < MAX_THREADS → reaches (lines_for table t).second limit ≡ nat_le 2 (forks_up_to script t limit))
    → ((s : Numbered) (name : List ℕ) → Among S s → s.says ≡ Act (Fork name) → number_in names.threads name < MAX_THREADS)
    → second_fork table (map (resolved_line names) S) ≡ fault_on ForkedTwice (find (λ s. is_second_fork script names.threads s.line s.says) S)
second_there names table script [] told low = refl
second_there names table script (x ∷ xs) told low =
    go (is_second_fork script names.threads x.line x.says) refl
    (second_there names table script xs told (λ s name a e. low s name (suc a.0, a.1) e))
  where
    here : is_second table x.line (resolved_of names x.says) ≡ is_second_fork script names.threads x.line x.says
    here = second_same names table script x.line x.says (λ name e. told (number_in names.threads name) x.line (low x name (0, refl) e))

    go : (b : Bool) → is_second_fork script names.threads x.line x.says ≡ b
        → second_fork table (map (resolved_line names) xs) ≡ fault_on ForkedTwice (find (λ s. is_second_fork script names.threads s.line s.says) xs)
        → second_fork table (map (resolved_line names) (x ∷ xs)) ≡ fault_on ForkedTwice (find (λ s. is_second_fork script names.threads s.line s.says) (x ∷ xs))
    go true t ih = rw (here, t) refl
    go false t ih = rw (here, t) ih
