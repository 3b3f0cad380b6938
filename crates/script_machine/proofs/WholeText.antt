-- What the passes over a text add up to.
use Rattle.std.specs.Prelude.{find, sum_by, count_by, nat_le, ◌&&◌}
use Rattle.std.proofs.Common.{◌≡◌, ℕ, ◌<◌, ◌≤◌, inl, inr, List, [], ◌∷◌, length, map, fold, replicate, filter_map, Option, Some, None, refl, sym, ap, ◌∙◌, subst, arith}
use Rattle.std.proofs.lemmas.List.{length-map}
use Rattle.sp_base.specs.declared.limits.TheConstants.{MAX_INSTRUCTIONS, MAX_THREADS}
use Rattle.script_machine.specs.Line.{Line}
use Rattle.script_machine.specs.declared.tables.Block.{Block}
use Rattle.script_machine.specs.declared.fault.ScriptFault.{ScriptFault as Fault}
use Rattle.script_machine.specs.declared.fault.ScriptKind.TheVariants.{ForkedTwice}
use Rattle.script_machine.specs.Machine.{Script, forks}
use Rattle.script_machine.specs.BodyAt.{made_of}
use Rattle.script_machine.specs.ScriptText.{Numbered, Tables, tables_of, Statement, Act, Fork, ThreadText, threads_spelling, Scripts, FirstFault, IsClean, lines_of, statements_of, open_blocks, open_fault, unknown_fault, names_of, number_in, fault_on, other_name, names_in, thread_name, lock_name, variable_name, end_fault, or_else, size_fault, forked_fault, flattened, is_second_fork}
use Rattle.script_machine.specs.ResolvedLine.{ResolvedLine}
use Rattle.script_machine.specs.Resolving.{AreResolved, unknown_in}
use Rattle.script_machine.specs.declared.forks.ForkLines.{ForkLines}
use Rattle.script_machine.specs.ForkTable.{no_forks, reaches, lines_for, with_forks, second_fork}
use Rattle.script_machine.proofs.OneFork.{Among}
use Rattle.script_machine.proofs.Formed.{thread_lines}
use Rattle.script_machine.proofs.ForkLemmas.{table_tells, second_there as by_table}
use Rattle.script_machine.proofs.KnownNames.{other_low}
use Rattle.script_machine.proofs.Nesting.{clean_spells}
use Rattle.script_machine.proofs.ThreadsRead.{flats}
use Rattle.script_machine.proofs.Limits.{limits, few_threads, sum_within}

-- no block is open, and no thread is unknown
abbrev pub NoOpen : Tables → Type 0
NoOpen names = None ≡ open_fault names.blocks

-- the first fork of a thread that the bodies up to its line fork twice
abbrev pub second_in : Tables → List (List Line) → List Numbered → Option Fault
second_in names B S = fault_on ForkedTwice (find (λ s. is_second_fork (made_of B) names.threads s.line s.says) S)

-- the sizes and the bodies, as the code answers them
abbrev pub Sized : Tables → List Numbered → Option Fault → Type 0
Sized names S o = (threads : List ThreadText) → S ≡ threads_spelling threads → o ≡ size_fault 0 threads (map (λ t. flattened names t.body) threads)

-- the bodies, as the code answers them
abbrev pub Written : Tables → List Numbered → List (List Line) → Type 0
Written names S B = (threads : List ThreadText) → S ≡ threads_spelling threads → size_fault 0 threads (map (λ t. flattened names t.body) threads) ≡ None → B ≡ map (λ t. flattened names t.body) threads

-- there are as many bodies as names of threads, within the limit, and so is the size
pub record Bounds (names : Tables) (B : List (List Line)) : Type 0 where
  pub threads : length B ≤ MAX_THREADS
  pub size : sum_by length B ≤ MAX_INSTRUCTIONS
  pub named : length names.threads ≡ length B

-- no block is open where none has a fault
closed : (bs : List Block) → open_fault bs ≡ None → bs ≡ []
closed [] h = refl
closed (b ∷ bs) h = absurd (cc)

-- whether a fork is a second one depends on the bodies alone
second_same : (a b : Script) → a.bodies ≡ b.bodies → (threads : List (List ℕ)) (line : ℕ) (says : Statement) → is_second_fork a threads line says ≡ is_second_fork b threads line says
second_same a b e threads line (Act (Fork name)) =
    ap (λ bs. nat_le 2 (sum_by (λ body. count_by (λ l. forks (Rattle.script_machine.specs.ScriptText.number_in threads name) l.instruction && nat_le l.number line) body) bs)) e
second_same a b e threads line other = refl

module _ (text : List ℕ) (names : Tables) (clean : IsClean text) (tabs : names ≡ tables_of (statements_of (lines_of text))) where
  -- no block of the text is open
  no_open : NoOpen names → open_fault (open_blocks (statements_of (lines_of text))) ≡ None
  no_open opens = sym (opens ∙ ap (λ t. open_fault t.blocks) tabs)

  -- the unknown thread of the code is that of the text
  unknown_same : (S : List Numbered) → S ≡ statements_of (lines_of text) → unknown_in names S ≡ unknown_fault (statements_of (lines_of text))
  unknown_same S spelled = ap (λ t. unknown_in t S) tabs ∙ ap (unknown_in (tables_of (statements_of (lines_of text)))) spelled

  -- the text has no fault at its end that needs no body
  pub ends_none : (S : List Numbered) → S ≡ statements_of (lines_of text) → NoOpen names → None ≡ unknown_in names S → end_fault (statements_of (lines_of text)) ≡ None
  ends_none S spelled opens unknown = ap (λ o. or_else o (unknown_fault (statements_of (lines_of text)))) (no_open opens) ∙ sym (unknown ∙ unknown_same S spelled)

  -- an open block is the first fault
  pub open_first : (f : Fault) → Some f ≡ open_fault names.blocks → FirstFault text f
  open_first f opens = inr (inl (record { clean = clean; here = ap (λ o. or_else o (unknown_fault (statements_of (lines_of text)))) (sym (opens ∙ ap (λ t. open_fault t.blocks) tabs)) }))

  -- an unknown thread is the first fault
  pub unknown_first : (S : List Numbered) → S ≡ statements_of (lines_of text) → NoOpen names → (f : Fault) → Some f ≡ unknown_in names S → FirstFault text f
  unknown_first S spelled opens f unknown =
      inr (inl (record { clean = clean; here = ap (λ o. or_else o (unknown_fault (statements_of (lines_of text)))) (no_open opens) ∙ sym (unknown ∙ unknown_same S spelled) }))

  -- the text spells threads
  threads_there : NoOpen names → (threads : List ThreadText) × (statements_of (lines_of text) ≡ threads_spelling threads)
  threads_there opens = clean_spells text clean (closed (open_blocks (statements_of (lines_of text))) (no_open opens))

  -- the script of these threads
  abbrev script_for : List ThreadText → Script
  script_for threads = record {
    bodies = map (λ t. flattened (tables_of (statements_of (lines_of text))) t.body) threads;
    locks = length (names_in lock_name (statements_of (lines_of text)));
    variables = length (names_in variable_name (statements_of (lines_of text)));
    names = names_of (statements_of (lines_of text));
  }

  -- the bodies of the code are those of the text
  flats_same : (threads : List ThreadText) → flats names threads ≡ (script_for threads).bodies
  flats_same threads = ap (λ t. flats t threads) tabs

  -- a size that passes the limit is the first fault
  pub size_first : (S : List Numbered) → S ≡ statements_of (lines_of text) → NoOpen names → end_fault (statements_of (lines_of text)) ≡ None → (f : Fault) → Sized names S (Some f) → FirstFault text f
  size_first S spelled opens ends f sized =
      let (threads, is) = threads_there opens in
      let here = sized threads (spelled ∙ is) ∙ ap (size_fault 0 threads) (flats_same threads) in
      inr (inr (record {
        clean = clean;
        ends = ends;
        threads = threads;
        script = script_for threads;
        spells = record { spelled = is; bodies = refl; locks = refl; variables = refl; names = refl };
        here = ap (λ o. or_else o (forked_fault (script_for threads) (statements_of (lines_of text)))) (sym here);
      }))

  -- the second fork of the code is that of the text
  second_there : (threads : List ThreadText) (B : List (List Line)) (script : Script) (S : List Numbered) → S ≡ statements_of (lines_of text) → B ≡ script.bodies → second_in names B S ≡ forked_fault script (statements_of (lines_of text))
  second_there threads B script S spelled same =
      ap (λ t. second_in t B S) tabs
      ∙ (ap (second_in (tables_of (statements_of (lines_of text))) B) spelled
      ∙ ap (λ p. fault_on ForkedTwice (find p (statements_of (lines_of text)))) (λ i s. second_same (made_of B) script same (names_in thread_name (statements_of (lines_of text))) s.line s.says i))

  -- a thread that is forked twice is the first fault
  pub forked_first : (S : List Numbered) → S ≡ statements_of (lines_of text) → NoOpen names → end_fault (statements_of (lines_of text)) ≡ None
      → Sized names S None → (B : List (List Line)) → Written names S B → (f : Fault) → Some f ≡ second_in names B S → FirstFault text f
  forked_first S spelled opens ends sized B written f second =
      let (threads, is) = threads_there opens in
      let none = sized threads (spelled ∙ is) in
      let bodies = written threads (spelled ∙ is) (sym none) ∙ flats_same threads in
      let size_none = none ∙ ap (size_fault 0 threads) (flats_same threads) in
      inr (inr (record {
        clean = clean;
        ends = ends;
        threads = threads;
        script = script_for threads;
        spells = record { spelled = is; bodies = refl; locks = refl; variables = refl; names = refl };
        here = ap (λ o. or_else o (forked_fault (script_for threads) (statements_of (lines_of text)))) (sym size_none) ∙ sym (second ∙ second_there threads B (script_for threads) S spelled bodies);
      }))

  -- without a fault this is the script of the text
  pub all_right : (S : List Numbered) → S ≡ statements_of (lines_of text) → NoOpen names → end_fault (statements_of (lines_of text)) ≡ None
      → Sized names S None → (B : List (List Line)) → Written names S B → None ≡ second_in names B S → (script : Script) → script.bodies ≡ B
      → script.names ≡ record { threads = names.threads; locks = names.locks; vars = names.variables } → script.locks ≡ length script.names.locks → script.variables ≡ length script.names.vars → Scripts text script
  all_right S spelled opens ends sized B written second script same named locks variables =
      let (threads, is) = threads_there opens in
      let none = sized threads (spelled ∙ is) in
      let bodies = same ∙ (written threads (spelled ∙ is) (sym none) ∙ flats_same threads) in
      let size_none = none ∙ (ap (size_fault 0 threads) (flats_same threads) ∙ ap (size_fault 0 threads) (sym bodies)) in
      let names_are : script.names ≡ names_of (statements_of (lines_of text)) = named ∙ ap (λ t. record { threads = t.threads; locks = t.locks; vars = t.variables }) tabs in
      record {
        clean = clean;
        threads = threads;
        spells = record { spelled = is; bodies = bodies; locks = locks ∙ ap (λ n. length n.locks) names_are; variables = variables ∙ ap (λ n. length n.vars) names_are; names = names_are };
        ends = ends;
        flat = ap (λ o. or_else o (forked_fault script (statements_of (lines_of text)))) (sym size_none) ∙ sym (second ∙ second_there threads B script S spelled (sym same));
      }

  -- the first fork that the table finds is that of the bodies
  pub second_by : (S : List Numbered) → S ≡ statements_of (lines_of text) → unknown_in names S ≡ None → (B : List (List Line)) (table : List ForkLines) (steps : List ResolvedLine) → AreResolved names S steps
      → table ≡ fold with_forks (replicate MAX_THREADS no_forks) B → second_fork table steps ≡ second_in names B S
  second_by S spelled unknown B table steps is made =
      ap (second_fork table) is
      ∙ by_table names table (made_of B) S (λ t limit less. ap (λ tb. reaches (lines_for tb t).second limit) made ∙ sym ((table_tells B t less).two limit))
      (λ s name a e. subst (λ t. number_in t.threads name < MAX_THREADS) (sym tabs)
      (other_low (statements_of (lines_of text)) s name (subst (λ xs. Among xs s) spelled a) (sym (unknown_same S spelled) ∙ unknown) (limits text clean).threads (ap other_name e)))

  -- the bounds on what was read
  pub bounds : (S : List Numbered) → S ≡ statements_of (lines_of text) → NoOpen names → Sized names S None → (B : List (List Line)) → Written names S B → Bounds names B
  bounds S spelled opens sized B written =
      let (threads, is) = threads_there opens in
      let none = sized threads (spelled ∙ is) in
      let bodies = written threads (spelled ∙ is) (sym none) in
      let few = few_threads text clean threads is in
      let count = ap length bodies ∙ length-map threads (λ t. flattened names t.body) in
      let sum = sum_within names 0 threads (omega arith) (sym none) in
      let total = ap (sum_by length) bodies in
      let named = (limits text clean).named in
      let lines = ap (λ xs. length (filter_map (λ s. thread_name s.says) xs)) is in
      let ones = thread_lines threads in
      let same : length names.threads ≡ length (tables_of (statements_of (lines_of text))).threads = ap (λ t. length t.threads) tabs in
      record {
        threads = omega (arith, few, count);
        size = omega (arith, sum, total);
        named = omega (arith, named, lines, ones, same, count);
      }
