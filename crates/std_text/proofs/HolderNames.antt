-- The name of the thread that holds a lock is among the names, before and after the line that wants the lock.
use Rattle.std.proofs.Common.{◌≡◌, ℕ, ◌<◌, ◌≤◌, Bool, true, false, cond, List, [], ◌∷◌, ◌++◌, length, Some, Err, refl, sym, ap, subst, ◌∙◌, arith, length-append}
use Rattle.std.specs.Prelude.{slice_get, Result}
use Rattle.std.specs.Option.{option_map}
use Rattle.trace_laws.specs.Event.{Event}
use Rattle.trace_laws.specs.declared.event.Op.{Op}
use Rattle.trace_laws.specs.declared.event.Op.TheVariants.{Read, Write, Acquire, Release, Fork, Join}
use Rattle.trace_laws.specs.declared.builder.LawFault.{LawFault}
use Rattle.trace_laws.specs.declared.builder.LawFault.TheVariants as law
use Rattle.trace_laws.specs.Names.{NameLists, is_numbered, with_name}
use Rattle.trace_laws.specs.Trace.{thread_at}
use Rattle.trace_laws.specs.Traces.{AreNamedBelow}
use Rattle.trace_laws.specs.Faults.{Built, HoldsNow, OperationFault, IsRefusedFor}
use Rattle.trace_laws.proofs.Places.{event_of, slice_get-append_left}
use Rattle.std_text.specs.Law.{kind_of}
use Rattle.std_text.specs.declared.fields.Action.{Action}
use Rattle.std_text.specs.declared.fields.Action.TheVariants as action
use Rattle.std_text.specs.Fields.{Parts}
use Rattle.std_text.specs.Meaning.{Reading, refused, with_thread, with_operand, with_names}
use Rattle.std_text.specs.Refusal.{Refusal, LineFault, refusal_of, holder_name, IsHolderGiven, NamesNoHolder}
use Rattle.trace_laws.specs.declared.names.NameFault.{NameFault}
use Rattle.trace_laws.specs.declared.names.NameFault.TheVariants as name
use Rattle.std_text.specs.Told.{Failed}
use Rattle.std_text.specs.declared.fault.ReadFault.{ReadFault}
use Rattle.std_text.specs.declared.fault.ReadFault.TheVariants.{Text, OutOfMemory}
use Rattle.std_text.specs.declared.fault.StdKind.{StdKind}
use Rattle.std_text.specs.declared.fault.StdKind.TheVariants.{LockHeld}

-- a thread that holds a lock is below the number of threads
holder_below : (events : List Event) (threads u l : ℕ) → AreNamedBelow events threads → HoldsNow events u l → u < threads
holder_below events threads u l named h =
    let e = event_of events h.since (Acquire l) h.acquired.op in
    let is : thread_at events h.since ≡ Some e.0.thread = ap (option_map (λ (x : Event). x.thread)) e.1 in
    let thread = h.acquired.thread in
    let same : e.0.thread ≡ u = cc in
    let P : ℕ → Type 0 = λ n. n < threads in
    subst P same (named h.since e.0 e.1).0

-- the holder that stands against an operation has its number
other_given : (events : List Event) (threads t : ℕ) (o : Op) (u : ℕ) → AreNamedBelow events threads → OperationFault events t o (law.LockHeld u) → u < threads
other_given events threads t (Acquire l) u named h = holder_below events threads u l named h.1
other_given events threads t (Release l) u named h = absurd h
other_given events threads t (Read x) u named h = absurd h
other_given events threads t (Write x) u named h = absurd h
other_given events threads t (Fork v) u named h = absurd h
other_given events threads t (Join v) u named h = absurd h

-- a refused event names a holder that has its number
pub holder_given : (built : Built) (names : NameLists) (e : Event) (f : LawFault) → AreNamedBelow built.events (length names.threads) → IsRefusedFor built e f → IsHolderGiven names (kind_of f)
holder_given built names e (law.LockHeld u) named h = other_given built.events (length names.threads) e.thread e.op u named h.1.1
holder_given built names e law.Reentrant named h = tt
holder_given built names e law.NotHeld named h = tt
holder_given built names e law.Full named h = tt
holder_given built names e law.AfterJoin named h = tt
holder_given built names e law.SelfThread named h = tt
holder_given built names e law.ForkTwice named h = tt
holder_given built names e law.ForkLate named h = tt

-- ---- names that stay

-- numbers that are given out keep their names
pub record Keeps (old new : List (List ℕ)) : Type 0 where
  pub size : length old ≤ length new
  pub name : (n : ℕ) → n < length old → slice_get new n ≡ slice_get old n

-- where nothing comes
keeps_all : (names : List (List ℕ)) → Keeps names names
keeps_all names = record { size = omega arith; name = λ n within. refl }

-- where one more name comes
pub keeps_name : (names : List (List ℕ)) (name : List ℕ) → Keeps names (with_name names name)
keeps_name names name = by (is_numbered names name)
  where
    by : (b : Bool) → Keeps names (cond b names (names ++ name ∷ []))
    by true = keeps_all names
    by false = record { size = omega (arith, length-append names (name ∷ [])); name = λ n within. slice_get-append_left names (name ∷ []) n within }

-- where more come after more
keeps_both : (first second third : List (List ℕ)) → Keeps first second → Keeps second third → Keeps first third
keeps_both first second third a b =
    let more : length first ≤ length second = a.size in
    let again : length second ≤ length third = b.size in
    record { size = omega arith; name = λ n within. b.name n (omega arith) ∙ a.name n within }

-- where the name of an operand comes
pub keeps_operand : (names : NameLists) (a : Action) (operand : List ℕ) → Keeps names.threads (with_operand names a operand).threads
keeps_operand names action.Read operand = keeps_all names.threads
keeps_operand names action.Write operand = keeps_all names.threads
keeps_operand names action.Acquire operand = keeps_all names.threads
keeps_operand names action.Release operand = keeps_all names.threads
keeps_operand names action.Fork operand = keeps_name names.threads operand
keeps_operand names action.Join operand = keeps_name names.threads operand

-- where those of a line come
pub keeps_names : (names : NameLists) (p : Parts) → Keeps names.threads (with_names names p).threads
keeps_names names p = keeps_both names.threads (with_thread names p.thread).threads (with_names names p).threads (keeps_name names.threads p.thread) (keeps_operand (with_thread names p.thread) p.action p.operand)

-- where the name of a thread comes
pub keeps_thread : (names : NameLists) (thread : List ℕ) → Keeps names.threads (with_thread names thread).threads
keeps_thread names thread = keeps_name names.threads thread

-- the holder keeps its number and its name
holder_kept : (old new : NameLists) (kind : StdKind) → Keeps old.threads new.threads → IsHolderGiven old kind → (holder_name old kind ≡ holder_name new kind) × IsHolderGiven new kind
holder_kept old new (LockHeld t) keeps given =
    let within : t < length old.threads = given in
    let more : length old.threads ≤ length new.threads = keeps.size in
    let same = keeps.name t given in
    (rw same refl, omega arith)
holder_kept old new _ keeps given = (refl, tt)

-- so the refusal is the same with the names after the line
pub refusal_kept : {A : Type 0} (read : Result A Refusal) (old new : NameLists) (f : LineFault) → Keeps old.threads new.threads → IsHolderGiven old f.kind
    → read ≡ Err (refusal_of old f) → (read ≡ Err (refusal_of new f)) × IsHolderGiven new f.kind
refusal_kept read old new f keeps given is =
    let kept = holder_kept old new f.kind keeps given in
    (is ∙ ap (λ h. Err (record { line = f.line; kind = f.kind; holder = h })) kept.0, kept.1)

-- a kind that names no holder has no name
no_name : (names : NameLists) (kind : StdKind) → NamesNoHolder kind → (holder_name names kind ≡ []) × IsHolderGiven names kind
no_name names (LockHeld t) none = absurd none
no_name names _ none = (refl, tt)

-- so its refusal is the same with all names
pub plain_refusal : {A : Type 0} (read : Result A Refusal) (r : Reading) (names : NameLists) (kind : StdKind) → NamesNoHolder kind → read ≡ refused r kind
    → (read ≡ Err (refusal_of names (record { line = r.line; kind = kind }))) × IsHolderGiven names kind
plain_refusal read r names kind none is =
    let old = no_name r.names kind none in
    let new = no_name names kind none in
    (is ∙ ap (λ h. Err (record { line = r.line; kind = kind; holder = h })) (old.0 ∙ sym new.0), new.1)

-- a name that has no number makes the code fail, for want of room or of memory
pub name_failed : {A : Type 0} (fault : NameFault) (e : ReadFault) (names : NameLists) (f : LineFault) (read : Result A Refusal) → (fault ≡ name.Full → e ≡ Text f) → (fault ≡ name.OutOfMemory → e ≡ OutOfMemory)
    → (fault ≡ name.Full → (read ≡ Err (refusal_of names f)) × IsHolderGiven names f.kind) → Failed e names read
name_failed name.Full e names f read full memory h = rw (full refl) (h refl)
name_failed name.OutOfMemory e names f read full memory h = rw (memory refl) tt
