-- All that events name has a name, and keeps one.
use Rattle.std.proofs.Common.{◌≡◌, ℕ, ◌<◌, ◌≤◌, List, [], ◌∷◌, ◌++◌, length, Some, ◌⊎◌, inl, inr, sym, ap, subst, ◌∙◌, arith, length-append}
use Rattle.std.specs.Prelude.{slice_get}
use Rattle.std.proofs.lemmas.Option.{slice_get_within}
use Rattle.trace_laws.specs.Event.{Event}
use Rattle.trace_laws.specs.Names.{NameLists}
use Rattle.trace_laws.specs.declared.event.Op.{Op}
use Rattle.trace_laws.specs.declared.event.Op.TheVariants.{Read, Write, Acquire, Release, Fork, Join}
use Rattle.trace_laws.specs.Traces.{AreNamedBelow, NamesBelow}
use Rattle.trace_laws.proofs.Places.{three_way, slice_get-append_left, slice_get-append_seam}
use Rattle.std_text.specs.Fields.{Parts}
use Rattle.std_text.specs.Meaning.{with_thread, with_operand, with_names}
use Rattle.std_text.specs.Writing.{IsOperandNamed, IsNamed, AreNamed}
use Rattle.std_text.specs.declared.fields.Action.{Action}
use Rattle.std_text.specs.declared.fields.Action.TheVariants as action
use Rattle.std_text.proofs.HolderNames.{keeps_name}

-- there are no fewer names
pub record HasMore (old new : NameLists) : Type 0 where
  threads : length old.threads ≤ length new.threads
  locks : length old.locks ≤ length new.locks
  vars : length old.vars ≤ length new.vars

-- after the name of a thread
pub more_thread : (names : NameLists) (thread : List ℕ) → HasMore names (with_thread names thread)
more_thread names thread = record { threads = (keeps_name names.threads thread).size; locks = omega arith; vars = omega arith }

-- after that of an operand
more_operand : (names : NameLists) (a : Action) (operand : List ℕ) → HasMore names (with_operand names a operand)
more_operand names action.Read operand = record { threads = omega arith; locks = omega arith; vars = (keeps_name names.vars operand).size }
more_operand names action.Write operand = record { threads = omega arith; locks = omega arith; vars = (keeps_name names.vars operand).size }
more_operand names action.Acquire operand = record { threads = omega arith; locks = (keeps_name names.locks operand).size; vars = omega arith }
more_operand names action.Release operand = record { threads = omega arith; locks = (keeps_name names.locks operand).size; vars = omega arith }
more_operand names action.Fork operand = more_thread names operand
more_operand names action.Join operand = more_thread names operand

-- after those of a line
pub more_names : (names : NameLists) (p : Parts) → HasMore names (with_names names p)
more_names names p =
    let first = more_thread names p.thread in
    let rest = more_operand (with_thread names p.thread) p.action p.operand in
    record { threads = omega (arith, first.threads, rest.threads); locks = rest.locks; vars = rest.vars }

-- an operand that has a name keeps one
operand_kept : (old new : NameLists) (o : Op) → HasMore old new → IsOperandNamed old o → IsOperandNamed new o
operand_kept old new (Read x) more h = omega (arith, h, more.vars)
operand_kept old new (Write x) more h = omega (arith, h, more.vars)
operand_kept old new (Acquire l) more h = omega (arith, h, more.locks)
operand_kept old new (Release l) more h = omega (arith, h, more.locks)
operand_kept old new (Fork u) more h = omega (arith, h, more.threads)
operand_kept old new (Join u) more h = omega (arith, h, more.threads)

-- so does all that events name
pub named_more : (old new : NameLists) (events : List Event) → HasMore old new → AreNamed old events → AreNamed new events
named_more old new events more named i e at_i = let h = named i e at_i in record { thread = omega (arith, h.thread, more.threads); operand = operand_kept old new e.op more h.operand }

-- one event more
pub named_push : (names : NameLists) (events : List Event) (e : Event) → AreNamed names events → IsNamed names e → AreNamed names (events ++ e ∷ [])
named_push names events e named one i f at_i = go (three_way i (length events))
  where
    go : (i < length events) ⊎ ((i ≡ length events) ⊎ (length events < i)) → IsNamed names f
    go (inl less) = named i f (sym (slice_get-append_left events (e ∷ []) i less) ∙ at_i)
    go (inr (inl same)) =
        let seam : slice_get (events ++ e ∷ []) i ≡ Some e = ap (slice_get (events ++ e ∷ [])) same ∙ slice_get-append_seam events e in
        let is : e ≡ f = cc in
        subst (IsNamed names) is one
    go (inr (inr past)) =
        let within : i < length (events ++ e ∷ []) = slice_get_within (events ++ e ∷ []) i f at_i in
        let size = length-append events (e ∷ []) in
        absurd (omega arith)

-- the threads of an operation are below the number of names
op_below : (names : NameLists) (o : Op) → IsOperandNamed names o → NamesBelow o (length names.threads)
op_below names (Fork u) h = h
op_below names (Join u) h = h
op_below names (Read x) h = tt
op_below names (Write x) h = tt
op_below names (Acquire l) h = tt
op_below names (Release l) h = tt

-- so are those of events
pub named_below : (names : NameLists) (events : List Event) → AreNamed names events → AreNamedBelow events (length names.threads)
named_below names events named i e at_i = let h = named i e at_i in (h.thread, op_below names e.op h.operand)
