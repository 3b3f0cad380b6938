use Rattle.std.proofs.Common.{◌≡◌, ◌∙◌, ◌<◌, ◌≤◌, length, Err, refl, sym, ap, subst, arith, true, ℕ}
use Rattle.trace_laws.specs.Event.{Event}
use Rattle.trace_laws.specs.Names.{NameLists, with_name}
use Rattle.trace_laws.specs.Faults.{Built, IsRefusedFor}
use Rattle.sp_base.specs.declared.limits.TheConstants.{MAX_EVENTS, MAX_THREADS}
use Rattle.std_text.specs.Fields.{Parts}
use Rattle.std_text.specs.Meaning.{Reading, event_of, with_thread, with_names, fits, too_many}
use Rattle.std_text.specs.declared.fault.StdKind.TheVariants.{TooManyEvents, TooManyThreads}
use Rattle.trace_laws.specs.declared.builder.LawFault.{LawFault}
use Rattle.std_text.specs.declared.fault.ReadFault.TheVariants.{Text}
use Rattle.std_text.specs.Refusal.{NamesNoHolder}
use Rattle.std_text.specs.Writing.{AreNamed}
use Rattle.std_text.proofs.NamedLemmas.{more_thread, more_names, named_more, named_push, named_below}
use Rattle.std_text.proofs.HolderLemmas.{tells_push}
use Rattle.std_text.proofs.HolderNames.{keeps_operand, keeps_names, holder_given, refusal_kept, plain_refusal, name_failed}
use Rattle.std_text.proofs.EventLemmas.{has_room, event_is, names_are, one_more, no_event, no_thread, no_operand, appended, broken}
use Rattle.std_text.proofs.line.LineReader.append.Goals as goal

pub returns-then-is_full-clause-read : goal.returns-then-is_full-clause-read
returns-then-is_full-clause-read c =
    let r : Reading = record { events = c.self.inside.builder.events; names = c.self.inside.names; line = c.self.inside.line } in
    let p : Parts = record { thread = c.args.parts.now.thread.now; action = c.args.parts.now.action; operand = c.args.parts.now.operand.now; location = c.args.parts.now.location } in
    let full : length r.events ≡ MAX_EVENTS = c.is_full.ensures.value.0 c.if-is_full.true ∙ c.self.invariant.capacity_is in
    rw (c.refusal.ensures, ← c.self.view_is) (plain_refusal _ r r.names TooManyEvents tt (no_event r p full))

pub returns-in-Err-clause-read : goal.returns-in-Err-clause-read
returns-in-Err-clause-read c =
    let r : Reading = record { events = c.self.inside.builder.events; names = c.self.inside.names; line = c.self.inside.line } in
    let p : Parts = record { thread = c.args.parts.now.thread.now; action = c.args.parts.now.action; operand = c.args.parts.now.operand.now; location = c.args.parts.now.location } in
    let less = has_room c.is_full.result _ _ c.if-is_full.false c.is_full.ensures.value.1 c.is_full.ensures.within c.self.invariant.capacity_is in
    rw (← c.self.view_is) (name_failed c.in-Err.fault c.name_fault.result c.thread.new.self (record { line = r.line; kind = TooManyThreads }) _ c.name_fault.ensures.full c.name_fault.ensures.memory
    (λ full. let new = c.in-Err.ensures.full.0 (ap Err full) in let more = one_more r.names.threads p.thread new.0 in plain_refusal _ r c.thread.new.self TooManyThreads tt (no_thread r p less (omega arith))))

pub invariant_of-self-in-Err-operation_on : goal.invariant_of-self-in-Err-operation_on
invariant_of-self-in-Err-operation_on c =
    let names : c.operation_on.new.names ≡ with_thread c.self.inside.names c.args.parts.now.thread.now = c.in-Err-operation_on.ensures.err ∙ c.in-Ok.ensures.ok in
    let more = more_thread c.self.inside.names c.args.parts.now.thread.now in
    record { capacity_is = c.self.invariant.capacity_is; named = rw names (named_more _ _ _ more c.self.invariant.named); tells = c.self.invariant.tells }

pub returns-in-Err-operation_on-clause-read : goal.returns-in-Err-operation_on-clause-read
returns-in-Err-operation_on-clause-read c =
    let r : Reading = record { events = c.self.inside.builder.events; names = c.self.inside.names; line = c.self.inside.line } in
    let p : Parts = record { thread = c.args.parts.now.thread.now; action = c.args.parts.now.action; operand = c.args.parts.now.operand.now; location = c.args.parts.now.location } in
    let less = has_room c.is_full.result _ _ c.if-is_full.false c.is_full.ensures.value.1 c.is_full.ensures.within c.self.invariant.capacity_is in
    let threads : length (with_name r.names.threads p.thread) ≤ MAX_THREADS = rw (← ap (λ (n : NameLists). n.threads) c.in-Ok.ensures.ok) c.in-Ok.ensures.within in
    rw (← c.self.view_is) (name_failed c.in-Err-operation_on.fault c.name_fault-in-Err-operation_on.result c.operation_on.new.names (record { line = r.line; kind = too_many p.action }) _
    (λ full. c.name_fault-in-Err-operation_on.ensures.full full ∙ ap (λ k. Text (record { line = r.line; kind = k })) c.limit_of.ensures.value) c.name_fault-in-Err-operation_on.ensures.memory
    (λ full. plain_refusal _ r c.operation_on.new.names (too_many p.action) (subst NamesNoHolder c.limit_of.ensures.value c.limit_of.ensures.kind)
    (no_operand r p less threads (rw (← names_are r p c.thread.new.self _ c.in-Ok.ensures.ok refl) (c.in-Err-operation_on.ensures.full (ap Err full))))))

pub invariant_of-self-in-Err-push : goal.invariant_of-self-in-Err-push
invariant_of-self-in-Err-push c =
    let r : Reading = record { events = c.self.inside.builder.events; names = c.self.inside.names; line = c.self.inside.line } in
    let p : Parts = record { thread = c.args.parts.now.thread.now; action = c.args.parts.now.action; operand = c.args.parts.now.operand.now; location = c.args.parts.now.location } in
    let names = names_are r p c.thread.new.self c.operation_on.new.names c.in-Ok.ensures.ok c.in-Ok-operation_on.ensures.ok in
    rw (c.in-Err-push.ensures.err, names) record { capacity_is = c.self.invariant.capacity_is; named = named_more _ _ _ (more_names r.names p) c.self.invariant.named; tells = c.self.invariant.tells }

pub returns-in-Err-push-clause-read : goal.returns-in-Err-push-clause-read
returns-in-Err-push-clause-read c =
    let r : Reading = record { events = c.self.inside.builder.events; names = c.self.inside.names; line = c.self.inside.line } in
    let p : Parts = record { thread = c.args.parts.now.thread.now; action = c.args.parts.now.action; operand = c.args.parts.now.operand.now; location = c.args.parts.now.location } in
    let e : Event = record { thread = c.in-Ok.thread; op = c.in-Ok-operation_on.op; loc = c.args.parts.now.location } in
    let f = c.in-Err-push.fault in
    let is : e ≡ event_of r p = event_is r p e c.thread.new.self c.in-Ok.ensures.ok c.in-Ok.ensures.number c.in-Ok-operation_on.ensures.operation refl in
    let less = has_room c.is_full.result _ _ c.if-is_full.false c.is_full.ensures.value.1 c.is_full.ensures.within c.self.invariant.capacity_is in
    let threads : length (with_name r.names.threads p.thread) ≤ MAX_THREADS = rw (← ap (λ (n : NameLists). n.threads) c.in-Ok.ensures.ok) c.in-Ok.ensures.within in
    let names = names_are r p c.thread.new.self c.operation_on.new.names c.in-Ok.ensures.ok c.in-Ok-operation_on.ensures.ok in
    let operand : fits (with_names r.names p) p.action ≡ true = rw (← names) c.in-Ok-operation_on.ensures.within in
    let built : ℕ → Built = λ n. record { events = r.events; capacity = n } in
    let refused : IsRefusedFor (built MAX_EVENTS) e f = subst (λ n. IsRefusedFor (built n) e f) c.self.invariant.capacity_is ((c.in-Err-push.ensures.fault f).0 refl) in
    let one : (g : LawFault) → IsRefusedFor (built MAX_EVENTS) e g → g ≡ f =
    λ g h. let same = (c.in-Err-push.ensures.fault g).1 (subst (λ n. IsRefusedFor (built n) e g) (sym c.self.invariant.capacity_is) h) in cc in
    let read = broken r p e is less threads operand c.self.invariant.tells f refused one in
    let given = holder_given (built MAX_EVENTS) r.names e f (named_below _ _ c.self.invariant.named) refused in
    rw (← c.self.view_is, c.refusal-in-Err-push.ensures, c.law_kind.ensures, names) (refusal_kept _ r.names (with_names r.names p) _ (keeps_names r.names p) given read)

pub invariant_of-self-2 : goal.invariant_of-self-2
invariant_of-self-2 c =
    let r : Reading = record { events = c.self.inside.builder.events; names = c.self.inside.names; line = c.self.inside.line } in
    let p : Parts = record { thread = c.args.parts.now.thread.now; action = c.args.parts.now.action; operand = c.args.parts.now.operand.now; location = c.args.parts.now.location } in
    let e : Event = record { thread = c.in-Ok.thread; op = c.in-Ok-operation_on.op; loc = c.args.parts.now.location } in
    let more = keeps_operand c.thread.new.self p.action p.operand in
    let size : length c.thread.new.self.threads ≤ length c.operation_on.new.names.threads = rw c.in-Ok-operation_on.ensures.ok more.size in
    let given : c.in-Ok.thread < length c.thread.new.self.threads = c.in-Ok.ensures.given in
    let names = names_are r p c.thread.new.self c.operation_on.new.names c.in-Ok.ensures.ok c.in-Ok-operation_on.ensures.ok in
    let before : AreNamed c.operation_on.new.names r.events = rw names (named_more _ _ _ (more_names r.names p) c.self.invariant.named) in
    let follows = c.in_default.ensures.accepts.0 refl in record {
      capacity_is = c.in_default.ensures.capacity ∙ c.self.invariant.capacity_is;
      named = rw c.in_default.ensures.ok (named_push _ r.events e before record { thread = omega arith; operand = c.in-Ok-operation_on.ensures.named });
      tells = rw c.in_default.ensures.ok (tells_push r.events e follows.1.locks c.self.invariant.tells);
    }

pub returns-clause-read : goal.returns-clause-read
returns-clause-read c =
    let r : Reading = record { events = c.self.inside.builder.events; names = c.self.inside.names; line = c.self.inside.line } in
    let p : Parts = record { thread = c.args.parts.now.thread.now; action = c.args.parts.now.action; operand = c.args.parts.now.operand.now; location = c.args.parts.now.location } in
    let e : Event = record { thread = c.in-Ok.thread; op = c.in-Ok-operation_on.op; loc = c.args.parts.now.location } in
    let is : e ≡ event_of r p = event_is r p e c.thread.new.self c.in-Ok.ensures.ok c.in-Ok.ensures.number c.in-Ok-operation_on.ensures.operation refl in
    let less = has_room c.is_full.result _ _ c.if-is_full.false c.is_full.ensures.value.1 c.is_full.ensures.within c.self.invariant.capacity_is in
    let threads : length (with_name r.names.threads p.thread) ≤ MAX_THREADS = rw (← ap (λ (n : NameLists). n.threads) c.in-Ok.ensures.ok) c.in-Ok.ensures.within in
    let names = names_are r p c.thread.new.self c.operation_on.new.names c.in-Ok.ensures.ok c.in-Ok-operation_on.ensures.ok in
    let operand : fits (with_names r.names p) p.action ≡ true = rw (← names) c.in-Ok-operation_on.ensures.within in
    let follows = c.in_default.ensures.accepts.0 refl in
    rw (← c.self.view_is) (appended r p e is less threads operand c.self.invariant.tells c.push.new.self.events c.operation_on.new.names c.in_default.ensures.ok names follows.1)
