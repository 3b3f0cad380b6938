-- The event of one line more.
use Rattle.std.proofs.Common.{◌≡◌, ℕ, ◌+◌, ◌<◌, ◌≤◌, Bool, true, false, true≢false, ◌⊎◌, inl, inr, List, [], ◌∷◌, ◌++◌, length, Option, None, Some, Ok, Err, refl, sym, ap, ◌∙◌, arith, length-append}
use Rattle.std.proofs.lemmas.Bool.{cases_lt, lt-ltb, le-ltb, le-leb, lt-leb}
use Rattle.trace_laws.specs.Event.{Event}
use Rattle.trace_laws.specs.Trace.{MayFollow}
use Rattle.trace_laws.specs.Faults.{Built, IsRefusedFor}
use Rattle.trace_laws.specs.Names.{NameLists, is_numbered, with_name}
use Rattle.trace_laws.specs.declared.builder.LawFault.{LawFault}
use Rattle.trace_laws.proofs.Refusals.{refused_not_accepted}
use Rattle.sp_base.specs.declared.limits.TheConstants.{MAX_EVENTS, MAX_THREADS}
use Rattle.std_text.specs.declared.fault.StdKind.TheVariants.{TooManyEvents, TooManyThreads}
use Rattle.std_text.specs.Fields.{Parts}
use Rattle.std_text.specs.Law.{Tells, law_fault, kind_of, IsFirstBroken}
use Rattle.std_text.specs.Meaning.{Reading, refused, read_parts, read_lawful, event_of, with_operand, with_thread, with_names, fits, too_many, op_on}
use Rattle.std_text.specs.Refusal.{refusal_of}
use Rattle.std_text.proofs.LawLemmas.{computes_laws, refused_for, none_broken}

-- the event of a line
pub event_is : (r : Reading) (p : Parts) (e : Event) (first : NameLists) → first ≡ with_thread r.names p.thread → e.thread ≡ (event_of r p).thread → e.op ≡ op_on first p.action p.operand → e.loc ≡ p.location → e ≡ event_of r p
event_is r p e first is thread op loc =
    let op_is : e.op ≡ (event_of r p).op = op ∙ ap (λ (n : NameLists). op_on n p.action p.operand) is in
    λ i. record { thread = thread i; op = op_is i; loc = loc i }

-- the names after a line
pub names_are : (r : Reading) (p : Parts) (first second : NameLists) → first ≡ with_thread r.names p.thread → second ≡ with_operand first p.action p.operand → second ≡ with_names r.names p
names_are r p first second is next = next ∙ ap (λ (n : NameLists). with_operand n p.action p.operand) is

-- a builder that is not full has room
pub has_room : (full : Bool) (count capacity : ℕ) → full ≡ false → (count ≡ capacity → full ≡ true) → count ≤ capacity → capacity ≡ MAX_EVENTS → count < MAX_EVENTS
has_room full count capacity not_full told within whole = by (cases_lt count capacity)
  where
    by : (count < capacity) ⊎ (capacity ≤ count) → count < MAX_EVENTS
    by (inl less) = omega arith
    by (inr more) = let same : count ≡ capacity = omega arith in absurd (true≢false (sym (told same) ∙ not_full))

-- a new name makes its list longer by one
pub one_more : (names : List (List ℕ)) (name : List ℕ) → is_numbered names name ≡ false → length (with_name names name) ≡ length names + 1
one_more names name new = rw new (length-append names (name ∷ []))

-- ---- where there is no room

-- for the event
pub no_event : (r : Reading) (p : Parts) → length r.events ≡ MAX_EVENTS → read_parts r p ≡ refused r TooManyEvents
unfolding read_parts
no_event r p full = rw (le-leb MAX_EVENTS (length r.events) (omega arith)) refl

-- for the thread's name
pub no_thread : (r : Reading) (p : Parts) → length r.events < MAX_EVENTS → MAX_THREADS < length (with_name r.names.threads p.thread) → read_parts r p ≡ refused r TooManyThreads
unfolding read_parts
no_thread r p less over = rw (lt-leb MAX_EVENTS (length r.events) less, lt-ltb MAX_THREADS (length (with_name r.names.threads p.thread)) over) refl

-- for the operand's
pub no_operand : (r : Reading) (p : Parts) → length r.events < MAX_EVENTS → length (with_name r.names.threads p.thread) ≤ MAX_THREADS → fits (with_names r.names p) p.action ≡ false → read_parts r p ≡ refused r (too_many p.action)
unfolding read_parts
no_operand r p less threads over = rw (lt-leb MAX_EVENTS (length r.events) less, le-ltb MAX_THREADS (length (with_name r.names.threads p.thread)) threads, over) refl

-- ---- where there is room for all

module _ (r : Reading) (p : Parts) (e : Event) (is : e ≡ event_of r p) (less : length r.events < MAX_EVENTS) (threads : length (with_name r.names.threads p.thread) ≤ MAX_THREADS)
    (operand : fits (with_names r.names p) p.action ≡ true) where
  -- the law of the line's event decides
  by_law_of : read_parts r p ≡ read_lawful r p (law_fault r.events (event_of r p))
  unfolding read_parts
  by_law_of = rw (lt-leb MAX_EVENTS (length r.events) less, le-ltb MAX_THREADS (length (with_name r.names.threads p.thread)) threads, operand) refl

  -- which is that of the event
  pub by_law : (o : Option LawFault) → law_fault r.events e ≡ o → read_parts r p ≡ read_lawful r p o
  by_law o law = by_law_of ∙ ap (read_lawful r p) (ap (law_fault r.events) (sym is) ∙ law)

-- the holders being computed rightly
module _ (r : Reading) (p : Parts) (e : Event) (is : e ≡ event_of r p) (less : length r.events < MAX_EVENTS) (threads : length (with_name r.names.threads p.thread) ≤ MAX_THREADS)
    (operand : fits (with_names r.names p) p.action ≡ true) (tells : Tells r.events) where
  -- the builder before the line
  abbrev built : Built
  built = record { events = r.events; capacity = MAX_EVENTS }

  -- the law that a refused event breaks
  the_fault : (f : LawFault) → IsRefusedFor built e f → ((g : LawFault) → IsRefusedFor built e g → g ≡ f) → (o : Option LawFault) → IsFirstBroken r.events e o → o ≡ Some f
  the_fault f h one None broken = absurd (refused_not_accepted built e f h (less, broken))
  the_fault f h one (Some g) broken = ap Some (one g (refused_for built e g less broken))

  -- the event was appended
  pub appended : (events : List Event) (names : NameLists) → events ≡ r.events ++ e ∷ [] → names ≡ with_names r.names p → MayFollow r.events e → read_parts r p ≡ Ok (record { events = events; names = names; line = r.line + 1 })
  appended events names events_are names_is follows =
      by_law r p e is less threads operand None (none_broken r.events e follows (law_fault r.events e) (computes_laws r.events tells e)) ∙ rw (events_are, names_is, is) refl

  -- or its law was broken
  pub broken : (f : LawFault) → IsRefusedFor (record { events = r.events; capacity = MAX_EVENTS }) e f → ((g : LawFault) → IsRefusedFor (record { events = r.events; capacity = MAX_EVENTS }) e g → g ≡ f) → read_parts r p ≡ Err (refusal_of r.names (record { line = r.line; kind = kind_of f }))
  broken f h one = by_law r p e is less threads operand (Some f) (the_fault f h one (law_fault r.events e) (computes_laws r.events tells e))
