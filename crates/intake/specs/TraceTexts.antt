-- What a text says as a trace.
use Rattle.std.specs.Prelude.{◌≡◌, ◌⊎◌, ℕ, List, length, Result, Ok, Err}
use Rattle.trace_laws.specs.Traces.{History}
use Rattle.std_text.specs.Refusal.{Refusal, ◌>>=◌}
use Rattle.std_text.specs.Framing.{Progress, start, after, closed}

-- the trace that a text says
abbrev pub history_of : Progress → History
history_of p = record { events = p.reading.events; threads = length p.reading.names.threads }

-- what a whole text says after what was read before it, or why it is refused
abbrev pub whole_reading : Progress → List ℕ → Result Progress Refusal
whole_reading p text = after p text >>= closed

-- the text is in the grammar and says p
abbrev pub IsStd : List ℕ → Progress → Type 0
IsStd text p = whole_reading start text ≡ Ok p

-- A fault is known within the bytes so far. Some are known only at the end, where Ended holds.
abbrev pub IsKnownFault : Type 0 → List ℕ → Refusal → Type 0
IsKnownFault Ended text f = (after start text ≡ Err f) ⊎ (Ended × (whole_reading start text ≡ Err f))

-- no fault is known within the bytes so far
abbrev pub HasNoFault : List ℕ → Type 0
HasNoFault text = (p : Progress) × (after start text ≡ Ok p)
