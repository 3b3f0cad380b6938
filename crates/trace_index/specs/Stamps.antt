-- Sets that are closed under program order and writers, by their counts.
use Rattle.std.specs.Prelude.{◌≡◌, ◌<◌, ◌+◌, ◌*◌, ℕ, List, Bool, Option, IsTrue, Some, None, length, slice_index, take, drop}
use Rattle.trace_laws.specs.Event.{Event}
use Rattle.trace_laws.specs.Trace.{Before, Reads, IsLastWrite}
use Rattle.trace_laws.specs.Kept.{count_of}
use Rattle.closed_fronts.specs.Members.{AreCounts}
use Rattle.closed_fronts.specs.Cuts.{IsHeld}
use Rattle.closed_fronts.specs.Rows.{IsJoin, IsSteady, AreWithin}

-- the set holds every place before a member, and the writer of each read in it
pub record IsOrdered (events : List Event) (set : ℕ → Bool) : Type 0 where
  pub program : (i j : ℕ) → Before events i j → IsTrue (set j) → IsTrue (set i)
  pub writers : (r x w : ℕ) → Reads events r x → IsLastWrite events ◌<◌ r x w → IsTrue (set r) → IsTrue (set w)

-- The stamp of place p: for each thread the number of its places in the least set that holds place p and is closed under
-- program order and writers.
pub record IsStamp (events : List Event) (threads p : ℕ) (counts : List ℕ) : Type 0 where
  pub set : ℕ → Bool
  pub ordered : IsOrdered events set
  pub holds : IsTrue (set p)
  pub least : (other : ℕ → Bool) → IsOrdered events other → IsTrue (other p) → (i : ℕ) → IsTrue (set i) → IsTrue (other i)
  pub counted : AreCounts events threads set counts

-- place q is in each such set that holds place p
abbrev pub IsNeededBy : List Event → ℕ → ℕ → Type 0
IsNeededBy events p q = (other : ℕ → Bool) → IsOrdered events other → IsTrue (other p) → IsTrue (other q)

-- Counts of a set by cuts that is closed under program order and writers: no cut is beyond the bound, place p needs all of
-- the set, and the set holds each place of which P holds.
pub record AreCountsFor (events : List Event) (threads p bound : ℕ) (P : ℕ → Type 0) (counts : List ℕ) : Type 0 where
  pub cuts : List ℕ
  pub steady : IsSteady events threads cuts
  pub within : AreWithin cuts bound
  pub needed : (i : ℕ) → IsHeld events cuts i → IsNeededBy events p i
  pub holds : (i : ℕ) → P i → IsHeld events cuts i
  pub size : length counts ≡ threads
  pub each : (t : ℕ) → slice_index counts t ≡ count_of events t (slice_index cuts t)

-- the counts are the stamp of place p
abbrev pub IsStampRow : List Event → ℕ → ℕ → List ℕ → Type 0
IsStampRow events threads p counts = AreCountsFor events threads p (p + 1) (λ i. i ≡ p) counts

-- the row of that number, where each has so many counts
abbrev pub row_at : List ℕ → ℕ → ℕ → List ℕ
row_at stamps width q = take width (drop (q * width) stamps)

-- row by row the stamps of the places before place n
pub record AreStamps (events : List Event) (threads n : ℕ) (stamps : List ℕ) : Type 0 where
  pub size : length stamps ≡ n * threads
  pub rows : (q : ℕ) → q < n → IsStampRow events threads q (row_at stamps threads q)

-- the counts were joined with the stamp of the source, if it is given
pub record IsRaised (stamps : List ℕ) (source : Option ℕ) (old new : List ℕ) : Type 0 where
  pub none : source ≡ None → new ≡ old
  pub some : (q : ℕ) → source ≡ Some q → IsJoin old (row_at stamps (length old) q) new
