-- What a board shows of the threads of a recorder.
use Rattle.std.specs.Prelude.{◌≡◌, ◌≢◌, ℕ, List, get_or, Bool, true, false, Option}

-- which threads have started, which have ended, and which stand at the number, each by the numbers of threads; the number, which rises with each granted call; and the number at which the end was declared, where it was
pub record Shown : Type 0 where
  pub started : List Bool
  pub ended : List Bool
  pub stands : List Bool
  pub number : ℕ
  pub declared : Option ℕ

-- whether the list marks thread t
abbrev pub is_marked : List Bool → ℕ → Bool
is_marked marks t = get_or marks t false

-- the list has no thread
abbrev pub HasNone : List Bool → Type 0
HasNone marks = (t : ℕ) → is_marked marks t ≡ false

-- the later list has thread t, and of the others those that the earlier one has
pub record IsAdded (earlier : List Bool) (t : ℕ) (later : List Bool) : Type 0 where
  pub this : is_marked later t ≡ true
  pub others : (u : ℕ) → u ≢ t → is_marked later u ≡ is_marked earlier u

-- the later list is as thread t leaves it, which has seen this number: t stands from now on where that is still the number, and nothing changes where it is not
pub record IsSeen (earlier : Shown) (t seen : ℕ) (later : List Bool) : Type 0 where
  pub same : seen ≡ earlier.number → IsAdded earlier.stands t later
  pub stale : seen ≢ earlier.number → later ≡ earlier.stands

-- each thread that has started and not ended stands at the number
abbrev pub EachStands : Shown → Type 0
EachStands b = (t : ℕ) → is_marked b.started t ≡ true → is_marked b.ended t ≡ false → is_marked b.stands t ≡ true
