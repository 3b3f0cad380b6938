-- Cycles of classes, by the numbers of the classes.
use Rattle.std.specs.Prelude.{◌≡◌, ◌<◌, ◌≤◌, ◌+◌, ◌-◌, ◌⊎◌, ℕ, List, [], length, map, Some, slice_get, slice_index, slice_index_or, Contains}
use Rattle.trace_laws.specs.Patterns.{Class, AreApart}

-- a class that stands for none
abbrev pub no_class : Class
no_class = record { thread = 0; lock = 0; held = []; acquires = [] }

-- the class of a number
abbrev pub class_of : List Class → ℕ → Class
class_of classes n = slice_index_or classes n no_class

-- the classes of numbers
abbrev pub classes_of : List Class → List ℕ → List Class
classes_of classes numbers = map (class_of classes) numbers

-- Numbers of classes that are apart, the least first. Each class holds the lock of the one before it.
pub record IsPath (classes : List Class) (path : List ℕ) : Type 0 where
  pub within : (i n : ℕ) → slice_get path i ≡ Some n → n < length classes
  pub apart : (i j m n : ℕ) → i < j → slice_get path i ≡ Some m → slice_get path j ≡ Some n → AreApart (class_of classes m) (class_of classes n)
  pub chain : (i m n : ℕ) → slice_get path i ≡ Some m → slice_get path (i + 1) ≡ Some n → Contains (class_of classes n).held (class_of classes m).lock
  pub first : (i m n : ℕ) → slice_get path 0 ≡ Some m → slice_get path i ≡ Some n → m ≤ n

-- a path of two classes at least, of which the first holds the lock of the last
pub record IsCycle (classes : List Class) (cycle : List ℕ) : Type 0 where
  pub size : 2 ≤ length cycle
  pub path : IsPath classes cycle
  pub closes : (m n : ℕ) → slice_get cycle 0 ≡ Some m → slice_get cycle (length cycle - 1) ≡ Some n → Contains (class_of classes m).held (class_of classes n).lock

-- a list begins with another
abbrev pub BeginsWith : List ℕ → List ℕ → Type 0
BeginsWith whole front = (i n : ℕ) → slice_get front i ≡ Some n → slice_get whole i ≡ Some n

-- a cycle of a size that begins with the path
pub record IsExtension (classes : List Class) (most : ℕ) (front whole : List ℕ) : Type 0 where
  pub cycle : IsCycle classes whole
  pub size : length whole ≡ most
  pub begins : BeginsWith whole front

-- the order of cycles: by size, then by numbers from left to right
abbrev pub Precedes : List ℕ → List ℕ → Type 0
Precedes p q = (length p < length q) ⊎ ((length p ≡ length q) × ((i : ℕ) × (slice_index p i < slice_index q i) × ((k : ℕ) → k < i → slice_index p k ≡ slice_index q k)))
