-- What a walk over classes finds.
use Rattle.std.specs.Prelude.{◌≡◌, ◌<◌, ◌≤◌, ◌⊎◌, ℕ, List, Some, length, slice_get, Contains, AllPairs}
use Rattle.sp_base.specs.declared.limits.TheConstants.{MIN_SIZE, MAX_SIZE, MAX_PATTERNS}
use Rattle.trace_laws.specs.Patterns.{Class}
use Rattle.lock_graph.specs.Classes.{HaveLocksBelow}
use Rattle.pattern_walk.specs.declared.near.Near.{Near}
use Rattle.pattern_walk.specs.declared.walk.Walk.{Walk}
use Rattle.pattern_walk.specs.Cycles.{IsPath, IsCycle, BeginsWith, IsExtension, Precedes}
use Rattle.pattern_walk.specs.Linked.{AreLinks}
use Rattle.pattern_walk.specs.Orders.{AreHolders, AreBefore}
use Rattle.pattern_walk.specs.Nearness.{IsNear}

-- the walk knows which classes can stand in a cycle, and the order of their locks
pub record IsReady (walk : Walk) : Type 0 where
  pub links : AreLinks walk.classes.now.classes (length walk.classes.now.classes) walk.links.flags.items
  pub holders : AreHolders walk.classes.now.classes (length walk.classes.now.classes) walk.order.holders.items
  pub before : AreBefore walk.classes.now.classes (length walk.classes.now.classes) walk.order.before.items

-- the walk has come along the path, and knows how near each lock is to the path's first class
pub record IsOnWay (walk : Walk) (known : Near) (way : List ℕ) : Type 0 where
  pub ready : IsReady walk
  pub start : ℕ
  pub begins : slice_get way 0 ≡ Some start
  pub path : IsPath walk.classes.now.classes way
  pub short : length way ≤ known.size
  pub least : MIN_SIZE ≤ known.size
  pub most : known.size ≤ MAX_SIZE
  pub locks : HaveLocksBelow walk.classes.now.classes (length known.steps.items)
  pub near : IsNear walk.classes.now.classes start known.size known.steps.items

-- not too many cycles of at most that size, in their order
pub record AreInOrder (classes : List Class) (size : ℕ) (found : List (List ℕ)) : Type 0 where
  pub order : AllPairs Precedes found
  pub cycles : (q : List ℕ) → Contains found q → IsCycle classes q
  pub sizes : (q : List ℕ) → Contains found q → length q ≤ size
  pub few : length found ≤ MAX_PATTERNS

-- what is found comes before each list of the size that begins with the path
abbrev pub IsBehind : ℕ → List ℕ → List (List ℕ) → Type 0
IsBehind size path found = (p q : List ℕ) → Contains found p → length q ≡ size → BeginsWith q path → Precedes p q

-- exactly the cycles of the size that begin with the path were added to what is found
pub record Extends (classes : List Class) (size : ℕ) (path : List ℕ) (old new : List (List ℕ)) : Type 0 where
  pub found : AreInOrder classes size new
  pub kept : (q : List ℕ) → Contains old q → Contains new q
  pub all : (q : List ℕ) → IsExtension classes size path q → Contains new q
  pub only : (q : List ℕ) → Contains new q → Contains old q ⊎ IsExtension classes size path q

-- the next class of the cycle behind the path is one of the first k candidates
pub record IsNextAmong (candidates : List ℕ) (k : ℕ) (path cycle : List ℕ) : Type 0 where
  pub number : ℕ
  pub next : ℕ
  pub below : number < k
  pub candidate : slice_get candidates number ≡ Some next
  pub at : slice_get cycle (length path) ≡ Some next

-- of the cycles of the size that begin with the path, those that go on by one of the first k candidates were added
pub record ExtendsTo (classes : List Class) (size : ℕ) (path candidates : List ℕ) (k : ℕ) (old new : List (List ℕ)) : Type 0 where
  pub found : AreInOrder classes size new
  pub kept : (q : List ℕ) → Contains old q → Contains new q
  pub all : (q : List ℕ) → IsExtension classes size path q → IsNextAmong candidates k path q → Contains new q
  pub only : (q : List ℕ) → Contains new q → Contains old q ⊎ (IsExtension classes size path q × IsNextAmong candidates k path q)

-- the list begins with a class below the number
pub record BeginsBelow (number : ℕ) (cycle : List ℕ) : Type 0 where
  pub first : ℕ
  pub at : slice_get cycle 0 ≡ Some first
  pub below : first < number

-- All cycles that are smaller, and those of the size that begin with a class below the number, are found, and no others.
pub record FoundBelow (classes : List Class) (size number : ℕ) (all : List (List ℕ)) : Type 0 where
  pub found : AreInOrder classes size all
  pub smaller : (q : List ℕ) → IsCycle classes q → length q < size → Contains all q
  pub same : (q : List ℕ) → IsCycle classes q → length q ≡ size → BeginsBelow number q → Contains all q
  pub only : (q : List ℕ) → Contains all q → (length q < size) ⊎ ((length q ≡ size) × BeginsBelow number q)

-- there are more than `MAX_PATTERNS` cycles of at most that size
pub record HasMoreCycles (classes : List Class) (size : ℕ) : Type 0 where
  pub some : List (List ℕ)
  pub order : AllPairs Precedes some
  pub cycles : (q : List ℕ) → Contains some q → IsCycle classes q
  pub sizes : (q : List ℕ) → Contains some q → length q ≤ size
  pub many : MAX_PATTERNS < length some
