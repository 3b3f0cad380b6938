-- The answers of numbered jobs, and how they are dealt out to workers.
use Rattle.std.specs.Prelude.{◌≡◌, ℕ, ◌+◌, ◌*◌, ◌<◌, ◌↔◌, List, length, Some, slice_get}
use Rattle.std.specs.Global.{Global}
use Rattle.std.specs.Prelude.{Vec}

-- each element of a list is an answer to the number of its place
abbrev pub AreAnswers : {A : Type 0} → (ℕ → A → Type 0) → List A → Type 0
AreAnswers {A} answers list = (number : ℕ) (answer : A) → slice_get list number ≡ Some answer → answers number answer

-- the answers to those numbers below a limit that leave the remainder of a worker, in order
pub record IsShare {A : Type 0} (answers : ℕ → A → Type 0) (workers limit worker : ℕ) (share : List A) : Type 0 where
  pub many : (turn : ℕ) → (turn < length share) ↔ (turn * workers + worker < limit)
  pub each : AreAnswers (λ turn. answers (turn * workers + worker)) share

-- each worker has its share of the answers to the numbers below a limit
pub record AreShares {A : Type 0} (answers : ℕ → A → Type 0) (workers limit : ℕ) (shares : List (Vec A Global)) : Type 0 where
  pub many : length shares ≡ workers
  pub each : (worker : ℕ) (share : Vec A Global) → slice_get shares worker ≡ Some share → IsShare answers workers limit worker share.items
