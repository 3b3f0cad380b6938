-- The lists of a board.
use Rattle.std.specs.Prelude.{◌≡◌, length}
use Rattle.sp_base.specs.declared.limits.TheConstants.{MAX_THREADS}
use Rattle.recorder.specs.declared.board.Board.TheInside.{Inside}
use Rattle.recorder.specs.Boards.{Shown}

-- what a board of these lists shows
abbrev pub shown : Inside → Shown
shown b = record { started = b.started.items; ended = b.ended.items; stands = b.stands.items; number = b.number; declared = b.declared }

-- there is a place for each thread
pub record HasRoom (b : Inside) : Type 0 where
  pub started : length b.started.items ≡ MAX_THREADS
  pub ended : length b.ended.items ≡ MAX_THREADS
  pub stands : length b.stands.items ≡ MAX_THREADS
