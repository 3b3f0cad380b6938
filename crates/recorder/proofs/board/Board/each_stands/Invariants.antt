use Rattle.std.proofs.Common.{◌≡◌, ◌<◌, ℕ, true, false}
use Rattle.recorder.specs.Boards.{is_marked}
use Rattle.recorder.proofs.board.Board.each_stands.Given as goal

-- each of the threads so far that has started and not ended stands
abbrev pub invariant-loop-thread : goal.invariant-loop-thread
invariant-loop-thread l = (t : ℕ) → t < l.thread → is_marked l.self.started t ≡ true → is_marked l.self.ended t ≡ false → is_marked l.self.stands t ≡ true
