use Rattle.std.proofs.Common.{rules}
use Rattle.closed_fronts.proofs.Writing.{writers_none}
use Rattle.closed_fronts.proofs.writers.Writers.new.Goals as goal

pub returns : goal.returns
returns c = writers_none c.args.trace.now.events c.in_ok-vec.field-0.items c.in_ok-vec-2.field-0.items c.len.result (c.in_ok-vec.ensures.items_if_clones_equal (search rules)) (c.in_ok-vec-2.ensures.items_if_clones_equal (search rules)) c.len.ensures.value
