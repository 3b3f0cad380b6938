use Rattle.std.proofs.Common.{arith, ◌≡◌, ◌-◌, ◌+◌, ℕ, min, take, drop, length, length-take, ◌∙◌}
use Rattle.sp_base.proofs.Pieces.{piece_given}
use Rattle.sp_base.proofs.sources.SureSourceSource.read.Goals as goal

pub returns-clause-bytes : goal.returns-clause-bytes
returns-clause-bytes c =
    let s = c.self.inside in
    let count : ℕ = c.min-count.result in
    let width : (s.at + count) - s.at ≡ count = omega arith in
    let whole = c.deref.ensures.value in
    let piece : c.copy_from_slice.new.self ≡ take count (drop s.at s.bytes.items) = c.copy_from_slice.ensures.after ∙ rw (width, whole) in
    let least : count ≡ min (length c.args.buffer.now) (length s.bytes.items - s.at) = rw (← whole) (omega arith) in
    rw (← c.self.view_is) (piece_given s.bytes.items c.args.buffer.now c.copy_from_slice.new.self s.at count c.self.invariant least piece (c.copy_from_slice.ensures.len ∙ omega (arith, length-take count c.args.buffer.now)))
