-- Giving the front of what is left, copied to the front of a buffer.
use Rattle.std.proofs.Common.{◌≡◌, ◌<◌, ◌≤◌, ◌+◌, ◌-◌, ℕ, List, ◌++◌, [], length, take, drop, min, sym, subst, arith, length-drop, length-append}
use Rattle.std.proofs.lemmas.List.{take-append-drop, drop_all, drop-drop}
use Rattle.std.proofs.Math.Seq.{take-append_seam}

-- What was left is the piece, which now stands in front of the rest of the buffer, and what is left after it;
-- and a piece without a byte, into a buffer that has one, means that nothing was left.
pub piece_given : (bytes buffer piece : List ℕ) (at count : ℕ) → at ≤ length bytes → count ≡ min (length buffer) (length bytes - at) → piece ≡ take count (drop at bytes) → length piece ≡ count
    → (drop at bytes ≡ take count (piece ++ drop count buffer) ++ drop (at + count) bytes) × (count ≡ 0 → 0 < length (piece ++ drop count buffer) → drop (at + count) bytes ≡ [])
piece_given bytes buffer piece at count within least is size = (
  (let P : ℕ → Type 0 = λ n. take n (piece ++ drop n buffer) ≡ piece in
      let front : take count (piece ++ drop count buffer) ≡ piece = subst P size (take-append_seam piece (drop (length piece) buffer)) in
      rw (front, is, ← drop-drop) (sym (take-append-drop count (drop at bytes)))),
  λ none room. drop_all (at + count) bytes (omega (arith, length-append piece (drop count buffer), length-drop count buffer)),
)
