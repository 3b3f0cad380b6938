-- Counting places.
pub use Rattle.closed_fronts.proofs.Counts.{count_under, count_none, count_more}
