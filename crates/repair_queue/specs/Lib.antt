pub mod Queue
pub mod Index
pub mod Span
pub mod Pieces
unfoldable pub use Rattle.repair_queue.specs.Queue.{is_of, count_of, asked_of, answered, unmarked, without}
pub use Rattle.repair_queue.specs.Queue.{IsWithinLimits}
unfoldable pub use Rattle.repair_queue.specs.Index.{same_pair, mark_of, mark_in, marked_in, mark_at, marked, counted_in, counted, AreOnce}
pub use Rattle.repair_queue.specs.Index.{Indexes, Owes}
unfoldable pub use Rattle.repair_queue.specs.Span.{AreFrom, AreNoLess, Spans}
unfoldable pub use Rattle.repair_queue.specs.Pieces.{all_of}
