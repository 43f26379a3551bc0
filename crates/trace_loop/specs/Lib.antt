pub mod trace_book
pub mod journal_book
pub mod head_loop
pub mod Stops
pub mod Turns
pub mod Told
pub mod WholeTrace
unfoldable pub use Rattle.trace_loop.specs.Stops.{IsWriteStop, OnlyMemoryStops, IsReadStop, IsStop, StopsIn, EndsAs}
pub use Rattle.trace_loop.specs.Stops.{IsStoppedByWrite, IsStoppedByRead, IsStopped}
unfoldable pub use Rattle.trace_loop.specs.Turns.{ending, IsEnd, last_line, written, StandsSomewhere, Took}
unfoldable pub use Rattle.trace_loop.specs.Told.{IfTold, IfBothTold, EndsIn, IsFirstTurn, Ends, AreReadWhole, HasLinesText, HasReadText}
pub use Rattle.trace_loop.specs.Told.{GoesOnAfter}
unfoldable pub use Rattle.trace_loop.specs.WholeTrace.{HasReadSo, HasEndedSo, HasStoppedSo, HasRoomSo}
