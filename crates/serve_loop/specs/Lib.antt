pub mod Sending
pub mod Progress
pub mod Steady
pub mod Ended
unfoldable pub use Rattle.serve_loop.specs.Sending.{GoOut, order_datagrams, settled_datagrams, at_datagrams, said_datagrams, IsWireStop}
pub use Rattle.serve_loop.specs.Sending.{Sends, IsStoppedByWire}
unfoldable pub use Rattle.serve_loop.specs.Progress.{sent_by, WaitsIn, IsOutStop, next_events}
pub use Rattle.serve_loop.specs.Progress.{Begun, Serving, Broken, IsStoppedOutside, Ready, GoesOn, IsServer, IsBetween}
unfoldable pub use Rattle.serve_loop.specs.Steady.{bytes_of}
pub use Rattle.serve_loop.specs.Steady.{Room, HasRoom}
unfoldable pub use Rattle.trace_loop.specs.{IfTold, IfBothTold, IsReadStop, IsWriteStop, OnlyMemoryStops, StopsIn}
pub use Rattle.trace_loop.specs.{IsStoppedByRead, IsStoppedByWrite}
unfoldable pub use Rattle.trace_loop.specs.head_loop.{head_end, head_stage, with_feed, head_text, numbers, StandsSomewhere, HasRead, IsIdle, AnswersFrom}
pub use Rattle.trace_loop.specs.head_loop.{IsHeadOf}
unfoldable pub use Rattle.serve_loop.specs.Ended.{given_events, given_journal, text_by, served_text, datagrams_by, served_datagrams, EndsAs, IsServeEnd, IsStop}
pub use Rattle.serve_loop.specs.Ended.{Given, IsGiven, Ending, Stopping, HasEnded, HasStopped, IsStopped}
