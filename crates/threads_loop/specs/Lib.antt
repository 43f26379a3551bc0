pub mod session_worker
pub mod Dealing
pub mod Coming
pub mod Lines
pub mod Reading
pub mod Writing
unfoldable pub use Rattle.threads_loop.specs.Dealing.{threads, list_of, dealt, hub_event, part_of, head_part, head_lines}
pub use Rattle.threads_loop.specs.Dealing.{Interleaves}
unfoldable pub use Rattle.threads_loop.specs.Coming.{MayWrite, HasEnded, HasStopped, HasRoomFor}
pub use Rattle.threads_loop.specs.Coming.{MayCome}
unfoldable pub use Rattle.threads_loop.specs.Lines.{lists_in, holding, HaveLines, HasDealtBy, HasDealtSome, IsDealt, Took, Grows, StandsAfter}
pub use Rattle.threads_loop.specs.Lines.{HasDealt, HasTaken, Comes}
unfoldable pub use Rattle.threads_loop.specs.Reading.{IsFirstLine, HasRead, IsWhole}
pub use Rattle.threads_loop.specs.Reading.{GoesOnAfter, EndsAt, IsReadOf}
unfoldable pub use Rattle.threads_loop.specs.Writing.{piece_text, part_text, written_text}
