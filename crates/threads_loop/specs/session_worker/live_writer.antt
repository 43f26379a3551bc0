pub mod Places
pub mod Writing
unfoldable pub use Rattle.threads_loop.specs.session_worker.live_writer.Places.{places_from, places_by, datagrams_of}
pub use Rattle.threads_loop.specs.session_worker.live_writer.Writing.{HasWritten, HasDrawn, HasWrittenPiece}
