pub mod live_writer
pub mod Queues
pub mod Working
pub use Rattle.threads_loop.specs.session_worker.Queues.{AreQueues}
unfoldable pub use Rattle.threads_loop.specs.session_worker.Queues.{answered_with}
unfoldable pub use Rattle.threads_loop.specs.session_worker.Working.{queue_of, drawn_in, drawn_by, events_of, AreReady, HaveWorked}
pub use Rattle.threads_loop.specs.session_worker.Working.{HasWorked}
