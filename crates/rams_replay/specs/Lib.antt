pub mod Turns
pub mod CommandWords
pub mod Served
pub mod Statuses
pub mod Described
pub mod Captured
pub mod Threaded
pub mod TakenOver
unfoldable pub use Rattle.rams_replay.specs.Turns.{settled_text, at_text, told_text, Took}
pub use Rattle.rams_replay.specs.Turns.{Stands, Tells, CountsOne, Comes}
unfoldable pub use Rattle.rams_replay.specs.CommandWords.{within, number_within, make_of, serve_of, describe_of, pcap_of, threads_of, pool_of, takeover_of, alone, with_number, command_of, is_plain, IsWithin, AreRun, AreMeet, AreSdp, AreDescribe, ArePcap, AreThreads, ArePool, AreMake, AreServe, AreTakeover, port_in, port_of}
unfoldable pub use Rattle.rams_replay.specs.Statuses.{status_of, is_words, HasText, HasSummary, HasFault, IsOrLacksMemory}
pub use Rattle.rams_replay.specs.Statuses.{Writes, IsCaused}
unfoldable pub use Rattle.rams_replay.specs.Served.{HasServed, HasFaultOf, no_room}
pub use Rattle.rams_replay.specs.Served.{IsCausedOverWire}
unfoldable pub use Rattle.rams_replay.specs.Described.{HasReply}
pub use Rattle.rams_replay.specs.Described.{Replies}
unfoldable pub use Rattle.rams_replay.specs.Captured.{HasCapture}
pub use Rattle.rams_replay.specs.Captured.{WritesCapture}
unfoldable pub use Rattle.rams_replay.specs.Threaded.{IsEndOr, threads_end, WritesThreads, pool_end, WritesPool, ComesPromised}
pub use Rattle.rams_replay.specs.Threaded.{WritesOneOf, IsPromised}
unfoldable pub use Rattle.rams_replay.specs.TakenOver.{HasTakenOver}
