pub mod WorldText
pub mod Worlds
pub mod Worked
unfoldable pub use Rattle.meet_loop.specs.world_book.WorldText.{event_of, most_events, most_datagrams, meet, meet_text, world_of}
unfoldable pub use Rattle.meet_loop.specs.world_book.Worlds.{WorldsAreServedByTheirLines, WorldsEndSo, ReceiversPresentTheirSources, WorldsAreServedLawfully}
pub use Rattle.meet_loop.specs.world_book.Worlds.{IsServedByAWorld, EndsSo, ReceiversPresent}
