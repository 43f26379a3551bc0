pub mod Laws
pub mod Seen
unfoldable pub use Rattle.channel_cache.specs.packet_ring.Laws.{TheEndGrows, EndsAreAlike, TheNextIsAbove, PacketsStandInOrder}
unfoldable pub use Rattle.channel_cache.specs.packet_ring.Seen.{empty_ring, with_next, pushed, let_go, packet_of, StandsFor}
pub use Rattle.channel_cache.specs.packet_ring.Seen.{IsRing}
