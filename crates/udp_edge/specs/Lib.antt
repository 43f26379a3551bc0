pub mod Address
pub mod Round
pub mod State
unfoldable pub use Rattle.udp_edge.specs.Address.{address_number}
unfoldable pub use Rattle.udp_edge.specs.Round.{steps_behind, IsReady, KeepsReady}
pub use Rattle.udp_edge.specs.Round.{IsNext, SetsBit}
pub use Rattle.udp_edge.specs.State.{UdpState}
unfoldable pub use Rattle.udp_edge.specs.State.{IsPortOf}
