pub mod Pieces
pub mod States
pub mod Read
unfoldable pub use Rattle.receiver_core.specs.Pieces.{pieces_of, as_shown, Rise, number_at}
pub use Rattle.receiver_core.specs.Pieces.{IsPlace, IsGap, AreBelow}
unfoldable pub use Rattle.receiver_core.specs.States.{just_tuned, with_got, played, reach, named_alone, joining_by}
pub use Rattle.receiver_core.specs.States.{Seen, IsBounded, IsSafe}
unfoldable pub use Rattle.receiver_core.specs.Read.{as_again, as_multicast, as_told, distance_of}
