pub mod world_laws
pub mod world_net
pub mod world_book
pub mod world_text
pub mod Turns
unfoldable pub use Rattle.meet_loop.specs.Turns.{WorldServes, OpensIn, Happens, Took}
pub use Rattle.meet_loop.specs.Turns.{Serves, Stands, Comes, CanOpen, Opens, IsUnder}
