pub mod Routing
pub mod Lines
pub mod Reading
pub mod Walking
pub mod Pooling
pub mod Writing
unfoldable pub use Rattle.pool.specs.pool_loop.Routing.{pool, route_of, reaches, is_for_all, served_so, all_served}
unfoldable pub use Rattle.pool.specs.pool_loop.Lines.{came_with, HaveAtMost, HasDealtBy, HasDealtSome, IsDealt, Took, StandsAfter}
pub use Rattle.pool.specs.pool_loop.Lines.{HasDealt, HasTaken, Comes}
unfoldable pub use Rattle.pool.specs.pool_loop.Reading.{IsFirstLine, HasRead, IsWhole}
pub use Rattle.pool.specs.pool_loop.Reading.{GoesOnAfter, EndsAt, IsReadOf}
unfoldable pub use Rattle.pool.specs.pool_loop.Walking.{kept, left_of, all_left, number_of, numbers_of, first_text, next_text, turned, heard_text, past, all_past, unheard_text, route_text, walk_text}
unfoldable pub use Rattle.pool.specs.pool_loop.Pooling.{numbers_in, granted_in, MayWrite, HasEnded, HasStopped, HasRoomFor}
pub use Rattle.pool.specs.pool_loop.Pooling.{ClaimsOf, IsPooled}
unfoldable pub use Rattle.pool.specs.pool_loop.Writing.{closing_text, pooled_text}
pub use Rattle.pool.specs.pool_loop.Writing.{IsLaneOf}
