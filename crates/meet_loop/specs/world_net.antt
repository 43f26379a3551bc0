pub mod Pairs
pub mod Runs
pub mod Ways
pub mod Telling
pub mod Seats
pub mod States
unfoldable pub use Rattle.meet_loop.specs.world_net.Pairs.{at_pair}
unfoldable pub use Rattle.meet_loop.specs.world_net.Runs.{in_run, in_runs, packet_in}
pub use Rattle.meet_loop.specs.world_net.Runs.{IsRunOf, Packed}
unfoldable pub use Rattle.meet_loop.specs.world_net.Ways.{as_way, sent_of}
unfoldable pub use Rattle.meet_loop.specs.world_net.Telling.{sent_note, note_with_sent, notes_with_sent, said_in, settled_notes, settled_sent, at_notes, at_sent, told_notes, told_sent}
unfoldable pub use Rattle.meet_loop.specs.world_net.Seats.{next_by, far_by, seat_is_too_far, first_with, shown_in, all_shown, all_presented, FollowsBy, Follows, IsAt, HasFew, show_at, post_at, posted_at}
pub use Rattle.meet_loop.specs.world_net.Seats.{Hears, Took}
unfoldable pub use Rattle.meet_loop.specs.world_net.States.{kept_of, Stands, if_there, listening_at, number_taken, number_in, taken_number, came_at, place_of, key_of, AreApart, with_channel, Keeps, KeepsHeard, AreFew, EndsSo, packet_below}
pub use Rattle.meet_loop.specs.world_net.States.{Kept, EndsAt, Seen, KeptFor, StandsFor, Goes, CameAtMost}
