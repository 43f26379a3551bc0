-- The packets of a channel: their numbers, the source list, what is held of it, and where a burst may begin.
pub mod Numbering
pub mod Source
pub mod Hold
pub mod Access
unfoldable pub use Rattle.rams_model.specs.Packets.Numbering.{ahead, least_from, following, is_kept, after_greatest, numbered}
pub use Rattle.rams_model.specs.Packets.Numbering.{Numbered, first, forward, backward, jump, restart}
unfoldable pub use Rattle.rams_model.specs.Packets.Source.{held_as, empty_stream, has_number, with_packet, least, is_missing, awaited, greatest, in_time, note_of, live_note, stream_after, stream_of, source, is_consecutive, Follows, consecutive_end, hold}
pub use Rattle.rams_model.specs.Packets.Source.{Arrival, Stream}
unfoldable pub use Rattle.rams_model.specs.Packets.Hold.{lo, hi, last_of, wires, from_number}
unfoldable pub use Rattle.rams_model.specs.Packets.Access.{ts_packets, has_flag, has_access, is_access_point, behind, last_timestamp, age_ms, age, is_eligible, eligible, of_age, newest, is_at_most, not_too_old, chosen_of, chosen}
