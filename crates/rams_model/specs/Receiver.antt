-- A receiver of a channel, as a set-top has it: what it gets, what it presents, and what it sends.
pub mod Pieces
pub mod Reading
pub mod Receiving
pub mod Sending
pub mod Turns
unfoldable pub use Rattle.rams_model.specs.Receiver.Pieces.{piece, room, playing_from, from_ahead, nearest, has_piece, with_piece, came, kept, with_arrival, joins, joined_with, joining, join_kept, piece_at, without_piece, presented, past, after_presenting}
pub use Rattle.rams_model.specs.Receiver.Pieces.{Piece, Playing}
unfoldable pub use Rattle.rams_model.specs.Receiver.Reading.{is_of, again_of, read_again, read_multicast, if_info, first_info, tells_of_burst, info_about, read_told, read_first, read_framed, told_by, brought_again, brought_by_multicast}
pub use Rattle.rams_model.specs.Receiver.Reading.{Told, informs, unread, Media, again, multicast, unfit}
unfoldable pub use Rattle.rams_model.specs.Receiver.Receiving.{nothing_got, info_came, with_info, within_room, distance_from, first_number, or_begun, play_for_again, came_into, arrived, arrived_by_multicast, after_told, after_media, told_answer, media_answer, join_answer, shown_now, after_shown}
pub use Rattle.rams_model.specs.Receiver.Receiving.{Reception}
unfoldable pub use Rattle.rams_model.specs.Receiver.Sending.{compound, request_datagram, join_datagram, nack_datagram, bye_datagram, last_number, missing, most_named, nack_of, join_again, asked_in_play, asked_since, asked}
unfoldable pub use Rattle.rams_model.specs.Receiver.Turns.{reception, shown, first_by, source_first}
pub use Rattle.rams_model.specs.Receiver.Turns.{Turn, hears, delivers, presents}
