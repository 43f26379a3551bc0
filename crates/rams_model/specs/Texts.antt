-- The lines of traces and books.
pub mod Words
pub mod TraceLines
pub mod TraceOrder
pub mod BookText
pub mod BookLines
unfoldable pub use Rattle.rams_model.specs.Texts.Words.{onto_first, lines_of, into_first, whole_lines, lines_read, words_of, is_digit, front, first_word, spaced_words, text_of, is_hex_digit, is_number, number_in, decoded, bytes_in, word32_in, word32, is_hex, hex_word}
unfoldable pub use Rattle.rams_model.specs.Texts.TraceLines.{◌>>=◌, field, whole, one, hex_in, access_in, version_in, head_in, kept_in, rest_in, channel_in, live_in, feedback_in, tune_in, give_in, mcast_in, ask_in, drop_in, receiver_in, line_in, line_of, id_in_range, client_in_range, line_in_range, ranged, line_at, access_word, kept_words, channel_words, line_words, line_text, is_short, is_word32, is_version, version_says, channel_has_form, line_has_form, is_spelled}
pub use Rattle.rams_model.specs.Texts.TraceLines.{TraceLine, head_line, channel_line, live_line, feedback_line, tick_line, end_line, tune_line, give_line, mcast_line, ask_line, drop_line}
unfoldable pub use Rattle.rams_model.specs.Texts.TraceOrder.{nothing_reached, tick_of, version_of, has_channel, has_one_channel, has_events, has_receivers, may_come_next, kind_may_come, kind_of, has_version, may_come, is_event_word, is_receiver_word, kind_named, version_spelled, spells_version, named_may_come, expected, is_served, line_is_served, line_fault, joined, with_channel, with_line, accepted, with_reached, judged_line, judged}
pub use Rattle.rams_model.specs.Texts.TraceOrder.{Head, Claim, Reached}
unfoldable pub use Rattle.rams_model.specs.Texts.BookText.{spaced, rtp_fault_word, frame_fault_word, cause_word, live_words, of_client, of_number, of_word, note_words, book_line, note_line, send_line, end_order_count, order_count, line_fault_word, refused_line}
unfoldable pub use Rattle.rams_model.specs.Texts.BookLines.{order_line, notes_text, answer_text, book_lines}
