-- The definitions compute the answers.
use Rattle.std.proofs.Common.{refl}
use Rattle.std.specs.Fmt.{digits}
use Rattle.hex.specs.Hex.{encode_with, decode_pairs}
use Rattle.rams_model.specs.Formats.{header, spelling, fields_of, packet_at, rams_info, pieces_from, words32, word_numbers, numbers_of, first_value}
use Rattle.rams_model.specs.Packets.{hi, numbered, awaited, live_note, stream_of, source, consecutive_end, hold, has_access, chosen}
use Rattle.rams_model.specs.Service.{message_of, messages, heard_of, arrivals, as_tick_began, known, opened, sendings, newest_sender, ssrc, bursts, pending, quiet_ticks, channel_left, sent_now, verdict, number_answer, after_numbers, after_messages, run, send, all_served, all_repaired, all_forgotten, after_tick, order_of, newest_notes, newest_orders, datagram, after_hearing, history_of, book}
use Rattle.rams_model.specs.Texts.{note_line, send_line, notes_text, book_lines}
use Rattle.rams_model.specs.Worked.Texts.{LiveNoteLines, MessageNoteLines, RepairNoteLines, LinesOfABook}
use Rattle.rams_model.proofs.examples.lines_of_notes.Goals as goal

computed : LiveNoteLines × MessageNoteLines × RepairNoteLines × LinesOfABook
unfolding digits encode_with decode_pairs header spelling fields_of packet_at rams_info pieces_from words32 word_numbers numbers_of first_value hi numbered awaited live_note stream_of source consecutive_end hold has_access chosen message_of messages heard_of arrivals as_tick_began known opened sendings newest_sender ssrc bursts pending quiet_ticks channel_left sent_now verdict number_answer after_numbers after_messages run send all_served all_repaired all_forgotten after_tick order_of newest_notes newest_orders datagram after_hearing history_of book note_line send_line notes_text book_lines
computed = (refl, refl, refl, refl)

pub returns-clause-of_live : goal.returns-clause-of_live
returns-clause-of_live c = computed.0

pub returns-clause-of_messages : goal.returns-clause-of_messages
returns-clause-of_messages c = computed.1

pub returns-clause-of_repairs : goal.returns-clause-of_repairs
returns-clause-of_repairs c = computed.2

pub returns-clause-of_a_book : goal.returns-clause-of_a_book
returns-clause-of_a_book c = computed.3
