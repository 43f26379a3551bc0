-- The definitions compute the text.
use Rattle.std.proofs.Common.{refl}
use Rattle.std.specs.Fmt.{digits}
use Rattle.hex.specs.Hex.{encode_with, decode_pairs}
use Rattle.rams_model.specs.Service.{checked, message_of, messages, heard_of, arrivals, as_tick_began, known, opened, sendings, newest_sender, ssrc, bursts, pending, quiet_ticks, channel_left, sent_now, verdict, number_answer, after_numbers, after_messages, run, send, all_served, all_repaired, all_forgotten, after_tick, order_of, newest_notes, newest_orders, datagram, after_hearing, history_of}
use Rattle.rams_model.specs.Formats.{header, spelling, fields_of, packet_at, rams_info, pieces_from, words32, word_numbers, numbers_of, first_value}
use Rattle.rams_model.specs.Packets.{hi, numbered, awaited, live_note, stream_of, source, consecutive_end, hold, has_access, chosen}
use Rattle.rams_model.specs.Texts.{note_line, send_line, notes_text, lines_of, words_of, head_in, kept_in, channel_in, live_in, feedback_in, accepted, judged}
use Rattle.trace_loop.specs.trace_book.trace_serving.{turn, text_from, served_text, stage_from}
use Rattle.trace_loop.specs.trace_book.Worked.{NoEvent, NothingAfterTheEnd, RefusedLines, MissingLines, SharesFitTheLink, VersionsOfTheText, OneEventTooMany}
use Rattle.trace_loop.proofs.trace_book.examples.ends_of_traces.Goals as goal

computed : NoEvent × NothingAfterTheEnd × RefusedLines × MissingLines × SharesFitTheLink × VersionsOfTheText × OneEventTooMany
unfolding digits encode_with decode_pairs checked header spelling fields_of packet_at rams_info pieces_from words32 word_numbers numbers_of first_value hi numbered awaited live_note stream_of source consecutive_end hold has_access chosen message_of messages heard_of arrivals as_tick_began known opened sendings newest_sender ssrc bursts pending quiet_ticks channel_left sent_now verdict number_answer after_numbers after_messages run send all_served all_repaired all_forgotten after_tick order_of newest_notes newest_orders datagram after_hearing history_of note_line send_line notes_text lines_of words_of head_in kept_in channel_in live_in feedback_in accepted judged turn text_from served_text stage_from
computed = (refl, refl, (refl, refl, refl, refl, refl), (refl, refl), (refl, refl), (refl, refl, refl), (refl, refl))

pub returns-clause-no_event : goal.returns-clause-no_event
returns-clause-no_event c = computed.0

pub returns-clause-nothing_after : goal.returns-clause-nothing_after
returns-clause-nothing_after c = computed.1

pub returns-clause-refused_lines : goal.returns-clause-refused_lines
returns-clause-refused_lines c = computed.2

pub returns-clause-missing_lines : goal.returns-clause-missing_lines
returns-clause-missing_lines c = computed.3

pub returns-clause-shares_fit_the_link : goal.returns-clause-shares_fit_the_link
returns-clause-shares_fit_the_link c = computed.4

pub returns-clause-versions : goal.returns-clause-versions
returns-clause-versions c = computed.5

pub returns-clause-one_too_many : goal.returns-clause-one_too_many
returns-clause-one_too_many c = computed.6
