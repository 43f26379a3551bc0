-- The definitions compute the text.
use Rattle.std.proofs.Common.{refl}
use Rattle.std.specs.Fmt.{digits}
use Rattle.hex.specs.Hex.{encode_with, decode_pairs}
use Rattle.rams_model.specs.Service.{checked, message_of, messages, heard_of, arrivals, as_tick_began, known, opened, sendings, newest_sender, ssrc, bursts, pending, quiet_ticks, channel_left, sent_now, verdict, number_answer, after_numbers, after_messages, run, send, all_served, all_repaired, all_forgotten, after_tick, order_of, newest_notes, newest_orders, datagram, after_hearing, history_of}
use Rattle.rams_model.specs.Formats.{header, spelling, fields_of, packet_at, rams_info, pieces_from, words32, word_numbers, numbers_of, first_value}
use Rattle.rams_model.specs.Packets.{hi, numbered, awaited, live_note, stream_of, source, consecutive_end, hold, has_access, chosen}
use Rattle.rams_model.specs.Texts.{note_line, send_line, notes_text, lines_of, words_of, head_in, kept_in, channel_in, live_in, feedback_in, accepted, judged}
use Rattle.trace_loop.specs.trace_book.trace_serving.{turn, text_from, served_text, stage_from}
use Rattle.trace_loop.specs.trace_book.Worked.{BothAnswerATick, NoSuchChannel, SecondVersion, SwellIsSpent}
use Rattle.trace_loop.proofs.trace_book.examples.events_of_traces.Goals as goal

computed : BothAnswerATick × NoSuchChannel × SecondVersion × SwellIsSpent
unfolding digits encode_with decode_pairs checked header spelling fields_of packet_at rams_info pieces_from words32 word_numbers numbers_of first_value hi numbered awaited live_note stream_of source consecutive_end hold has_access chosen message_of messages heard_of arrivals as_tick_began known opened sendings newest_sender ssrc bursts pending quiet_ticks channel_left sent_now verdict number_answer after_numbers after_messages run send all_served all_repaired all_forgotten after_tick order_of newest_notes newest_orders datagram after_hearing history_of note_line send_line notes_text lines_of words_of head_in kept_in channel_in live_in feedback_in accepted judged turn text_from served_text stage_from
computed = (refl, refl, (refl, refl), refl)

pub returns-clause-both_answer : goal.returns-clause-both_answer
returns-clause-both_answer c = computed.0

pub returns-clause-no_such_channel : goal.returns-clause-no_such_channel
returns-clause-no_such_channel c = computed.1

pub returns-clause-second_version : goal.returns-clause-second_version
returns-clause-second_version c = computed.2

pub returns-clause-swell : goal.returns-clause-swell
returns-clause-swell c = computed.3
