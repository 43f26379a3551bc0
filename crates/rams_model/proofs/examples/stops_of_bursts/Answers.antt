-- The definitions compute the answers.
use Rattle.std.proofs.Common.{refl}
use Rattle.std.specs.Fmt.{digits}
use Rattle.hex.specs.Hex.{encode_with, decode_pairs}
use Rattle.rams_model.specs.Formats.{header, spelling, fields_of, packet_at, rams_info, pieces_from, words32, word_numbers, numbers_of, first_value}
use Rattle.rams_model.specs.Packets.{hi, numbered, awaited, live_note, stream_of, source, consecutive_end, hold, has_access, chosen}
use Rattle.rams_model.specs.Service.{message_of, messages, heard_of, arrivals, as_tick_began, known, opened, sendings, newest_sender, ssrc, bursts, pending, quiet_ticks, channel_left, sent_now, verdict, number_answer, after_numbers, after_messages, run, send, all_served, all_repaired, all_forgotten, after_tick, order_of, newest_notes, newest_orders, datagram, after_hearing, history_of, book}
use Rattle.rams_model.specs.Worked.Stops.{StopAcrossTheWrap, StopAfterTheLast, StopAlreadyPassed, StopHighBits, StopIsKept, StopWithoutNumber}
use Rattle.rams_model.proofs.examples.stops_of_bursts.Goals as goal

computed : StopAcrossTheWrap × StopAfterTheLast × StopAlreadyPassed × StopHighBits × StopIsKept × StopWithoutNumber
unfolding digits encode_with decode_pairs header spelling fields_of packet_at rams_info pieces_from words32 word_numbers numbers_of first_value hi numbered awaited live_note stream_of source consecutive_end hold has_access chosen message_of messages heard_of arrivals as_tick_began known opened sendings newest_sender ssrc bursts pending quiet_ticks channel_left sent_now verdict number_answer after_numbers after_messages run send all_served all_repaired all_forgotten after_tick order_of newest_notes newest_orders datagram after_hearing history_of book
computed = (refl, refl, refl, refl, refl, refl)

pub returns-clause-stop_across_the_wrap : goal.returns-clause-stop_across_the_wrap
returns-clause-stop_across_the_wrap c = computed.0

pub returns-clause-stop_after_the_last : goal.returns-clause-stop_after_the_last
returns-clause-stop_after_the_last c = computed.1

pub returns-clause-stop_already_passed : goal.returns-clause-stop_already_passed
returns-clause-stop_already_passed c = computed.2

pub returns-clause-stop_high_bits : goal.returns-clause-stop_high_bits
returns-clause-stop_high_bits c = computed.3

pub returns-clause-stop_is_kept : goal.returns-clause-stop_is_kept
returns-clause-stop_is_kept c = computed.4

pub returns-clause-stop_without_number : goal.returns-clause-stop_without_number
returns-clause-stop_without_number c = computed.5
