-- The definitions compute the answers.
use Rattle.std.proofs.Common.{refl}
use Rattle.std.specs.Fmt.{digits}
use Rattle.hex.specs.Hex.{encode_with, decode_pairs}
use Rattle.rams_model.specs.Formats.{header, spelling, fields_of, packet_at, rams_info, pieces_from, words32, word_numbers, numbers_of, first_value}
use Rattle.rams_model.specs.Packets.{hi, numbered, awaited, live_note, stream_of, source, consecutive_end, hold, has_access, chosen}
use Rattle.rams_model.specs.Service.{message_of, messages, heard_of, arrivals, as_tick_began, known, opened, sendings, newest_sender, ssrc, bursts, pending, quiet_ticks, channel_left, sent_now, verdict, number_answer, after_numbers, after_messages, run, send, all_served, all_repaired, all_forgotten, after_tick, order_of, newest_notes, newest_orders, datagram, after_hearing, history_of, book}
use Rattle.rams_model.specs.Worked.Live.{LiveRefusals, WindowAndLate, RestartLosesTheBurst, PaddingAndExtension, EveryBadPacket, ReachOfNumbers, JumpIsKept, WindowAtARestart, WindowReleases, RandomAccessFlag}
use Rattle.rams_model.proofs.examples.live_packets.Goals as goal

computed : LiveRefusals × WindowAndLate × RestartLosesTheBurst × PaddingAndExtension × EveryBadPacket × ReachOfNumbers × JumpIsKept × WindowAtARestart × WindowReleases × RandomAccessFlag
unfolding digits encode_with decode_pairs header spelling fields_of packet_at rams_info pieces_from words32 word_numbers numbers_of first_value hi numbered awaited live_note stream_of source consecutive_end hold has_access chosen message_of messages heard_of arrivals as_tick_began known opened sendings newest_sender ssrc bursts pending quiet_ticks channel_left sent_now verdict number_answer after_numbers after_messages run send all_served all_repaired all_forgotten after_tick order_of newest_notes newest_orders datagram after_hearing history_of book
computed = (refl, refl, refl, refl, refl, refl, refl, refl, refl, (refl, refl))

pub returns-clause-live_refusals : goal.returns-clause-live_refusals
returns-clause-live_refusals c = computed.0

pub returns-clause-window_and_late : goal.returns-clause-window_and_late
returns-clause-window_and_late c = computed.1

pub returns-clause-restart_loses_the_burst : goal.returns-clause-restart_loses_the_burst
returns-clause-restart_loses_the_burst c = computed.2

pub returns-clause-padding_and_extension : goal.returns-clause-padding_and_extension
returns-clause-padding_and_extension c = computed.3

pub returns-clause-every_bad_packet : goal.returns-clause-every_bad_packet
returns-clause-every_bad_packet c = computed.4

pub returns-clause-reach_of_numbers : goal.returns-clause-reach_of_numbers
returns-clause-reach_of_numbers c = computed.5

pub returns-clause-jump_is_kept : goal.returns-clause-jump_is_kept
returns-clause-jump_is_kept c = computed.6

pub returns-clause-window_at_a_restart : goal.returns-clause-window_at_a_restart
returns-clause-window_at_a_restart c = computed.7

pub returns-clause-window_releases : goal.returns-clause-window_releases
returns-clause-window_releases c = computed.8

pub returns-clause-random_access_flag : goal.returns-clause-random_access_flag
returns-clause-random_access_flag c = computed.9
