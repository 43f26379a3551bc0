-- The definitions compute the answers.
use Rattle.std.proofs.Common.{refl}
use Rattle.std.specs.Fmt.{digits}
use Rattle.hex.specs.Hex.{encode_with, decode_pairs}
use Rattle.rams_model.specs.Formats.{header, spelling, fields_of, packet_at, rams_info, pieces_from, words32, word_numbers, numbers_of, first_value}
use Rattle.rams_model.specs.Packets.{hi, numbered, awaited, live_note, stream_of, source, consecutive_end, hold, has_access, chosen}
use Rattle.rams_model.specs.Service.{message_of, messages, heard_of, arrivals, as_tick_began, known, opened, sendings, newest_sender, ssrc, bursts, pending, quiet_ticks, channel_left, sent_now, verdict, number_answer, after_numbers, after_messages, run, send, all_served, all_repaired, all_forgotten, after_tick, order_of, newest_notes, newest_orders, datagram, after_hearing, history_of, book}
use Rattle.rams_model.specs.Worked.Buckets.{BurstKeepsWhatItLeft, DepthIsReserved, ChannelKeepsWhatItLeft, RepairsLeaveTheDepth, EndedBurstLeavesAll, UpdateKeepsWhatIsKept}
use Rattle.rams_model.proofs.examples.budgets_of_ticks.Goals as goal

computed : BurstKeepsWhatItLeft × DepthIsReserved × ChannelKeepsWhatItLeft × RepairsLeaveTheDepth × EndedBurstLeavesAll × UpdateKeepsWhatIsKept
unfolding digits encode_with decode_pairs header spelling fields_of packet_at rams_info pieces_from words32 word_numbers numbers_of first_value hi numbered awaited live_note stream_of source consecutive_end hold has_access chosen message_of messages heard_of arrivals as_tick_began known opened sendings newest_sender ssrc bursts pending quiet_ticks channel_left sent_now verdict number_answer after_numbers after_messages run send all_served all_repaired all_forgotten after_tick order_of newest_notes newest_orders datagram after_hearing history_of book
computed = ((refl, refl), (refl, refl), (refl, refl), (refl, refl), refl, refl)

pub returns-clause-burst_keeps_what_it_left : goal.returns-clause-burst_keeps_what_it_left
returns-clause-burst_keeps_what_it_left c = computed.0

pub returns-clause-depth_is_reserved : goal.returns-clause-depth_is_reserved
returns-clause-depth_is_reserved c = computed.1

pub returns-clause-channel_keeps_what_it_left : goal.returns-clause-channel_keeps_what_it_left
returns-clause-channel_keeps_what_it_left c = computed.2

pub returns-clause-repairs_leave_the_depth : goal.returns-clause-repairs_leave_the_depth
returns-clause-repairs_leave_the_depth c = computed.3

pub returns-clause-ended_burst_leaves_all : goal.returns-clause-ended_burst_leaves_all
returns-clause-ended_burst_leaves_all c = computed.4

pub returns-clause-update_keeps_what_is_kept : goal.returns-clause-update_keeps_what_is_kept
returns-clause-update_keeps_what_is_kept c = computed.5
