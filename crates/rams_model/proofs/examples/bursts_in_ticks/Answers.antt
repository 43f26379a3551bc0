-- The definitions compute the answers.
use Rattle.std.proofs.Common.{refl}
use Rattle.std.specs.Fmt.{digits}
use Rattle.hex.specs.Hex.{encode_with, decode_pairs}
use Rattle.rams_model.specs.Formats.{header, spelling, fields_of, packet_at, rams_info, pieces_from, words32, word_numbers, numbers_of, first_value}
use Rattle.rams_model.specs.Packets.{hi, numbered, awaited, live_note, stream_of, source, consecutive_end, hold, has_access, chosen}
use Rattle.rams_model.specs.Service.{message_of, messages, heard_of, arrivals, as_tick_began, known, opened, sendings, newest_sender, ssrc, bursts, pending, quiet_ticks, channel_left, sent_now, verdict, number_answer, after_numbers, after_messages, run, send, all_served, all_repaired, all_forgotten, after_tick, order_of, newest_notes, newest_orders, datagram, after_hearing, history_of, book}
use Rattle.rams_model.specs.Worked.Bursts.{OnePacketPerTick, NoEligibleAccessPoint, BurstLost, LimitAndIdle, ShareIsSpent, SlowClient, StatedJoinTimeIsKept, RingIsFilled, SourceSendsMoreThanDeclared, NotEligibleWithOneMore, BurstsInTheOrderOfClients, BurstWaitsForTheSource, RunStopsAtTheFirstThatDoesNotFit}
use Rattle.rams_model.proofs.examples.bursts_in_ticks.Goals as goal

computed : OnePacketPerTick × NoEligibleAccessPoint × BurstLost × LimitAndIdle × ShareIsSpent × SlowClient × StatedJoinTimeIsKept × RingIsFilled × SourceSendsMoreThanDeclared × NotEligibleWithOneMore × BurstsInTheOrderOfClients × BurstWaitsForTheSource × RunStopsAtTheFirstThatDoesNotFit
unfolding digits encode_with decode_pairs header spelling fields_of packet_at rams_info pieces_from words32 word_numbers numbers_of first_value hi numbered awaited live_note stream_of source consecutive_end hold has_access chosen message_of messages heard_of arrivals as_tick_began known opened sendings newest_sender ssrc bursts pending quiet_ticks channel_left sent_now verdict number_answer after_numbers after_messages run send all_served all_repaired all_forgotten after_tick order_of newest_notes newest_orders datagram after_hearing history_of book
computed = (refl, (refl, refl, refl), refl, refl, (refl, refl), (refl, refl), refl, refl, refl, refl, refl, refl, refl)

pub returns-clause-one_packet_per_tick : goal.returns-clause-one_packet_per_tick
returns-clause-one_packet_per_tick c = computed.0

pub returns-clause-no_eligible_access_point : goal.returns-clause-no_eligible_access_point
returns-clause-no_eligible_access_point c = computed.1

pub returns-clause-burst_lost : goal.returns-clause-burst_lost
returns-clause-burst_lost c = computed.2

pub returns-clause-limit_and_idle : goal.returns-clause-limit_and_idle
returns-clause-limit_and_idle c = computed.3

pub returns-clause-share_is_spent : goal.returns-clause-share_is_spent
returns-clause-share_is_spent c = computed.4

pub returns-clause-slow_client : goal.returns-clause-slow_client
returns-clause-slow_client c = computed.5

pub returns-clause-stated_join_time_is_kept : goal.returns-clause-stated_join_time_is_kept
returns-clause-stated_join_time_is_kept c = computed.6

pub returns-clause-ring_is_filled : goal.returns-clause-ring_is_filled
returns-clause-ring_is_filled c = computed.7

pub returns-clause-source_sends_more_than_declared : goal.returns-clause-source_sends_more_than_declared
returns-clause-source_sends_more_than_declared c = computed.8

pub returns-clause-not_eligible_with_one_more : goal.returns-clause-not_eligible_with_one_more
returns-clause-not_eligible_with_one_more c = computed.9

pub returns-clause-bursts_in_the_order_of_clients : goal.returns-clause-bursts_in_the_order_of_clients
returns-clause-bursts_in_the_order_of_clients c = computed.10

pub returns-clause-burst_waits_for_the_source : goal.returns-clause-burst_waits_for_the_source
returns-clause-burst_waits_for_the_source c = computed.11

pub returns-clause-run_stops_at_the_first_that_does_not_fit : goal.returns-clause-run_stops_at_the_first_that_does_not_fit
returns-clause-run_stops_at_the_first_that_does_not_fit c = computed.12
