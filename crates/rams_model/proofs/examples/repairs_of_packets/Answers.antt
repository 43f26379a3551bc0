-- The definitions compute the answers.
use Rattle.std.proofs.Common.{refl}
use Rattle.std.specs.Fmt.{digits}
use Rattle.hex.specs.Hex.{encode_with, decode_pairs}
use Rattle.rams_model.specs.Formats.{header, spelling, fields_of, packet_at, rams_info, pieces_from, words32, word_numbers, numbers_of, first_value}
use Rattle.rams_model.specs.Packets.{hi, numbered, awaited, live_note, stream_of, source, consecutive_end, hold, has_access, chosen}
use Rattle.rams_model.specs.Service.{message_of, messages, heard_of, arrivals, as_tick_began, known, opened, sendings, newest_sender, ssrc, bursts, pending, quiet_ticks, channel_left, sent_now, verdict, number_answer, after_numbers, after_messages, run, send, all_served, all_repaired, all_forgotten, after_tick, order_of, newest_notes, newest_orders, datagram, after_hearing, history_of, book}
use Rattle.rams_model.specs.Worked.Repairs.{RepairAcrossTheWrap, EarlyAndAlready, RepairWaitsForBudget, GoneFromTheRing, EarlyUpToTheStop, EachNumberAfterTheOther, NacksWithoutNumbers, RepairsBehindTheRuns}
use Rattle.rams_model.proofs.examples.repairs_of_packets.Goals as goal

computed : RepairAcrossTheWrap × EarlyAndAlready × RepairWaitsForBudget × GoneFromTheRing × EarlyUpToTheStop × EachNumberAfterTheOther × NacksWithoutNumbers × RepairsBehindTheRuns
unfolding digits encode_with decode_pairs header spelling fields_of packet_at rams_info pieces_from words32 word_numbers numbers_of first_value hi numbered awaited live_note stream_of source consecutive_end hold has_access chosen message_of messages heard_of arrivals as_tick_began known opened sendings newest_sender ssrc bursts pending quiet_ticks channel_left sent_now verdict number_answer after_numbers after_messages run send all_served all_repaired all_forgotten after_tick order_of newest_notes newest_orders datagram after_hearing history_of book
computed = (refl, refl, refl, refl, refl, refl, refl, refl)

pub returns-clause-repair_across_the_wrap : goal.returns-clause-repair_across_the_wrap
returns-clause-repair_across_the_wrap c = computed.0

pub returns-clause-early_and_already : goal.returns-clause-early_and_already
returns-clause-early_and_already c = computed.1

pub returns-clause-repair_waits_for_budget : goal.returns-clause-repair_waits_for_budget
returns-clause-repair_waits_for_budget c = computed.2

pub returns-clause-gone_from_the_ring : goal.returns-clause-gone_from_the_ring
returns-clause-gone_from_the_ring c = computed.3

pub returns-clause-early_up_to_the_stop : goal.returns-clause-early_up_to_the_stop
returns-clause-early_up_to_the_stop c = computed.4

pub returns-clause-each_number_after_the_other : goal.returns-clause-each_number_after_the_other
returns-clause-each_number_after_the_other c = computed.5

pub returns-clause-nacks_without_numbers : goal.returns-clause-nacks_without_numbers
returns-clause-nacks_without_numbers c = computed.6

pub returns-clause-repairs_behind_the_runs : goal.returns-clause-repairs_behind_the_runs
returns-clause-repairs_behind_the_runs c = computed.7
