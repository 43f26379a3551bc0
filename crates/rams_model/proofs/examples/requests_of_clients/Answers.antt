-- The definitions compute the answers.
use Rattle.std.proofs.Common.{refl}
use Rattle.std.specs.Fmt.{digits}
use Rattle.hex.specs.Hex.{encode_with, decode_pairs}
use Rattle.rams_model.specs.Formats.{header, spelling, fields_of, packet_at, rams_info, pieces_from, words32, word_numbers, numbers_of, first_value}
use Rattle.rams_model.specs.Packets.{hi, numbered, awaited, live_note, stream_of, source, consecutive_end, hold, has_access, chosen}
use Rattle.rams_model.specs.Service.{message_of, messages, heard_of, arrivals, as_tick_began, known, opened, sendings, newest_sender, ssrc, bursts, pending, quiet_ticks, channel_left, sent_now, verdict, number_answer, after_numbers, after_messages, run, send, all_served, all_repaired, all_forgotten, after_tick, order_of, newest_notes, newest_orders, datagram, after_hearing, history_of, book}
use Rattle.rams_model.specs.Worked.Requests.{CompoundFeedback, RequestRefusals, BufferFillBounds, FullTable, RateIsUpdated, UpdateFitsTheShare, EveryBadDatagram, PaddingIsAllowed, FirstRamsMessageCounts, MessagesInOrder, ByeOfAnother, SourceOfTheClient, RefusedOnAnOpenBurst, NamedSources, IdleIsCounted, BusyIsNotIdle, UpdatesInATrace, RefusalsInOrder}
use Rattle.rams_model.proofs.examples.requests_of_clients.Goals as goal

computed : CompoundFeedback × RequestRefusals × BufferFillBounds × FullTable × RateIsUpdated × UpdateFitsTheShare × EveryBadDatagram × PaddingIsAllowed × FirstRamsMessageCounts × MessagesInOrder × ByeOfAnother × SourceOfTheClient × RefusedOnAnOpenBurst × NamedSources × IdleIsCounted × BusyIsNotIdle × UpdatesInATrace × RefusalsInOrder
unfolding digits encode_with decode_pairs header spelling fields_of packet_at rams_info pieces_from words32 word_numbers numbers_of first_value hi numbered awaited live_note stream_of source consecutive_end hold has_access chosen message_of messages heard_of arrivals as_tick_began known opened sendings newest_sender ssrc bursts pending quiet_ticks channel_left sent_now verdict number_answer after_numbers after_messages run send all_served all_repaired all_forgotten after_tick order_of newest_notes newest_orders datagram after_hearing history_of book
computed = (refl, refl, (refl, refl, refl, refl), refl, refl, (refl, refl), refl, refl, refl, refl, refl, refl, refl, refl, refl, (refl, refl), refl, (refl, refl))

pub returns-clause-compound_feedback : goal.returns-clause-compound_feedback
returns-clause-compound_feedback c = computed.0

pub returns-clause-request_refusals : goal.returns-clause-request_refusals
returns-clause-request_refusals c = computed.1

pub returns-clause-buffer_fill_bounds : goal.returns-clause-buffer_fill_bounds
returns-clause-buffer_fill_bounds c = computed.2

pub returns-clause-full_table : goal.returns-clause-full_table
returns-clause-full_table c = computed.3

pub returns-clause-rate_is_updated : goal.returns-clause-rate_is_updated
returns-clause-rate_is_updated c = computed.4

pub returns-clause-update_fits_the_share : goal.returns-clause-update_fits_the_share
returns-clause-update_fits_the_share c = computed.5

pub returns-clause-every_bad_datagram : goal.returns-clause-every_bad_datagram
returns-clause-every_bad_datagram c = computed.6

pub returns-clause-padding_is_allowed : goal.returns-clause-padding_is_allowed
returns-clause-padding_is_allowed c = computed.7

pub returns-clause-first_rams_message_counts : goal.returns-clause-first_rams_message_counts
returns-clause-first_rams_message_counts c = computed.8

pub returns-clause-messages_in_order : goal.returns-clause-messages_in_order
returns-clause-messages_in_order c = computed.9

pub returns-clause-bye_of_another : goal.returns-clause-bye_of_another
returns-clause-bye_of_another c = computed.10

pub returns-clause-source_of_the_client : goal.returns-clause-source_of_the_client
returns-clause-source_of_the_client c = computed.11

pub returns-clause-refused_on_an_open_burst : goal.returns-clause-refused_on_an_open_burst
returns-clause-refused_on_an_open_burst c = computed.12

pub returns-clause-named_sources : goal.returns-clause-named_sources
returns-clause-named_sources c = computed.13

pub returns-clause-idle_is_counted : goal.returns-clause-idle_is_counted
returns-clause-idle_is_counted c = computed.14

pub returns-clause-busy_is_not_idle : goal.returns-clause-busy_is_not_idle
returns-clause-busy_is_not_idle c = computed.15

pub returns-clause-updates_in_a_trace : goal.returns-clause-updates_in_a_trace
returns-clause-updates_in_a_trace c = computed.16

pub returns-clause-refusals_in_order : goal.returns-clause-refusals_in_order
returns-clause-refusals_in_order c = computed.17
