-- The definitions compute the summary.
use Rattle.std.proofs.Common.{refl}
use Rattle.std.specs.Fmt.{digits}
use Rattle.rams_model.specs.Formats.{header, spelling, fields_of, packet_at, pieces_from, words32, word_numbers, words_from, numbers_of, first_value, rams_request, rams_stop}
use Rattle.rams_model.specs.Packets.{hi, numbered, awaited, live_note, stream_of, source, consecutive_end, hold, has_access, chosen}
use Rattle.rams_model.specs.Service.{message_of, messages, heard_of, arrivals, as_tick_began, known, opened, sendings, newest_sender, ssrc, bursts, pending, quiet_ticks, channel_left, sent_now, verdict, number_answer, after_numbers, after_messages, run, send, all_served, all_repaired, all_forgotten, after_tick, order_of, newest_notes, newest_orders, after_hearing, history_of, book}
use Rattle.generated.specs.trace_gen.{state, packet, request, nack, stop}
use Rattle.generated.specs.summary.{counts_of, summary}
use Rattle.generated.specs.summary.Worked.{OneBlock}
use Rattle.generated.proofs.summary.examples.one_block.Goals as goal

computed : OneBlock
unfolding digits header spelling fields_of packet_at pieces_from words32 word_numbers words_from numbers_of first_value rams_request rams_stop hi numbered awaited live_note stream_of source consecutive_end hold has_access chosen message_of messages heard_of arrivals as_tick_began known opened sendings newest_sender ssrc bursts pending quiet_ticks channel_left sent_now verdict number_answer after_numbers after_messages run send all_served all_repaired all_forgotten after_tick order_of newest_notes newest_orders after_hearing history_of book state packet request nack stop counts_of summary
computed = (refl, refl)

pub returns : goal.returns
returns c = computed
