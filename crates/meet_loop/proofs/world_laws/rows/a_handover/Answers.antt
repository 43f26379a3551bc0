-- The definitions compute what is said.
use Rattle.std.proofs.Common.{refl}
use Rattle.std.specs.Fmt.{digits}
use Rattle.hex.specs.Hex.{encode_with, decode_pairs}
use Rattle.rams_model.specs.Formats.{header, spelling, fields_of, packet_at, word_numbers, numbers_of, first_value, pieces_from, words32, words_from, rams_request, rams_stop, rams_info}
use Rattle.rams_model.specs.Packets.{hi, numbered, awaited, live_note, stream_of, source, consecutive_end, hold, has_access, chosen}
use Rattle.rams_model.specs.Receiver.{with_piece, without_piece, first_info, last_number, after_told, after_media, after_shown, reception, shown, source_first}
use Rattle.rams_model.specs.Service.{message_of, messages, heard_of, arrivals, as_tick_began, known, opened, sendings, newest_sender, ssrc, bursts, pending, quiet_ticks, channel_left, sent_now, verdict, number_answer, after_numbers, after_messages, run, send, all_served, all_repaired, all_forgotten, after_tick, order_of, newest_notes, newest_orders, datagram, after_hearing, history_of}
use Rattle.meet_loop.specs.world_laws.{first_replaced, as_it_came, presenting, pieces_in, notes_with_orders, happens}
use Rattle.meet_loop.specs.world_laws.Worked.{said_from, AHandover}
use Rattle.meet_loop.proofs.world_laws.rows.a_handover.Goals as goal

computed : AHandover
unfolding digits encode_with decode_pairs header spelling fields_of packet_at word_numbers numbers_of first_value pieces_from words32 words_from rams_request rams_stop rams_info hi numbered awaited live_note stream_of source consecutive_end hold has_access chosen with_piece without_piece first_info last_number after_told after_media after_shown reception shown source_first message_of messages heard_of arrivals as_tick_began known opened sendings newest_sender ssrc bursts pending quiet_ticks channel_left sent_now verdict number_answer after_numbers after_messages run send all_served all_repaired all_forgotten after_tick order_of newest_notes newest_orders datagram after_hearing history_of first_replaced as_it_came presenting pieces_in notes_with_orders happens said_from
computed = refl

pub returns : goal.returns
returns c = computed
