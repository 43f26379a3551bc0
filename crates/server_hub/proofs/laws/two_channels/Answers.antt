-- The definitions compute the answers.
use Rattle.std.proofs.Common.{refl}
use Rattle.rams_model.specs.Formats.{header, spelling, fields_of, packet_at, word_numbers, numbers_of, first_value, pieces_from, words32}
use Rattle.rams_model.specs.Packets.{hi, numbered, awaited, live_note, stream_of, source, consecutive_end, hold, has_access, chosen}
use Rattle.rams_model.specs.Service.{message_of, messages, heard_of, arrivals, as_tick_began, known, opened, sendings, newest_sender, ssrc, bursts, pending, quiet_ticks, channel_left, sent_now, verdict, number_answer, after_numbers, after_messages, run, send, all_served, all_repaired, all_forgotten, after_tick, order_of, newest_notes, after_hearing, history_of}
use Rattle.server_hub.specs.{all_said, EventsGoToTheirChannels}
use Rattle.server_hub.proofs.laws.two_channels.Goals as goal

computed : EventsGoToTheirChannels
unfolding header spelling fields_of packet_at pieces_from words32 word_numbers numbers_of first_value hi numbered awaited live_note stream_of source consecutive_end hold has_access chosen message_of messages heard_of arrivals as_tick_began known opened sendings newest_sender ssrc bursts pending quiet_ticks channel_left sent_now verdict number_answer after_numbers after_messages run send all_served all_repaired all_forgotten after_tick order_of newest_notes after_hearing history_of all_said
computed = refl

pub returns : goal.returns
returns c = computed
