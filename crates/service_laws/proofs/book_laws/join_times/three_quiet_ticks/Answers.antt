-- The examples compute.
use Rattle.std.proofs.Common.{◌≤◌, refl, lit≤, arith}
use Rattle.rams_model.specs.Formats.{header, spelling, fields_of, packet_at, pieces_from, words32, word_numbers, numbers_of, first_value}
use Rattle.rams_model.specs.Packets.{hi, numbered, awaited, live_note, stream_of, source, consecutive_end, hold, has_access, chosen}
use Rattle.rams_model.specs.Service.{message_of, messages, heard_of, arrivals, as_tick_began, known, opened, sendings, newest_sender, ssrc, bursts, pending, quiet_ticks, channel_left, sent_now, verdict, number_answer, after_numbers, after_messages, run, send, all_served, all_repaired, all_forgotten, after_tick, newest_notes, after_hearing, history_of}
use Rattle.rams_model.specs.Laws.{until_end, moments, told_join}
use Rattle.service_laws.specs.book_laws.{ticks_since_told, QuietForThreeTicks, LostWhereTooMuchComes}
use Rattle.service_laws.proofs.book_laws.join_times.three_quiet_ticks.Goals as goal

three_ticks : QuietForThreeTicks
unfolding header spelling fields_of packet_at pieces_from words32 word_numbers numbers_of first_value hi numbered awaited live_note stream_of source consecutive_end hold has_access chosen message_of messages heard_of arrivals as_tick_began known opened sendings newest_sender ssrc bursts pending quiet_ticks channel_left sent_now verdict number_answer after_numbers after_messages run send all_served all_repaired all_forgotten after_tick newest_notes after_hearing history_of until_end moments told_join ticks_since_told
three_ticks = record {
  quiet = record {
    follows = (refl, (refl, (refl, tt)));
    sizes = (lit≤ tt, (lit≤ tt, (lit≤ tt, tt)));
    joins = (lit≤ tt, (lit≤ tt, (lit≤ tt, tt)));
  };
  told = refl;
  since = refl;
  is_open = refl;
}

too_much : LostWhereTooMuchComes
unfolding header spelling fields_of packet_at pieces_from words32 word_numbers numbers_of first_value hi numbered awaited live_note stream_of source consecutive_end hold has_access chosen message_of messages heard_of arrivals as_tick_began known opened sendings newest_sender ssrc bursts pending quiet_ticks channel_left sent_now verdict number_answer after_numbers after_messages run send all_served all_repaired all_forgotten after_tick newest_notes after_hearing history_of until_end moments told_join ticks_since_told
too_much = record { lost = refl; loud = λ q. let le : 710 ≤ 568 = q.joins.0 in omega arith }

pub returns-clause-quiet : goal.returns-clause-quiet
returns-clause-quiet c = three_ticks

pub returns-clause-lost : goal.returns-clause-lost
returns-clause-lost c = too_much
