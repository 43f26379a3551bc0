-- The definitions compute the journal and its datagrams.
use Rattle.rams_model.specs.declared.Mode.TheVariants.{Serve}
use Rattle.trace_loop.proofs.journal_book.EventLines.{no_feed}
use Rattle.std.proofs.Common.{Some, ◌≡◌, ℕ, List, [], ◌∷◌, refl, codes}
use Rattle.std.specs.Fmt.{digits}
use Rattle.hex.specs.Hex.{encode_with, decode_pairs}
use Rattle.rams_model.specs.Service.{checked, message_of, messages, heard_of, arrivals, as_tick_began, known, opened, sendings, newest_sender, ssrc, bursts, pending, quiet_ticks, channel_left, sent_now, verdict, number_answer, after_numbers, after_messages, run, send, all_served, all_repaired, all_forgotten, after_tick, order_of, newest_notes, newest_orders, datagram, after_hearing, history_of}
use Rattle.rams_model.specs.Formats.{header, spelling, fields_of, packet_at, rams_info, pieces_from, words32, word_numbers, numbers_of, first_value}
use Rattle.rams_model.specs.Packets.{hi, numbered, awaited, live_note, stream_of, source, consecutive_end, hold, has_access, chosen}
use Rattle.rams_model.specs.Texts.{nothing_reached, note_line, send_line, notes_text, lines_of, whole_lines, words_of, head_in, kept_in, channel_in, live_in, feedback_in, line_text, accepted, judged}
use Rattle.server_hub.specs.Served.{Served}
use Rattle.trace_loop.specs.trace_book.trace_serving.{Stage, goes_on, turn, text_from, stage_from, served_text}
use Rattle.trace_loop.specs.trace_book.{run as run_serving}
use Rattle.trace_loop.specs.trace_book.Worked.{head_text}
use Rattle.trace_loop.specs.journal_book.{starting, nothing, line, turns_of, events_of_turns, event_line, journal_of, sent_for, replayed_from}
use Rattle.trace_loop.specs.journal_book.Worked.{seven, TheHeadOpens, JournalOfThreeTurns, ItsDatagrams, ACutLineIsNotReplayed, AnEndTooMany, EachFromItsOwnPort}
use Rattle.trace_loop.proofs.journal_book.examples.journal_of_three_turns.Goals as goal

computed : JournalOfThreeTurns × ItsDatagrams × ACutLineIsNotReplayed × AnEndTooMany × EachFromItsOwnPort
unfolding digits encode_with decode_pairs checked header spelling fields_of packet_at rams_info pieces_from words32 word_numbers numbers_of first_value hi numbered awaited live_note stream_of source consecutive_end hold has_access chosen message_of messages heard_of arrivals as_tick_began known opened sendings newest_sender ssrc bursts pending quiet_ticks channel_left sent_now verdict number_answer after_numbers after_messages run send all_served all_repaired all_forgotten after_tick order_of newest_notes newest_orders datagram after_hearing history_of note_line send_line notes_text lines_of whole_lines words_of head_in kept_in channel_in live_in feedback_in line_text accepted judged turn text_from served_text stage_from turns_of events_of_turns event_line journal_of sent_for replayed_from
computed = (refl, (refl, refl, refl), refl, (refl, refl), refl)

-- the head's lines without their line feeds
abbrev head_bytes : List ℕ
head_bytes = codes "rams-trace 1 tick 10 link 100000"

abbrev channel_bytes : List ℕ
channel_bytes = codes "channel 7 ssrc 11223344 pt 33 rtx 99 server aabbccdd seq0 500 ring 64 window 0 access marker share 10000 reserve 1500 burst 4000 declared 100 minwire 42 limit 100 idle 100 clients 4"

-- what a server reaches behind the first line
abbrev behind_head : Stage (List Served)
behind_head = record { reached = record (nothing_reached Serve) { head = Some (record { version = 1; tick = 10; link = 100000 }) }; state = []; events = 0 }

-- and behind both
abbrev behind_both : Stage (List Served)
behind_both = record { reached = record behind_head.reached { channels = record { id = 7; share = 10000 } ∷ [] }; state = seven ∷ []; events = 0 }

head_turn : turn run_serving (starting Serve) 1 head_bytes ≡ goes_on behind_head []
unfolding digits encode_with decode_pairs checked header spelling fields_of packet_at rams_info pieces_from words32 word_numbers numbers_of first_value hi numbered awaited live_note stream_of source consecutive_end hold has_access chosen message_of messages heard_of arrivals as_tick_began known opened sendings newest_sender ssrc bursts pending quiet_ticks channel_left sent_now verdict number_answer after_numbers after_messages run send all_served all_repaired all_forgotten after_tick order_of newest_notes newest_orders datagram after_hearing history_of note_line send_line notes_text lines_of whole_lines words_of head_in kept_in channel_in live_in feedback_in line_text accepted judged turn text_from served_text stage_from turns_of events_of_turns event_line journal_of sent_for replayed_from
head_turn = refl

channel_turn : turn run_serving behind_head 2 channel_bytes ≡ goes_on behind_both []
unfolding digits encode_with decode_pairs checked header spelling fields_of packet_at rams_info pieces_from words32 word_numbers numbers_of first_value hi numbered awaited live_note stream_of source consecutive_end hold has_access chosen message_of messages heard_of arrivals as_tick_began known opened sendings newest_sender ssrc bursts pending quiet_ticks channel_left sent_now verdict number_answer after_numbers after_messages run send all_served all_repaired all_forgotten after_tick order_of newest_notes newest_orders datagram after_hearing history_of note_line send_line notes_text lines_of whole_lines words_of head_in kept_in channel_in live_in feedback_in line_text accepted judged turn text_from served_text stage_from turns_of events_of_turns event_line journal_of sent_for replayed_from
channel_turn = refl

opens : TheHeadOpens
opens = record {
  stage = behind_both;
  leads = line head_text behind_head behind_both 2 channel_bytes [] (line [] (starting Serve) behind_head 1 head_bytes [] nothing (no_feed head_bytes refl) head_turn) (no_feed channel_bytes refl) channel_turn;
  ends = refl;
  opened = refl;
}

pub returns-clause-journal : goal.returns-clause-journal
returns-clause-journal c = computed.0

pub returns-clause-datagrams : goal.returns-clause-datagrams
returns-clause-datagrams c = computed.1

pub returns-clause-cut_line : goal.returns-clause-cut_line
returns-clause-cut_line c = computed.2

pub returns-clause-an_end_too_many : goal.returns-clause-an_end_too_many
returns-clause-an_end_too_many c = computed.3

pub returns-clause-head : goal.returns-clause-head
returns-clause-head c = opens

pub returns-clause-ports : goal.returns-clause-ports
returns-clause-ports c = computed.4
