pub mod Heard
pub mod Journal
pub mod Sent
pub mod Replay
pub mod Heads
pub mod Written
pub mod Laws
pub mod Serving
pub mod Worked
unfoldable pub use Rattle.trace_loop.specs.journal_book.Heard.{heard_from, heard, CanArrive, next_moment, turns_of, tick_at, due_after, events_of_turns, events_of}
pub use Rattle.trace_loop.specs.journal_book.Heard.{ServerTurn}
unfoldable pub use Rattle.trace_loop.specs.journal_book.Journal.{line_of_event, event_line, event_lines, journal_of, behind, HasLine, CanCome}
pub use Rattle.trace_loop.specs.journal_book.Journal.{IsNumber, IsDatagramOf}
unfoldable pub use Rattle.trace_loop.specs.journal_book.Sent.{AreApart, own_event, answer_datagrams, own_datagrams, datagrams_of, sent_for}
unfoldable pub use Rattle.trace_loop.specs.journal_book.Replay.{event_read, datagrams_to, sent_after, replayed_from, replayed}
unfoldable pub use Rattle.trace_loop.specs.journal_book.Heads.{starting}
pub use Rattle.trace_loop.specs.journal_book.Heads.{Leads, nothing, line, Opens}
unfoldable pub use Rattle.trace_loop.specs.journal_book.Written.{own_text, own_texts, absent_text, unheard_text, text_for}
pub use Rattle.trace_loop.specs.journal_book.Written.{WritesItsDatagrams}
unfoldable pub use Rattle.trace_loop.specs.journal_book.Laws.{JournalsReplay, RunsWriteJournals, JournalsAreServed, FrontsReplay, stage_behind, HeadsGrow, HeadsEnd, HeadsOpenNewChannels, ChannelsStayApart, WhatIsHeardCanCome, EventsAreSpelled, EventsAreFew, most_turns, TurnsMakeJournals, PortsAreHeard, OtherPortsAreNot, OneAnswers, ChannelsAnswerInOrder, RunsWriteOfThem, AnswersWriteTheirDatagrams, JournalsGrow}
pub use Rattle.trace_loop.specs.journal_book.Laws.{IsJournal, AreNew, GrowsBy}
unfoldable pub use Rattle.trace_loop.specs.journal_book.Serving.{ServedSo, FrontSo, HeadSo}
pub use Rattle.trace_loop.specs.journal_book.Serving.{HasServed, HasServedFront}
