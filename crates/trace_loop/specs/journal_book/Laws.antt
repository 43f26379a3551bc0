-- The laws of journals.
use Rattle.std.specs.Prelude.{◌≡◌, ◌≢◌, ℕ, ◌+◌, ◌*◌, ◌<◌, ◌≤◌, List, [], ◌∷◌, ◌++◌, length, slice_get, Some, None, Ok, All, IfSome, codes}
use Rattle.rams_model.specs.declared.{Event.Event, Status.TheVariants.Done}
use Rattle.rams_model.specs.declared.Event.TheVariants as event
use Rattle.rams_model.specs.Texts.{TraceLine, end_line, line_text, Reached, judged}
use Rattle.ram_io.specs.declared.{Incoming.Incoming, Incoming.TheVariants.Datagram}
use Rattle.ram_io.specs.{Outgoing}
use Rattle.line_io.specs.{HasNoFeed}
use Rattle.server_hub.specs.declared.{HubEvent.HubEvent, HubEvent.TheVariants.Live, HubEvent.TheVariants.Feedback}
use Rattle.server_hub.specs.Served.{Served}
use Rattle.server_hub.specs.{id_of, answer_to, after_event}
use Rattle.trace_loop.specs.trace_book.trace_serving.{Stage, ended, done, with_opened, last_stage}
use Rattle.trace_loop.specs.trace_book.{run, most_events, first_line, event_text, trace_text, served_by, new_channels}
use Rattle.trace_loop.specs.journal_book.Heard.{heard_from, heard, CanArrive, events_of}
use Rattle.trace_loop.specs.journal_book.Journal.{IsNumber, HasLine, CanCome, event_line, event_lines, journal_of, behind}
use Rattle.trace_loop.specs.journal_book.Sent.{AreApart, answer_datagrams, datagrams_of, sent_for}
use Rattle.trace_loop.specs.journal_book.Replay.{replayed}
use Rattle.trace_loop.specs.journal_book.Heads.{Leads, Opens}
use Rattle.trace_loop.specs.journal_book.Written.{own_texts, unheard_text, text_for, WritesItsDatagrams}

-- What holds of a journal: its head opens the channels, and its events have lines and are no more than a trace may have.
pub record IsJournal (head : List ℕ) (channels : List Served) (events : List HubEvent) : Type 0 where
  pub opens : Opens head channels
  pub lines : All HasLine events
  pub few : length events ≤ most_events

-- A journal is a trace that `run` reads to its end, and its replay sends exactly what was sent.
abbrev pub JournalsReplay : Type 0
JournalsReplay =
    (live : ℕ) (head : List ℕ) (channels : List Served) (events : List HubEvent) → IsJournal head channels events
    → ((trace_text (journal_of head events)).status ≡ Done) × (replayed live (journal_of head events) ≡ sent_for (live + 1) channels events)

-- What `run` writes for it is what its events are answered with.
abbrev pub RunsWriteJournals : Type 0
RunsWriteJournals =
    (head : List ℕ) (channels : List Served) (events : List HubEvent) → IsJournal head channels events
    → trace_text (journal_of head events) ≡ ended Done (first_line ++ (text_for 0 channels events ++ (done (length events)).text))

-- It is served by the server's channels, to which the same events came, and has as many events.
abbrev pub JournalsAreServed : Type 0
JournalsAreServed =
    (head : List ℕ) (channels : List Served) (events : List HubEvent) → IsJournal head channels events
    → (served_by (journal_of head events) ≡ behind events channels) × ((last_stage run (journal_of head events)).events ≡ length events)

-- Whatever stands behind the head and the lines of these events, the replay sends what was sent for them first.
abbrev pub FrontsReplay : Type 0
FrontsReplay =
    (live : ℕ) (head rest : List ℕ) (channels : List Served) (events : List HubEvent) → IsJournal head channels events
    → (more : List Outgoing) × (replayed live (head ++ (event_lines events ++ rest)) ≡ sent_for (live + 1) channels events ++ more)

-- what a server reaches by a line of the head
abbrev pub stage_behind : Stage (List Served) → TraceLine → Reached → Stage (List Served)
stage_behind stage line reached = record { reached = reached; state = with_opened run reached line stage.state; events = stage.events }

-- A line that a server takes, and that isn't `end`, makes a longer head.
abbrev pub HeadsGrow : Type 0
HeadsGrow =
    (head bytes : List ℕ) (stage : Stage (List Served)) (line : TraceLine) (reached : Reached) → Leads head stage → HasNoFeed bytes → judged stage.reached bytes ≡ Ok (line, reached) → line ≢ end_line
    → Leads (head ++ (line_text line ++ codes "\n")) (stage_behind stage line reached)

-- Where `end` is taken, the lines before it open the channels so far.
abbrev pub HeadsEnd : Type 0
HeadsEnd = (head bytes : List ℕ) (stage : Stage (List Served)) (reached : Reached) → Leads head stage → judged stage.reached bytes ≡ Ok (end_line, reached) → Opens head stage.state

-- Channels to which nothing has come, with numbers that channels may have, no two of them the same.
pub record AreNew (channels : List Served) : Type 0 where
  pub new : channels ≡ new_channels channels
  pub numbered : All (λ c. IsNumber (id_of c)) channels
  pub apart : AreApart channels

-- Such channels a head opens.
abbrev pub HeadsOpenNewChannels : Type 0
HeadsOpenNewChannels = (head : List ℕ) (channels : List Served) → Opens head channels → AreNew channels

-- Whatever comes to them, no two have one number.
abbrev pub ChannelsStayApart : Type 0
ChannelsStayApart = (head : List ℕ) (channels : List Served) (events : List HubEvent) → IsJournal head channels events → AreApart (behind events channels)

-- A datagram of at most 2,000 bytes brings an event that can come.
abbrev pub WhatIsHeardCanCome : Type 0
WhatIsHeardCanCome =
    (live sender port : ℕ) (channels : List Served) (bytes : List ℕ) → All (λ c. IsNumber (id_of c)) channels → CanArrive (Datagram sender port bytes) → length bytes ≤ 2000
    → IfSome (heard_from live channels sender port bytes) CanCome

-- What can come has a line.
abbrev pub EventsAreSpelled : Type 0
EventsAreSpelled = (event : HubEvent) → CanCome event → HasLine event

-- A turn brings at most two events.
abbrev pub EventsAreFew : Type 0
EventsAreFew =
    (live tick turns : ℕ) (channels : List Served) (arrivals : List Incoming) (moments : List ℕ) → length (events_of live tick channels turns arrivals moments) ≤ 2 * turns

-- most turns
abbrev pub most_turns : ℕ
most_turns = 500000

-- Whatever comes in some turns, the head that opens the channels and the events of the turns make a journal.
abbrev pub TurnsMakeJournals : Type 0
TurnsMakeJournals =
    (live tick turns : ℕ) (head : List ℕ) (channels : List Served) (arrivals : List Incoming) (moments : List ℕ) → Opens head channels → All CanArrive arrivals → turns ≤ most_turns
    → IsJournal head channels (events_of live tick channels turns arrivals moments)

-- The channel at a place has its live packets from the port 2 * place above the first one, and its feedback from the port above that.
abbrev pub PortsAreHeard : Type 0
PortsAreHeard =
    (live place sender : ℕ) (channels : List Served) (c : Served) (bytes : List ℕ) → slice_get channels place ≡ Some c
    → (heard live channels (Datagram sender (live + 2 * place) bytes) ≡ Some (Live (id_of c) bytes))
    × (heard live channels (Datagram sender (live + 2 * place + 1) bytes) ≡ Some (Feedback (id_of c) sender bytes))

-- A datagram to a port below these or above them is no event.
abbrev pub OtherPortsAreNot : Type 0
OtherPortsAreNot =
    (live port sender : ℕ) (channels : List Served) (bytes : List ℕ)
    → (port < live → heard live channels (Datagram sender port bytes) ≡ None)
    × (live + 2 * length channels ≤ port → heard live channels (Datagram sender port bytes) ≡ None)

-- What is sent for a datagram is what its own channel answers, from that channel's feedback port.
abbrev pub OneAnswers : Type 0
OneAnswers =
    (port place client : ℕ) (channels : List Served) (c : Served) (bytes : List ℕ) → AreApart channels → slice_get channels place ≡ Some c
    → (datagrams_of port (Live (id_of c) bytes) channels ≡ answer_datagrams (port + 2 * place) c.settings (answer_to (event.Live bytes) c))
    × (datagrams_of port (Feedback (id_of c) client bytes) channels ≡ answer_datagrams (port + 2 * place) c.settings (answer_to (event.Feedback client bytes) c))

-- Channels answer in their order: the first of them, and then those behind, from the ports behind.
abbrev pub ChannelsAnswerInOrder : Type 0
ChannelsAnswerInOrder =
    (port : ℕ) (event : HubEvent) (channels more : List Served)
    → datagrams_of port event (channels ++ more) ≡ datagrams_of port event channels ++ datagrams_of (port + 2 * length channels) event more

-- What `run` writes for an event are the lines of the same answers, channel by channel, and one line where it comes to no channel.
abbrev pub RunsWriteOfThem : Type 0
RunsWriteOfThem =
    (number : ℕ) (event : HubEvent) (channels : List Served) → AreApart channels → event_text number event channels ≡ own_texts number event channels ++ unheard_text number event channels

-- What a channel answers is written with a line for each of its datagrams, in their order.
abbrev pub AnswersWriteTheirDatagrams : Type 0
AnswersWriteTheirDatagrams = (number : ℕ) (e : Event) (c : Served) → WritesItsDatagrams c.settings number (answer_to e c)

-- What one more event adds to a journal: its line, its datagrams, and itself to its channels. Where it has a line and isn't one too many, it makes a longer journal.
pub record GrowsBy (event : HubEvent) (port : ℕ) (channels : List Served) (events : List HubEvent) : Type 0 where
  pub journal : (head : List ℕ) → IsJournal head channels events → HasLine event → length events < most_events → IsJournal head channels (events ++ event ∷ [])
  pub lines : event_lines (events ++ event ∷ []) ≡ event_lines events ++ event_line event
  pub sent : sent_for port channels (events ++ event ∷ []) ≡ sent_for port channels events ++ datagrams_of port event (behind events channels)
  pub channels_are : behind (events ++ event ∷ []) channels ≡ after_event event (behind events channels)

abbrev pub JournalsGrow : Type 0
JournalsGrow = (event : HubEvent) (port : ℕ) (channels : List Served) (events : List HubEvent) → GrowsBy event port channels events
