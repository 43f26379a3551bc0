-- What a sink and a wire hold after a server's turns.
use Rattle.std.specs.Prelude.{◌≡◌, ℕ, ◌+◌, List, ◌++◌, codes}
use Rattle.rams_model.specs.declared.Status.TheVariants.{Done}
use Rattle.ram_io.specs.{Outgoing}
use Rattle.server_hub.specs.declared.HubEvent.{HubEvent}
use Rattle.server_hub.specs.Served.{Served}
use Rattle.trace_loop.specs.trace_book.{trace_text}
use Rattle.trace_loop.specs.journal_book.Journal.{event_lines, journal_of}
use Rattle.trace_loop.specs.journal_book.Sent.{sent_for}
use Rattle.trace_loop.specs.journal_book.Replay.{replayed}
use Rattle.trace_loop.specs.journal_book.Laws.{IsJournal}

-- The sink held some bytes and got a whole journal, which is a trace; the wire had sent some datagrams and sent those of the journal's replay.
pub record HasServed (live : ℕ) (head : List ℕ) (events : List HubEvent) (held now : List ℕ) (went sent : List Outgoing) : Type 0 where
  pub journal : now ≡ held ++ journal_of head events
  pub datagrams : sent ≡ went ++ replayed live (journal_of head events)
  pub done : (trace_text (journal_of head events)).status ≡ Done

-- The sink got a front of the journal; the wire sent a front of the datagrams of that front's replay.
pub record HasServedFront (live : ℕ) (head : List ℕ) (events : List HubEvent) (held now : List ℕ) (went sent : List Outgoing) : Type 0 where
  pub front : List ℕ
  pub rest : List ℕ
  pub goes : List Outgoing
  pub stays : List Outgoing
  pub splits : journal_of head events ≡ front ++ rest
  pub journal : now ≡ held ++ front
  pub replays : replayed live front ≡ goes ++ stays
  pub datagrams : sent ≡ went ++ goes

-- Where the sink got the journal, and the wire what is sent for its events.
abbrev pub ServedSo : Type 0
ServedSo =
    (live : ℕ) (head held now : List ℕ) (channels : List Served) (events : List HubEvent) (went sent : List Outgoing) → IsJournal head channels events
    → now ≡ held ++ journal_of head events → sent ≡ went ++ sent_for (live + 1) channels events → HasServed live head events held now went sent

-- Where the sink got the head, the lines of the events that are done, and a part of what follows, and the wire a front of what is sent for these events.
abbrev pub FrontSo : Type 0
FrontSo =
    (live : ℕ) (head held now part rest : List ℕ) (channels : List Served) (past next : List HubEvent) (went sent goes stays : List Outgoing) → IsJournal head channels past
    → event_lines next ++ codes "end\n" ≡ part ++ rest → now ≡ held ++ (head ++ (event_lines past ++ part))
    → sent_for (live + 1) channels past ≡ goes ++ stays → sent ≡ went ++ goes → HasServedFront live head (past ++ next) held now went sent

-- Where the sink got a front of the head, and the wire nothing.
abbrev pub HeadSo : Type 0
HeadSo =
    (live : ℕ) (head held now part rest : List ℕ) (events : List HubEvent) (went sent : List Outgoing)
    → head ≡ part ++ rest → now ≡ held ++ part → sent ≡ went → HasServedFront live head events held now went sent
