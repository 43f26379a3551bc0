-- What a server has written and sent when it ends.
use Rattle.std.specs.Prelude.{◌≡◌, ℕ, ◌+◌, ◌≤◌, List, [], ◌++◌, drop, length, All, Option, Some, Result, Ok, Err, IfErr, MatchResult, codes}
use Rattle.std.specs.Io.KnownBytes.{Appends}
use Rattle.rams_model.specs.declared.{Status.Status, Status.TheVariants.Done, Status.TheVariants.BadTrace}
use Rattle.rams_model.specs.Texts.{tick_of}
use Rattle.ram_io.specs.declared.Incoming.{Incoming}
use Rattle.ram_io.specs.{Outgoing, Rose}
use Rattle.server_hub.specs.declared.HubEvent.{HubEvent}
use Rattle.trace_loop.specs.trace_book.trace_serving.{Outcome, done, ended}
use Rattle.trace_loop.specs.trace_book.{first_line, trace_text}
use Rattle.line_io.specs.Passes.{Passes}
use Rattle.trace_loop.specs.journal_book.{CanArrive, IsJournal, event_lines, events_of, journal_of, replayed, sent_for, text_for}
use Rattle.trace_loop.specs.declared.Stop.{Stop}
use Rattle.trace_loop.specs.declared.Stop.TheVariants.{Memory, Read, Write, Wire}
use Rattle.trace_loop.specs.head_loop.{head_end, head_stage, head_text}
use Rattle.serve_loop.specs.Progress.{Begun, WaitsIn, sent_by}
use Rattle.trace_loop.specs.{IsWriteStop}
use Rattle.serve_loop.specs.Sending.{GoOut}

-- What a server of so many turns is given: the live port of its first channel, what its source has left, what its wire brings, and the moments of its clock.
pub record Given : Type 0 where
  pub live : ℕ
  pub turns : ℕ
  pub source : List ℕ
  pub arrivals : List Incoming
  pub moments : List ℕ

-- These tell what is given, and each arrival is of bytes, from an IPv4 address times 65,536, plus a port.
pub record IsGiven (g : Given) (live turns : ℕ) (source : Option (List ℕ)) (arrivals : Option (List Incoming)) (moments : Option (List ℕ)) : Type 0 where
  pub live_is : g.live ≡ live
  pub turns_are : g.turns ≡ turns
  pub source_is : source ≡ Some g.source
  pub arrivals_are : arrivals ≡ Some g.arrivals
  pub moments_are : moments ≡ Some g.moments
  pub can_arrive : All CanArrive g.arrivals

-- what comes to the channels that the head opens, in its turns
abbrev pub given_events : Given → List HubEvent
given_events g = events_of g.live (tick_of (head_stage g.source).reached.head) (head_stage g.source).state g.turns g.arrivals g.moments

-- the journal of these events
abbrev pub given_journal : Given → List ℕ
given_journal g = journal_of (head_text g.source) (given_events g)

-- the journal, where the head ends with `end`
abbrev pub text_by : Status → Outcome → List ℕ → Outcome
text_by Done end journal = ended Done journal
text_by _ end journal = end

-- What it writes, and with what status: its journal, or the one line that says which line of its head is refused.
abbrev pub served_text : Given → Outcome
served_text g = text_by (head_end g.source).status (head_end g.source) (given_journal g)

abbrev pub datagrams_by : Status → List Outgoing → List Outgoing
datagrams_by Done datagrams = datagrams
datagrams_by _ datagrams = []

-- What it sends: what its channels answer to these events, or nothing.
abbrev pub served_datagrams : Given → List Outgoing
served_datagrams g = datagrams_by (head_end g.source).status (sent_for (g.live + 1) (head_stage g.source).state (given_events g))

-- A server stopped while these events came, or `end` behind them. The sink has the lines of the first of them whole, and a part of what stands behind; the wire has sent a front of the datagrams of these first ones.
pub record Stopping (b : Begun) (events : List HubEvent) (holds : Option (List ℕ)) (waits : List ℕ) (sent : Option (List Outgoing)) (stop : Stop) : Type 0 where
  pub past : List HubEvent
  pub next : List HubEvent
  pub part : List ℕ
  pub rest : List ℕ
  pub goes : List Outgoing
  pub stays : List Outgoing
  pub splits : events ≡ past ++ next
  pub lines : event_lines next ++ codes "end\n" ≡ part ++ rest
  pub sink : Appends b.held holds (b.head ++ (event_lines past ++ part))
  pub datagrams : sent_by b past ≡ goes ++ stays
  pub wire : GoOut b.went sent goes
  pub waiting : WaitsIn waits rest stop

-- The turns are over: what has gone to the sink and what waits are the journal, and the wire has sent the datagrams of all events.
pub record Ending (b : Begun) (events : List HubEvent) (holds : Option (List ℕ)) (waits : List ℕ) (sent : Option (List Outgoing)) : Type 0 where
  pub text : Passes b.held holds (journal_of b.head events) waits
  pub wire : GoOut b.went sent (sent_by b events)
  pub stopping : Stopping b events holds waits sent Memory

-- turns that ended so end the server so, unless its sink stops it then
abbrev pub EndsAs : ℕ → ℕ → Result (Unit {0}) Stop → Result Status Stop → Type 0
EndsAs before now (Ok u) result = MatchResult result (λ status. status ≡ Done) (IsWriteStop before now)
EndsAs before now (Err stop) result = result ≡ Err stop

-- A server came to its end.
pub record HasEnded (g : Given) (held holds : Option (List ℕ)) (went sent : Option (List Outgoing)) (left : Option (List Incoming)) (status : Status) : Type 0 where
  pub status_is : status ≡ (served_text g).status
  pub text : Appends held holds (served_text g).text
  pub datagrams : GoOut went sent (served_datagrams g)
  pub arrivals : status ≡ Done → left ≡ Some (drop g.turns g.arrivals)
  -- the text is a journal
  pub journal : status ≡ Done → IsJournal (head_text g.source) (head_stage g.source).state (given_events g)
  -- its replay sends exactly these datagrams
  pub replays : status ≡ Done → replayed g.live (served_text g).text ≡ served_datagrams g
  -- `run` reads it to its end, and writes what its events are answered with
  pub runs : status ≡ Done
      → trace_text (served_text g).text ≡ ended Done (first_line ++ (text_for 0 (head_stage g.source).state (given_events g) ++ (done (length (given_events g))).text))

-- Something stopped a server: the sink got a front of its text, and the wire a front of the datagrams of the events whose lines are whole in that front.
pub record HasStopped (g : Given) (held holds : Option (List ℕ)) (went sent : Option (List Outgoing)) : Type 0 where
  pub front : List ℕ
  pub rest : List ℕ
  pub goes : List Outgoing
  pub stays : List Outgoing
  pub splits : (served_text g).text ≡ front ++ rest
  pub text : Appends held holds front
  pub replays : replayed g.live front ≡ goes ++ stays
  pub datagrams : GoOut went sent goes

-- the faults of the source, of the sink or of the wire rose where the stop is said to be that one's
abbrev pub IsStop : ℕ → ℕ → ℕ → ℕ → ℕ → ℕ → Stop → Type 0
IsStop read reads write writes wire wires Memory = Unit {0}
IsStop read reads write writes wire wires Read = Rose read reads
IsStop read reads write writes wire wires Write = Rose write writes
IsStop read reads write writes wire wires Wire = Rose wire wires

-- No count of faults fell, and that of the source, of the sink or of the wire rose where that one is said to have stopped the call.
pub record IsStopped {T : Type 0} (read reads write writes wire wires : ℕ) (result : Result T Stop) : Type 0 where
  pub read_later : read ≤ reads
  pub write_later : write ≤ writes
  pub wire_later : wire ≤ wires
  pub cause : IfErr result (IsStop read reads write writes wire wires)

-- a status with which a server ends
abbrev pub IsServeEnd : Status → Type 0
IsServeEnd Done = Unit {0}
IsServeEnd BadTrace = Unit {0}
IsServeEnd _ = ⊥
