-- The turns of a server that may have only so many more events.
use Rattle.std.specs.Prelude.{◌≡◌, ℕ, ◌+◌, ◌<◌, ◌≤◌, Bool, true, false, List, ◌++◌, length, Option, None, Some, codes}
use Rattle.std.specs.Io.KnownBytes.{Appends}
use Rattle.rams_model.specs.declared.Status.TheVariants.{Done}
use Rattle.ram_io.specs.{Outgoing}
use Rattle.line_io.specs.Passes.{Passes}
use Rattle.server_hub.specs.declared.HubEvent.{HubEvent}
use Rattle.trace_loop.specs.trace_book.trace_serving.{Outcome, ended, too_long}
use Rattle.trace_loop.specs.journal_book.{event_lines}
use Rattle.trace_loop.specs.declared.{Stop.Stop, Stop.TheVariants.Memory}
use Rattle.serve_loop.specs.Progress.{Begun, WaitsIn, sent_by}
use Rattle.serve_loop.specs.Sending.{GoOut}

-- Where so many events may come, all of these did, and so many may come still; or one of them is one too many.
abbrev pub DoesWithin : List HubEvent → ℕ → Option ℕ → Type 0
DoesWithin events left (Some after) = after + length events ≡ left
DoesWithin events left None = left < length events

-- whether these are no more than may come
abbrev pub IsWithin : List HubEvent → ℕ → Bool → Type 0
IsWithin events left true = length events ≤ left
IsWithin events left false = left < length events

-- the last line, and the status: one event is too many, or not
abbrev pub last_line : Bool → Outcome
last_line true = too_long
last_line false = ended Done (codes "end\n")

-- A server stopped while these events came, or the last line behind them. The sink has the lines of the first of them whole, and a part of what stands behind; the wire has sent a front of the datagrams of these first ones.
pub record Stopping (b : Begun) (events : List HubEvent) (last : List ℕ) (holds : Option (List ℕ)) (waits : List ℕ) (sent : Option (List Outgoing)) (stop : Stop) : Type 0 where
  pub past : List HubEvent
  pub next : List HubEvent
  pub part : List ℕ
  pub rest : List ℕ
  pub goes : List Outgoing
  pub stays : List Outgoing
  pub splits : events ≡ past ++ next
  pub lines : event_lines next ++ last ≡ part ++ rest
  pub sink : Appends b.held holds (b.head ++ (event_lines past ++ part))
  pub datagrams : sent_by b past ≡ goes ++ stays
  pub wire : GoOut b.went sent goes
  pub waiting : WaitsIn waits rest stop

-- The turns are over: what has gone to the sink and what waits are the head, the lines of the events and the last line, and the wire has sent the datagrams of all events.
pub record Ending (b : Begun) (events : List HubEvent) (last : List ℕ) (holds : Option (List ℕ)) (waits : List ℕ) (sent : Option (List Outgoing)) : Type 0 where
  pub text : Passes b.held holds (b.head ++ (event_lines events ++ last)) waits
  pub wire : GoOut b.went sent (sent_by b events)
  pub stopping : Stopping b events last holds waits sent Memory
