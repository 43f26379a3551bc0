-- What a standby that takes over writes and sends.
use Rattle.std.specs.Prelude.{◌≡◌, ◌⊎◌, ℕ, ◌+◌, ◌-◌, Bool, true, false, nat_lt, List, [], ◌++◌, length, take, drop, Option, None, Some}
use Rattle.std.specs.Io.KnownBytes.{Appends}
use Rattle.rams_model.specs.declared.{LineFault.TheVariants.Order, Status.Status}
use Rattle.rams_model.specs.declared.Status.TheVariants.{Done, BadTrace, TooLong}
use Rattle.rams_model.specs.Texts.{has_channel, tick_of}
use Rattle.ram_io.specs.declared.Incoming.{Incoming}
use Rattle.ram_io.specs.{Outgoing}
use Rattle.server_hub.specs.declared.HubEvent.{HubEvent}
use Rattle.server_hub.specs.{StandsFor}
use Rattle.server_hub.specs.Seen as hubs
use Rattle.trace_loop.specs.trace_book.trace_serving.{Outcome, after_text, done, refused, too_long}
use Rattle.trace_loop.specs.trace_book.{most_events}
use Rattle.trace_loop.specs.journal_book.{event_lines, events_of, sent_for}
use Rattle.serve_loop.specs.Ended.{Given, datagrams_by}
use Rattle.serve_loop.specs.Sending.{GoOut}
use Rattle.trace_loop.specs.head_loop.{numbers}
use Rattle.takeover.specs.declared.{standby.fault.FeedFault.FeedFault, standby.fault.FeedFault.TheVariants.Line}
use Rattle.takeover.specs.standby.{end_of, lines_followed, stage_of}
use Rattle.takeover.specs.standby.standby_book.{followed_text}
use Rattle.takeover.specs.takeover_loop.Turns.{last_line}

-- Without a channel line the line of this number is missing.
abbrev pub opened_by : Bool → ℕ → Outcome
opened_by true number = done 0
opened_by false number = refused number Order

-- what ended the journal, or else what its end comes to
abbrev pub end_or : Option Outcome → Outcome → Outcome
end_or None rest = rest
end_or (Some o) rest = o

-- How the reading ends: with `end`, with a line that is refused or brings an event too many, or where the bytes do.
abbrev pub reading_end : List ℕ → Outcome
reading_end bytes = end_or (end_of bytes) (opened_by (has_channel (stage_of bytes).reached) (length (lines_followed bytes) + 1))

-- what comes to the channels that are taken over, in the turns
abbrev pub given_events : Given → List HubEvent
given_events g = events_of g.live (tick_of (stage_of g.source).reached.head) (stage_of g.source).state g.turns g.arrivals g.moments

-- how many more events there may be
abbrev pub events_left : Given → ℕ
events_left g = most_events - (stage_of g.source).events

-- those that are done
abbrev pub done_events : Given → List HubEvent
done_events g = take (events_left g) (given_events g)

-- the last line behind the turns
abbrev pub turns_end : Given → Outcome
turns_end g = last_line (nat_lt (events_left g) (length (given_events g)))

-- the turns, where the channels are taken over
abbrev pub behind_by : Status → Outcome → Outcome → Outcome
behind_by Done end turns = turns
behind_by _ end turns = end

-- what is written behind the lines that are followed
abbrev pub behind_journal : Given → Outcome
behind_journal g = behind_by (reading_end g.source).status (reading_end g.source) (after_text (event_lines (done_events g)) (turns_end g))

-- What is written, and with what status: the lines that are followed, and behind them the lines of the events of the turns and `end`, or `too-long`; or the line that says which line is refused.
abbrev pub taken_text : Given → Outcome
taken_text g = after_text (followed_text g.source) (behind_journal g)

-- What is sent: what the channels that are taken over answer to these events.
abbrev pub taken_datagrams : Given → List Outgoing
taken_datagrams g = datagrams_by (reading_end g.source).status (sent_for (g.live + 1) (stage_of g.source).state (done_events g))

-- what a fault of the journal ends it with
abbrev pub outcome_of : FeedFault → Outcome
outcome_of (Line number fault) = refused number fault
outcome_of _ = too_long

-- A journal of these bytes is taken over: by a hub that stands for its channels, with their numbers, which may have so many more events.
pub record IsTaken (bytes : List ℕ) (hub : hubs.Seen) (ids : List ℕ) (left : ℕ) : Type 0 where
  pub ends : (reading_end bytes).status ≡ Done
  pub channel : has_channel (stage_of bytes).reached ≡ true
  pub stands : StandsFor hub (stage_of bytes).state
  pub tick : hub.tick ≡ tick_of (stage_of bytes).reached.head
  pub ids_are : ids ≡ numbers (stage_of bytes).state
  pub left_is : left ≡ most_events - (stage_of bytes).events

-- A takeover came to its end.
pub record HasEnded (g : Given) (held holds : Option (List ℕ)) (went sent : Option (List Outgoing)) (left : Option (List Incoming)) (status : Status) : Type 0 where
  pub status_is : status ≡ (taken_text g).status
  pub text : Appends held holds (taken_text g).text
  pub datagrams : GoOut went sent (taken_datagrams g)
  pub arrivals : status ≡ Done → left ≡ Some (drop g.turns g.arrivals)

-- These datagrams are a front of those of the events whose lines stand whole in this front of the text.
pub record SentBehind (g : Given) (front : List ℕ) (goes : List Outgoing) : Type 0 where
  pub past : List HubEvent
  pub next : List HubEvent
  pub part : List ℕ
  pub stays : List Outgoing
  pub splits : done_events g ≡ past ++ next
  pub text : front ≡ followed_text g.source ++ (event_lines past ++ part)
  pub datagrams : sent_for (g.live + 1) (stage_of g.source).state past ≡ goes ++ stays

-- Something stopped it: the sink got a front of its text, and the wire a front of the datagrams of the events of its turns whose lines are whole in that front.
pub record HasStopped (g : Given) (held holds : Option (List ℕ)) (went sent : Option (List Outgoing)) : Type 0 where
  pub front : List ℕ
  pub rest : List ℕ
  pub goes : List Outgoing
  pub splits : (taken_text g).text ≡ front ++ rest
  pub text : Appends held holds front
  pub datagrams : GoOut went sent goes
  pub behind : (goes ≡ []) ⊎ SentBehind g front goes

-- a status with which its turns end
abbrev pub IsServedEnd : Status → Type 0
IsServedEnd Done = Unit {0}
IsServedEnd TooLong = Unit {0}
IsServedEnd _ = ⊥

-- a status with which it ends
abbrev pub IsTakeoverEnd : Status → Type 0
IsTakeoverEnd Done = Unit {0}
IsTakeoverEnd BadTrace = Unit {0}
IsTakeoverEnd TooLong = Unit {0}
IsTakeoverEnd _ = ⊥
