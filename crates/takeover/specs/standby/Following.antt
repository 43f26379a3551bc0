-- What a standby has read, and what it takes over.
use Rattle.std.specs.Prelude.{◌≡◌, ℕ, ◌≤◌, Bool, true, false, List, length, reverse, Option, None, Some, Result, Ok, Err}
use Rattle.rams_model.specs.Texts.{Reached, tick_of, has_channel, whole_lines}
use Rattle.server_hub.specs.{StandsFor, after_events}
use Rattle.server_hub.specs.Seen as hubs
use Rattle.trace_loop.specs.trace_book.trace_serving.{Outcome, done, refused, too_long, last_stage}
use Rattle.trace_loop.specs.trace_book.{run, new_channels, came, taken}
use Rattle.takeover.specs.declared.standby.fault.FeedFault.{FeedFault}
use Rattle.takeover.specs.declared.standby.fault.FeedFault.TheVariants.{Line, TooLong, NoMemory}
use Rattle.takeover.specs.standby.Reading.{rest_of, end_of, stage_of, followed, lines_followed, whole_text}
use Rattle.takeover.specs.standby.Standing.{Stands, count_of}

-- what a standby keeps
pub record Seen : Type 0 where
  -- there is one once a head line came
  pub hub : Option hubs.Seen
  -- the numbers of the channels, in the order of their lines
  pub ids : List ℕ
  pub events : ℕ
  pub reached : Reached
  -- the bytes of the line that isn't whole yet
  pub part : List ℕ
  -- `end` came
  pub ended : Bool
  -- what was wrong with a line
  pub fault : Option FeedFault

-- a standby has read as much, by what the lines end with
abbrev pub Halted : Bool → Option FeedFault → Option Outcome → Type 0
Halted false None end = end ≡ None
Halted true None end = (events : ℕ) × (end ≡ Some (done events))
Halted ended (Some (Line number fault)) end = end ≡ Some (refused number fault)
Halted ended (Some TooLong) end = end ≡ Some too_long
Halted ended (Some NoMemory) end = ⊥

-- Nothing ended the journal yet: the rest behind the whole lines is kept, and each of these went on.
pub record IsGoing (v : Seen) (bytes : List ℕ) : Type 0 where
  pub part : v.part ≡ rest_of bytes
  pub count : count_of v.hub v.ids v.events ≡ length (whole_lines bytes)

-- The standby has read these bytes of a journal. It stands for the events of their whole lines, and knows whether one of the lines ended the journal, and how.
pub record HasRead (v : Seen) (bytes : List ℕ) : Type 0 where
  pub stands : Stands v.hub v.ids v.events v.reached (stage_of bytes)
  pub halted : Halted v.ended v.fault (end_of bytes)
  pub going : end_of bytes ≡ None → IsGoing v bytes

abbrev pub HasReadSome : Seen → Type 0
HasReadSome v = (bytes : List ℕ) × HasRead v bytes

-- the fault that is answered from then on
abbrev pub lasting : FeedFault → Option FeedFault
lasting (Line number fault) = Some (Line number fault)
lasting TooLong = Some TooLong
lasting NoMemory = None

-- A piece with which these bytes are read is answered with a fault, which isn't kept yet. Want of memory changes nothing.
abbrev pub Fails : FeedFault → Seen → Seen → List ℕ → Type 0
Fails (Line number fault) old new bytes = HasRead (record new { fault = Some (Line number fault) }) bytes
Fails TooLong old new bytes = HasRead (record new { fault = Some TooLong }) bytes
Fails NoMemory old new bytes = new ≡ old

-- A piece was taken, with which these bytes are read.
abbrev pub Takes : {T : Type 0} → Result T FeedFault → Seen → Seen → List ℕ → Type 0
Takes (Ok u) old new bytes = HasRead new bytes × (new.fault ≡ None)
Takes (Err fault) old new bytes = Fails fault old new bytes

-- A piece was taken, with which these bytes are read: the standby has read them, and has a fault exactly where it answers that. Want of memory changes nothing.
abbrev pub Feeds : {T : Type 0} → Result T FeedFault → Seen → Seen → List ℕ → Type 0
Feeds (Ok u) old new bytes = HasRead new bytes × (new.fault ≡ None)
Feeds (Err (Line number fault)) old new bytes = HasRead new bytes × (new.fault ≡ Some (Line number fault))
Feeds (Err TooLong) old new bytes = HasRead new bytes × (new.fault ≡ Some TooLong)
Feeds (Err NoMemory) old new bytes = new ≡ old

-- What is taken over from a journal of which these bytes were read: the hub stands, channel by channel, for the events of the whole lines, and counts them.
pub record IsTakenOver (hub : hubs.Seen) (bytes : List ℕ) : Type 0 where
  pub stands : StandsFor hub (stage_of bytes).state
  pub tick : hub.tick ≡ tick_of (stage_of bytes).reached.head
  pub calls : hub.calls ≡ (stage_of bytes).events
  pub few : hub.calls ≤ 1000000

-- no hub is taken over: no channel line was taken, or a fault was answered
abbrev pub Refuses : Seen → Type 0
Refuses v = v.fault ≡ None → has_channel v.reached ≡ false

-- The whole lines are a trace, whatever stands behind them. Its channels are what new channels are after the events that are followed.
pub record IsFollowed (bytes : List ℕ) : Type 0 where
  pub trace : last_stage run (whole_text bytes) ≡ stage_of bytes
  pub lines : taken (whole_text bytes) ≡ lines_followed bytes
  pub events : came (whole_text bytes) ≡ reverse (followed bytes)
  pub channels : (stage_of bytes).state ≡ after_events (reverse (followed bytes)) (new_channels (stage_of bytes).state)
  pub count : (stage_of bytes).events ≡ length (followed bytes)

abbrev pub WholeLinesAreFollowed : Type 0
WholeLinesAreFollowed = (bytes : List ℕ) → IsFollowed bytes
