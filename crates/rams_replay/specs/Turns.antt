-- What a line of a trace does, as code has it.
use Rattle.std.specs.Prelude.{◌≡◌, ℕ, ◌+◌, ◌==◌, List, [], map, find, Option, Some, None, Ok}
use Rattle.std.specs.List.{flat_map}
use Rattle.rams_model.specs.Service.{Answered, Settings}
use Rattle.rams_model.specs.Texts.{answer_text, TraceLine, Reached, accepted}
use Rattle.book_text.specs.{no_channel_line}
use Rattle.server_hub.specs.declared.{At.At, HubEvent.HubEvent, HubAnswer.HubAnswer}
use Rattle.server_hub.specs.{StandsFor, Told, no_channel, says, told, settings_of, after_event}
use Rattle.server_hub.specs.Seen.{Seen}
use Rattle.server_hub.specs.Served.{Served}
use Rattle.trace_loop.specs.trace_book.trace_serving.{Stage}
use Rattle.trace_loop.specs.trace_book.trace_serving.Text as text
use Rattle.trace_loop.specs.declared.Turn.{Turn}
use Rattle.trace_loop.specs.{ending, written, Took as TookSo}
use Rattle.trace_loop.specs.trace_book.{event_text}
use Rattle.trace_loop.specs.head_loop.{claim_of}
use Rattle.takeover.specs.standby.{HubServes}

-- What stands before a line: a hub for the channels, so many events, and these lines.
pub record Stands (hub : Option Seen) (events : ℕ) (reached : Reached) (stage : Stage (List Served)) : Type 0 where
  pub served : HubServes hub stage.reached.head stage.state stage.events
  pub claims : stage.reached.channels ≡ map claim_of stage.state
  pub counted : events ≡ stage.events
  pub lines : reached ≡ stage.reached

-- the lines of an answer, where the channel's settings are there
abbrev pub settled_text : ℕ → Answered → Option Settings → List ℕ
settled_text event a None = []
settled_text event a (Some s) = answer_text s event a

-- the lines of what one channel answers
abbrev pub at_text : Option Seen → ℕ → At → List ℕ
at_text None event at = []
at_text (Some v) event at = settled_text event at.answer (find (λ s. s.channel.id == at.id) (settings_of v))

-- the lines of what the channels say
abbrev pub told_text : Option Seen → ℕ → Told → List ℕ
told_text hub event (no_channel id) = no_channel_line event id
told_text hub event (says all) = flat_map (at_text hub event) all

-- The answer tells what the server says to an event after what came to its channels, and the hub has served it.
pub record Tells (e : HubEvent) (channels : List Served) (v : Seen) (a : HubAnswer) : Type 0 where
  pub stands : StandsFor v (after_event e channels)
  pub text : (event : ℕ) → told_text (Some v) event (told a) ≡ event_text event e channels

-- The hub is of the same head line, and counts one more event.
pub record CountsOne (old new : Seen) : Type 0 where
  pub tick : new.tick ≡ old.tick
  pub link : new.link ≡ old.link
  pub calls : new.calls ≡ old.calls + 1

-- this line was accepted behind those of the stage
pub record Comes (hub : Option Seen) (events : ℕ) (reached : Reached) (line : TraceLine) (stage : Stage (List Served)) : Type 0 where
  pub before : Stands hub events stage.reached stage
  pub comes : accepted stage.reached line ≡ Ok reached

-- the line's turn was taken
abbrev pub Took : text.Turn (List Served) → Option Seen → ℕ → Reached → ℕ → Turn HubAnswer → Type 0
Took was hub events reached number t = TookSo was (Stands hub events reached) (ending t) (written (λ a. told_text hub events (told a)) number t)
