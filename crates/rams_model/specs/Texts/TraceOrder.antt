-- Which line may come where in a trace: one head, then channel lines, then event lines, then `end`.
use Rattle.std.specs.Prelude.{ℕ, ◌+◌, Bool, true, false, ◌&&◌, ◌||◌, ◌==◌, not, nat_le, nat_lt, if◌then◌else◌, List, [], ◌∷◌, ◌++◌, length, sum_by, Option, Some, None, is_some, Result, Ok, Err, codes, bytes_eq}
use Rattle.std.specs.List.{list_any}
use Rattle.rams_model.specs.declared.{channel.Channel.Channel, fault.ConfigFault.ConfigFault, fault.LineFault.LineFault}
use Rattle.rams_model.specs.declared.{mode.LineKind.LineKind, mode.Mode.Mode}
use Rattle.rams_model.specs.declared.fault.ConfigFault.TheVariants as config
use Rattle.rams_model.specs.declared.fault.LineFault.TheVariants.{Form, Order, Range, Twice, Rule}
use Rattle.rams_model.specs.declared.mode.LineKind.TheVariants as kind
use Rattle.rams_model.specs.declared.mode.Mode.TheVariants.{Meet, Threads, Serve, Describe}
use Rattle.rams_model.specs.Service.{Settings, settings, checked}
use Rattle.rams_model.specs.Texts.TraceLines.{TraceLine, Words, head_line, channel_line, live_line, feedback_line, tick_line, end_line, tune_line, give_line, mcast_line, ask_line, drop_line, line_in_range, line_of}
use Rattle.rams_model.specs.Texts.Words.{first_word, words_of}

pub record Head : Type 0 where
  -- of the text
  pub version : ℕ
  -- in ms
  pub tick : ℕ
  -- bytes per tick of all channels together
  pub link : ℕ

-- the number and the share of a channel
pub record Claim : Type 0 where
  pub id : ℕ
  pub share : ℕ

-- how far a trace has come
pub record Reached : Type 0 where
  -- what the trace is read for
  pub mode : Mode
  pub head : Option Head
  -- the channels so far, in the order of their lines
  pub channels : List Claim
  -- an event line has come
  pub begun : Bool
  -- `end` has come
  pub ended : Bool

abbrev pub nothing_reached : Mode → Reached
nothing_reached mode = record { mode = mode; head = None; channels = []; begun = false; ended = false }

abbrev pub tick_of : Option Head → ℕ
tick_of None = 0
tick_of (Some head) = head.tick

abbrev pub version_of : Option Head → ℕ
version_of None = 0
version_of (Some head) = head.version

abbrev pub has_channel : Reached → Bool
has_channel r = nat_lt 0 (length r.channels)

-- threads read the events of one channel, and a description is of one channel
abbrev pub has_one_channel : Mode → Bool
has_one_channel Threads = true
has_one_channel Describe = true
has_one_channel _ = false

abbrev pub has_events : Mode → Bool
has_events Serve = false
has_events Describe = false
has_events _ = true

abbrev pub has_receivers : Mode → Bool
has_receivers Meet = true
has_receivers _ = false

-- a line of this kind may come before `end`
abbrev pub may_come_next : Reached → LineKind → Bool
may_come_next r kind.Head = not (is_some r.head)
may_come_next r kind.Channel = is_some r.head && not r.begun && not (has_one_channel r.mode && has_channel r)
may_come_next r kind.Event = has_channel r && has_events r.mode
may_come_next r kind.ReceiverEvent = has_channel r && has_receivers r.mode
may_come_next r kind.End = has_channel r

-- a line of this kind may come next
abbrev pub kind_may_come : Reached → LineKind → Bool
kind_may_come r k = not r.ended && may_come_next r k

abbrev pub kind_of : TraceLine → LineKind
kind_of (head_line version tick link) = kind.Head
kind_of (channel_line version c) = kind.Channel
kind_of (live_line id hex) = kind.Event
kind_of (feedback_line id client hex) = kind.Event
kind_of tick_line = kind.Event
kind_of end_line = kind.End
kind_of (tune_line id client ssrc) = kind.ReceiverEvent
kind_of (give_line number) = kind.ReceiverEvent
kind_of (mcast_line id client n) = kind.ReceiverEvent
kind_of (ask_line id client) = kind.ReceiverEvent
kind_of (drop_line id client) = kind.ReceiverEvent

-- a channel line is spelled in the version of the trace
abbrev pub has_version : Reached → TraceLine → Bool
has_version r (channel_line version c) = version_of r.head == version
has_version r _ = true

-- this line may come next
abbrev pub may_come : Reached → TraceLine → Bool
may_come r line = kind_may_come r (kind_of line) && has_version r line

abbrev pub is_event_word : List ℕ → Bool
is_event_word word = bytes_eq word (codes "live") || bytes_eq word (codes "fb") || bytes_eq word (codes "tick")

abbrev pub is_receiver_word : List ℕ → Bool
is_receiver_word word =
    bytes_eq word (codes "tune") || bytes_eq word (codes "give") || bytes_eq word (codes "mcast") || bytes_eq word (codes "ask")
    || bytes_eq word (codes "drop")

-- the kind of the lines with this first word
abbrev pub kind_named : List ℕ → Option LineKind
kind_named word =
    if is_event_word word then Some kind.Event
    else if bytes_eq word (codes "end") then Some kind.End
    else if bytes_eq word (codes "channel") then Some kind.Channel
    else if bytes_eq word (codes "rams-trace") then Some kind.Head
    else if is_receiver_word word then Some kind.ReceiverEvent
    else None

-- the version that a channel line of these words is spelled in: one of version 1 has 34 words, one of version 2 has more
abbrev pub version_spelled : Words → ℕ
version_spelled words = if nat_le (length words) 34 then 1 else 2

-- a channel line of these words is spelled in the version of the trace
abbrev pub spells_version : Reached → LineKind → Words → Bool
spells_version r kind.Channel words = version_of r.head == version_spelled words
spells_version r _ words = true

abbrev pub named_may_come : Reached → Option LineKind → Words → Bool
named_may_come r None words = false
named_may_come r (Some k) words = kind_may_come r k && spells_version r k words

-- a line with the first word of these bytes, and for a channel line with as many words, may come next
unfoldable pub expected : Reached → List ℕ → Bool
expected r bytes = named_may_come r (kind_named (first_word bytes)) (words_of bytes)

-- in threads an event is of the one channel
abbrev pub is_served : Reached → ℕ → Bool
is_served r id = not (has_one_channel r.mode) || list_any (λ k. k.id == id) r.channels

abbrev pub line_is_served : Reached → TraceLine → Bool
line_is_served r (live_line id hex) = is_served r id
line_is_served r (feedback_line id client hex) = is_served r id
line_is_served r _ = true

-- a fault of the settings as a fault of their line
abbrev pub line_fault : ConfigFault → LineFault
line_fault config.Range = Range
line_fault (config.Rule k) = Rule k

-- the shares together are at most the link's bytes; there are at most 64 channels
abbrev pub joined : Reached → Head → Channel → Result Settings ConfigFault → Result Reached LineFault
joined r head c (Err fault) = Err (line_fault fault)
joined r head c (Ok s) =
    if not (nat_le (sum_by (λ k. k.share) r.channels + c.share) head.link) then Err (Rule 4)
    else if not (nat_lt (length r.channels) 64) then Err (Rule 5)
    else Ok (record r { channels = r.channels ++ (record { id = c.id; share = c.share } ∷ []) })

abbrev pub with_channel : Reached → Option Head → Channel → Result Reached LineFault
with_channel r None c = Err Order
with_channel r (Some head) c =
    if list_any (λ k. k.id == c.id) r.channels then Err Twice else joined r head c (checked (settings c head.tick))

abbrev pub with_line : Reached → TraceLine → Result Reached LineFault
with_line r (head_line version tick link) = Ok (record r { head = Some (record { version = version; tick = tick; link = link }) })
with_line r (channel_line version c) = with_channel r r.head c
with_line r end_line = Ok (record r { ended = true })
with_line r _ = Ok (record r { begun = true })

-- how far the trace has come after this line, or why the line is refused: its order first, then its range, then the rest
unfoldable pub accepted : Reached → TraceLine → Result Reached LineFault
accepted r line =
    if not (may_come r line) then Err Order
    else if not (line_in_range line && line_is_served r line) then Err Range
    else with_line r line

abbrev pub with_reached : TraceLine → Result Reached LineFault → Result (TraceLine × Reached) LineFault
with_reached line (Ok r) = Ok (line, r)
with_reached line (Err fault) = Err fault

abbrev pub judged_line : Reached → Option TraceLine → Result (TraceLine × Reached) LineFault
judged_line r None = Err Form
judged_line r (Some line) = with_reached line (accepted r line)

-- the line that the bytes are and how far the trace has come after it, or the first fault: the form, the order, the range, the rest
unfoldable pub judged : Reached → List ℕ → Result (TraceLine × Reached) LineFault
judged r bytes = judged_line r (line_of bytes)
