-- The journal of a server: a trace of what came to it.
use Rattle.std.specs.Prelude.{◌≡◌, ℕ, ◌^◌, ◌<◌, ◌≤◌, true, List, [], ◌∷◌, ◌++◌, length, All, codes}
use Rattle.std.specs.List.{flat_map}
use Rattle.rams_model.specs.Texts.{TraceLine, live_line, feedback_line, tick_line, hex_word, line_text, is_spelled}
use Rattle.server_hub.specs.declared.HubEvent.{HubEvent}
use Rattle.server_hub.specs.declared.HubEvent.TheVariants.{Live, Feedback, Tick}
use Rattle.server_hub.specs.Served.{Served}
use Rattle.server_hub.specs.{after_event}

-- the line of an event
abbrev pub line_of_event : HubEvent → TraceLine
line_of_event (Live id bytes) = live_line id (hex_word bytes)
line_of_event (Feedback id client bytes) = feedback_line id client (hex_word bytes)
line_of_event Tick = tick_line

-- that line's bytes
unfoldable pub event_line : HubEvent → List ℕ
event_line event = line_text (line_of_event event) ++ codes "\n"

-- the lines of these events, the oldest first
abbrev pub event_lines : List HubEvent → List ℕ
event_lines events = flat_map event_line events

-- The journal: the head's lines, a line for each event, the oldest first, and `end`.
unfoldable pub journal_of : List ℕ → List HubEvent → List ℕ
journal_of head events = head ++ (event_lines events ++ codes "end\n")

-- the channels after these events, the oldest first
unfoldable pub behind : List HubEvent → List Served → List Served
behind [] channels = channels
behind (event ∷ events) channels = behind events (after_event event channels)

-- The event's line is one that a trace may have.
abbrev pub HasLine : HubEvent → Type 0
HasLine event = is_spelled (line_of_event event) ≡ true

-- a number that a channel may have
pub record IsNumber (id : ℕ) : Type 0 where
  pub least : 1 ≤ id
  pub most : id ≤ 65535

-- a datagram of at most 2,000 bytes for the channel of this number
pub record IsDatagramOf (id : ℕ) (bytes : List ℕ) : Type 0 where
  pub number : IsNumber id
  pub short : length bytes ≤ 2000
  pub octets : All (λ b. b < 256) bytes

-- What a wire can bring, and a clock: the sender is an IPv4 address times 65,536, plus a port.
abbrev pub CanCome : HubEvent → Type 0
CanCome (Live id bytes) = IsDatagramOf id bytes
CanCome (Feedback id client bytes) = IsDatagramOf id bytes × (client < 2 ^ 48)
CanCome Tick = Unit {0}
