-- A message as code has it, and which messages of some packets are answered.
use Rattle.std.specs.Prelude.{Bool, true, false, ◌&&◌, not, if◌then◌else◌, List, [], ◌∷◌, filter, filter_map, Option, Some, None}
use Rattle.rams_model.specs.Formats.TransportFeedback as model
use Rattle.rams_model.specs.Formats.{request_at, stop_at, Framed}
use Rattle.rams_model.specs.Service.Messages as messages
use Rattle.rams_model.specs.Service.{named, is_rams, message_of, with_one_rams}
use Rattle.wire_packets.specs.rtcp_frame.{shown_packet}
use Rattle.feedback_core.specs.declared.framing.Message.{Message}
use Rattle.feedback_core.specs.declared.framing.Message.TheVariants.{Bye, Nack, Request, Stop}

-- a message without where it lies in memory
abbrev pub shown_message : Message → messages.Message
shown_message (Bye p) = messages.bye (shown_packet p)
shown_message (Nack f) = messages.nack f.media f.sender (named (model.nack_numbers f.fci.now))
shown_message (Request f) = messages.asks f.sender (request_at f.fci.now)
shown_message (Stop f) = messages.stops (stop_at f.fci.now)

-- the messages of some packets that are answered, where a RAMS message still is or where one was
abbrev pub answered_of : Bool → List Framed → List messages.Message
answered_of true ps = with_one_rams (filter_map message_of ps)
answered_of false ps = filter (λ m. not (is_rams m)) (filter_map message_of ps)

-- a packet's message, where it is answered
abbrev pub turn_of : Bool → Option messages.Message → List messages.Message
turn_of due None = []
turn_of due (Some m) = if is_rams m && not due then [] else m ∷ []

-- whether a RAMS message is still answered after it
abbrev pub due_after : Bool → Option messages.Message → Bool
due_after due None = due
due_after due (Some m) = due && not (is_rams m)
