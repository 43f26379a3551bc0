-- The orders of the notes, and their datagrams.
use Rattle.std.specs.Prelude.{ℕ, List, [], ◌∷◌, ◌++◌, Option, Some, None, Result, Ok, Err, option_map, option_to_list}
use Rattle.rams_model.specs.declared.{answer.Order.Order, fault.RtpFault.RtpFault, held.Held.Held, message.Info.Info, note.Cause.Cause}
use Rattle.rams_model.specs.declared.{note.Note.Note, answer.Order.TheVariants.Rtx, answer.Order.TheVariants.Info as InfoOrder}
use Rattle.rams_model.specs.declared.note.Note.TheVariants.{Accept, Update, Again, Refuse, Burst as BurstNote, Repair, End}
use Rattle.rams_model.specs.Service.EventAnswer.{Answered, answered}
use Rattle.rams_model.specs.Service.ChannelSettings.{Settings}
use Rattle.rams_model.specs.Formats.{Packet, wire_size, retransmission, packet_at, rams_info}
use Rattle.rams_model.specs.Service.Infos.{accept_info, update_info, refuse_info, end_info}
use Rattle.rams_model.specs.Service.ChannelHistory.{began, told, noted, History}
use Rattle.rams_model.specs.Service.Clients.{sequence}
use Rattle.rams_model.specs.Service.Bursts.{Burst, open_burst}

-- a RAMS-I to the client
abbrev pub info_order : ℕ → Info → Order
info_order k info = InfoOrder k info

-- the retransmission of the packet that a note sends
abbrev pub packet_order : ℕ → ℕ → ℕ → Option Held → Option Order
packet_order k n sequence packet = option_map (λ h. Rtx k n sequence h.packet) packet

-- what the open burst's client is told again
abbrev pub again_order : ℕ → Option Burst → Option Order
again_order k burst = option_map (λ b. info_order k b.last) burst

-- what it is told of a new rate
abbrev pub update_order : Settings → ℕ → ℕ → ℕ → Option Burst → Option Order
update_order s k rate join burst = option_map (λ b. info_order k (update_info s b.last b.ticks rate join)) burst

-- what it is told of the end
abbrev pub end_order : ℕ → Cause → Option Burst → Option Order
end_order k cause None = None
end_order k cause (Some b) = option_map (info_order k) (end_info b.last cause)

-- The order of a note, by what stands in front of it: of each Burst, Repair, Accept, Update, Again and Refuse, and of each End of a client that hasn't left.
unfoldable pub order_of : Settings → History → Note → Option Held → Option Order
order_of s history (Accept k first rate join) packet = Some (info_order k (accept_info s (sequence s k history) rate join))
order_of s history (Update k rate join) packet = update_order s k rate join (open_burst s k history)
order_of s history (Again k) packet = again_order k (open_burst s k history)
order_of s history (Refuse k code) packet = Some (info_order k (refuse_info code))
order_of s history (End k cause) packet = end_order k cause (open_burst s k history)
order_of s history (BurstNote k n sequence) packet = packet_order k n sequence packet
order_of s history (Repair k n sequence) packet = packet_order k n sequence packet
order_of s history _ packet = None

-- the notes since the last event began, oldest first, and then these
unfoldable pub newest_notes : History → List Note → List Note
newest_notes [] later = later
newest_notes (began heard ∷ history) later = later
newest_notes (told client message ∷ history) later = newest_notes history later
newest_notes (noted note packet ∷ history) later = newest_notes history (note ∷ later)

-- their orders in the same way
unfoldable pub newest_orders : Settings → History → List Order → List Order
newest_orders s [] later = later
newest_orders s (began heard ∷ history) later = later
newest_orders s (told client message ∷ history) later = newest_orders s history later
newest_orders s (noted note packet ∷ history) later = newest_orders s history (option_to_list (order_of s history note packet) ++ later)

-- The answer to the newest event.
abbrev pub newest_answer : Settings → History → Answered
newest_answer s history = answered (newest_notes history []) (newest_orders s history [])

-- whom an order is for
abbrev pub client_of : Order → ℕ
client_of (Rtx client n sequence packet) = client
client_of (InfoOrder client info) = client

-- the sizes on the wire of the packets that orders send, in their order
abbrev pub wire_sizes : List Order → List ℕ
wire_sizes [] = []
wire_sizes (Rtx client n sequence packet ∷ orders) = wire_size packet ∷ wire_sizes orders
wire_sizes (InfoOrder client info ∷ orders) = wire_sizes orders

-- the retransmission of a packet that was read; what a channel holds always reads
abbrev pub sent_again : ℕ → ℕ → Result Packet RtpFault → List ℕ
sent_again payload_type sequence (Ok p) = retransmission p payload_type sequence
sent_again payload_type sequence (Err fault) = []

-- The bytes that an order sends: a retransmission packet (RFC 4588, 4), or a RAMS-I (RFC 6285, 7.3).
unfoldable pub datagram : Settings → Order → List ℕ
datagram s (Rtx client n sequence packet) = sent_again s.channel.rtx sequence (packet_at packet)
datagram s (InfoOrder client info) = rams_info s.channel.server s.channel.ssrc info
