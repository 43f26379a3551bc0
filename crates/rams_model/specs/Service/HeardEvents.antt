-- What a channel hears of an event: the event as it was read.
use Rattle.std.specs.Prelude.{ℕ, ◌==◌, not, nat_lt, if◌then◌else◌, List, length, Result, Ok, Err}
use Rattle.rams_model.specs.declared.{channel.Channel.Channel, event.Event.Event, fault.FrameFault.FrameFault, fault.RtpFault.RtpFault, wire.TheConstants.MOST_PACKET}
use Rattle.rams_model.specs.declared.note.LiveNote.{LiveNote}
use Rattle.rams_model.specs.declared.event.Event.TheVariants.{Live, Feedback, Tick}
use Rattle.rams_model.specs.declared.note.LiveNote.TheVariants.{ForeignSsrc, ForeignType, TooBig, Bad}
use Rattle.rams_model.specs.Formats.{Packet, stripped, packet_at, Framed, framed}
use Rattle.rams_model.specs.Packets.{Arrival, is_access_point}
use Rattle.rams_model.specs.Service.Messages.{Message, messages}

-- What is heard of an event.
pub data Heard : Type 0 where
  -- a live packet that passes the four tests
  live : Arrival → Heard
  -- one that fails a test, with the note that it gets
  dropped : LiveNote → Heard
  -- a feedback datagram of this client that frames
  feedback : ℕ → List Message → Heard
  -- one that doesn't
  unframed : ℕ → FrameFault → Heard
  tick : Heard

-- what a packet of the channel brings
abbrev pub arrival : Channel → Packet → Arrival
arrival c p = record { sequence = p.sequence; timestamp = p.timestamp; access = is_access_point c.access p; packet = stripped p }

-- the media source and the payload type are the channel's
abbrev pub heard_packet : Channel → Result Packet RtpFault → Heard
heard_packet c (Err fault) = dropped (Bad fault)
heard_packet c (Ok p) =
    if not (p.ssrc == c.ssrc) then dropped ForeignSsrc
    else if not (p.payload_type == c.pt) then dropped ForeignType
    else live (arrival c p)

-- A live packet is tested in this order: at most `MOST_PACKET` bytes, an RTP packet, the channel's media source, the channel's payload type.
abbrev pub heard_live : Channel → List ℕ → Heard
heard_live c bytes = if nat_lt MOST_PACKET (length bytes) then dropped TooBig else heard_packet c (packet_at bytes)

-- a feedback datagram is framed whole before anything else
abbrev pub heard_feedback : ℕ → Result (List Framed) FrameFault → Heard
heard_feedback client (Err fault) = unframed client fault
heard_feedback client (Ok packets) = feedback client (messages packets)

-- what is heard of an event
unfoldable pub heard_of : Channel → Event → Heard
heard_of c (Live bytes) = heard_live c bytes
heard_of c (Feedback client bytes) = heard_feedback client (framed bytes)
heard_of c Tick = tick
