-- What a datagram is to a receiver.
use Rattle.std.specs.Prelude.{ℕ, Bool, ◌&&◌, ◌||◌, ◌==◌, not, nat_lt, if◌then◌else◌, List, [], ◌∷◌, length, slice_index, Option, Some, None, is_some, Result, Ok, Err}
use Rattle.std.specs.Option.{option_or}
use Rattle.rams_model.specs.declared.{fault.FrameFault.FrameFault, fault.RtpFault.RtpFault, fault.TlvFault.TlvFault, message.Info.Info}
use Rattle.rams_model.specs.declared.{reception.InfoCame.InfoCame, reception.MediaCame.MediaCame, reception.Tuned.Tuned}
use Rattle.rams_model.specs.declared.{rtcp.TheConstants.FMT_RAMS, rams.TheConstants.SFMT_RAMS_I}
use Rattle.rams_model.specs.declared.reception.InfoCame.TheVariants as info
use Rattle.rams_model.specs.declared.reception.MediaCame.TheVariants as came
use Rattle.rams_model.specs.Formats.{Packet, spelling, stripped, packet_at, original, original_number, Framed, framed, Feedback, feedback_of, info_at}

-- What a datagram of feedback tells a receiver.
pub data Told : Type 0 where
  -- a RAMS-I about its media source (RFC 6285, 7.3)
  informs : Info → Told
  -- no RAMS-I to take up, and what becomes of the datagram
  unread : InfoCame → Told

-- What a receiver gets of the media.
pub data Media : Type 0 where
  -- a retransmission (RFC 4588, 4): its sequence number, the original's, and the original
  again : ℕ → ℕ → List ℕ → Media
  -- a packet of the multicast: its sequence number, and the packet
  multicast : ℕ → List ℕ → Media
  -- neither, and what becomes of the bytes
  unfit : MediaCame → Media

-- a packet of the media source, of this payload type
abbrev pub is_of : Tuned → ℕ → Packet → Bool
is_of t payload_type p = p.ssrc == t.media && p.payload_type == payload_type

-- a retransmission has an original number, and the media source and type of the retransmissions
abbrev pub again_of : Tuned → Packet → Media
again_of t r =
    if nat_lt (length r.payload) 2 then unfit came.Bad
    else if is_of t t.rtx r then again r.sequence (original_number r) (spelling (original r t.pt))
    else unfit came.Foreign

abbrev pub read_again : Tuned → Result Packet RtpFault → Media
read_again t (Err fault) = unfit came.Bad
read_again t (Ok r) = again_of t r

-- a multicast packet has the media source and type
abbrev pub read_multicast : Tuned → Result Packet RtpFault → Media
read_multicast t (Err fault) = unfit came.Bad
read_multicast t (Ok p) = if is_of t t.pt p then multicast p.sequence (stripped p) else unfit came.Foreign

-- feedback that is a RAMS-I by its format and its first byte
abbrev pub if_info : Option Feedback → Option Feedback
if_info None = None
if_info (Some f) = if f.format == FMT_RAMS && slice_index f.fci 0 == SFMT_RAMS_I then Some f else None

-- the first RAMS-I of some packets
unfoldable pub first_info : List Framed → Option Feedback
first_info [] = None
first_info (p ∷ ps) = option_or (if_info (feedback_of p)) (first_info ps)

-- the codes that tell of a burst: 200 that it begins, 100 its new rate
abbrev pub tells_of_burst : Info → Bool
tells_of_burst i = i.code == 200 || i.code == 100

-- one of them has to name the sequence number that the burst begins with
abbrev pub info_about : Tuned → ℕ → Info → Told
info_about t source i =
    if tells_of_burst i && not (is_some i.first) then unread info.Bad
    else if source == t.media then informs i
    else unread info.Foreign

abbrev pub read_told : Tuned → ℕ → Result Info TlvFault → Told
read_told t source (Err fault) = unread info.Bad
read_told t source (Ok i) = info_about t source i

abbrev pub read_first : Tuned → Option Feedback → Told
read_first t None = unread info.Bad
read_first t (Some f) = read_told t f.media (info_at f.fci)

-- of several RAMS-I in a datagram the first counts
abbrev pub read_framed : Tuned → Result (List Framed) FrameFault → Told
read_framed t (Err fault) = unread info.Bad
read_framed t (Ok packets) = read_first t (first_info packets)

-- What a datagram of feedback tells, and what a datagram brings as a retransmission or by multicast.
abbrev pub told_by : Tuned → List ℕ → Told
told_by t bytes = read_framed t (framed bytes)

abbrev pub brought_again : Tuned → List ℕ → Media
brought_again t bytes = read_again t (packet_at bytes)

abbrev pub brought_by_multicast : Tuned → List ℕ → Media
brought_by_multicast t bytes = read_multicast t (packet_at bytes)
