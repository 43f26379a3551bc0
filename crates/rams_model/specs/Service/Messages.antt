-- What a feedback datagram says to a channel.
use Rattle.std.specs.Prelude.{ℕ, Bool, true, false, ◌==◌, not, if◌then◌else◌, List, [], ◌∷◌, slice_index, filter, filter_map, Option, Some, None, Result, Ok, Err}
use Rattle.rams_model.specs.declared.{fault.NackFault.NackFault, fault.TlvFault.TlvFault, message.Stop.Stop}
use Rattle.rams_model.specs.declared.rams.TheConstants.{SFMT_RAMS_R, SFMT_RAMS_T}
use Rattle.rams_model.specs.Formats.{Framed, Feedback, feedback_of, nack_numbers, Request, request_at, stop_at}
use Rattle.rams_model.specs.declared.rtcp.TheConstants.{BYE, FMT_NACK, FMT_RAMS}

-- A message that is answered.
pub data Message : Type 0 where
  -- a BYE (RFC 3550, 6.6)
  bye : Framed → Message
  -- a generic NACK (RFC 4585, 6.2.1): the SSRC of the media source, that of the sender, and the numbers that it names
  nack : ℕ → ℕ → List ℕ → Message
  -- a RAMS-R (RFC 6285, 7.2): the SSRC of the sender, and what it asks for
  asks : ℕ → Result Request TlvFault → Message
  -- a RAMS-T (RFC 6285, 7.4)
  stops : Result Stop TlvFault → Message

-- the numbers that a NACK names; none where it has no words
abbrev pub named : Result (List ℕ) NackFault → List ℕ
named (Ok numbers) = numbers
named (Err fault) = []

-- a RAMS message by its first byte, the SFMT: a RAMS-R or a RAMS-T
abbrev pub rams_message : Feedback → Option Message
rams_message f =
    if slice_index f.fci 0 == SFMT_RAMS_R then Some (asks f.sender (request_at f.fci))
    else if slice_index f.fci 0 == SFMT_RAMS_T then Some (stops (stop_at f.fci))
    else None

-- transport layer feedback is a generic NACK or a RAMS message by its format
abbrev pub feedback_message : Option Feedback → Option Message
feedback_message None = None
feedback_message (Some f) =
    if f.format == FMT_NACK then Some (nack f.media f.sender (named (nack_numbers f.fci))) else if f.format == FMT_RAMS then rams_message f else None

-- the message of an RTCP packet; all other packets are skipped
unfoldable pub message_of : Framed → Option Message
message_of p = if p.kind == BYE then Some (bye p) else feedback_message (feedback_of p)

-- a RAMS-R or a RAMS-T
abbrev pub is_rams : Message → Bool
is_rams (asks sender request) = true
is_rams (stops stop) = true
is_rams _ = false

-- these messages, without the RAMS messages after the first
abbrev pub with_one_rams : List Message → List Message
with_one_rams [] = []
with_one_rams (m ∷ ms) = if is_rams m then m ∷ filter (λ n. not (is_rams n)) ms else m ∷ with_one_rams ms

-- The messages of a datagram, in order: its BYEs, its generic NACKs, and the first RAMS-R or RAMS-T.
unfoldable pub messages : List Framed → List Message
messages packets = with_one_rams (filter_map message_of packets)
