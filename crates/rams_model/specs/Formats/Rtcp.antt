-- RTCP packets, and the datagrams that they make (RFC 3550, 6).
use Rattle.std.specs.Prelude.{◌≡◌, ℕ, ◌+◌, ◌-◌, ◌*◌, ◌/◌, ◌%◌, ◌<◌, ◌≤◌, Bool, ◌&&◌, ◌||◌, ◌==◌, not, nat_lt, nat_le, if◌then◌else◌, List, [], ◌∷◌, ◌++◌, length, take, drop, slice_index, slice_range, Option, None, Some, Result, Err, codes}
use Rattle.std.specs.List.{list_any}
use Rattle.std.specs.Int.{w16, w32, to_be_bytes, from_be_bytes}
use Rattle.rams_model.specs.declared.fault.FrameFault.{FrameFault}
use Rattle.rams_model.specs.declared.fault.FrameFault.TheVariants.{Empty, Short, Version, Length, Padding, Body}
use Rattle.rams_model.specs.Formats.RtpPacket.{flag}
use Rattle.rams_model.specs.Formats.Joined.{Format, pieces_of, Joins, words32}
use Rattle.rams_model.specs.declared.rtcp.TheConstants.{RR, SDES, BYE, RTPFB, PSFB}

-- a packet: its type, its 5-bit count or format, and its body, without padding
pub record Framed : Type 0 where
  pub kind : ℕ
  pub count : ℕ
  pub body : List ℕ

--  0                   1                   2                   3
--  0 1 2 3 4 5 6 7 8 9 0 1 2 3 4 5 6 7 8 9 0 1 2 3 4 5 6 7 8 9 0 1
-- |V=2|P|  count  |      PT       |            length             |
-- :                     body, then the padding                    :
-- The length counts the words behind the first.
abbrev pub packet_text : Framed → List ℕ → List ℕ
packet_text p padding = (128 + 32 * flag padding + p.count) ∷ p.kind ∷ (to_be_bytes w16 ((length p.body + length padding) / 4) ++ p.body ++ padding)

-- the fewest bytes of a body: BYE names its sources (RFC 3550, 6.6), feedback has two (RFC 4585, 6.1)
abbrev pub least_body : ℕ → ℕ → ℕ
least_body kind count = if kind == BYE then 4 * count else if kind == RTPFB || kind == PSFB then 8 else 0

-- These bytes are the packet. Its padding is none, or whole words whose last byte counts their bytes.
pub record IsRtcpPacket (bytes : List ℕ) (p : Framed) : Type 0 where
  pub padding : List ℕ
  pub text : bytes ≡ packet_text p padding
  pub count : p.count < 32
  pub words : (length p.body + length padding) % 4 ≡ 0
  pub size : length p.body + length padding < 262144
  pub whole : length padding % 4 ≡ 0
  pub counted : 0 < length padding → slice_index padding (length padding - 1) ≡ length padding
  pub body : least_body p.kind p.count ≤ length p.body

-- The datagram is these packets joined end to end, one or more (RFC 3550, 6.1).
abbrev pub IsCompound : List ℕ → List Framed → Type 0
IsCompound datagram ps = (0 < length ps) × Joins IsRtcpPacket datagram ps

-- the bytes that the packet in front says that it takes
abbrev pub packet_size : List ℕ → ℕ
packet_size bytes = 4 * (from_be_bytes w16 (drop 2 bytes) + 1)

-- whether its padding bit is set
abbrev pub is_padded : List ℕ → Bool
is_padded bytes = slice_index bytes 0 / 32 % 2 == 1

-- the padding bytes that its last byte counts
abbrev pub rtcp_padding : List ℕ → ℕ
rtcp_padding bytes = if is_padded bytes then slice_index bytes (packet_size bytes - 1) else 0

-- whether there is padding where the bit is set: whole words, no more than stand behind the first
abbrev pub is_padding_right : List ℕ → Bool
is_padding_right bytes =
    not (is_padded bytes) || (nat_lt 0 (rtcp_padding bytes) && rtcp_padding bytes % 4 == 0 && nat_le (rtcp_padding bytes) (packet_size bytes - 4))

abbrev pub framed_first : List ℕ → Framed
framed_first bytes = record {
  kind = slice_index bytes 1;
  count = slice_index bytes 0 % 32;
  body = slice_range bytes 4 (packet_size bytes - rtcp_padding bytes);
}

-- what is wrong with the packet in front
abbrev pub packet_fault : List ℕ → Option FrameFault
packet_fault bytes =
    if nat_lt (length bytes) 4 then Some Short
    else if not (slice_index bytes 0 / 64 == 2) then Some Version
    else if nat_lt (length bytes) (packet_size bytes) then Some Length
    else if not (is_padding_right bytes) then Some Padding
    else if nat_lt (packet_size bytes - rtcp_padding bytes - 4) (least_body (slice_index bytes 1) (slice_index bytes 0 % 32)) then Some Body
    else None

abbrev pub packet_format : Format Framed FrameFault
packet_format = record { fault = packet_fault; piece = framed_first; size = packet_size }

-- the packets of a datagram, or its first fault
abbrev pub framed : List ℕ → Result (List Framed) FrameFault
framed [] = Err Empty
framed (b ∷ bytes) = pieces_of packet_format (b ∷ bytes)

-- whether a BYE names the source; a reason behind its sources isn't looked at (RFC 3550, 6.6)
abbrev pub bye_names : Framed → ℕ → Bool
bye_names p ssrc = p.kind == BYE && list_any (λ s. s == ssrc) (take p.count (words32 p.body))

-- a receiver report without blocks (RFC 3550, 6.4.2)
abbrev pub rr_packet : ℕ → List ℕ
rr_packet ssrc = packet_text (record { kind = RR; count = 0; body = to_be_bytes w32 ssrc }) []

-- a source description of one source: item 1, the canonical name, and zeros up to a whole word (RFC 3550, 6.5)
abbrev pub sdes_packet : ℕ → List ℕ
sdes_packet ssrc = packet_text (record { kind = SDES; count = 1; body = to_be_bytes w32 ssrc ++ 1 ∷ 3 ∷ codes "stb" ++ 0 ∷ 0 ∷ 0 ∷ [] }) []

-- a goodbye of one source (RFC 3550, 6.6)
abbrev pub bye_packet : ℕ → List ℕ
bye_packet ssrc = packet_text (record { kind = BYE; count = 1; body = to_be_bytes w32 ssrc }) []
