-- The RAMS messages (RFC 6285, 7): a request, information, a termination.
use Rattle.std.specs.Prelude.{◌≡◌, ℕ, ◌+◌, ◌-◌, ◌*◌, ◌/◌, ◌%◌, ◌<◌, Bool, true, false, ◌&&◌, ◌||◌, ◌==◌, nat_lt, nat_le, if◌then◌else◌, IsTrue, IfSome, ◌≤◌, ◌^◌, List, [], ◌∷◌, ◌++◌, length, drop, slice_index, slice_range, Option, None, Some, is_some, option_map, Result, Err}
use Rattle.std.specs.List.{list_any, flat_map, AllByRecursion}
use Rattle.std.specs.Int.{Width, w16, w32, w64, to_be_bytes, from_be_bytes}
use Rattle.rams_model.specs.declared.{fault.TlvFault.TlvFault, message.Info.Info, message.Stop.Stop, rtcp.TheConstants.FMT_RAMS}
use Rattle.rams_model.specs.declared.fault.TlvFault.TheVariants.{Form, Short, Length}
use Rattle.rams_model.specs.Formats.Joined.{Format, pieces_of, Joins, map_ok, words32}
use Rattle.rams_model.specs.Formats.RamsInfo.{transport_feedback, tlv, optional_tlv}
use Rattle.rams_model.specs.declared.rams.TheConstants.{SFMT_RAMS_R, SFMT_RAMS_I, SFMT_RAMS_T, TLV_MEDIA_SENDERS, TLV_MIN_BUFFER_FILL, TLV_MAX_BUFFER_FILL, TLV_MAX_RECEIVE_BITRATE, TLV_PREAMBLE_ONLY, TLV_FIRST_SEQUENCE, TLV_JOIN_TIME, TLV_BURST_DURATION, TLV_MAX_TRANSMIT_BITRATE, TLV_FIRST_MULTICAST}

-- a TLV: its type and its value
pub record Tlv : Type 0 where
  pub kind : ℕ
  pub value : List ℕ

-- whether the value of a type that RAMS-R reads has its length (RFC 6285, 7.2); other types have any
abbrev pub request_length : ℕ → ℕ → Bool
request_length kind n =
    if kind == TLV_MEDIA_SENDERS then n % 4 == 0
    else if kind == TLV_MIN_BUFFER_FILL || kind == TLV_MAX_BUFFER_FILL then n == 4
    else if kind == TLV_MAX_RECEIVE_BITRATE then n == 8
    else if kind == TLV_PREAMBLE_ONLY then n == 0
    else true

-- the same for RAMS-I (RFC 6285, 7.3)
abbrev pub info_length : ℕ → ℕ → Bool
info_length kind n =
    if kind == TLV_FIRST_SEQUENCE then n == 2
    else if kind == TLV_JOIN_TIME || kind == TLV_BURST_DURATION then n == 4
    else if kind == TLV_MAX_TRANSMIT_BITRATE then n == 8
    else true

-- the same for RAMS-T (RFC 6285, 7.4)
abbrev pub stop_length : ℕ → ℕ → Bool
stop_length kind n = if kind == TLV_FIRST_MULTICAST then n == 4 else true

--  0                   1                   2                   3
--  0 1 2 3 4 5 6 7 8 9 0 1 2 3 4 5 6 7 8 9 0 1 2 3 4 5 6 7 8 9 0 1
-- |     type      |   reserved    |            length             |
-- :         value, then bytes of any content up to a word         :
-- These bytes are the TLV.
pub record IsTlv (lengths : ℕ → ℕ → Bool) (bytes : List ℕ) (t : Tlv) : Type 0 where
  pub reserved : ℕ
  pub filling : List ℕ
  pub text : bytes ≡ t.kind ∷ reserved ∷ (to_be_bytes w16 (length t.value) ++ t.value ++ filling)
  pub size : length t.value < 65536
  pub fills : length filling ≡ 3 - (length t.value + 3) % 4
  pub lawful : IsTrue (lengths t.kind (length t.value))

-- The message is its first byte, three more, and these TLVs joined end to end.
abbrev pub IsMessage : ℕ → (ℕ → ℕ → Bool) → List ℕ → List Tlv → Type 0
IsMessage sfmt lengths fci ts = (a : ℕ) × (b : ℕ) × (c : ℕ) × (rest : List ℕ) × (fci ≡ sfmt ∷ a ∷ b ∷ c ∷ rest) × Joins (IsTlv lengths) rest ts

-- the length of the value of the TLV in front
abbrev pub value_length : List ℕ → ℕ
value_length bytes = from_be_bytes w16 (drop 2 bytes)

-- the bytes that it takes: its header, and its value up to a whole word
abbrev pub tlv_size : List ℕ → ℕ
tlv_size bytes = 4 + (value_length bytes + 3) / 4 * 4

abbrev pub first_tlv : List ℕ → Tlv
first_tlv bytes = record { kind = slice_index bytes 0; value = slice_range bytes 4 (4 + value_length bytes) }

-- what is wrong with it
abbrev pub tlv_fault : (ℕ → ℕ → Bool) → List ℕ → Option TlvFault
tlv_fault lengths bytes =
    if nat_lt (length bytes) 4 || nat_lt (length bytes) (tlv_size bytes) then Some Short
    else if lengths (slice_index bytes 0) (value_length bytes) then None
    else Some (Length (slice_index bytes 0))

abbrev pub tlv_format : (ℕ → ℕ → Bool) → Format Tlv TlvFault
tlv_format lengths = record { fault = tlv_fault lengths; piece = first_tlv; size = tlv_size }

-- the TLVs of a message that begins with this byte, or its first fault
abbrev pub tlvs_at : ℕ → (ℕ → ℕ → Bool) → List ℕ → Result (List Tlv) TlvFault
tlvs_at sfmt lengths fci =
    if nat_le 4 (length fci) && slice_index fci 0 == sfmt then pieces_of (tlv_format lengths) (drop 4 fci) else Err Form

-- the value of the first TLV of a type
unfoldable pub first_value : ℕ → List Tlv → Option (List ℕ)
first_value kind [] = None
first_value kind (t ∷ ts) = if t.kind == kind then Some t.value else first_value kind ts

-- the number that it is
abbrev pub number_of : Width → ℕ → List Tlv → Option ℕ
number_of width kind ts = option_map (from_be_bytes width) (first_value kind ts)

-- What a RAMS-R asks for: these SSRCs, a buffer filled for so many ms at least and at most, so many bits per second at most, no burst but its preamble.
pub record Request : Type 0 where
  pub ssrcs : Option (List ℕ)
  pub min_ms : Option ℕ
  pub max_ms : Option ℕ
  pub bps : Option ℕ
  pub preamble : Bool

-- the SSRCs of a list that isn't empty
abbrev pub ssrcs_in : Option (List ℕ) → Option (List ℕ)
ssrcs_in None = None
ssrcs_in (Some []) = None
ssrcs_in (Some (b ∷ bytes)) = Some (words32 (b ∷ bytes))

abbrev pub ssrcs_back : Option (List ℕ) → Option (List ℕ)
ssrcs_back None = None
ssrcs_back (Some []) = None
ssrcs_back (Some (s ∷ ssrcs)) = Some (s ∷ ssrcs)

-- what the TLVs of a RAMS-R say: of a type that is repeated the first counts
abbrev pub request_of : List Tlv → Request
request_of ts = record {
  ssrcs = ssrcs_in (first_value TLV_MEDIA_SENDERS ts);
  min_ms = number_of w32 TLV_MIN_BUFFER_FILL ts;
  max_ms = number_of w32 TLV_MAX_BUFFER_FILL ts;
  bps = number_of w64 TLV_MAX_RECEIVE_BITRATE ts;
  preamble = is_some (first_value TLV_PREAMBLE_ONLY ts);
}

abbrev pub request_at : List ℕ → Result Request TlvFault
request_at fci = map_ok request_of (tlvs_at SFMT_RAMS_R request_length fci)

-- what a RAMS-I says: its number, its response, and its TLVs
abbrev pub info_of : List ℕ → List Tlv → Info
info_of fci ts = record {
  msn = slice_index fci 1;
  code = from_be_bytes w16 (drop 2 fci);
  first = number_of w16 TLV_FIRST_SEQUENCE ts;
  join_ms = number_of w32 TLV_JOIN_TIME ts;
  length_ms = number_of w32 TLV_BURST_DURATION ts;
  bps = number_of w64 TLV_MAX_TRANSMIT_BITRATE ts;
}

abbrev pub info_at : List ℕ → Result Info TlvFault
info_at fci = map_ok (info_of fci) (tlvs_at SFMT_RAMS_I info_length fci)

-- what the TLVs of a RAMS-T say
abbrev pub stop_of : List Tlv → Stop
stop_of ts = record { first_multicast = number_of w32 TLV_FIRST_MULTICAST ts }

abbrev pub stop_at : List ℕ → Result Stop TlvFault
stop_at fci = map_ok stop_of (tlvs_at SFMT_RAMS_T stop_length fci)

-- whether a list that may be missing or empty, and then means every SSRC, has this one
abbrev pub is_listed : ℕ → Option (List ℕ) → Bool
is_listed ssrc None = true
is_listed ssrc (Some []) = true
is_listed ssrc (Some (s ∷ ssrcs)) = list_any (λ x. x == ssrc) (s ∷ ssrcs)

-- whether a RAMS-R asks for this SSRC
abbrev pub names : Request → ℕ → Bool
names r ssrc = is_listed ssrc r.ssrcs

abbrev pub ssrcs_tlv : Option (List ℕ) → List ℕ
ssrcs_tlv None = []
ssrcs_tlv (Some ssrcs) = tlv TLV_MEDIA_SENDERS (flat_map (to_be_bytes w32) ssrcs)

abbrev pub preamble_tlv : Bool → List ℕ
preamble_tlv true = tlv TLV_PREAMBLE_ONLY []
preamble_tlv false = []

-- SFMT, reserved bits, TLVs in rising type (RFC 6285, 7.2)
abbrev pub request_fci : Request → List ℕ
request_fci r =
    SFMT_RAMS_R ∷ 0 ∷ 0 ∷ 0 ∷ (ssrcs_tlv r.ssrcs
    ++ optional_tlv TLV_MIN_BUFFER_FILL w32 r.min_ms ++ optional_tlv TLV_MAX_BUFFER_FILL w32 r.max_ms ++ optional_tlv TLV_MAX_RECEIVE_BITRATE w64 r.bps ++ preamble_tlv r.preamble)

-- SFMT, reserved bits, TLVs (RFC 6285, 7.4)
abbrev pub stop_fci : Stop → List ℕ
stop_fci s = SFMT_RAMS_T ∷ 0 ∷ 0 ∷ 0 ∷ optional_tlv TLV_FIRST_MULTICAST w32 s.first_multicast

-- an optional number fits its width
abbrev pub FitsIn : ℕ → Option ℕ → Type 0
FitsIn n o = IfSome o (λ x. x < 2 ^ n)

-- Each field of a request fits its bytes, and there are at most 64 SSRCs.
pub record FitsRequest (r : Request) : Type 0 where
  pub few : IfSome r.ssrcs (λ ssrcs. length ssrcs ≤ 64)
  pub ssrcs : IfSome r.ssrcs (λ ssrcs. AllByRecursion (λ s. s < 2 ^ 32) ssrcs)
  pub min_ms : FitsIn 32 r.min_ms
  pub max_ms : FitsIn 32 r.max_ms
  pub bps : FitsIn 64 r.bps

-- a request as it is read back: an empty list of SSRCs is none
abbrev pub request_back : Request → Request
request_back r = record r { ssrcs = ssrcs_back r.ssrcs }

pub record FitsInfo (i : Info) : Type 0 where
  pub code : i.code < 2 ^ 16
  pub first : FitsIn 16 i.first
  pub join_ms : FitsIn 32 i.join_ms
  pub length_ms : FitsIn 32 i.length_ms
  pub bps : FitsIn 64 i.bps

-- the whole messages
unfoldable pub rams_request : ℕ → ℕ → Request → List ℕ
rams_request sender media r = transport_feedback FMT_RAMS sender media (request_fci r)

unfoldable pub rams_stop : ℕ → ℕ → Stop → List ℕ
rams_stop sender media s = transport_feedback FMT_RAMS sender media (stop_fci s)
