-- The RAMS-I message (RFC 6285, 7.3) as an RTCP packet (RFC 4585, 6.1).
use Rattle.std.specs.Prelude.{ℕ, ◌+◌, ◌-◌, ◌/◌, ◌%◌, List, [], ◌∷◌, ◌++◌, length, replicate, Option, None, Some}
use Rattle.std.specs.Int.{Width, w16, w32, w64, to_be_bytes}
use Rattle.rams_model.specs.declared.{message.Info.Info, rtcp.TheConstants.RTPFB, rtcp.TheConstants.FMT_RAMS}
use Rattle.rams_model.specs.declared.rams.TheConstants.{SFMT_RAMS_I, TLV_FIRST_SEQUENCE, TLV_JOIN_TIME, TLV_BURST_DURATION, TLV_MAX_TRANSMIT_BITRATE}

-- transport layer feedback of this format
--  0                   1                   2                   3
--  0 1 2 3 4 5 6 7 8 9 0 1 2 3 4 5 6 7 8 9 0 1 2 3 4 5 6 7 8 9 0 1
-- |V=2|P|   FMT   |   PT = 205    |            length             |
-- |                     SSRC of packet sender                     |
-- |                     SSRC of media source                      |
-- :                feedback control information                   :
abbrev pub transport_feedback : ℕ → ℕ → ℕ → List ℕ → List ℕ
transport_feedback format sender media fci =
    (128 + format) ∷ RTPFB ∷ (to_be_bytes w16 (2 + length fci / 4) ++ to_be_bytes w32 sender ++ to_be_bytes w32 media ++ fci)

-- a TLV: type, a reserved byte, the length of the value, the value, zeros up to a whole word (RFC 6285, 7.1)
abbrev pub tlv : ℕ → List ℕ → List ℕ
tlv kind value = kind ∷ 0 ∷ (to_be_bytes w16 (length value) ++ value ++ replicate (3 - (length value + 3) % 4) 0)

-- a TLV where there is a value
abbrev pub optional_tlv : ℕ → Width → Option ℕ → List ℕ
optional_tlv kind width None = []
optional_tlv kind width (Some n) = tlv kind (to_be_bytes width n)

-- SFMT, MSN, response, TLVs (RFC 6285, 7.3)
abbrev pub info_fci : Info → List ℕ
info_fci i =
    SFMT_RAMS_I ∷ i.msn ∷ (to_be_bytes w16 i.code
    ++ optional_tlv TLV_FIRST_SEQUENCE w16 i.first ++ optional_tlv TLV_JOIN_TIME w32 i.join_ms ++ optional_tlv TLV_BURST_DURATION w32 i.length_ms ++ optional_tlv TLV_MAX_TRANSMIT_BITRATE w64 i.bps)

-- the whole message, from this server about this media source
unfoldable pub rams_info : ℕ → ℕ → Info → List ℕ
rams_info server media i = transport_feedback FMT_RAMS server media (info_fci i)
