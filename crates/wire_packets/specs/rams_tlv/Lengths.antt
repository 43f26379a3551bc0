-- Which lengths the types of a message have.
use Rattle.std.specs.Prelude.{ℕ, Bool}
use Rattle.wire_packets.specs.declared.rams_tlv.tlvs.Message.{Message}
use Rattle.wire_packets.specs.declared.rams_tlv.tlvs.Message.TheVariants as message
use Rattle.rams_model.specs.declared.rams.TheConstants.{SFMT_RAMS_R, SFMT_RAMS_I, SFMT_RAMS_T}
use Rattle.rams_model.specs.Formats.{request_length, info_length, stop_length}

-- whether the value of a type that the message reads has its length
abbrev pub lengths : Message → ℕ → ℕ → Bool
lengths message.Request kind n = request_length kind n
lengths message.Info kind n = info_length kind n
lengths message.Stop kind n = stop_length kind n

-- the message's first byte (RFC 6285, 7)
abbrev pub sfmt : Message → ℕ
sfmt message.Request = SFMT_RAMS_R
sfmt message.Info = SFMT_RAMS_I
sfmt message.Stop = SFMT_RAMS_T
