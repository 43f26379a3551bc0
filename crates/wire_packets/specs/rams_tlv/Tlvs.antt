-- TLVs as code has them.
use Rattle.std.specs.Prelude.{ℕ, List, Option, None, Result, Ok, Err}
use Rattle.rams_model.specs.declared.TlvFault.{TlvFault}
use Rattle.rams_model.specs.Formats.{pieces_of, Tlv, tlv_format, first_value}
use Rattle.wire_packets.specs.declared.rams_tlv.tlvs.Message.{Message}
use Rattle.wire_packets.specs.rams_tlv.Lengths.{lengths}

-- the TLVs that the bytes are, in this message
unfoldable pub tlvs_of : Message → List ℕ → Result (List Tlv) TlvFault
tlvs_of message bytes = pieces_of (tlv_format (lengths message)) bytes

-- the value of the first of a type among them
abbrev pub value_in : ℕ → Result (List Tlv) TlvFault → Option (List ℕ)
value_in kind (Ok ts) = first_value kind ts
value_in kind (Err fault) = None
