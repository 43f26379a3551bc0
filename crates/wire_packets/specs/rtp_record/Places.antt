-- The places at which the parts of a packet begin.
use Rattle.std.specs.Prelude.{◌≡◌, ℕ, ◌+◌, ◌≤◌, List, length}
use Rattle.rams_model.specs.Formats.{spelling, fields_of, csrc_size, extension_size, padding_size, IsPacket}

-- The bytes are a packet, whose header extension, payload and padding begin at these places.
pub record ArePlaces (bytes : List ℕ) (extension payload padding : ℕ) : Type 0 where
  pub is_packet : IsPacket (fields_of bytes)
  pub is_spelled : spelling (fields_of bytes) ≡ bytes
  pub extension_is : extension ≡ 12 + csrc_size bytes
  pub payload_is : payload ≡ extension + extension_size bytes
  pub padding_is : padding + padding_size bytes ≡ length bytes
  pub in_order : payload ≤ padding
