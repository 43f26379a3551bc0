-- Which bytes are an RTP packet, with which fields, or why they are none (RFC 3550, 5.1); and what a packet is, apart from reading and writing.
use Rattle.std.specs.Prelude.{◌≡◌, ℕ, ◌+◌, ◌-◌, ◌*◌, ◌/◌, ◌%◌, ◌^◌, ◌<◌, ◌⊎◌, Bool, ◌&&◌, ◌||◌, ◌==◌, not, nat_lt, if◌then◌else◌, List, [], ◌∷◌, ◌++◌, length, take, drop, slice_index, All, Result, Ok, Err}
use Rattle.std.specs.Int.{w16, w32, to_be_bytes, from_be_bytes}
use Rattle.rams_model.specs.declared.fault.RtpFault.{RtpFault}
use Rattle.rams_model.specs.declared.fault.RtpFault.TheVariants.{Short, Version, Csrc, Extension, Padding}
use Rattle.rams_model.specs.Formats.RtpPacket.{Packet, spelling}

-- the two highest bits of the first byte
abbrev pub version : List ℕ → ℕ
version bytes = slice_index bytes 0 / 64

-- bit 5 of the first byte, which announces padding
abbrev pub has_padding : List ℕ → Bool
has_padding bytes = slice_index bytes 0 / 32 % 2 == 1

-- bit 4 of the first byte, which announces a header extension
abbrev pub has_extension : List ℕ → Bool
has_extension bytes = slice_index bytes 0 / 16 % 2 == 1

-- the bytes of the contributing sources, four for each
abbrev pub csrc_size : List ℕ → ℕ
csrc_size bytes = 4 * (slice_index bytes 0 % 16)

-- what stands behind the fixed header
abbrev pub behind_header : List ℕ → List ℕ
behind_header bytes = drop 12 bytes

-- what stands behind the contributing sources
abbrev pub behind_csrc : List ℕ → List ℕ
behind_csrc bytes = drop (csrc_size bytes) (behind_header bytes)

-- the bytes of the header extension: a profile's 16 bits, a length of 16 bits, and as many words (RFC 3550, 5.3.1)
abbrev pub extension_size : List ℕ → ℕ
extension_size bytes = if has_extension bytes then 4 + 4 * from_be_bytes w16 (drop 2 (behind_csrc bytes)) else 0

-- what stands behind the header extension: the payload and the padding
abbrev pub behind_extension : List ℕ → List ℕ
behind_extension bytes = drop (extension_size bytes) (behind_csrc bytes)

-- the last byte, where it counts the padding bytes
abbrev pub padding_size : List ℕ → ℕ
padding_size bytes = if has_padding bytes then slice_index bytes (length bytes - 1) else 0

-- the bytes end inside the header extension
abbrev pub lacks_extension : List ℕ → Bool
lacks_extension bytes = has_extension bytes && (nat_lt (length (behind_csrc bytes)) 4 || nat_lt (length (behind_csrc bytes)) (extension_size bytes))

-- the count of padding bytes is 0, or more than what stands behind the header extension
abbrev pub miscounts_padding : List ℕ → Bool
miscounts_padding bytes = has_padding bytes && (padding_size bytes == 0 || nat_lt (length (behind_extension bytes)) (padding_size bytes))

-- the fields, one after another
unfoldable pub fields_of : List ℕ → Packet
fields_of bytes =
    let size = length (behind_extension bytes) - padding_size bytes in
    record {
      marker = slice_index bytes 1 / 128 == 1;
      payload_type = slice_index bytes 1 % 128;
      sequence = from_be_bytes w16 (drop 2 bytes);
      timestamp = from_be_bytes w32 (drop 4 bytes);
      ssrc = from_be_bytes w32 (drop 8 bytes);
      csrc = take (csrc_size bytes) (behind_header bytes);
      extension = take (extension_size bytes) (behind_csrc bytes);
      payload = take size (behind_extension bytes);
      padding = drop size (behind_extension bytes);
    }

-- the packet that the bytes are, or the first fault that is true of them
unfoldable pub packet_at : List ℕ → Result Packet RtpFault
packet_at bytes =
    if nat_lt (length bytes) 12 then Err Short
    else if not (version bytes == 2) then Err Version
    else if nat_lt (length bytes) (12 + csrc_size bytes) then Err Csrc
    else if lacks_extension bytes then Err Extension
    else if miscounts_padding bytes then Err Padding
    else Ok (fields_of bytes)

-- 0 to 15 contributing sources of four bytes
abbrev pub AreCsrc : List ℕ → Type 0
AreCsrc bytes = (n : ℕ) × (n < 16) × (length bytes ≡ 4 * n)

-- a whole header extension (RFC 3550, 5.3.1)
pub record IsWholeExtension (bytes : List ℕ) : Type 0 where
  -- two bytes whose meaning is the profile's
  pub profile : List ℕ
  pub words : List ℕ
  pub count : ℕ
  pub short : length profile ≡ 2
  pub fits : count < 2 ^ 16
  pub long : length words ≡ 4 * count
  pub text : bytes ≡ profile ++ to_be_bytes w16 count ++ words

-- padding: bytes of any content, and behind them one that counts them and itself
pub record IsWholePadding (bytes : List ℕ) : Type 0 where
  pub front : List ℕ
  pub fits : length front < 255
  pub text : bytes ≡ front ++ (length front + 1) ∷ []

-- Fields that are a packet: its text is their spelling.
pub record IsPacket (p : Packet) : Type 0 where
  pub payload_type : p.payload_type < 128
  pub sequence : p.sequence < 2 ^ 16
  pub timestamp : p.timestamp < 2 ^ 32
  pub ssrc : p.ssrc < 2 ^ 32
  pub csrc : AreCsrc p.csrc
  pub extension : (p.extension ≡ []) ⊎ IsWholeExtension p.extension
  pub padding : (p.padding ≡ []) ⊎ IsWholePadding p.padding

-- What is read is a packet, and the bytes are its spelling.
abbrev pub WhatIsReadIsSpelledSo : Type 0
WhatIsReadIsSpelledSo =
    (bytes : List ℕ) (p : Packet) → All (λ b. b < 256) bytes → packet_at bytes ≡ Ok p → IsPacket p × (spelling p ≡ bytes)

-- The spelling of a packet is read as this packet.
abbrev pub WhatIsSpelledSoIsRead : Type 0
WhatIsSpelledSoIsRead = (p : Packet) → IsPacket p → packet_at (spelling p) ≡ Ok p

-- the number that stands in front of the payload of a retransmission packet (RFC 4588, 4)
abbrev pub original_number : Packet → ℕ
original_number r = from_be_bytes w16 (take 2 r.payload)

-- the packet that a retransmission packet brings again, with its type and its number, and without padding (RFC 4588, 4)
abbrev pub original : Packet → ℕ → Packet
original r payload_type = record r { payload_type = payload_type; sequence = original_number r; payload = drop 2 r.payload; padding = [] }
