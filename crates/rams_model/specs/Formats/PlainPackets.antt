-- What is read of a plain packet is the whole packet.
use Rattle.std.specs.Prelude.{ℕ, ◌≡◌, ◌<◌, List, IsTrue, All}
use Rattle.rams_model.specs.Formats.RtpPacket.{is_plain, packet_of, spelling, stripped}

-- A packet with a fixed header alone is spelled again, byte for byte, from the fields that are read of it; it has no padding to strip (RFC 3550, 5.1).
abbrev pub PlainPacketsAreSpelledAgain : Type 0
PlainPacketsAreSpelledAgain =
    (bytes : List ℕ) → All (λ b. b < 256) bytes → IsTrue (is_plain bytes) → (spelling (packet_of bytes) ≡ bytes) × (stripped (packet_of bytes) ≡ bytes)
