-- Numbers in the bytes of captures, and of packets.
use Rattle.std.specs.Prelude.{ℕ, List, drop}
use Rattle.std.specs.Int.{w16, w32, from_be_bytes, from_le_bytes}
use Rattle.converters.specs.declared.capture_loop.pcap_trace.head.Endian.{Endian}
use Rattle.converters.specs.declared.capture_loop.pcap_trace.head.Endian.TheVariants.{Little, Big}

-- the number of 16 bits at a place, in a file's byte order
abbrev pub short_by : Endian → ℕ → List ℕ → ℕ
short_by Little at bytes = from_le_bytes w16 (drop at bytes)
short_by Big at bytes = from_be_bytes w16 (drop at bytes)

-- the number of 32 bits at a place, in a file's byte order
abbrev pub word_by : Endian → ℕ → List ℕ → ℕ
word_by Little at bytes = from_le_bytes w32 (drop at bytes)
word_by Big at bytes = from_be_bytes w32 (drop at bytes)

-- the same in network byte order
abbrev pub short_at : ℕ → List ℕ → ℕ
short_at at bytes = short_by Big at bytes

abbrev pub word_at : ℕ → List ℕ → ℕ
word_at at bytes = word_by Big at bytes
