-- UDP datagrams in Ethernet frames: IPv4 alone, whole, and without checksums (IEEE 802.3, 802.1Q; RFC 791, 3.1; RFC 768).
use Rattle.std.specs.Prelude.{ℕ, ◌+◌, ◌*◌, ◌/◌, ◌%◌, Bool, ◌&&◌, ◌==◌, not, nat_le, if◌then◌else◌, List, drop, length, slice_index, slice_range, Option, None, Some, option_and_then}
use Rattle.converters.specs.declared.capture_loop.pcap_trace.frame.Udp.{Udp}
use Rattle.converters.specs.capture_loop.pcap_trace.Numbers.{short_at, word_at}

-- where the type stands: behind two addresses of six bytes, and at most one tag 8100 of four
abbrev pub type_place : List ℕ → ℕ
type_place frame = if nat_le 14 (length frame) && short_at 12 frame == 0x8100 then 16 else 12

-- the bytes from this place on, where the type in front of them is that of IPv4
abbrev pub behind_type : ℕ → List ℕ → Option (List ℕ)
behind_type at frame = if nat_le (at + 2) (length frame) && short_at at frame == 0x0800 then Some (drop (at + 2) frame) else None

-- what a frame of IPv4 carries
abbrev pub packet_in : List ℕ → Option (List ℕ)
packet_in frame = behind_type (type_place frame) frame

-- the bytes of the header, of four each that its lowest four bits count
abbrev pub header_size : List ℕ → ℕ
header_size packet = 4 * (slice_index packet 0 % 16)

-- the bytes of the packet, its header included
abbrev pub total_length : List ℕ → ℕ
total_length packet = short_at 2 packet

-- more fragments follow, or this is not the first: the flags are the three highest bits, of which the first two aren't looked at
abbrev pub is_fragment : List ℕ → Bool
is_fragment packet = not (short_at 6 packet % 16384 == 0)

-- a whole packet of version 4, with UDP behind its header of 20 bytes or more
abbrev pub is_udp : List ℕ → Bool
is_udp packet =
    nat_le 20 (length packet) && slice_index packet 0 / 16 == 4 && nat_le 20 (header_size packet) && nat_le (total_length packet) (length packet)
    && slice_index packet 9 == 17 && not (is_fragment packet)

-- the bytes of the datagram, its header of eight included
abbrev pub udp_length : List ℕ → ℕ
udp_length packet = short_at (header_size packet + 4) packet

-- the header and the datagram have their bytes within the packet
abbrev pub has_datagram : List ℕ → Bool
has_datagram packet =
    nat_le (header_size packet + 8) (total_length packet) && nat_le 8 (udp_length packet)
    && nat_le (header_size packet + udp_length packet) (total_length packet)

-- A datagram: its sender, as the address times 65,536 plus the port; the port that it goes to; what it carries.
pub record Datagram : Type 0 where
  pub from : ℕ
  pub port : ℕ
  pub payload : List ℕ

abbrev pub datagram_of : List ℕ → Datagram
datagram_of packet = record {
  from = word_at 12 packet * 65536 + short_at (header_size packet) packet;
  port = short_at (header_size packet + 2) packet;
  payload = slice_range packet (header_size packet + 8) (header_size packet + udp_length packet);
}

abbrev pub datagram_in : List ℕ → Option Datagram
datagram_in packet = if is_udp packet && has_datagram packet then Some (datagram_of packet) else None

-- the datagram that a frame carries
unfoldable pub datagram_at : List ℕ → Option Datagram
datagram_at frame = option_and_then datagram_in (packet_in frame)

-- a datagram without where it lies in memory
abbrev pub shown_udp : Udp → Datagram
shown_udp u = record { from = u.from; port = u.port; payload = u.payload.now }
