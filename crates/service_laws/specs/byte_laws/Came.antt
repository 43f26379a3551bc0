-- What is held of the packets that came, said of their bytes (RFC 3550, 5.1).
use Rattle.std.specs.Prelude.{◌≡◌, ℕ, ◌+◌, ◌*◌, ◌/◌, ◌%◌, ◌<◌, ◌≤◌, IsTrue, ◌↔◌, List, length, slice_index, All, Contains, Ok}
use Rattle.std.specs.List.{AllByRecursion}
use Rattle.rams_model.specs.declared.{Access.Access, Event.Event, Held.Held, Order.TheVariants.Rtx}
use Rattle.rams_model.specs.declared.{Access.TheVariants.Marker, Access.TheVariants.Ts, Event.TheVariants.Live}
use Rattle.rams_model.specs.declared.wire.TheConstants.{MOST_PACKET}
use Rattle.rams_model.specs.Formats.{Packet, packet_at}
use Rattle.rams_model.specs.Service.{Settings, History, hold, datagram, history_of}
use Rattle.rams_model.specs.Laws.{source}
use Rattle.service_laws.specs.book_laws.{IsMoment}

-- the number of 16 bits at a place, the higher byte first
abbrev pub number16 : ℕ → List ℕ → ℕ
number16 at bytes = slice_index bytes at * 256 + slice_index bytes (at + 1)

-- the number of 32 bits there
abbrev pub number32 : ℕ → List ℕ → ℕ
number32 at bytes = number16 at bytes * 65536 + number16 (at + 2) bytes

-- At this place of a payload stands a whole TS packet with the random access flag: its sync byte, an adaptation field of a byte at least, and the flag in it (ISO/IEC 13818-1, 2.4.3.4).
pub record IsRandomAccessAt (payload : List ℕ) (at : ℕ) : Type 0 where
  pub within : at + 188 ≤ length payload
  pub sync : slice_index payload at ≡ 0x47
  pub field : slice_index payload (at + 3) / 32 % 2 ≡ 1
  pub some : 1 ≤ slice_index payload (at + 4)
  pub flag : slice_index payload (at + 5) / 64 % 2 ≡ 1

-- a decoder may start: the marker is set, the top bit of byte 1; or one of the payload's TS packets, 188 bytes each, has the flag
abbrev pub MayStart : Access → List ℕ → Packet → Type 0
MayStart Marker bytes p = 128 ≤ slice_index bytes 1
MayStart Ts bytes p = (k : ℕ) × IsRandomAccessAt p.payload (188 * k)

-- A packet came in one of these events, and what is kept of it is read off its bytes.
pub record CameAs (s : Settings) (events : List Event) (h : Held) : Type 0 where
  pub bytes : List ℕ
  pub came : Contains events (Live bytes)
  pub short : length bytes ≤ MOST_PACKET
  -- it is an RTP packet of the channel's payload type and media source
  pub packet : Packet
  pub is_read : packet_at bytes ≡ Ok packet
  pub version : slice_index bytes 0 / 64 ≡ 2
  pub kind : slice_index bytes 1 % 128 ≡ s.channel.pt
  pub media : number32 8 bytes ≡ s.channel.ssrc
  -- its number has its sequence number as low 16 bits
  pub low : h.n % 65536 ≡ number16 2 bytes
  pub high : 65536 ≤ h.n
  pub timestamp : h.ts ≡ number32 4 bytes
  pub access : IsTrue h.access ↔ MayStart s.channel.access bytes packet
  -- what a datagram of it takes on the wire are its bytes, and 28 for the headers of IPv4 and UDP
  pub wire : (client n sequence : ℕ) → h.wire ≡ length (datagram s (Rtx client n sequence h.packet)) + 28

-- what came are bytes, where it is a live packet
abbrev pub HasBytes : Event → Type 0
HasBytes (Live bytes) = All (λ b. b < 256) bytes
HasBytes _ = Unit {0}

-- Each packet of the source came in one of the events so far.
abbrev pub EachPacketCame : Type 0
EachPacketCame = (s : Settings) (events : List Event) → AllByRecursion HasBytes events → (h : Held) → Contains (source s (history_of s events)) h → CameAs s events h

-- So did each that is held at a moment.
abbrev pub EachHeldPacketCame : Type 0
EachHeldPacketCame =
    (s : Settings) (history : History) (m : IsMoment s history) → AllByRecursion HasBytes m.events → (h : Held) → Contains (hold s history) h → CameAs s m.events h
