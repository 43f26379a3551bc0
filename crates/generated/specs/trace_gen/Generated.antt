-- The channel and the events of a generated trace: blocks of ten packets, a feedback datagram in three of four blocks, and a tick.
use Rattle.std.specs.Prelude.{ℕ, ◌+◌, ◌-◌, ◌*◌, ◌/◌, ◌%◌, ◌^◌, ◌==◌, if◌then◌else◌, false, List, [], ◌∷◌, ◌++◌, map, replicate, None}
use Rattle.std.specs.List.{flat_map, range_with_len}
use Rattle.rams_model.specs.declared.{Access.TheVariants.Marker, Channel.Channel, Event.Event}
use Rattle.rams_model.specs.declared.Event.TheVariants.{Live, Feedback, Tick}
use Rattle.rams_model.specs.Formats.{Packet, spelling, rams_request, rams_stop, nack_packet}
use Rattle.rams_model.specs.Service.{Settings, settings}
use Rattle.generated.specs.trace_gen.Draws.{drawn}

-- the SSRC of the media source
abbrev pub media : ℕ
media = 0x11223344

abbrev pub channel : Channel
channel = record {
  id = 1;
  ssrc = media;
  pt = 33;
  rtx = 99;
  server = 0xff;
  seq0 = 0;
  ring = 1024;
  window = 8;
  access = Marker;
  share = 200000;
  reserve = 20000;
  burst = 60000;
  declared = 20000;
  minwire = 142;
  limit = 400;
  idle = 400;
  clients = 64;
  depth = 0;
  swell = 0;
}

-- ticks of 10 ms
abbrev pub config : Settings
config = settings channel 10

-- the draws before block b: ten in each block, and one more in each whose number is 1 or 2 modulo 4
abbrev pub draws_before : ℕ → ℕ
draws_before b = 10 * b + (b + 2) / 4 + (b + 1) / 4

-- the payload of packet j of block b, in bytes
abbrev pub size : ℕ → ℕ → ℕ → ℕ
size seed b j = 100 + drawn seed (draws_before b + j) % 1300

-- packet i of the multicast (RFC 3550, 5.1): 5 ms of the 90 kHz clock behind the one before, every fiftieth with the marker, and so many zeros
abbrev pub numbered : ℕ → ℕ → Packet
numbered i size = record {
  marker = i % 50 == 0;
  payload_type = 33;
  sequence = i % 65536;
  timestamp = 450 * i % 2 ^ 32;
  ssrc = media;
  csrc = [];
  extension = [];
  payload = replicate size 0;
  padding = [];
}

-- the bytes of packet j of block b, and of n packets from it on, one behind another
abbrev pub text : ℕ → ℕ → ℕ → List ℕ
text seed b j = spelling (numbered (10 * b + j) (size seed b j))

abbrev pub texts_from : ℕ → ℕ → ℕ → ℕ → List ℕ
texts_from seed b j n = flat_map (text seed b) (range_with_len j n)

-- packet j of block b
unfoldable pub packet : ℕ → ℕ → ℕ → Event
packet seed b j = Live (text seed b j)

-- the client of block b: it is drawn in the last block before it whose number is 1 modulo 4, or in b itself
abbrev pub client : ℕ → ℕ → ℕ
client seed b = 1 + drawn seed (draws_before (b / 4 * 4 + 1) + 10) % 64

-- the sequence number that the client misses in block b: one of the 200 newest
abbrev pub lost : ℕ → ℕ → ℕ
lost seed b = (10 * b + 9 + 65536 - drawn seed (draws_before b + 10) % 200) % 65536

-- The client's RAMS-R without TLVs (RFC 6285, 7.2), its generic NACK of one number (RFC 4585, 6.2.1), and its RAMS-T without TLVs (RFC 6285, 7.4). Its SSRC is its number.
unfoldable pub request : ℕ → ℕ → Event
request seed b =
    Feedback (client seed b) (rams_request (client seed b) media (record { ssrcs = None; min_ms = None; max_ms = None; bps = None; preamble = false }))

unfoldable pub nack : ℕ → ℕ → Event
nack seed b = Feedback (client seed b) (nack_packet (client seed b) media (lost seed b ∷ []))

unfoldable pub stop : ℕ → ℕ → Event
stop seed b = Feedback (client seed b) (rams_stop (client seed b) media (record { first_multicast = None }))

-- the feedback of block b: of four blocks none, a request, a NACK and a stop
abbrev pub feedback : ℕ → ℕ → List Event
feedback seed b =
    if b % 4 == 1 then request seed b ∷ [] else if b % 4 == 2 then nack seed b ∷ [] else if b % 4 == 3 then stop seed b ∷ [] else []

-- The events of block b.
abbrev pub block : ℕ → ℕ → List Event
block seed b = map (packet seed b) (range_with_len 0 10) ++ feedback seed b ++ Tick ∷ []

-- The events of a seed and so many blocks, the first in front.
abbrev pub made : ℕ → ℕ → List Event
made seed blocks = flat_map (block seed) (range_with_len 0 blocks)
