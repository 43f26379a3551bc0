-- What the worked examples speak of: a channel, packets, and feedback from clients.
use Rattle.std.specs.Prelude.{◌≡◌, ℕ, Bool, List, [], ◌∷◌, ◌++◌, map, reverse, replicate, codes}
use Rattle.rams_model.specs.declared.{channel.Access.TheVariants.Marker, channel.Channel.Channel, event.Event.Event, note.LiveNote.LiveNote}
use Rattle.rams_model.specs.declared.{note.Note.Note, event.Event.TheVariants.Live, event.Event.TheVariants.Feedback}
use Rattle.rams_model.specs.declared.{note.LiveNote.TheVariants.Took, note.Note.TheVariants.Live as LiveNoted}
use Rattle.rams_model.specs.Service.{Settings, settings, datagram, Entry, book}
use Rattle.rams_model.specs.Formats.{spelling}
use Rattle.rams_model.specs.Texts.{bytes_in}

-- the settings of the channel, where nothing else is said
abbrev pub channel : Channel
channel = record {
  id = 7;
  ssrc = 0x11223344;
  pt = 33;
  rtx = 99;
  server = 0xaabbccdd;
  seq0 = 500;
  ring = 64;
  window = 0;
  access = Marker;
  share = 10000;
  reserve = 1500;
  burst = 4000;
  declared = 100;
  minwire = 42;
  limit = 100;
  idle = 100;
  clients = 4;
  depth = 0;
  swell = 0;
}

-- ticks of 10 ms
abbrev pub with_ticks : Channel → Settings
with_ticks c = settings c 10

-- a packet of this media source and payload type: its sequence number, timestamp and marker, and so many zero bytes
abbrev pub packet_of : ℕ → ℕ → ℕ → ℕ → Bool → ℕ → Event
packet_of ssrc payload_type sequence timestamp marker size = Live (spelling (record {
  marker = marker;
  payload_type = payload_type;
  sequence = sequence;
  timestamp = timestamp;
  ssrc = ssrc;
  csrc = [];
  extension = [];
  payload = replicate size 0;
  padding = [];
}))

-- one of the channel's
abbrev pub packet : ℕ → ℕ → Bool → ℕ → Event
packet sequence timestamp marker size = packet_of 0x11223344 33 sequence timestamp marker size

-- bytes as hexadecimal digits
abbrev pub hex : List ℕ → List ℕ
hex digits = bytes_in digits

-- a live packet
abbrev pub live : List ℕ → Event
live digits = Live (hex digits)

-- a feedback datagram of a client
abbrev pub feedback : ℕ → List ℕ → Event
feedback client digits = Feedback client (hex digits)

-- a RAMS-R of sender 0000c001 without TLVs
abbrev pub plain_request : ℕ → Event
plain_request client = feedback client (codes "86cd00030000c0011122334401000000")

-- one with a maximum receive bitrate, in bits per second
abbrev pub rated_request : ℕ → List ℕ → Event
rated_request client bps = feedback client (codes "86cd00060000c00111223344010000000400000800000000" ++ bps)

-- a RAMS-T with the extended number of the first multicast packet
abbrev pub stop_request : ℕ → List ℕ → Event
stop_request client number = feedback client (codes "86cd00050000c00111223344030000003d000004" ++ number)

-- a generic NACK of one word: a number, and a mask of those after it
abbrev pub nack : ℕ → List ℕ → Event
nack client word = feedback client (codes "81cd00030000c00111223344" ++ word)

-- An event, with the notes and the datagrams that answer it.
pub record Step : Type 0 where
  pub event : Event
  pub notes : List Note
  pub datagrams : List (List ℕ)

-- such a step
abbrev pub step : Event → List Note → List (List ℕ) → Step
step event notes datagrams = record { event = event; notes = notes; datagrams = datagrams }

-- a live packet with its note
abbrev pub noted : Event → LiveNote → Step
noted event note = step event (LiveNoted note ∷ []) []

-- one that came in time, with its number
abbrev pub took : Event → ℕ → Step
took event n = noted event (Took n)

-- the step that an entry of a book is
abbrev pub step_of : Settings → Entry → Step
step_of s e = step e.event e.answer.notes (map (datagram s) e.answer.orders)

-- In the channel's book these events, the first of all in front, are answered so.
abbrev pub IsAnswered : Channel → List Step → Type 0
IsAnswered c steps = map (step_of (with_ticks c)) (book (with_ticks c) (reverse (map (λ t. t.event) steps))) ≡ reverse steps
