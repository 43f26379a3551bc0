-- Which messages a feedback datagram has, said of its bytes (RFC 3550, 6; RFC 4585, 6; RFC 6285, 7), and that just these are answered, in order.
use Rattle.std.specs.Prelude.{◌≡◌, ◌≢◌, ℕ, zero, suc, ◌+◌, ◌-◌, ◌*◌, ◌/◌, ◌%◌, ◌<◌, ◌≤◌, ◌==◌, ◌⊎◌, Bool, true, false, if◌then◌else◌, List, [], ◌∷◌, ◌++◌, length, drop, map, slice_index, Option, Some, None, option_map, Result, Ok, Err, All}
use Rattle.std.specs.Int.{w16, to_be_bytes}
use Rattle.rams_model.specs.declared.{Event.Event, Event.TheVariants.Feedback, FrameFault.FrameFault, TlvFault.TlvFault, Stop.Stop}
use Rattle.rams_model.specs.declared.Note.TheVariants.{BadFeedback}
use Rattle.rams_model.specs.Formats.{Joins, Framed, Tlv, IsMessage, Request}
use Rattle.rams_model.specs.Service.{Settings, Message, bye, nack, asks, stops, feedback, unframed, began, told, noted, History, history_of}
use Rattle.service_laws.specs.byte_laws.Came.{number32}

-- ---- RTCP packets (RFC 3550, 6.4.1)

-- bit 5 of byte 0, which is set where there is padding
abbrev pub padding_bit : List ℕ → ℕ
padding_bit [] = 0
padding_bit (b ∷ bytes) = 32

-- The bytes are this packet: version 2, the padding bit and the count; the type; how many words follow; the body; and the padding, whole words whose last byte counts their bytes. A BYE (203) has as many sources as it counts (RFC 3550, 6.6), feedback (205 and 206) two SSRCs (RFC 4585, 6.1).
pub record IsRtcp (bytes : List ℕ) (p : Framed) : Type 0 where
  pub padding : List ℕ
  pub text : bytes ≡ (128 + padding_bit padding + p.count) ∷ p.kind ∷ (to_be_bytes w16 ((length p.body + length padding) / 4) ++ p.body ++ padding)
  pub count : p.count < 32
  pub words : (length p.body + length padding) % 4 ≡ 0
  pub size : length p.body + length padding < 262144
  pub whole : length padding % 4 ≡ 0
  pub counted : 0 < length padding → slice_index padding (length padding - 1) ≡ length padding
  pub sources : p.kind ≡ 203 → 4 * p.count ≤ length p.body
  pub ssrcs : (p.kind ≡ 205) ⊎ (p.kind ≡ 206) → 8 ≤ length p.body

-- The datagram is these packets joined end to end, one or more.
abbrev pub IsDatagram : List ℕ → List Framed → Type 0
IsDatagram bytes ps = (0 < length ps) × Joins IsRtcp bytes ps

-- ---- a generic NACK (RFC 4585, 6.2.1)

-- PID + i for each bit of BLP that is set, of so many from the least significant on, which stands for i
unfoldable pub lost_from : ℕ → ℕ → ℕ → ℕ → List ℕ
lost_from pid i zero blp = []
lost_from pid i (suc count) blp = if blp % 2 == 1 then (pid + i) % 65536 ∷ lost_from pid (i + 1) count (blp / 2) else lost_from pid (i + 1) count (blp / 2)

-- the numbers that a NACK names: of each word PID, its first two bytes, and what its BLP, the other two, says of the 16 numbers after it
unfoldable pub named_by : List ℕ → List ℕ
named_by (a ∷ b ∷ c ∷ d ∷ words) = (a * 256 + b) ∷ (lost_from (a * 256 + b) 1 16 (c * 256 + d) ++ named_by words)
named_by short = []

-- ---- RAMS messages (RFC 6285, 7)

-- a TLV whose value is the first of its type; of one that is repeated the others don't count
pub data IsFirstOf (kind : ℕ) : List Tlv → Option (List ℕ) → Type 0 where
  none : IsFirstOf kind [] None
  this : (t : Tlv) (ts : List Tlv) → t.kind ≡ kind → IsFirstOf kind (t ∷ ts) (Some t.value)
  later : (t : Tlv) (ts : List Tlv) (value : Option (List ℕ)) → t.kind ≢ kind → IsFirstOf kind ts value → IsFirstOf kind (t ∷ ts) value

-- the number that a value of four bytes is, and one of eight
abbrev pub number64 : List ℕ → ℕ
number64 bytes = number32 0 bytes * 4294967296 + number32 4 bytes

-- a list of SSRCs, where it has one
abbrev pub ssrcs_of : Option (List ℕ) → (List ℕ → List ℕ) → Option (List ℕ)
ssrcs_of None words = None
ssrcs_of (Some []) words = None
ssrcs_of (Some (b ∷ bytes)) words = Some (words (b ∷ bytes))

-- the numbers of 32 bits that words are
unfoldable pub words_of : List ℕ → List ℕ
words_of (a ∷ b ∷ c ∷ d ∷ words) = number32 0 (a ∷ b ∷ c ∷ d ∷ []) ∷ words_of words
words_of short = []

-- something stands there
abbrev pub is_there : Option (List ℕ) → Bool
is_there None = false
is_there (Some value) = true

-- What these TLVs ask for: 1, the SSRCs; 2 and 3, the least and the most ms that the buffer is to be filled; 4, the most bits per second; 5, the preamble alone.
pub record Asks (ts : List Tlv) (r : Request) : Type 0 where
  pub senders : Option (List ℕ)
  pub is_senders : IsFirstOf 1 ts senders
  pub ssrcs : r.ssrcs ≡ ssrcs_of senders words_of
  pub least : Option (List ℕ)
  pub is_least : IsFirstOf 2 ts least
  pub min_ms : r.min_ms ≡ option_map (number32 0) least
  pub most : Option (List ℕ)
  pub is_most : IsFirstOf 3 ts most
  pub max_ms : r.max_ms ≡ option_map (number32 0) most
  pub rate : Option (List ℕ)
  pub is_rate : IsFirstOf 4 ts rate
  pub bps : r.bps ≡ option_map number64 rate
  pub alone : Option (List ℕ)
  pub is_alone : IsFirstOf 5 ts alone
  pub preamble : r.preamble ≡ is_there alone

-- the lengths of their values: of SSRCs whole words, of a time four bytes, of a bit rate eight, of the preamble none; of other types any
abbrev pub is_length_in_request : ℕ → ℕ → Bool
is_length_in_request kind n =
    if kind == 1 then n % 4 == 0 else if kind == 2 then n == 4 else if kind == 3 then n == 4 else if kind == 4 then n == 8 else if kind == 5 then n == 0 else true

abbrev pub is_length_in_stop : ℕ → ℕ → Bool
is_length_in_stop kind n = if kind == 61 then n == 4 else true

-- A RAMS-R begins with 1, and has TLVs; or these don't read.
abbrev pub IsRequest : List ℕ → Result Request TlvFault → Type 0
IsRequest fci (Ok r) = (ts : List Tlv) × IsMessage 1 is_length_in_request fci ts × Asks ts r
IsRequest fci (Err fault) = (ts : List Tlv) → IsMessage 1 is_length_in_request fci ts → ⊥

-- A RAMS-T begins with 3; TLV 61 names the first packet of the multicast.
abbrev pub IsStop : List ℕ → Result Stop TlvFault → Type 0
IsStop fci (Ok stop) = (ts : List Tlv) × IsMessage 3 is_length_in_stop fci ts × ((value : Option (List ℕ)) × IsFirstOf 61 ts value × (stop.first_multicast ≡ option_map (number32 0) value))
IsStop fci (Err fault) = (ts : List Tlv) → IsMessage 3 is_length_in_stop fci ts → ⊥

-- ---- the messages of a datagram

-- The packet is this message: a BYE (203), or transport layer feedback (205), whose body has the SSRCs of its sender and of the media source in front: a generic NACK (1), or of RAMS (6) a request or a termination.
abbrev pub IsMessageOf : Framed → Message → Type 0
IsMessageOf p (bye q) = (p.kind ≡ 203) × (q ≡ p)
IsMessageOf p (nack media sender numbers) =
    (p.kind ≡ 205) × (p.count ≡ 1) × (sender ≡ number32 0 p.body) × (media ≡ number32 4 p.body) × (numbers ≡ named_by (drop 8 p.body))
IsMessageOf p (asks sender request) =
    (p.kind ≡ 205) × (p.count ≡ 6) × (slice_index p.body 8 ≡ 1) × (sender ≡ number32 0 p.body) × IsRequest (drop 8 p.body) request
IsMessageOf p (stops stop) = (p.kind ≡ 205) × (p.count ≡ 6) × (slice_index p.body 8 ≡ 3) × IsStop (drop 8 p.body) stop

-- the packet is none of these: a report, a description, a RAMS-I, feedback of another format
pub record IsNoMessage (p : Framed) : Type 0 where
  pub bye : p.kind ≢ 203
  pub nack : p.kind ≡ 205 → p.count ≢ 1
  pub rams : p.kind ≡ 205 → p.count ≡ 6 → (slice_index p.body 8 ≢ 1) × (slice_index p.body 8 ≢ 3)

-- a RAMS message, of which a datagram has one: the first
abbrev pub IsRams : Message → Type 0
IsRams (asks sender request) = Unit {0}
IsRams (stops stop) = Unit {0}
IsRams _ = ⊥

-- a RAMS message stands among the packets up to this one
abbrev pub seen_after : Message → Bool → Bool
seen_after (asks sender request) seen = true
seen_after (stops stop) seen = true
seen_after _ seen = seen

-- These are the messages of the packets, in order; `seen` says that a RAMS message stood before them.
pub data AreMessages : Bool → List Framed → List Message → Type 0 where
  no_more : (seen : Bool) → AreMessages seen [] []
  skipped : (seen : Bool) (p : Framed) (ps : List Framed) (ms : List Message) → IsNoMessage p → AreMessages seen ps ms → AreMessages seen (p ∷ ps) ms
  second : (p : Framed) (ps : List Framed) (m : Message) (ms : List Message) → IsMessageOf p m → IsRams m → AreMessages true ps ms → AreMessages true (p ∷ ps) ms
  counted : (seen : Bool) (p : Framed) (ps : List Framed) (m : Message) (ms : List Message) → IsMessageOf p m → (seen ≡ true → IsRams m → ⊥) → AreMessages (seen_after m seen) ps ms
      → AreMessages seen (p ∷ ps) (m ∷ ms)

-- ---- what is answered

-- the messages that are told in these items, each with its client, the oldest first
abbrev pub told_in : History → List (ℕ × Message)
told_in [] = []
told_in (told client message ∷ items) = told_in items ++ ((client, message) ∷ [])
told_in (_ ∷ items) = told_in items

-- The datagram is packets joined end to end, and just their messages are answered, in order, as this client's.
pub record IsAnsweredWhole (s : Settings) (events : List Event) (client : ℕ) (bytes : List ℕ) : Type 0 where
  pub packets : List Framed
  pub compound : IsDatagram bytes packets
  pub messages : List Message
  pub are : AreMessages false packets messages
  pub now : History
  pub splits : history_of s (Feedback client bytes ∷ events) ≡ now ++ (began (feedback client messages) ∷ history_of s events)
  pub answered : told_in now ≡ map (λ m. (client, m)) messages

-- It isn't, which is noted, and nothing else.
pub record IsRefusedWhole (s : Settings) (events : List Event) (client : ℕ) (bytes : List ℕ) : Type 0 where
  pub fault : FrameFault
  pub none : (packets : List Framed) → IsDatagram bytes packets → ⊥
  pub alone : history_of s (Feedback client bytes ∷ events) ≡ noted (BadFeedback client fault) None ∷ began (unframed client fault) ∷ history_of s events

abbrev pub EachDatagramIsAnsweredWhole : Type 0
EachDatagramIsAnsweredWhole =
    (s : Settings) (events : List Event) (client : ℕ) (bytes : List ℕ) → All (λ b. b < 256) bytes → IsAnsweredWhole s events client bytes ⊎ IsRefusedWhole s events client bytes
