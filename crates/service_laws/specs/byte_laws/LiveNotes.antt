-- What became of each live packet, said of its bytes (RFC 3550, 5.1) and of the notes before it (RFC 3550, A.1).
use Rattle.std.specs.Prelude.{◌≡◌, ◌≢◌, ℕ, ◌+◌, ◌-◌, ◌*◌, ◌/◌, ◌%◌, ◌<◌, ◌≤◌, ◌⊎◌, ◌==◌, if◌then◌else◌, List, [], ◌∷◌, length, slice_index, Contains, Option, Some, None}
use Rattle.std.specs.List.{AllByRecursion}
use Rattle.rams_model.specs.declared.{Channel.Channel, Event.Event, Event.TheVariants.Live, RtpFault.RtpFault, LiveNote.LiveNote, Note.Note}
use Rattle.rams_model.specs.declared.wire.TheConstants.{MOST_PACKET}
use Rattle.rams_model.specs.declared.RtpFault.TheVariants.{Short, Version, Csrc, Extension, Padding}
use Rattle.rams_model.specs.declared.LiveNote.TheVariants.{Took, Restart, Late, Twice, Jump, ForeignSsrc, ForeignType, TooBig, Bad}
use Rattle.rams_model.specs.declared.Note.TheVariants as note
use Rattle.rams_model.specs.Service.{Answered, answered, Settings, Entry, Book, IsLawful, events_of}
use Rattle.service_laws.specs.byte_laws.Came.{number16, number32, HasBytes}

-- ---- which bytes are an RTP packet (RFC 3550, 5.1)

-- the bytes of the contributing sources: four for each that the low bits of byte 0 count
abbrev pub sources_size : List ℕ → ℕ
sources_size bytes = 4 * (slice_index bytes 0 % 16)

-- The bytes in front of the payload: 12, the sources, and where bit 4 of byte 0 is set a header extension, which has four bytes and the words that its second number of 16 bits counts.
abbrev pub front_size : List ℕ → ℕ
front_size bytes = 12 + sources_size bytes + (if slice_index bytes 0 / 16 % 2 == 1 then 4 + 4 * number16 (14 + sources_size bytes) bytes else 0)

-- the last byte, which counts the bytes of padding where bit 5 of byte 0 is set
abbrev pub last_byte : List ℕ → ℕ
last_byte bytes = slice_index bytes (length bytes - 1)

-- the fixed header of version 2 (the top bits of byte 0), and all sources
pub record HasHeader (bytes : List ℕ) : Type 0 where
  pub long : 12 ≤ length bytes
  pub version : slice_index bytes 0 / 64 ≡ 2
  pub sources : 12 + sources_size bytes ≤ length bytes

-- the bytes are an RTP packet
pub record IsRtp (bytes : List ℕ) : Type 0 where
  pub header : HasHeader bytes
  pub front : front_size bytes ≤ length bytes
  pub padding : slice_index bytes 0 / 32 % 2 ≡ 1 → (1 ≤ last_byte bytes) × (front_size bytes + last_byte bytes ≤ length bytes)

-- The bytes are none, and this is the first fault.
abbrev pub IsNoRtp : List ℕ → RtpFault → Type 0
IsNoRtp bytes Short = length bytes < 12
IsNoRtp bytes Version = (12 ≤ length bytes) × (slice_index bytes 0 / 64 ≢ 2)
IsNoRtp bytes Csrc = (12 ≤ length bytes) × (slice_index bytes 0 / 64 ≡ 2) × (length bytes < 12 + sources_size bytes)
IsNoRtp bytes Extension = HasHeader bytes × (length bytes < front_size bytes)
IsNoRtp bytes Padding =
    HasHeader bytes × (front_size bytes ≤ length bytes) × (slice_index bytes 0 / 32 % 2 ≡ 1) × ((last_byte bytes ≡ 0) ⊎ (length bytes < front_size bytes + last_byte bytes))

-- At most 1,470 bytes, an RTP packet of the channel's media source (bytes 8 to 11) and payload type (the low bits of byte 1).
pub record IsOfChannel (c : Channel) (bytes : List ℕ) : Type 0 where
  pub short : length bytes ≤ MOST_PACKET
  pub rtp : IsRtp bytes
  pub media : number32 8 bytes ≡ c.ssrc
  pub kind : slice_index bytes 1 % 128 ≡ c.pt

-- ---- the numbers before it

-- the numbers of the present start, after a live packet's note: a restart begins a new one
abbrev pub with_note : LiveNote → List ℕ → List ℕ
with_note (Took n) numbers = n ∷ numbers
with_note (Restart n) numbers = n ∷ []
with_note _ numbers = numbers

abbrev pub with_notes : List Note → List ℕ → List ℕ
with_notes (note.Live one ∷ []) numbers = with_note one numbers
with_notes _ numbers = numbers

abbrev pub with_answer : Event → List Note → List ℕ → List ℕ
with_answer (Live bytes) notes numbers = with_notes notes numbers
with_answer _ notes numbers = numbers

-- the numbers under which packets were taken since the last restart, and that one's, the newest first
unfoldable pub numbers_taken : Book → List ℕ
numbers_taken [] = []
numbers_taken (e ∷ book) = with_answer e.event e.answer.notes (numbers_taken book)

-- the sequence number of the last packet of this start that jumped, after another with these bytes
abbrev pub jumped_by : LiveNote → ℕ → Option ℕ → Option ℕ
jumped_by Jump sequence before = Some sequence
jumped_by (Restart n) sequence before = None
jumped_by _ sequence before = before

abbrev pub jumped_with : List Note → ℕ → Option ℕ → Option ℕ
jumped_with (note.Live one ∷ []) sequence before = jumped_by one sequence before
jumped_with _ sequence before = before

abbrev pub jumped_after : Event → List Note → Option ℕ → Option ℕ
jumped_after (Live bytes) notes before = jumped_with notes (number16 2 bytes) before
jumped_after _ notes before = before

-- the sequence number (bytes 2 and 3) of the last packet of the present start that jumped
unfoldable pub last_jump : Book → Option ℕ
last_jump [] = None
last_jump (e ∷ book) = jumped_after e.event e.answer.notes (last_jump book)

-- ---- its own number

-- no packet came in time under this number, and it isn't more than `window` below the greatest
abbrev pub MayStillCome : ℕ → List ℕ → ℕ → ℕ → Type 0
MayStillCome window numbers greatest n = (¬ Contains numbers n) × (greatest ≤ n + window)

-- A start: its least and its greatest number, and the awaited one, the least from the first on that may still come.
pub record Start (window : ℕ) (numbers : List ℕ) : Type 0 where
  pub first : ℕ
  pub is_first : Contains numbers first
  pub from_first : (n : ℕ) → Contains numbers n → first ≤ n
  pub greatest : ℕ
  pub is_greatest : Contains numbers greatest
  pub to_greatest : (n : ℕ) → Contains numbers n → n ≤ greatest
  pub awaited : ℕ
  pub is_awaited : (first ≤ awaited) × MayStillCome window numbers greatest awaited
  pub from_awaited : (n : ℕ) → first ≤ n → MayStillCome window numbers greatest n → awaited ≤ n

-- a number with this sequence number as low 16 bits, at most 99 below the greatest and fewer than 3,000 above it
abbrev pub IsWithinReach : ℕ → ℕ → ℕ → Type 0
IsWithinReach greatest sequence n = (n % 65536 ≡ sequence) × (greatest ≤ n + 99) × (n < greatest + 3000)

-- no number is
abbrev pub IsOutOfReach : ℕ → ℕ → Type 0
IsOutOfReach greatest sequence = (n : ℕ) → IsWithinReach greatest sequence n → ⊥

-- the sequence number is the one after that of the last packet that jumped
abbrev pub FollowsTheJump : Option ℕ → ℕ → Type 0
FollowsTheJump None sequence = ⊥
FollowsTheJump (Some jumped) sequence = sequence ≡ (jumped + 1) % 65536

-- What becomes of a packet of the channel with this sequence number: the first of all is taken; one within reach is late, or came before, or is taken; one out of reach begins a new start where it follows a jump, and else jumps.
abbrev pub NumbersSo : ℕ → List ℕ → Option ℕ → ℕ → LiveNote → Type 0
NumbersSo window numbers jumped sequence (Took n) =
    ((numbers ≡ []) × (n ≡ 65536 + sequence))
    ⊎ ((start : Start window numbers) × IsWithinReach start.greatest sequence n × (start.awaited ≤ n) × (¬ Contains numbers n))
NumbersSo window numbers jumped sequence Late =
    (start : Start window numbers) × (n : ℕ) × IsWithinReach start.greatest sequence n × (n < start.awaited)
NumbersSo window numbers jumped sequence Twice =
    (start : Start window numbers) × (n : ℕ) × IsWithinReach start.greatest sequence n × (start.awaited ≤ n) × Contains numbers n
NumbersSo window numbers jumped sequence Jump =
    (start : Start window numbers) × IsOutOfReach start.greatest sequence × (¬ FollowsTheJump jumped sequence)
NumbersSo window numbers jumped sequence (Restart n) =
    (start : Start window numbers) × IsOutOfReach start.greatest sequence × FollowsTheJump jumped sequence
    × (n % 65536 ≡ sequence) × (start.greatest < n) × (n < start.greatest + 65536)
NumbersSo window numbers jumped sequence _ = ⊥

-- What became of a live packet: the first of its faults, or what its number says.
abbrev pub BecameSo : Settings → Book → List ℕ → LiveNote → Type 0
BecameSo s book bytes TooBig = MOST_PACKET < length bytes
BecameSo s book bytes (Bad fault) = (length bytes ≤ MOST_PACKET) × IsNoRtp bytes fault
BecameSo s book bytes ForeignSsrc = (length bytes ≤ MOST_PACKET) × IsRtp bytes × (number32 8 bytes ≢ s.channel.ssrc)
BecameSo s book bytes ForeignType =
    (length bytes ≤ MOST_PACKET) × IsRtp bytes × (number32 8 bytes ≡ s.channel.ssrc) × (slice_index bytes 1 % 128 ≢ s.channel.pt)
BecameSo s book bytes one =
    IsOfChannel s.channel bytes × NumbersSo s.channel.window (numbers_taken book) (last_jump book) (number16 2 bytes) one

-- A live packet is answered with one note, which says what became of it, and sends nothing. No other note would be right.
pub record IsLiveAnswer (s : Settings) (book : Book) (bytes : List ℕ) (a : Answered) : Type 0 where
  pub became : LiveNote
  pub alone : a ≡ answered (note.Live became ∷ []) []
  pub so : BecameSo s book bytes became
  pub only : (other : LiveNote) → BecameSo s book bytes other → other ≡ became

abbrev pub EachLiveNoteIsRight : Type 0
EachLiveNoteIsRight =
    (s : Settings) (e : Entry) (book : Book) (bytes : List ℕ) → IsLawful s (e ∷ book) → AllByRecursion HasBytes (e.event ∷ events_of book) → e.event ≡ Live bytes
    → IsLiveAnswer s book bytes e.answer
