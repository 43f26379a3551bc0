-- The table by which each number that a generic NACK names is answered (RFC 4585, 6.2.1), line by line, and that each answer keeps it.
use Rattle.std.specs.Prelude.{◌≡◌, ℕ, ◌%◌, ◌<◌, ◌≤◌, ◌≢◌, IsTrue, IfSome, List, [], ◌∷◌, ◌++◌, length, Contains, Option, Some, None, IsSomeAnd}
use Rattle.rams_model.specs.declared.{Event.Event, Held.Held, Note.Note}
use Rattle.rams_model.specs.declared.Note.TheVariants.{Unheld, Early, Already, TableFull, ClientFull, QueueFull, Queued, ForeignNack}
use Rattle.rams_model.specs.Service.{Settings, nack, told, noted, History, hold, Burst, next, open_burst, pending, pending_of, is_pending, history_of}
use Rattle.rams_model.specs.Laws.{IsAmong}
use Rattle.service_laws.specs.book_laws.Moments.{IsMoment}
use Rattle.service_laws.specs.book_laws.Answering.{IsAnswered, AnsweredBy, IsFirst}
use Rattle.service_laws.specs.book_laws.Refusals.{IsFull}

-- The lines of the table.
pub data Line : Type 0 where
  -- no held number has these low 16 bits
  unheld : Line
  -- the client's open burst will send the packet
  early : Line
  -- a repair of it is pending already
  already : Line
  -- no more clients can be known
  table_full : Line
  -- no more repairs of the client can be pending
  client_full : Line
  -- no more repairs of the channel can be pending
  queue_full : Line
  -- else
  queued : Line

-- The table: the first line that applies gives the answer.
abbrev pub table : List Line
table = unheld ∷ early ∷ already ∷ table_full ∷ client_full ∷ queue_full ∷ queued ∷ []

-- the least held number with these low 16 bits, and the only one where the ring has at most 65,536 packets
pub record IsNamed (held : List Held) (low n : ℕ) : Type 0 where
  pub packet : Held
  pub among : IsAmong packet held
  pub number : packet.n ≡ n
  pub bits : n % 65536 ≡ low
  pub least : (other : Held) → IsAmong other held → other.n % 65536 ≡ low → n ≤ other.n

-- a held number has these low 16 bits, and this is true of it
abbrev pub Names : List Held → ℕ → (ℕ → Type 0) → Type 0
Names held low P = (n : ℕ) × IsNamed held low n × P n

-- the burst will send number n: it stands before the stop, where one is set
abbrev pub WillSend : ℕ → Burst → Type 0
WillSend n b = (next b ≤ n) × IfSome b.stop (λ stop. n < stop)

-- When a line applies to a number that a client names after this history.
abbrev pub Applies : Settings → ℕ → History → ℕ → Line → Type 0
Applies s k history low unheld = (h : Held) → IsAmong h (hold s history) → h.n % 65536 ≢ low
Applies s k history low early = Names (hold s history) low (λ n. IsSomeAnd (open_burst s k history) (WillSend n))
Applies s k history low already = Names (hold s history) low (λ n. IsTrue (is_pending k n history))
Applies s k history low table_full = IsFull s k history
Applies s k history low client_full = 256 ≤ length (pending_of k history)
Applies s k history low queue_full = 4096 ≤ length (pending history)
Applies s k history low queued = Unit {0}

-- The note that a line gives.
abbrev pub Gives : Settings → ℕ → History → ℕ → Line → Note → Type 0
Gives s k history low unheld note = note ≡ Unheld k low
Gives s k history low early note = Names (hold s history) low (λ n. note ≡ Early k n)
Gives s k history low already note = Names (hold s history) low (λ n. note ≡ Already k n)
Gives s k history low table_full note = Names (hold s history) low (λ n. note ≡ TableFull k n)
Gives s k history low client_full note = Names (hold s history) low (λ n. note ≡ ClientFull k n)
Gives s k history low queue_full note = Names (hold s history) low (λ n. note ≡ QueueFull k n)
Gives s k history low queued note = Names (hold s history) low (λ n. note ≡ Queued k n)

-- The line whose note this is.
abbrev pub line_of : Note → Option Line
line_of (Unheld client low) = Some unheld
line_of (Early client n) = Some early
line_of (Already client n) = Some already
line_of (TableFull client n) = Some table_full
line_of (ClientFull client n) = Some client_full
line_of (QueueFull client n) = Some queue_full
line_of (Queued client n) = Some queued
line_of _ = None

-- The note is that of the first line that applies.
pub record IsByTable (s : Settings) (k : ℕ) (history : History) (low : ℕ) (note : Note) : Type 0 where
  pub line : Line
  pub is_line : line_of note ≡ Some line
  pub first : IsFirst (Applies s k history low) table line
  pub gives : Gives s k history low line note

-- A NACK of the client about the channel's media source was answered when this note was made, and the note is the answer to one of the numbers that it names.
pub record IsNumberAnswer (s : Settings) (k : ℕ) (history : History) (note : Note) : Type 0 where
  pub sender : ℕ
  pub numbers : List ℕ
  pub answers : IsAnswered history k (nack s.channel.ssrc sender numbers)
  pub low : ℕ
  pub among : Contains numbers low
  pub by_table : IsByTable s k history low note

-- Each Unheld, Early, Already, TableFull, ClientFull, QueueFull and Queued note has its cause, which was true in what stood before it, and no earlier line of the table was.
abbrev pub NackAnswersAreTrue : Type 0
NackAnswersAreTrue =
    (s : Settings) (note : Note) (line : Line) (packet : Option Held) (before : History) → line_of note ≡ Some line → IsMoment s (noted note packet ∷ before)
    → (k : ℕ) × IsNumberAnswer s k before note

-- a NACK of another media source was answered when a ForeignNack was noted
pub record IsForeignNack (s : Settings) (k : ℕ) (history : History) : Type 0 where
  pub media : ℕ
  pub sender : ℕ
  pub numbers : List ℕ
  pub answers : IsAnswered history k (nack media sender numbers)
  pub foreign : media ≢ s.channel.ssrc

abbrev pub ForeignNacksAreTrue : Type 0
ForeignNacksAreTrue =
    (s : Settings) (k : ℕ) (packet : Option Held) (before : History) → IsMoment s (noted (ForeignNack k) packet ∷ before) → IsForeignNack s k before

-- These notes answer these numbers, one for each, in order, each by the table on what stood before it.
abbrev pub AreAnswers : Settings → ℕ → List ℕ → List Note → History → Type 0
AreAnswers s k [] [] history = Unit {0}
AreAnswers s k (low ∷ lows) (note ∷ notes) history = IsByTable s k history low note × AreAnswers s k lows notes (noted note None ∷ history)
AreAnswers s k [] (note ∷ notes) history = ⊥
AreAnswers s k (low ∷ lows) [] history = ⊥

-- A NACK about the channel's media source is answered number by number, and another by one ForeignNack.
pub record IsNackAnswered (s : Settings) (k media : ℕ) (numbers : List ℕ) (history later : History) : Type 0 where
  pub own : media ≡ s.channel.ssrc → (notes : List Note) × AnsweredBy later notes × AreAnswers s k numbers notes history
  pub foreign : media ≢ s.channel.ssrc → AnsweredBy later (ForeignNack k ∷ [])

-- Each NACK that a channel ever reads is answered so.
abbrev pub NacksAreAnsweredInOrder : Type 0
NacksAreAnsweredInOrder =
    (s : Settings) (events : List Event) (k media sender : ℕ) (numbers : List ℕ) (later before : History)
    → history_of s events ≡ later ++ (told k (nack media sender numbers) ∷ before)
    → IsNackAnswered s k media numbers (told k (nack media sender numbers) ∷ before) later
