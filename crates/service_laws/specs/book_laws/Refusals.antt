-- The table by which a RAMS-R is answered (RFC 6285, 6.2 and 7.2), line by line, and that each answer keeps it.
use Rattle.std.specs.Prelude.{◌≡◌, ℕ, ◌+◌, ◌*◌, ◌/◌, ◌<◌, ◌≤◌, min, IsTrue, IsFalse, ◌⊎◌, ◌↔◌, List, [], ◌∷◌, ◌++◌, length, Contains, Option, Some, None, IsSomeAnd, unwrap_or, Result, Err, IsErr, IsOkAnd}
use Rattle.rams_model.specs.declared.{Event.Event, TlvFault.TlvFault, Held.Held, Note.Note, wire.TheConstants.MOST_ON_WIRE}
use Rattle.rams_model.specs.declared.Note.TheVariants.{Accept, Update, Again, Refuse}
use Rattle.rams_model.specs.Service.{Settings, join_ticks, asks, stops, told, noted, History, hold, known, is_among, Burst, next, open_burst, reserved, history_of}
use Rattle.rams_model.specs.Formats.{Request}
use Rattle.rams_model.specs.Packets.{is_eligible, age, behind}
use Rattle.rams_model.specs.Laws.{IsNewest, NonePasses, is_old_enough}
use Rattle.service_laws.specs.book_laws.Moments.{IsMoment}
use Rattle.service_laws.specs.book_laws.Answering.{IsAnswered, AnsweredBy, IsFirst}

-- The lines of the table.
pub data Line : Type 0 where
  -- the TLVs don't read
  unread : Line
  -- the preamble alone is asked for
  preamble : Line
  -- media sources are named, and the channel's is none of them
  foreign : Line
  -- the client has an open burst, and no other rate is asked for
  again : Line
  -- it has one, and the rate is too low
  slow_update : Line
  -- it has one, and with the rate in place of the burst's too much is reserved
  large_update : Line
  -- it has one
  update : Line
  -- no more clients can be known
  full : Line
  -- no access point is eligible
  no_start : Line
  -- none of those that are is old enough
  young : Line
  -- the newest of those that are old enough is too old
  old : Line
  -- the rate is too low
  slow : Line
  -- with the new burst too much is reserved
  large : Line
  -- else
  accept : Line

-- The table: the first line that applies gives the answer.
abbrev pub table : List Line
table =
    unread ∷ preamble ∷ foreign ∷ again ∷ slow_update ∷ large_update ∷ update ∷ full ∷ no_start ∷ young ∷ old ∷ slow ∷ large ∷ accept ∷ []

-- The response code of a line that refuses.
abbrev pub code_of : Line → Option ℕ
code_of unread = Some 400
code_of preamble = Some 512
code_of foreign = Some 509
code_of again = None
code_of slow_update = Some 403
code_of large_update = Some 501
code_of update = None
code_of full = Some 503
code_of no_start = Some 507
code_of young = Some 401
code_of old = Some 402
code_of slow = Some 403
code_of large = Some 501
code_of accept = None

-- The rate that is asked for, in bytes a tick: the most that a client is sent, or what it can receive where that is less.
abbrev pub asked : Settings → Option ℕ → ℕ
asked s None = s.channel.burst
asked s (Some bps) = min s.channel.burst (bps * s.tick / 8000)

-- SSRCs are named, and the channel's isn't among them
abbrev pub NamesOthers : ℕ → Option (List ℕ) → Type 0
NamesOthers ssrc named = IsSomeAnd named (λ ssrcs. (0 < length ssrcs) × (¬ Contains ssrcs ssrc))

-- below what the source declares for a tick and one packet more
abbrev pub IsSlow : Settings → ℕ → Type 0
IsSlow s rate = rate < s.channel.declared + MOST_ON_WIRE

-- with what is left for repairs it is more than the share
abbrev pub IsLarge : Settings → ℕ → Type 0
IsLarge s amount = s.channel.share < amount + s.channel.reserve

-- the client has an open burst, of which this is true
abbrev pub HasBurst : Settings → ℕ → History → (Burst → Type 0) → Type 0
HasBurst s k history P = IsSomeAnd (open_burst s k history) P

-- no bit rate is named, or the burst's
abbrev pub AsksNoOther : Settings → Option ℕ → Burst → Type 0
AsksNoOther s bps b = (bps ≡ None) ⊎ (asked s bps ≡ b.rate)

-- the burst's rate isn't reserved any more, and this one is
abbrev pub IsLargeInPlace : Settings → History → ℕ → Burst → Type 0
IsLargeInPlace s history rate b = s.channel.share + b.rate < reserved s history + rate + s.channel.reserve

-- the client isn't known, and as many are as can be
abbrev pub IsFull : Settings → ℕ → History → Type 0
IsFull s k history = IsFalse (is_among k (known history)) × (s.channel.clients ≤ length (known history))

-- the age, in ms, that an access point is to have at least; 0 where none is named
abbrev pub least_age : Request → ℕ
least_age r = unwrap_or r.min_ms 0

-- the newest access point that is eligible and old enough
abbrev pub IsStart : Settings → History → Request → Held → Type 0
IsStart s history r h = IsNewest (hold s history) (is_old_enough s.channel (hold s history) (least_age r)) h

-- it is older than the most that is named
abbrev pub IsTooOld : List Held → Option ℕ → Held → Type 0
IsTooOld held most h = IsSomeAnd most (λ ms. ms < age held h)

-- When a line applies to a request that a client makes after this history.
abbrev pub Applies : Settings → ℕ → History → Result Request TlvFault → Line → Type 0
Applies s k history request unread = IsErr request
Applies s k history request preamble = IsOkAnd request (λ r. IsTrue r.preamble)
Applies s k history request foreign = IsOkAnd request (λ r. NamesOthers s.channel.ssrc r.ssrcs)
Applies s k history request again = IsOkAnd request (λ r. HasBurst s k history (AsksNoOther s r.bps))
Applies s k history request slow_update = IsOkAnd request (λ r. HasBurst s k history (λ b. IsSlow s (asked s r.bps)))
Applies s k history request large_update = IsOkAnd request (λ r. HasBurst s k history (IsLargeInPlace s history (asked s r.bps)))
Applies s k history request update = IsOkAnd request (λ r. HasBurst s k history (λ b. Unit {0}))
Applies s k history request full = IsFull s k history
Applies s k history request no_start = NonePasses (hold s history) (is_eligible s.channel (hold s history))
Applies s k history request young = IsOkAnd request (λ r. NonePasses (hold s history) (is_old_enough s.channel (hold s history) (least_age r)))
Applies s k history request old = IsOkAnd request (λ r. (h : Held) × IsStart s history r h × IsTooOld (hold s history) r.max_ms h)
Applies s k history request slow = IsOkAnd request (λ r. IsSlow s (asked s r.bps))
Applies s k history request large = IsOkAnd request (λ r. IsLarge s (reserved s history + asked s r.bps + s.channel.depth))
Applies s k history request accept = IsOkAnd request (λ r. Unit {0})

-- after how many ticks a burst of this rate has caught up from number n on
abbrev pub joins_in : Settings → History → ℕ → ℕ → ℕ
joins_in s history n rate = join_ticks (behind n (hold s history)) rate s.channel.declared s.channel.depth

-- an Accept of the rate that is asked for, at the newest access point that is eligible and old enough
pub record Begins (s : Settings) (k : ℕ) (history : History) (note : Note) (r : Request) : Type 0 where
  pub start : Held
  pub is_start : IsStart s history r start
  pub is_accept : note ≡ Accept k start.n (asked s r.bps) (joins_in s history start.n (asked s r.bps))

-- The note that a line gives.
abbrev pub Gives : Settings → ℕ → History → Result Request TlvFault → Line → Note → Type 0
Gives s k history request again note = note ≡ Again k
Gives s k history request update note =
    IsOkAnd request (λ r. HasBurst s k history (λ b. note ≡ Update k (asked s r.bps) (joins_in s history (next b) (asked s r.bps))))
Gives s k history request accept note = IsOkAnd request (Begins s k history note)
Gives s k history request line note = IsSomeAnd (code_of line) (λ code. note ≡ Refuse k code)

-- A RAMS-R of the client was answered when this note was made, and the note is that of the first line that applied to it.
pub record IsByTable (s : Settings) (k : ℕ) (history : History) (note : Note) : Type 0 where
  pub sender : ℕ
  pub request : Result Request TlvFault
  pub answers : IsAnswered history k (asks sender request)
  pub line : Line
  pub first : IsFirst (Applies s k history request) table line
  pub gives : Gives s k history request line note

-- a line of this response code is the first that applies
pub record IsRefusedWith (s : Settings) (k : ℕ) (history : History) (request : Result Request TlvFault) (code : ℕ) : Type 0 where
  pub line : Line
  pub is_code : code_of line ≡ Some code
  pub first : IsFirst (Applies s k history request) table line

-- A RAMS-R was refused truly.
pub record IsRequestRefused (s : Settings) (k : ℕ) (history : History) (code : ℕ) : Type 0 where
  pub sender : ℕ
  pub request : Result Request TlvFault
  pub answers : IsAnswered history k (asks sender request)
  pub cause : IsRefusedWith s k history request code

-- A RAMS-T whose TLVs don't read was refused (RFC 6285, 7.4).
pub record IsStopRefused (k : ℕ) (history : History) (code : ℕ) : Type 0 where
  pub fault : TlvFault
  pub answers : IsAnswered history k (stops (Err fault))
  pub is_code : code ≡ 404

-- Each refusal's cause was true in what stood before it, and no earlier line of the table was.
abbrev pub RefusalsAreTrue : Type 0
RefusalsAreTrue =
    (s : Settings) (k code : ℕ) (packet : Option Held) (before : History) → IsMoment s (noted (Refuse k code) packet ∷ before)
    → IsRequestRefused s k before code ⊎ IsStopRefused k before code

-- Each Accept, Update and Again is the answer of its line.
abbrev pub AcceptsAreByTheTable : Type 0
AcceptsAreByTheTable =
    (s : Settings) (k first rate join : ℕ) (packet : Option Held) (before : History) → IsMoment s (noted (Accept k first rate join) packet ∷ before)
    → IsByTable s k before (Accept k first rate join)

abbrev pub UpdatesAreByTheTable : Type 0
UpdatesAreByTheTable =
    (s : Settings) (k rate join : ℕ) (packet : Option Held) (before : History) → IsMoment s (noted (Update k rate join) packet ∷ before)
    → IsByTable s k before (Update k rate join)

abbrev pub AgainsAreByTheTable : Type 0
AgainsAreByTheTable =
    (s : Settings) (k : ℕ) (packet : Option Held) (before : History) → IsMoment s (noted (Again k) packet ∷ before) → IsByTable s k before (Again k)

-- the note accepts the client, or changes its rate
abbrev pub IsAccept : ℕ → Note → Type 0
IsAccept k note = (first : ℕ) × (rate : ℕ) × (join : ℕ) × (note ≡ Accept k first rate join)

abbrev pub IsUpdate : ℕ → Note → Type 0
IsUpdate k note = (rate : ℕ) × (join : ℕ) × (note ≡ Update k rate join)

-- One note answers a request that a client makes after this history. It is an Accept exactly where no line before is true: none that refuses, and no burst is open; and so with the others.
pub record IsAnsweredExactly (s : Settings) (k : ℕ) (history : History) (request : Result Request TlvFault) (later : History) : Type 0 where
  pub note : Note
  pub alone : AnsweredBy later (note ∷ [])
  pub accepted : IsAccept k note ↔ IsFirst (Applies s k history request) table accept
  pub updated : IsUpdate k note ↔ IsFirst (Applies s k history request) table update
  pub same : (note ≡ Again k) ↔ IsFirst (Applies s k history request) table again
  pub refused : (code : ℕ) → (note ≡ Refuse k code) ↔ IsRefusedWith s k history request code
  pub given : (line : Line) → IsFirst (Applies s k history request) table line → Gives s k history request line note

-- Each RAMS-R that a channel ever reads is answered by the table.
abbrev pub RequestsAreAnsweredExactly : Type 0
RequestsAreAnsweredExactly =
    (s : Settings) (events : List Event) (k sender : ℕ) (request : Result Request TlvFault) (later before : History)
    → history_of s events ≡ later ++ (told k (asks sender request) ∷ before)
    → IsAnsweredExactly s k (told k (asks sender request) ∷ before) request later

-- At most one line of the table is the first that applies.
abbrev pub OneLineIsFirst : Type 0
OneLineIsFirst =
    (s : Settings) (k : ℕ) (history : History) (request : Result Request TlvFault) (one other : Line)
    → IsFirst (Applies s k history request) table one → IsFirst (Applies s k history request) table other → one ≡ other
