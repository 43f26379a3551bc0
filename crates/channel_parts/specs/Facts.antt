-- Facts of a channel's history that make the calls on its parts safe. Between two events more is true than within one.
use Rattle.std.specs.Prelude.{◌≡◌, ℕ, ◌+◌, ◌-◌, ◌^◌, ◌<◌, ◌≤◌, Bool, true, false, List, ◌∷◌, ◌++◌, length, filter, All, Option, Some, None}
use Rattle.std.specs.Ordering.{nat_cmp}
use Rattle.std.specs.List.Sorted.{IsStrictlySortedBy}
use Rattle.rams_model.specs.declared.{Event.Event, Held.Held, Note.Note, Cause.Cause, wire.TheConstants.MOST_ON_WIRE}
use Rattle.rams_model.specs.declared.Note.TheVariants.{Accept, Update, End}
use Rattle.rams_model.specs.Service.{Settings, Message, Heard, began, told, noted, History, arrivals, hold, known, opened, is_among, sequence, Burst, next, open_burst, has_open, pending, idle, reserved, channel_left, history_of}
use Rattle.rams_model.specs.Packets.{hi, Arrival}
use Rattle.channel_config.specs.{IsLawful}
use Rattle.repair_queue.specs.{IsWithinLimits}
use Rattle.channel_cache.specs.{arrivals_after}
use Rattle.service_laws.specs.book_laws.{IsMoment}

-- The known clients stand by rising number, each once.
abbrev pub KnownClientsRise : Type 0
KnownClientsRise = (history : History) → IsStrictlySortedBy nat_cmp (known history)

-- So do those with an open burst.
abbrev pub OpenedClientsRise : Type 0
OpenedClientsRise = (history : History) → IsStrictlySortedBy nat_cmp (opened history)

-- A client is among those with an open burst exactly where it has one.
abbrev pub OpenedHaveBursts : Type 0
OpenedHaveBursts = (s : Settings) (k : ℕ) (history : History) → is_among k (opened history) ≡ has_open s k history

-- No more clients are known than the settings allow.
abbrev pub KnownClientsAreFew : Type 0
KnownClientsAreFew = (s : Settings) (history : History) → IsMoment s history → length (known history) ≤ s.channel.clients

-- Between two events only known clients have an open burst.
abbrev pub OnlyKnownClientsHaveBursts : Type 0
OnlyKnownClientsHaveBursts =
    (s : Settings) (events : List Event) → IsLawful s → let history = history_of s events in
    (k : ℕ) → is_among k (known history) ≡ false → open_burst s k history ≡ None

-- So the clients with an open burst are those of the known ones that have one, in the same order.
abbrev pub OpenedAreTheKnownWithBursts : Type 0
OpenedAreTheKnownWithBursts =
    (s : Settings) (events : List Event) → IsLawful s → let history = history_of s events in
    opened history ≡ filter (λ k. has_open s k history) (known history)

-- Each pending repair is of a known client.
abbrev pub RepairsAreOfKnownClients : Type 0
RepairsAreOfKnownClients =
    (s : Settings) (history : History) → IsLawful s → IsMoment s history → All (λ w. is_among w.client (known history) ≡ true) (pending history)

-- No repair is pending twice, at most 256 of a client and 4,096 in all.
abbrev pub RepairsAreWithinLimits : Type 0
RepairsAreWithinLimits = (s : Settings) (history : History) → IsMoment s history → IsWithinLimits (pending history)

-- The bounds of an open burst: its next number is at most the end of what is held, and its rate is enough for a packet beside what the source declares, and at most `burst`.
pub record IsWithinBounds (s : Settings) (held : List Held) (b : Burst) : Type 0 where
  pub by_held : next b ≤ hi held
  pub rate_least : s.channel.declared + MOST_ON_WIRE ≤ b.rate
  pub rate_most : b.rate ≤ s.channel.burst

abbrev pub OpenBurstsAreWithinBounds : Type 0
OpenBurstsAreWithinBounds =
    (s : Settings) (k : ℕ) (b : Burst) (history : History) → IsMoment s history → open_burst s k history ≡ Some b → IsWithinBounds s (hold s history) b

-- Between two events an open burst has lasted fewer than `limit` ticks.
abbrev pub OpenBurstsHaveATickLeft : Type 0
OpenBurstsHaveATickLeft =
    (s : Settings) (k : ℕ) (b : Burst) (events : List Event) → IsLawful s → open_burst s k (history_of s events) ≡ Some b → b.ticks < s.channel.limit

-- Between two events a known client has been idle for fewer than `idle` ticks.
abbrev pub KnownClientsAreIdleForLess : Type 0
KnownClientsAreIdleForLess =
    (s : Settings) (k : ℕ) (events : List Event) → IsLawful s → let history = history_of s events in
    is_among k (known history) ≡ true → idle s k history < s.channel.idle

-- What the open bursts reserve leaves the reserve.
abbrev pub ReservedLeavesTheReserve : Type 0
ReservedLeavesTheReserve = (s : Settings) (history : History) → IsLawful s → IsMoment s history → reserved s history + s.channel.reserve ≤ s.channel.share

-- Each open burst has its rate and the depth reserved.
abbrev pub EachBurstIsReserved : Type 0
EachBurstIsReserved = (s : Settings) (k : ℕ) (b : Burst) (history : History) → open_burst s k history ≡ Some b → b.rate + s.channel.depth ≤ reserved s history

-- An Accept reserves them, where its client has no open burst.
abbrev pub AcceptsReserve : Type 0
AcceptsReserve =
    (s : Settings) (k first rate join : ℕ) (packet : Option Held) (history : History) → open_burst s k history ≡ None
    → reserved s (noted (Accept k first rate join) packet ∷ history) ≡ reserved s history + (rate + s.channel.depth)

-- An Update reserves the new rate in place of the old one.
abbrev pub UpdatesReserve : Type 0
UpdatesReserve =
    (s : Settings) (k rate join : ℕ) (packet : Option Held) (history : History) (b : Burst) → open_burst s k history ≡ Some b
    → reserved s (noted (Update k rate join) packet ∷ history) ≡ reserved s history - b.rate + rate

-- The end of an open burst gives them back.
abbrev pub EndsRelease : Type 0
EndsRelease =
    (s : Settings) (k : ℕ) (cause : Cause) (packet : Option Held) (history : History) (b : Burst) → open_burst s k history ≡ Some b
    → reserved s (noted (End k cause) packet ∷ history) ≡ reserved s history - (b.rate + s.channel.depth)

-- a note that changes what is reserved
abbrev pub is_of_reserved : Note → Bool
is_of_reserved (Accept client first rate join) = true
is_of_reserved (Update client rate join) = true
is_of_reserved (End client cause) = true
is_of_reserved _ = false

-- No other note changes what is reserved.
abbrev pub OtherNotesReserveNothing : Type 0
OtherNotesReserveNothing =
    (s : Settings) (note : Note) (packet : Option Held) (history : History) → is_of_reserved note ≡ false → reserved s (noted note packet ∷ history) ≡ reserved s history

-- Nor does an event that begins.
abbrev pub EventsReserveNothing : Type 0
EventsReserveNothing = (s : Settings) (heard : Heard) (history : History) → reserved s (began heard ∷ history) ≡ reserved s history

-- Nor does a message that is told.
abbrev pub MessagesReserveNothing : Type 0
MessagesReserveNothing = (s : Settings) (k : ℕ) (message : Message) (history : History) → reserved s (told k message ∷ history) ≡ reserved s history

-- The channel's budget has at most a share and the swell left.
abbrev pub LeftIsWithinShareAndSwell : Type 0
LeftIsWithinShareAndSwell = (s : Settings) (history : History) → channel_left s history ≤ s.channel.share + s.channel.swell

-- The end of what is held never falls.
abbrev pub TheEndOfTheHeldNeverFalls : Type 0
TheEndOfTheHeldNeverFalls = (s : Settings) (later history : History) → hi (hold s history) ≤ hi (hold s (later ++ history))

-- these packets have sequence numbers of 16 bits
abbrev pub HaveLowNumbers : List Arrival → Type 0
HaveLowNumbers packets = All (λ a. a.sequence < 2 ^ 16) packets

-- The numbers of held packets are small as long as few packets came.
abbrev pub HeldNumbersAreSmall : Type 0
HeldNumbersAreSmall =
    (s : Settings) (history : History) → HaveLowNumbers (arrivals history) → length (arrivals history) ≤ 2 ^ 40 → hi (hold s history) ≤ 2 ^ 62

-- A packet that is read has a sequence number of 16 bits.
abbrev pub ReadPacketsHaveLowNumbers : Type 0
ReadPacketsHaveLowNumbers =
    (s : Settings) (bytes : List ℕ) (packets : List Arrival) → All (λ b. b < 256) bytes → HaveLowNumbers packets → HaveLowNumbers (arrivals_after s bytes packets)

-- A retransmission sequence number has 16 bits.
abbrev pub SequencesHave16Bits : Type 0
SequencesHave16Bits = (s : Settings) (k : ℕ) (history : History) → sequence s k history < 2 ^ 16
