-- Where bursts stop, and how they end.
use Rattle.std.specs.Prelude.{◌≡◌, ℕ, ◌+◌, ◌-◌, ◌<◌, ◌≤◌, ◌≢◌, max, Bool, IsTrue, ◌⊎◌, ◌==◌, List, [], ◌∷◌, ◌++◌, length, map, Option, Some, None, Ok, All, Contains}
use Rattle.std.specs.List.{range_with_len}
use Rattle.rams_model.specs.declared.{Stop.Stop, Cause.Cause, Note.Note, Held.Held}
use Rattle.rams_model.specs.declared.Cause.TheVariants as cause
use Rattle.rams_model.specs.declared.Note.TheVariants.{Accept, StopAt, Bye, End}
use Rattle.rams_model.specs.Service.{Settings, bye, stops, Item, noted, History, hold, has_open}
use Rattle.rams_model.specs.Formats.{Framed}
use Rattle.rams_model.specs.Laws.{NoneIs, is_end_of, ticks_begun, IsLeastNamed}
use Rattle.service_laws.specs.book_laws.Moments.{IsMoment, LastAccept}
use Rattle.service_laws.specs.book_laws.Answering.{IsAnswered}
use Rattle.service_laws.specs.book_laws.Sendings.{Sending, first_sendings}

-- The note stands in the history; with what came after it, and what was there before it.
pub record Stands (history : History) (note : Note) : Type 0 where
  pub packet : Option Held
  pub later : History
  pub before : History
  pub splits : history ≡ later ++ (noted note packet ∷ before)

-- Where a burst has a stop, all that is sent of it is numbered below: what was sent before the stop was set, and what was after.
abbrev pub TheStopIsRespected : Type 0
TheStopIsRespected =
    (s : Settings) (history : History) → IsMoment s history → (client : ℕ) (a : LastAccept history client) (stop : ℕ) → Stands a.since (StopAt client stop)
    → All (λ x. x.n < stop) (first_sendings client a.since)

-- the packets from this number on were sent, up to the stop and without it
abbrev pub AreSentUpTo : ℕ → ℕ → List Sending → Type 0
AreSentUpTo first stop sendings = (first ≤ stop) × (map (λ x. x.n) sendings ≡ range_with_len first (stop - first))

-- A burst that ended Stopped has a stop, and was sent from its first packet up to there.
pub record EndsAtItsStop (client first : ℕ) (since : History) : Type 0 where
  pub stop : ℕ
  pub was_set : Stands since (StopAt client stop)
  pub sent : AreSentUpTo first stop (first_sendings client since)

abbrev pub WhatEndsStoppedWasSentWhole : Type 0
WhatEndsStoppedWasSentWhole =
    (s : Settings) (history : History) → IsMoment s history → (client : ℕ) (a : LastAccept history client) → Stands a.since (End client cause.Stopped)
    → EndsAtItsStop client a.first a.since

-- a burst has ended, and this is the cause
pub record HasEnded (client : ℕ) (since : History) : Type 0 where
  pub cause : Cause
  pub end : Stands since (End client cause)

-- Each burst has ended or is open, and not both.
abbrev pub EachBurstEndsOrIsOpen : Type 0
EachBurstEndsOrIsOpen =
    (s : Settings) (history : History) → IsMoment s history → (client : ℕ) (a : LastAccept history client)
    → (HasEnded client a.since ⊎ IsTrue (has_open s client history)) × (HasEnded client a.since → ¬ IsTrue (has_open s client history))

-- the number of the packet that a burst is sent next, by its first and by what was sent since its Accept
abbrev pub next_number : ℕ → ℕ → History → ℕ
next_number client first since = first + length (first_sendings client since)

-- no packet of this number is held any more, but a later one is
pub record IsLost (held : List Held) (n : ℕ) : Type 0 where
  pub gone : (h : Held) → Contains held h → h.n ≢ n
  pub later : Held
  pub is_held : Contains held later
  pub is_later : n < later.n

-- a BYE of the client is answered, and by Bye
pub record Leaves (history : History) (client : ℕ) : Type 0 where
  pub message : Framed
  pub asked : IsAnswered history client (bye message)
  pub left : Stands history (Bye client)

-- Why a burst ends: it was sent up to its stop; its next packet is lost; it lasted for `limit` ticks; or its client leaves.
abbrev pub EndsBecause : Settings → History → ℕ → ℕ → History → Cause → Type 0
EndsBecause s history client first since cause.Stopped = Stands since (StopAt client (next_number client first since))
EndsBecause s history client first since cause.Lost = IsLost (hold s history) (next_number client first since)
EndsBecause s history client first since cause.Limit = ticks_begun since ≡ s.channel.limit
EndsBecause s history client first since cause.Bye = Leaves history client

-- The cause that an End gives is true.
abbrev pub CausesAreTrue : Type 0
CausesAreTrue =
    (s : Settings) (client : ℕ) (cause : Cause) (packet : Option Held) (before : History) → IsMoment s (noted (End client cause) packet ∷ before)
    → (a : LastAccept before client) × EndsBecause s before client a.first a.since cause

-- A client's burst begins only when none of it is open.
abbrev pub BurstsDontOverlap : Type 0
BurstsDontOverlap =
    (s : Settings) (client first rate join : ℕ) (packet : Option Held) (before : History) → IsMoment s (noted (Accept client first rate join) packet ∷ before)
    → ¬ IsTrue (has_open s client before)

-- A burst ends once, and after that nothing of it is sent.
abbrev pub NothingIsSentAfterTheEnd : Type 0
NothingIsSentAfterTheEnd =
    (s : Settings) (history : History) → IsMoment s history → (client : ℕ) (a : LastAccept history client) (cause : Cause) (end : Stands a.since (End client cause))
    → (first_sendings client end.later ≡ []) × NoneIs (is_end_of client) end.later × NoneIs (is_end_of client) end.before

-- What a RAMS-T means: the packet before which it asks a burst to stop, where `next` is the one to be sent next (RFC 6285, 7.4). It is the least from the first on with the 16 bits that are named, or the next where that was sent or where none is named.
abbrev pub IsStopFor : ℕ → ℕ → Option ℕ → ℕ → Type 0
IsStopFor first next None stop = stop ≡ next
IsStopFor first next (Some named) stop = (n : ℕ) × IsLeastNamed first named n × (stop ≡ max next n)

-- a StopAt of the client
abbrev pub is_any_stop : ℕ → Item → Bool
is_any_stop k (noted (StopAt client n) packet) = client == k
is_any_stop k _ = Bool.false

-- A RAMS-T of the client is answered; its burst is open and has no stop yet; and this is the stop that the RAMS-T means.
pub record StopsAsNamed (s : Settings) (history : History) (client stop : ℕ) : Type 0 where
  pub message : Stop
  pub asked : IsAnswered history client (stops (Ok message))
  pub accept : LastAccept history client
  pub open_still : NoneIs (is_end_of client) accept.since
  pub unset : NoneIs (is_any_stop client) accept.since
  pub named : IsStopFor accept.first (next_number client accept.first accept.since) message.first_multicast stop

-- A burst stops before the packet that the first RAMS-T named.
abbrev pub AStopIsWhatWasNamed : Type 0
AStopIsWhatWasNamed =
    (s : Settings) (client stop : ℕ) (packet : Option Held) (before : History) → IsMoment s (noted (StopAt client stop) packet ∷ before) → StopsAsNamed s before client stop
