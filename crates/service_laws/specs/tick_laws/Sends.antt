-- A tick sends all that it may: what it leaves didn't fit.
use Rattle.std.specs.Prelude.{◌≡◌, ℕ, ◌+◌, ◌<◌, ◌≤◌, min, ◌⊎◌, List, ◌∷◌, ◌++◌, Option, Some, Contains, IfSome}
use Rattle.rams_model.specs.declared.{Event.Event, Held.Held, Event.TheVariants.Tick, Note.TheVariants.Gone}
use Rattle.rams_model.specs.Service.{Settings, tick, began, noted, History, hold, Burst, next, open_burst, Wanted, wanted, pending, channel_left, history_of}
use Rattle.rams_model.specs.Packets.{hi}
use Rattle.rams_model.specs.Laws.{NoneIs, is_event, is_sending, is_sending_to, sizes_sent}
use Rattle.service_laws.specs.book_laws.{IsMoment, may_be_sent}

-- What a client's burst keeps from its repairs: nothing, or at most the depth where the burst is open and has not caught up with what is held.
abbrev pub MayKeep : Settings → List Held → History → ℕ → ℕ → Type 0
MayKeep s held history k kept = (kept ≡ 0) ⊎ ((b : Burst) × (open_burst s k history ≡ Some b) × (next b < hi held) × (kept ≤ s.channel.depth))

-- In the tick that began here a pending repair had its turn, at which its packet, which is held, was larger than what its client might still be sent, or than what the channel might still send.
pub record HadItsTurn (s : Settings) (before after : History) (w : Wanted) : Type 0 where
  pub packet : Held
  pub held : Contains (hold s before) packet
  pub number : packet.n ≡ w.n
  -- the notes of the tick up to then, and those since
  pub now : History
  pub since : History
  pub splits : after ≡ since ++ (now ++ (began tick ∷ before))
  pub here : NoneIs is_event now
  pub kept : ℕ
  pub keeps : MayKeep s (hold s before) (now ++ (began tick ∷ before)) w.client kept
  pub large : (may_be_sent s (open_burst s w.client before) < packet.wire + sizes_sent (is_sending_to w.client) now + kept)
      ⊎ (s.channel.share + min s.channel.swell (channel_left s before) < packet.wire + sizes_sent is_sending now)

-- A repair that still waits after a tick had its turn in it, and didn't fit.
abbrev pub EachWaitingRepairDidNotFit : Type 0
EachWaitingRepairDidNotFit =
    (s : Settings) (events : List Event) (w : Wanted) → Contains (pending (history_of s (Tick ∷ events))) w → HadItsTurn s (history_of s events) (history_of s (Tick ∷ events)) w

-- A repair that is given up waited, and its packet isn't held.
abbrev pub RepairsGoneAreNotHeld : Type 0
RepairsGoneAreNotHeld =
    (s : Settings) (client n : ℕ) (packet : Option Held) (before : History) → IsMoment s (noted (Gone client n) packet ∷ before)
    → Contains (pending before) (wanted client n) × ((h : Held) → Contains (hold s before) h → h.n ≡ n → ⊥)

-- The next packet of a burst isn't held, or isn't before the stop, or is larger than what the burst has left.
abbrev pub IsAtItsEnd : List Held → Burst → Type 0
IsAtItsEnd held b = (h : Held) → Contains held h → h.n ≡ next b → IfSome b.stop (λ stop. next b < stop) → b.left < h.wire

-- After a tick each open burst is at its end.
abbrev pub EachRunWentOn : Type 0
EachRunWentOn =
    (s : Settings) (events : List Event) (k : ℕ) (b : Burst) → open_burst s k (history_of s (Tick ∷ events)) ≡ Some b → IsAtItsEnd (hold s (history_of s events)) b
