-- What clients may rely on where their bursts are quiet.
use Rattle.std.specs.Prelude.{◌≡◌, ℕ, ◌≤◌, List, Some}
use Rattle.rams_model.specs.declared.Event.{Event}
use Rattle.rams_model.specs.Service.{Settings, History, hold, Burst, next, open_burst, history_of}
use Rattle.rams_model.specs.Packets.{hi}
use Rattle.rams_model.specs.Laws.{IsQuietBurst, told_join, NoneIs}
use Rattle.service_laws.specs.book_laws.{LastAccept, is_loss_of, ticks_since_told}

-- The newest burst of a client, where it is quiet: it did not end because its next packet was no longer held, and where it is open, and as many ticks have passed as its client was told, its next packet is the one after all that are held.
pub record KeepsItsTime (s : Settings) (history : History) (client : ℕ) (accept : LastAccept history client) : Type 0 where
  pub not_lost : NoneIs (is_loss_of client) accept.since
  pub caught_up : (b : Burst) → open_burst s client history ≡ Some b → told_join client history ≤ ticks_since_told client history → next b ≡ hi (hold s history)

-- After these events each quiet burst keeps the join time that its client was told.
abbrev pub JoinTimesAreKept : Settings → List Event → Type 0
JoinTimesAreKept s events = let history = history_of s events in
    (client : ℕ) (accept : LastAccept history client) → IsQuietBurst s client accept.first history → KeepsItsTime s history client accept
