-- The join time that a client is told is kept where its burst is quiet.
use Rattle.std.specs.Prelude.{◌≡◌, ℕ, ◌+◌, ◌≤◌, Bool, ◌==◌, if◌then◌else◌, List, [], ◌∷◌, Some}
use Rattle.rams_model.specs.declared.{Event.Event, Event.TheVariants.Tick, Cause.TheVariants.Lost}
use Rattle.rams_model.specs.declared.Note.TheVariants.{Accept, Update, End}
use Rattle.rams_model.specs.Service.{Settings, tick, Item, began, noted, History, hold, Burst, next, open_burst, history_of}
use Rattle.rams_model.specs.Packets.{hi}
use Rattle.rams_model.specs.Laws.{IsQuietBurst, told_join, NoneIs}
use Rattle.service_laws.specs.book_laws.Moments.{IsMoment, LastAccept}

-- an End of the client's burst because its next packet is no longer held
abbrev pub is_loss_of : ℕ → Item → Bool
is_loss_of k (noted (End client Lost) packet) = client == k
is_loss_of k _ = Bool.false

-- the ticks since the client was told a join time, by its latest Accept or Update
unfoldable pub ticks_since_told : ℕ → History → ℕ
ticks_since_told k [] = 0
ticks_since_told k (noted (Accept client first rate join) packet ∷ history) = if client == k then 0 else ticks_since_told k history
ticks_since_told k (noted (Update client rate join) packet ∷ history) = if client == k then 0 else ticks_since_told k history
ticks_since_told k (began tick ∷ history) = ticks_since_told k history + 1
ticks_since_told k (_ ∷ history) = ticks_since_told k history

-- A quiet burst never ends because its next packet is lost.
abbrev pub QuietBurstsAreNeverLost : Type 0
QuietBurstsAreNeverLost = (s : Settings) (history : History) (k : ℕ) → IsMoment s history → (accept : LastAccept history k)
    → IsQuietBurst s k accept.first history → NoneIs (is_loss_of k) accept.since

-- After each tick from the one on in which as many have passed as its client was told, and whether or not a stop is set, an open burst that is quiet has caught up: its next packet is the one after all that are held.
abbrev pub QuietBurstsKeepTheirJoinTimes : Type 0
QuietBurstsKeepTheirJoinTimes = (s : Settings) (events : List Event) (k : ℕ) → let history = history_of s (Tick ∷ events) in (accept : LastAccept history k) (b : Burst)
    → open_burst s k history ≡ Some b → IsQuietBurst s k accept.first history → told_join k history ≤ ticks_since_told k history
    → next b ≡ hi (hold s history)
