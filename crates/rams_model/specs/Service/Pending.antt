-- The repairs that wait, and how long a client is idle.
use Rattle.std.specs.Prelude.{ℕ, ◌+◌, Bool, false, ◌&&◌, ◌||◌, ◌==◌, not, if◌then◌else◌, List, [], ◌∷◌, ◌++◌, filter}
use Rattle.std.specs.List.{list_any}
use Rattle.rams_model.specs.declared.note.Note.{Note}
use Rattle.rams_model.specs.declared.note.Note.TheVariants.{Queued, Repair, Gone, Bye, Burst, End}
use Rattle.rams_model.specs.Service.ChannelSettings.{Settings}
use Rattle.rams_model.specs.Service.HeardEvents.{feedback, tick}
use Rattle.rams_model.specs.Service.ChannelHistory.{began, noted, History}
use Rattle.rams_model.specs.Service.Bursts.{has_open}

-- a repair that a client waits for
pub record Wanted : Type 0 where
  pub client : ℕ
  pub n : ℕ

-- the repair of number n for a client
abbrev pub wanted : ℕ → ℕ → Wanted
wanted client n = record { client = client; n = n }

-- it is the repair of number n for this client
abbrev pub is_wanted : ℕ → ℕ → Wanted → Bool
is_wanted client n w = w.client == client && w.n == n

-- Pending: the repairs that were queued and neither sent nor gone since, and whose client hasn't left; the oldest first.
unfoldable pub pending : History → List Wanted
pending [] = []
pending (noted (Queued client n) packet ∷ history) = pending history ++ wanted client n ∷ []
pending (noted (Repair client n sequence) packet ∷ history) = filter (λ w. not (is_wanted client n w)) (pending history)
pending (noted (Gone client n) packet ∷ history) = filter (λ w. not (is_wanted client n w)) (pending history)
pending (noted (Bye client) packet ∷ history) = filter (λ w. not (w.client == client)) (pending history)
pending (_ ∷ history) = pending history

-- a repair of this number waits for this client
abbrev pub is_pending : ℕ → ℕ → History → Bool
is_pending k n history = list_any (is_wanted k n) (pending history)

-- a client's pending repairs
abbrev pub pending_of : ℕ → History → List Wanted
pending_of k history = filter (λ w. w.client == k) (pending history)

-- a client with an open burst or a pending repair isn't idle
abbrev pub is_busy : Settings → ℕ → History → Bool
is_busy s k history = has_open s k history || list_any (λ w. w.client == k) (pending history)

-- a note that shows in a tick that its client isn't idle
abbrev pub is_served : ℕ → Note → Bool
is_served k (Burst client n sequence) = client == k
is_served k (Repair client n sequence) = client == k
is_served k (Gone client n) = client == k
is_served k (End client cause) = client == k
is_served k _ = false

-- the ticks since the client was last busy as a tick began, was served in one, or sent a datagram that frames
unfoldable pub quiet_ticks : Settings → ℕ → History → ℕ
quiet_ticks s k [] = 0
quiet_ticks s k (began tick ∷ history) = (if is_busy s k history then 0 else quiet_ticks s k history) + 1
quiet_ticks s k (began (feedback client messages) ∷ history) = if client == k then 0 else quiet_ticks s k history
quiet_ticks s k (noted note packet ∷ history) = if is_served k note then 0 else quiet_ticks s k history
quiet_ticks s k (_ ∷ history) = quiet_ticks s k history

-- A client's idle count.
abbrev pub idle : Settings → ℕ → History → ℕ
idle s k history = if is_busy s k history then 0 else quiet_ticks s k history
