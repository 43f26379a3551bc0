-- What a channel's history says of the client of a datagram while its messages are answered.
use Rattle.std.specs.Prelude.{◌≡◌, ◌≢◌, ℕ, true, false, ◌==◌, nat_lt, List, length, Option, Some, None}
use Rattle.rams_model.specs.declared.Held.{Held}
use Rattle.rams_model.specs.Service.Bursts as model
use Rattle.std.specs.List.{list_any}
use Rattle.rams_model.specs.Service.{Settings, History, hold, newest_sender, arrivals, known, is_among, without, sendings, ssrc, bursts, open_burst, Wanted, pending, quiet_ticks}
use Rattle.client_table.specs.declared.Entry.{Entry}
use Rattle.channel_parts.specs.{IsEntry, IsBudget}
use Rattle.feedback_core.specs.declared.visitor.Visitor.{Visitor}

-- A client that isn't known was sent nothing since it last was, and has neither an open burst nor a pending repair.
pub record IsUnknown (s : Settings) (k : ℕ) (history : History) : Type 0 where
  pub unknown : is_among k (known history) ≡ false
  pub unnamed : ssrc k history ≡ None
  pub unsent : sendings k history ≡ 0
  pub closed : open_burst s k history ≡ None
  pub unasked : list_any (λ w. w.client == k) (pending history) ≡ false

-- A client is known, and its entry is what the history says; it isn't idle.
pub record IsKnown (s : Settings) (k : ℕ) (history : History) (e : Entry) : Type 0 where
  pub is_known : is_among k (known history) ≡ true
  pub entry_is : IsEntry s k history e
  pub awake : e.idle ≡ 0

-- What is kept of a client is what the history says.
abbrev pub IsClient : Settings → ℕ → History → Option Entry → Type 0
IsClient s k history None = IsUnknown s k history
IsClient s k history (Some e) = IsKnown s k history e

-- All that is read off a history of this client is as it was before.
pub record IsAsBefore (s : Settings) (j : ℕ) (before history : History) : Type 0 where
  pub known_is : is_among j (known history) ≡ is_among j (known before)
  pub ssrc_is : ssrc j history ≡ ssrc j before
  pub sendings_is : sendings j history ≡ sendings j before
  pub bursts_is : bursts s j history ≡ bursts s j before
  pub quiet_is : quiet_ticks s j history ≡ quiet_ticks s j before
  pub waits_is : list_any (λ w. w.client == j) (pending history) ≡ list_any (λ w. w.client == j) (pending before)

-- The visitor, and the pending repairs, are what the history says, in which notes of this client alone came since `before`, and no packet.
pub record IsVisit (s : Settings) (before history : History) (v : Visitor) (queue : List Wanted) : Type 0 where
  pub arrivals_are : arrivals history ≡ arrivals before
  pub others : (j : ℕ) → j ≢ v.client → IsAsBefore s j before history
  pub rest : without v.client (known history) ≡ without v.client (known before)
  pub client_is : IsClient s v.client history v.entry
  pub quiet : quiet_ticks s v.client history ≡ 0
  pub place_is : v.has_place ≡ nat_lt (length (without v.client (known history))) s.channel.clients
  pub budget_is : IsBudget s history v.budget
  pub queue_is : queue ≡ pending history

-- Nothing else is known of the history.
abbrev pub IsAny : History → Type 0
IsAny history = Unit {0}

-- These live packets are held.
abbrev pub Holds : Settings → List Held → History → Type 0
Holds s held history = hold s history ≡ held

-- These live packets are held, and this is the sender of the newest message.
pub record IsHeard (s : Settings) (held : List Held) (sender : ℕ) (history : History) : Type 0 where
  pub held_is : hold s history ≡ held
  pub sender_is : newest_sender history ≡ Some sender

-- These live packets are held, and the client has this open burst.
pub record HasBurst (s : Settings) (held : List Held) (k : ℕ) (b : model.Burst) (history : History) : Type 0 where
  pub held_is : hold s history ≡ held
  pub is_open : open_burst s k history ≡ Some b

-- Whichever history it is of which so much is known: where it says what the visitor and the pending repairs are, this is true of it.
abbrev pub ServesAt : Settings → (History → Type 0) → Visitor → List Wanted → (History → History → Type 0) → Type 0
ServesAt s heard v queue is = (before history : History) → heard history → IsVisit s before history v queue → is before history
