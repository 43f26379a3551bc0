-- The moments of a channel, and a client's last Accept at one.
use Rattle.std.specs.Prelude.{◌≡◌, ℕ, List, ◌∷◌, ◌++◌, Option}
use Rattle.rams_model.specs.declared.{Event.Event, Held.Held, Note.TheVariants.Accept}
use Rattle.rams_model.specs.Service.{Settings, noted, History, history_of}
use Rattle.rams_model.specs.Laws.{NoneIs, is_accept_of}

-- This was the history at some moment: the history of some events is this, and what came later.
pub record IsMoment (s : Settings) (history : History) : Type 0 where
  pub events : List Event
  pub later : History
  pub splits : history_of s events ≡ later ++ history

-- The client's last Accept in a history, what came since, and what stood there before it.
pub record LastAccept (history : History) (client : ℕ) : Type 0 where
  pub first : ℕ
  pub rate : ℕ
  pub join : ℕ
  pub packet : Option Held
  pub since : History
  pub before : History
  pub splits : history ≡ since ++ (noted (Accept client first rate join) packet ∷ before)
  pub last : NoneIs (is_accept_of client) since
