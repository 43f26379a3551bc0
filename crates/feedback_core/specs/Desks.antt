-- The desk on which the messages of a datagram are answered.
use Rattle.std.specs.Prelude.{◌≡◌, ℕ}
use Rattle.rams_model.specs.Service.{History}
use Rattle.rams_model.specs.Service.Bursts as model
use Rattle.feedback_core.specs.declared.desk.Desk.{Desk}
use Rattle.feedback_core.specs.Ready.{IsReady, IsSafe, AreOfOne}
use Rattle.feedback_core.specs.Visits.{Holds, IsHeard, HasBurst, ServesAt}

-- It is the same desk, with the same client.
pub record IsSameDesk (old new : Desk) : Type 0 where
  pub config : new.config.now ≡ old.config.now
  pub cache : new.cache.now ≡ old.cache.now
  pub one : AreOfOne old.visitor new.visitor

-- The desk is such that answers on it are safe.
pub record IsReadyDesk (d : Desk) : Type 0 where
  pub ready : IsReady d.config.now d.cache.now
  pub safe : IsSafe d.config.now d.visitor

-- The live packets of the desk are held; the newest message is this sender's; the client has this open burst.
abbrev pub HoldsOn : Desk → History → Type 0
HoldsOn d history = Holds d.config.now d.cache.now.held history

abbrev pub IsHeardOn : Desk → ℕ → History → Type 0
IsHeardOn d sender history = IsHeard d.config.now d.cache.now.held sender history

abbrev pub HasBurstOn : Desk → model.Burst → History → Type 0
HasBurstOn d b history = HasBurst d.config.now d.cache.now.held d.visitor.client b history

-- Whichever history it is of which so much is known: where it says what the visitor and the pending repairs of the desk are, this is true of it.
abbrev pub Serves : Desk → (History → Type 0) → (History → History → Type 0) → Type 0
Serves d heard is = ServesAt d.config.now heard d.visitor d.queue.now is
