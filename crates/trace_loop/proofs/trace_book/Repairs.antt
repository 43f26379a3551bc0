-- A repair that is sent was pending, and its packet held.
use Rattle.std.proofs.Common.{◌≡◌, ℕ, ◌∷◌, Option, sym, subst}
use Rattle.std.specs.Prelude.{Contains, IsSomeAnd}
use Rattle.rams_model.specs.declared.{Held.Held, Note.TheVariants.Repair}
use Rattle.rams_model.specs.Service.{Settings, noted, History, hold, wanted, pending}
use Rattle.service_laws.specs.book_laws.{IsMoment, sending, IsPacketOf}
use Rattle.service_laws.proofs.book_laws.Moments.{legal_moment}

pub repair_waits : (s : Settings) (k n sequence : ℕ) (packet : Option Held) (before : History) → IsMoment s (noted (Repair k n sequence) packet ∷ before) → Contains (pending before) (wanted k n)
repair_waits s k n sequence packet before m = (legal_moment s _ m).0.waits

pub repair_held : (s : Settings) (k n sequence : ℕ) (packet : Option Held) (before : History) → IsMoment s (noted (Repair k n sequence) packet ∷ before) → IsPacketOf (hold s before) (sending n packet)
repair_held s k n sequence packet before m =
    let r = (legal_moment s _ m).0 in
    subst (λ (p : Option Held). IsSomeAnd p (λ h. (h.n ≡ n) × Contains (hold s before) h)) (sym r.packet_is) (r.h_is, r.held)
