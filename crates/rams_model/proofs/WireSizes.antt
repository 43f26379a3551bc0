-- The sizes on the wire of the packets that orders send.
use Rattle.std.proofs.Common.{◌≡◌, ℕ, List, [], ◌∷◌, ◌++◌, refl, ap}
use Rattle.rams_model.specs.declared.answer.Order.{Order}
use Rattle.rams_model.specs.declared.answer.Order.TheVariants.{Rtx, Info}
use Rattle.rams_model.specs.Formats.{wire_size}
use Rattle.rams_model.specs.Service.{wire_sizes}

pub sizes_append : (a b : List Order) → wire_sizes (a ++ b) ≡ wire_sizes a ++ wire_sizes b
sizes_append [] b = refl
sizes_append (Rtx client n sequence packet ∷ a) b = ap (λ (l : List ℕ). wire_size packet ∷ l) (sizes_append a b)
sizes_append (Info client info ∷ a) b = sizes_append a b
