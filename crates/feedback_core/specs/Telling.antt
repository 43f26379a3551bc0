-- What is sent for a feedback datagram.
use Rattle.std.specs.Prelude.{All}
use Rattle.rams_model.specs.declared.{Order.Order, Order.TheVariants.Rtx, Order.TheVariants.Info}
use Rattle.rams_model.specs.Service.{Answered}

-- it is a RAMS-I (RFC 6285, 7.3)
abbrev pub IsInfo : Order → Type 0
IsInfo (Rtx client n sequence packet) = ⊥
IsInfo (Info client info) = Unit {0}

-- The answer sends RAMS-I messages alone, and no packet.
abbrev pub TellsAlone : Answered → Type 0
TellsAlone a = All IsInfo a.orders
