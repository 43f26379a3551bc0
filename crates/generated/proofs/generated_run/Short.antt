-- What a core sends is short enough to be counted.
use Rattle.std.proofs.Common.{All, List, arith}
use Rattle.std.proofs.lemmas.List.Elements.{All-weaker}
use Rattle.rams_model.specs.declared.{Order.Order, Order.TheVariants.Rtx, Order.TheVariants.Info}
use Rattle.server_hub.specs.session_core as core
use Rattle.server_hub.specs.session_core.{SendsShort}
use Rattle.generated.specs.summary.{IsShort}

short_is : (order : Order) → core.IsShort order → IsShort order
short_is (Rtx client n sequence packet) short = omega (arith, short)
short_is (Info client info) short = omega arith

pub short_are : (orders : List Order) → All core.IsShort orders → All IsShort orders
short_are orders all = All-weaker core.IsShort IsShort short_is orders all
