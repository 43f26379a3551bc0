use Rattle.std.proofs.Common.{◌≡◌, take}
use Rattle.channel_book.proofs.copies.copy_orders.Given as goal

abbrev pub invariant-loop-order : goal.invariant-loop-order
invariant-loop-order l = l.copy.items ≡ take l.order-index l.orders
