use Rattle.std.proofs.Common.{◌≡◌, ◌*◌, ◌≤◌, take}
use Rattle.generated.specs.summary.Counts.{bytes_of}
use Rattle.generated.proofs.summary.tally.bytes.Given as goal

abbrev pub invariant-loop-order : goal.invariant-loop-order
invariant-loop-order l = (l.sum ≡ bytes_of (take l.order-index l.orders)) × (l.sum ≤ l.order-index * 1500)
