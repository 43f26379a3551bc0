use Rattle.std.proofs.Common.{arith, take}
use Rattle.std.proofs.lemmas.List.{length-take-le}
use Rattle.repair_queue.specs.{is_of}
use Rattle.repair_queue.proofs.Pending.{length-filter-le}
use Rattle.repair_queue.proofs.index.count_among.Goals as goal

pub overflow_add-count : goal.overflow_add-count
overflow_add-count c =
    let so_far = take c.loop-w.w-index c.args.pending.now in
    omega (arith, c.loop-w.invariant, length-filter-le (is_of c.args.client) so_far, length-take-le c.loop-w.w-index c.args.pending.now)
