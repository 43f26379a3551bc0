use Rattle.std.proofs.Common.{sym, ◌≡◌}
use Rattle.repair_queue.specs.declared.wanted.Asked.TheVariants.{Queued}
use Rattle.repair_queue.specs.{asked_of}
use Rattle.repair_queue.proofs.Pending.{queued, limits_push}
use Rattle.repair_queue.proofs.queue.Queue.ask.Goals as goal

pub push-requires : goal.push-requires
push-requires c =
    let is = sym c.in-Queued.ensures.answer in
    record { room = (queued c.self.inside.pending c.args.client c.args.n is).short }

pub invariant_of-self : goal.invariant_of-self
invariant_of-self c =
    let ws = c.self.inside.pending in
    let is : asked_of ws c.args.client c.args.n ≡ Queued = sym c.in-Queued.ensures.answer in
    let facts = queued ws c.args.client c.args.n is in
    rw c.push.ensures (record {
      limits = limits_push c.args.client c.args.n ws facts.new facts.few facts.short c.self.invariant.limits;
      indexed = c.in-Queued.ensures.indexed;
    })
