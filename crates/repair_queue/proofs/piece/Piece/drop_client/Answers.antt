use Rattle.std.proofs.Common.{◌∙◌, ap, not, drop, arith}
use Rattle.repair_queue.specs.{is_of, without}
use Rattle.repair_queue.proofs.Pending.{each_filtered}
use Rattle.repair_queue.proofs.piece.Piece.drop_client.Goals as goal

pub invariant_of-self : goal.invariant_of-self
invariant_of-self c =
    let here = c.self.inside in
    let is = c.drop_client.ensures.items ∙ ap (without c.args.client) c.move_down.ensures.items in
    record {
      within = omega arith;
      spans = rw is (each_filtered _ (λ w. not (is_of c.args.client w)) (drop here.from here.wanted.items) c.self.invariant.spans);
    }
