use Rattle.std.proofs.Common.{List, not, length, length-append, ap, arith}
use Rattle.rams_model.specs.Service.{Wanted}
use Rattle.repair_queue.specs.{all_of, is_of}
use Rattle.repair_queue.proofs.Pending.{length-filter-le}
use Rattle.repair_queue.proofs.backlog.Backlog.drop_client.Goals as goal

pub count_of_pieces-self-inside-requires : goal.count_of_pieces-self-inside-requires
count_of_pieces-self-inside-requires c =
    let all = all_of c.self.inside.pieces.items in
    omega (
      arith,
      ap (λ (ps : List (List Wanted)). length (all_of ps)) c.deref.ensures.value,
      ap length c.drop_client_of_pieces.ensures,
      length-filter-le (λ w. not (is_of c.args.client w)) all,
      length-append all c.self.inside.last,
      ap length c.self.view_is,
      c.requires,
    )
