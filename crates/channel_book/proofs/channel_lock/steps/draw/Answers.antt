use Rattle.std.proofs.Common.{arith}
use Rattle.channel_book.proofs.channel_lock.Drawing.{draws}
use Rattle.channel_book.proofs.channel_lock.steps.draw.Goals as goal

pub fetch_add-requires : goal.fetch_add-requires
fetch_add-requires c =
    let table = c.args.shared.now in
    let seat = c.args.seat.now in (
      c.requires.table.0,
      omega (arith, c.requires.table.1),
      draws table.key.config table.key.passes table.table_id.slots seat.id c.args.size seat.me c.requires.free.0 c.requires.free.1 c.requires.free.2 c.requires.may.0 c.requires.may.1,
    )
