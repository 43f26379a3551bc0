use Rattle.std.proofs.Common.{arith}
use Rattle.channel_book.proofs.channel_lock.Passing.{passes_on_as}
use Rattle.channel_book.proofs.channel_lock.steps.pass_on.Goals as goal

pub fetch_add-served-requires : goal.fetch_add-served-requires
fetch_add-served-requires c =
    let table = c.args.shared.now in
    let seat = c.args.seat.now in
    let grew = c.requires.grew in (
      c.requires.table.0,
      omega (arith, c.requires.table.1),
      passes_on_as table.key.config table.key.passes table.table_id.slots seat.id c.args.size seat.me grew.0 c.requires.table.2 grew.1 grew.2 c.requires.size grew.3,
    )
