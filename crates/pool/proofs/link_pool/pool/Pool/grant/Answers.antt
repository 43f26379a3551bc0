use Rattle.std.proofs.Common.{sym, ap, ◌∙◌, arith}
use Rattle.pool.specs.link_pool.{Divided, Granter}
use Rattle.pool.specs.link_pool.Steps.{Mine}
use Rattle.pool.proofs.link_pool.Granting.{grants}
use Rattle.pool.proofs.link_pool.pool.Pool.grant.Goals as goal

pub fetch_add-requires : goal.fetch_add-requires
fetch_add-requires c =
    let table = c.self.inside.table.shared in
    let seat = c.ticker.inside.seat in
    let at = c.ticker.invariant.seat_is in (
      ap (λ (k : Granter). k.pool) c.ticker.view_is ∙ (c.requires.made ∙ sym (ap (λ (k : Divided). k.pool) c.self.view_is)),
      omega (arith, c.self.invariant.words),
      grants table.key table.table_id.slots seat.id c.args.bytes seat.me (ap (λ (m : Mine). m.0.grants) at)
          (omega (arith, ap (λ (m : Mine). m.0.granted) at, ap (λ (k : Granter). k.total) c.ticker.view_is, c.requires.most)),
    )
