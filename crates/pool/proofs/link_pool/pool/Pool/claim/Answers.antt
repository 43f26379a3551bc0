use Rattle.std.proofs.Common.{sym, ap, ◌∙◌, arith}
use Rattle.pool.specs.link_pool.{Divided, Claimer}
use Rattle.pool.specs.link_pool.Claims.{claimed}
use Rattle.pool.specs.link_pool.Steps.{Mine}
use Rattle.pool.proofs.link_pool.Taking.{takes}
use Rattle.pool.proofs.link_pool.pool.Pool.claim.Goals as goal

pub fetch_add-from-requires : goal.fetch_add-from-requires
fetch_add-from-requires c =
    let table = c.self.inside.table.shared in
    let seat = c.taker.inside.seat in
    let at = c.taker.invariant.seat_is in (
      ap (λ (k : Claimer). k.pool) c.taker.view_is ∙ (c.requires.made ∙ sym (ap (λ (k : Divided). k.pool) c.self.view_is)),
      omega (arith, c.self.invariant.words),
      takes table.key table.table_id.slots seat.id c.args.bytes c.taker.inside.number seat.me (ap (λ (m : Mine). m.0.owns) at) c.requires.some
          (omega (arith, c.taker.invariant.room, ap (λ (k : Claimer). claimed k.claims) c.taker.view_is, c.requires.most)),
    )
