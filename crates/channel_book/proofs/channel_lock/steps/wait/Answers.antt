use Rattle.std.proofs.Common.{◌≡◌, ◌<◌, sym, ap, ◌∙◌, subst, arith}
use Rattle.channel_book.specs.channel_lock.Steps.{Mine, IsServed}
use Rattle.channel_book.proofs.channel_lock.Serving.{looks, is_served, not_served}
use Rattle.channel_book.proofs.channel_lock.steps.wait.Goals as goal

pub load-served-requires : goal.load-served-requires
load-served-requires g c =
    let table = c.args.shared.now in
    let seat = c.loop.seat in
    let same = c.loop.invariant in (
      same.2 ∙ c.requires.table.0,
      omega (arith, c.requires.table.1),
      looks table.key.config table.key.passes table.table_id.slots seat.id seat.me (subst (λ (m : Mine). 0 < m.0.size) (sym same.3) c.requires.ticket.1) (ap (λ (m : Mine). m.0.taken) same.3 ∙ c.requires.ticket.2) c.requires.table.2,
    )

pub loop-preserved : goal.loop-preserved
loop-preserved g c =
    let same = c.loop.invariant in
    let before = c.loop.seat.me in
    let after = c.load-served.new.seat.me in
    let told = c.load-served.ensures.2 c.args.config.now (ap (λ (m : Mine). m.0.config) same.3 ∙ c.requires.config) in
    let still = not_served c.load-served.result c.args.ticket before.0.ticket (IsServed c.args.config.now before after) (after ≡ before)
    (ap (λ (m : Mine). m.0.ticket) same.3 ∙ c.requires.ticket.0) c.if-served-ticket.false told in
    (tt, tt, c.load-served.ensures.0 ∙ same.2, still ∙ same.3)

pub returns-then-served-ticket-clause-served : goal.returns-then-served-ticket-clause-served
returns-then-served-ticket-clause-served g c =
    let same = c.loop.invariant in
    let before = c.loop.seat.me in
    let after = c.load-served.new.seat.me in
    let told = c.load-served.ensures.2 c.args.config.now (ap (λ (m : Mine). m.0.config) same.3 ∙ c.requires.config) in
    subst (λ (m : Mine). IsServed c.args.config.now m after) same.3
    (is_served c.load-served.result c.args.ticket before.0.ticket (IsServed c.args.config.now before after) (after ≡ before)
    (ap (λ (m : Mine). m.0.ticket) same.3 ∙ c.requires.ticket.0) c.if-served-ticket.true told)
