use Rattle.std.proofs.Common.{ap, ◌∙◌, subst, arith}
use Rattle.rams_model.specs.Service.{Settings}
use Rattle.channel_book.specs.{IsLegal}
use Rattle.channel_book.specs.channel_lock.{Guarded}
use Rattle.channel_book.specs.channel_lock.Steps.{Mine}
use Rattle.channel_book.proofs.channel_lock.Closing.{closed}
use Rattle.channel_book.proofs.channel_lock.lock.ChannelLock.close.Goals as goal

pub returns-clause-settings : goal.returns-clause-settings
returns-clause-settings c =
    let table = c.self.inside.table.shared in
    let gathered = c.gather-seat.ensures.gathered in
    let whole = closed table.key.config table.key.passes c.gather-seat.result.id c.args.passes.items gathered.0 _ _ c.take-book.result c.gather-seat.result.me.0 (ap (λ (m : Mine). m.0) gathered.1)
    (omega (arith, c.if-given-self.false, c.len-given.ensures, c.self.invariant.count)) c.close_with-closed.ensures.values.2 c.take-book.ensures.value in
    whole.settings ∙ ap (λ (l : Guarded). l.settings) c.self.view_is

pub returns-clause-legal : goal.returns-clause-legal
returns-clause-legal c =
    let table = c.self.inside.table.shared in
    let gathered = c.gather-seat.ensures.gathered in
    let whole = closed table.key.config table.key.passes c.gather-seat.result.id c.args.passes.items gathered.0 _ _ c.take-book.result c.gather-seat.result.me.0 (ap (λ (m : Mine). m.0) gathered.1)
    (omega (arith, c.if-given-self.false, c.len-given.ensures, c.self.invariant.count)) c.close_with-closed.ensures.values.2 c.take-book.ensures.value in
    subst (λ (s : Settings). IsLegal s c.take-book.result.entries) (ap (λ (l : Guarded). l.settings) c.self.view_is) whole.legal

pub returns-clause-passes : goal.returns-clause-passes
returns-clause-passes c =
    let table = c.self.inside.table.shared in
    let gathered = c.gather-seat.ensures.gathered in
    let whole = closed table.key.config table.key.passes c.gather-seat.result.id c.args.passes.items gathered.0 _ _ c.take-book.result c.gather-seat.result.me.0 (ap (λ (m : Mine). m.0) gathered.1)
    (omega (arith, c.if-given-self.false, c.len-given.ensures, c.self.invariant.count)) c.close_with-closed.ensures.values.2 c.take-book.ensures.value in
    whole.each

pub returns-clause-others : goal.returns-clause-others
returns-clause-others c =
    let table = c.self.inside.table.shared in
    let gathered = c.gather-seat.ensures.gathered in
    let whole = closed table.key.config table.key.passes c.gather-seat.result.id c.args.passes.items gathered.0 _ _ c.take-book.result c.gather-seat.result.me.0 (ap (λ (m : Mine). m.0) gathered.1)
    (omega (arith, c.if-given-self.false, c.len-given.ensures, c.self.invariant.count)) c.close_with-closed.ensures.values.2 c.take-book.ensures.value in
    whole.others
