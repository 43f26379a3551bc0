use Rattle.std.proofs.Common.{subst}
use Rattle.std.proofs.lemmas.Result.{MatchResult-at_ok, MatchResult-at_err, MatchResult-from_err}
use Rattle.channel_book.specs.{HasTaken, HasTakenFront, HasAnsweredAll, HasAnsweredFront}
use Rattle.channel_book.specs.channel_lock.Passes.{Known}
use Rattle.channel_book.proofs.channel_lock.Resting.{rests_again, told_whole, told_part}
use Rattle.channel_book.proofs.channel_lock.lock.ChannelLock.take_all.Goals as goal

pub invariant_of-pass : goal.invariant_of-pass
invariant_of-pass g c =
    rests_again _ _ _ _ _ _ _ _ _ c.pass.invariant c.draw-ticket.ensures.drawn c.wait.ensures.served c.work_all-round.ensures.seat _ c.work_all-round.ensures.seen c.work_all-round.ensures.legal

pub returns-in_err-round-clause-told : goal.returns-in_err-round-clause-told
returns-in_err-round-clause-told g c =
    let events = c.args.events.items in
    let old = c.wait.new.seat.me.0.log in
    let new = c.work_all-round.new.seat.me.0.log in
    let list = c.pass.inside.list in
    let front = MatchResult-at_err (λ a. HasTaken list events old a.items new) (λ x. HasTakenFront list events old new) _ c.in_err-round.was c.work_all-round.ensures.told in
    let told = told_part _ _ _ _ _ _ _ _ _ c.pass.invariant c.draw-ticket.ensures.drawn c.wait.ensures.served c.work_all-round.ensures.seat events front in
    MatchResult-from_err c.from_residual.result _ _ c.from_residual.ensures.0 (λ x. subst (λ (p : Known). HasAnsweredFront p.list events p.seen new) c.pass.view_is told)

pub invariant_of-pass-2 : goal.invariant_of-pass-2
invariant_of-pass-2 g c =
    rests_again _ _ _ _ _ _ _ _ _ c.pass.invariant c.draw-ticket.ensures.drawn c.wait.ensures.served c.work_all-round.ensures.seat _ c.work_all-round.ensures.seen c.work_all-round.ensures.legal

pub returns-clause-told : goal.returns-clause-told
returns-clause-told g c =
    let events = c.args.events.items in
    let old = c.wait.new.seat.me.0.log in
    let new = c.work_all-round.new.seat.me.0.log in
    let list = c.pass.inside.list in
    let place = c.work_all-round.result.place in
    let answers = c.in_ok-round.field-0.items in
    let taken = MatchResult-at_ok (λ a. HasTaken list events old a.items new) (λ x. HasTakenFront list events old new) _ c.in_ok-round.was c.work_all-round.ensures.told in
    let told = told_whole _ _ _ _ _ _ _ _ _ c.pass.invariant c.draw-ticket.ensures.drawn c.wait.ensures.served c.work_all-round.ensures.seat events place answers c.work_all-round.ensures.place taken in
    subst (λ (p : Known). HasAnsweredAll p.list events p.seen place answers new) c.pass.view_is told
