-- A burst is refused for its rate, or for the share, or begins.
use Rattle.std.proofs.Common.{◌≡◌, ◌+◌, ◌≤◌, ◌<◌, Ok, sym, subst}
use Rattle.std.proofs.lemmas.Bool.{both_ways, OnTrue_at, OnFalse_at}
use Rattle.rams_model.specs.declared.Channel.{Channel}
use Rattle.rams_model.specs.Service.{begins}
use Rattle.reckoning.specs.link_budget.{HasRoom}
use Rattle.reckoning.specs.link_budget.Amounts.{Amounts}
use Rattle.feedback_core.specs.{IsAnswered}
use Rattle.feedback_core.proofs.Verdicts.{refused, begins_slow, begins_much, accepts}
use Rattle.feedback_core.proofs.rams_r.accept.Goals as goal

pub returns-then-rate-channel-clause-answers : goal.returns-then-rate-channel-clause-answers
returns-then-rate-channel-clause-answers c = λ held h number size before history heard w.
    let queue = c.args.desk.now.queue.now in
    let s = c.args.desk.now.config.now in
    let v = c.args.desk.now.visitor in
    let slow : c.args.rate < s.channel.declared + 1500 = subst (λ (x : Channel). c.args.rate < x.declared + 1500) c.channel-channel.ensures.value c.if-rate-channel.true in
    refused s before history queue v c.refuse.result (begins s held v.client c.args.rate history (Ok h)) 403 c.refuse.ensures (begins_slow s held v.client c.args.rate history h slow) w

pub returns-then-not-reserve-clause-answers : goal.returns-then-not-reserve-clause-answers
returns-then-not-reserve-clause-answers c = λ held h number size before history heard w.
    let queue = c.args.desk.now.queue.now in
    let s = c.args.desk.now.config.now in
    let v = c.args.desk.now.visitor in
    let fast = subst (λ (x : Channel). x.declared + 1500 ≤ c.args.rate) c.channel-channel.ensures.value c.if-rate-channel.false in
    let none = subst (λ (x : Channel). HasRoom v.budget (c.args.rate + x.depth) → ⊥) c.channel-channel.ensures.value
    (λ room. both_ways c.reserve.result c.if-not-reserve.true (c.reserve.ensures.room.1 room)) in
    let same : c.reserve.new.self ≡ v.budget = OnFalse_at c.if-not-reserve.true c.reserve.ensures.same in
    let answer = refused s before history queue v c.refuse-then-not-reserve.result (begins s held v.client c.args.rate history (Ok h)) 501 c.refuse-then-not-reserve.ensures
    (begins_much s held v.client c.args.rate history h v.budget fast w.budget_is none) w in
    subst (λ (b : Amounts). IsAnswered s before history queue (record { client = v.client; entry = v.entry; has_place = v.has_place; budget = b })
    c.refuse-then-not-reserve.result (begins s held v.client c.args.rate history (Ok h))) (sym same) answer

pub returns-clause-answers : goal.returns-clause-answers
returns-clause-answers c = λ held h number size before history heard w.
    let queue = c.args.desk.now.queue.now in
    let s = c.args.desk.now.config.now in
    let v = c.args.desk.now.visitor in
    let channel = c.channel-channel.result.now in
    let fast = subst (λ (x : Channel). x.declared + 1500 ≤ c.args.rate) c.channel-channel.ensures.value c.if-rate-channel.false in
    accepts s held c.args.sender before history queue v c.args.rate c.args.first c.args.behind c.join_ticks-join.result h channel c.reserve.new.self c.entry_under-entry.result
    c.accept_info-last.result c.begun.result c.channel-channel.ensures.value c.channel-channel.ensures.lawful.seq0_most number size fast
    (c.reserve.ensures.room.0 c.if-not-reserve.false) (OnTrue_at c.if-not-reserve.false c.reserve.ensures.taken) c.join_ticks-join.ensures c.entry_under-entry.ensures
    c.accept_info-last.ensures c.begun.ensures c.requires.closed heard.sender_is w
