-- Another rate is refused where it is too low, or for the share, or is set.
use Rattle.std.proofs.Common.{◌+◌, ◌≤◌, ◌<◌, subst}
use Rattle.std.proofs.lemmas.Bool.{both_ways, OnTrue_at}
use Rattle.rams_model.specs.declared.Channel.{Channel}
use Rattle.rams_model.specs.Service.{changes}
use Rattle.reckoning.specs.link_budget.{HasRoom}
use Rattle.reckoning.specs.link_budget.Amounts.{Amounts}
use Rattle.feedback_core.proofs.Verdicts.{refused, changes_slow, changes_much, updates}
use Rattle.feedback_core.proofs.rams_r.change.Goals as goal

pub returns-then-rate-channel-clause-answers : goal.returns-then-rate-channel-clause-answers
returns-then-rate-channel-clause-answers c = λ b same before history has w.
    let queue = c.args.desk.now.queue.now in
    let s = c.args.desk.now.config.now in
    let v = c.args.desk.now.visitor in
    let held = c.args.desk.now.cache.now.held in
    let slow = subst (λ (x : Channel). c.args.rate < x.declared + 1500) c.channel-channel.ensures.value c.if-rate-channel.true in
    refused s before history queue v c.refuse.result (changes s held v.client c.args.rate history b) 403 c.refuse.ensures (changes_slow s held v.client c.args.rate history b slow) w

pub returns-then-not-reserve-clause-answers : goal.returns-then-not-reserve-clause-answers
returns-then-not-reserve-clause-answers c = λ b same before history has w.
    let queue = c.args.desk.now.queue.now in
    let s = c.args.desk.now.config.now in
    let v = c.args.desk.now.visitor in
    let held = c.args.desk.now.cache.now.held in
    let fast = subst (λ (x : Channel). x.declared + 1500 ≤ c.args.rate) c.channel-channel.ensures.value c.if-rate-channel.false in
    let none = subst (λ (a : Amounts). HasRoom a c.args.rate → ⊥) c.release.ensures
    (λ room. both_ways c.reserve.result c.if-not-reserve.true (c.reserve.ensures.room.1 room)) in
    refused s before history queue v c.refuse-then-not-reserve.result (changes s held v.client c.args.rate history b) 501 c.refuse-then-not-reserve.ensures
    (changes_much s held v.client c.args.rate history b v.budget c.args.current.now fast w.budget_is same none) w

pub returns-clause-answers : goal.returns-clause-answers
returns-clause-answers c = λ b same before history has w.
    let queue = c.args.desk.now.queue.now in
    let s = c.args.desk.now.config.now in
    let v = c.args.desk.now.visitor in
    let fast = subst (λ (x : Channel). x.declared + 1500 ≤ c.args.rate) c.channel-channel.ensures.value c.if-rate-channel.false in
    updates s c.args.desk.now.cache.now.held before history queue v c.args.rate c.behind-behind.result c.join_ticks-join.result b c.args.current.now c.channel-channel.result.now
    c.release.new.self c.reserve.new.self c.update_info-last.result c.channel-channel.ensures.value fast c.release.ensures (c.reserve.ensures.room.0 c.if-not-reserve.false)
    (OnTrue_at c.if-not-reserve.false c.reserve.ensures.taken) c.behind-behind.ensures c.join_ticks-join.ensures c.update_info-last.ensures c.requires.opened has.is_open same w
