-- The first refusal, or what a client with or without an open burst gets.
use Rattle.std.proofs.Common.{◌≡◌, ◌∙◌, true, false, Ok, sym, subst}
use Rattle.rams_model.specs.declared.Channel.{Channel}
use Rattle.rams_model.specs.Formats.{names}
use Rattle.rams_model.specs.Service.{verdict}
use Rattle.wire_packets.specs.rams_tlv.{shown_request}
use Rattle.feedback_core.proofs.Verdicts.{refused, only_preamble, foreign_request, request_on_burst, request_without}
use Rattle.feedback_core.proofs.rams_r.on_request.Goals as goal

pub returns-then-request-clause-answers : goal.returns-then-request-clause-answers
returns-then-request-clause-answers c = λ before history heard w.
    let queue = c.args.desk.now.queue.now in
    let s = c.args.desk.now.config.now in
    let v = c.args.desk.now.visitor in
    let r = shown_request c.args.request.now in
    refused s before history queue v c.refuse.result (verdict s v.client history (Ok r)) 512 c.refuse.ensures (only_preamble s v.client history r c.if-request.true) w

pub returns-then-not-names-clause-answers : goal.returns-then-not-names-clause-answers
returns-then-not-names-clause-answers c = λ before history heard w.
    let queue = c.args.desk.now.queue.now in
    let s = c.args.desk.now.config.now in
    let v = c.args.desk.now.visitor in
    let r = shown_request c.args.request.now in
    let foreign = subst (λ (x : Channel). names r x.ssrc ≡ false) c.channel.ensures.value (sym c.names.ensures ∙ c.if-not-names.true) in
    refused s before history queue v c.refuse-then-not-names.result (verdict s v.client history (Ok r)) 509 c.refuse-then-not-names.ensures
    (foreign_request s v.client history r c.if-request.false foreign) w

pub returns-in-Some-clause-answers : goal.returns-in-Some-clause-answers
returns-in-Some-clause-answers c = λ before history heard w.
    let queue = c.args.desk.now.queue.now in
    let s = c.args.desk.now.config.now in
    let r = shown_request c.args.request.now in
    let named = subst (λ (x : Channel). names r x.ssrc ≡ true) c.channel.ensures.value (sym c.names.ensures ∙ c.if-not-names.false) in
    request_on_burst s c.args.desk.now.cache.now.held before history queue c.args.desk.now.visitor c.on_burst.new.desk.visitor r c.in-Some.open c.on_burst.result c.if-request.false named heard.held_is
    (sym c.open.ensures ∙ c.in-Some.is) w (λ b is_open same. c.on_burst.ensures.answers b same before history (record { held_is = heard.held_is; is_open = is_open }) w)

pub returns-in-None-clause-answers : goal.returns-in-None-clause-answers
returns-in-None-clause-answers c = λ before history heard w.
    let queue = c.args.desk.now.queue.now in
    let s = c.args.desk.now.config.now in
    let r = shown_request c.args.request.now in
    let named = subst (λ (x : Channel). names r x.ssrc ≡ true) c.channel.ensures.value (sym c.names.ensures ∙ c.if-not-names.false) in
    request_without s c.args.desk.now.cache.now.held before history queue c.args.desk.now.visitor c.begin.new.desk.visitor r c.begin.result c.if-request.false named heard.held_is
    (sym c.open.ensures ∙ c.in-None.is) w (c.begin.ensures.answers before history heard w)
