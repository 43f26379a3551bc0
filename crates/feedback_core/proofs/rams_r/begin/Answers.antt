-- A client that can't be known is refused; else it goes by the choice of an access point.
use Rattle.std.proofs.Common.{sym, ◌∙◌}
use Rattle.wire_packets.specs.rams_tlv.{shown_request}
use Rattle.feedback_core.proofs.Verdicts.{begin_full, begin_refused, begin_small, begin_accepts, refused_choice}
use Rattle.feedback_core.proofs.rams_r.begin.Goals as goal

pub returns-then-is_full-clause-answers : goal.returns-then-is_full-clause-answers
returns-then-is_full-clause-answers c = λ before history heard w.
    let queue = c.args.desk.now.queue.now in
    begin_full c.args.desk.now.config.now c.args.desk.now.cache.now.held before history queue c.args.desk.now.visitor (shown_request c.args.request.now) c.refuse.result (sym c.is_full.ensures ∙ c.if-is_full.true) c.refuse.ensures w

pub accept-requires-clause-first : goal.accept-requires-clause-first
accept-requires-clause-first c =
    begin_small c.args.desk.now.config.now c.args.desk.now.cache.now.held (shown_request c.args.request.now) c.rate_of-rate.result c.in-Start.n c.in-Start.behind c.choose.result
    (record {
      channel = c.channel.result.now;
      tick = c.tick_ms.result;
      least = c.unwrap_or.result;
      channel_is = c.channel.ensures.value;
      tick_is = c.tick_ms.ensures.value;
      rate_is = c.rate_of-rate.ensures;
      least_is = c.unwrap_or.ensures;
      settings = c.args.desk.now.cache.now.settings;
      settings_are = c.requires.ready.ready.settings_are;
      choice_is = c.choose.ensures;
    })
    c.requires.ready.ready.run c.in-Start.is

pub returns-in-Start-clause-answers : goal.returns-in-Start-clause-answers
returns-in-Start-clause-answers c = λ before history heard w.
    let queue = c.args.desk.now.queue.now in
    begin_accepts c.args.desk.now.config.now c.args.desk.now.cache.now.held c.args.sender before history queue c.args.desk.now.visitor c.accept.new.desk.visitor (shown_request c.args.request.now)
    c.rate_of-rate.result c.in-Start.n c.in-Start.behind c.choose.result c.accept.result
    (record {
      channel = c.channel.result.now;
      tick = c.tick_ms.result;
      least = c.unwrap_or.result;
      channel_is = c.channel.ensures.value;
      tick_is = c.tick_ms.ensures.value;
      rate_is = c.rate_of-rate.ensures;
      least_is = c.unwrap_or.ensures;
      settings = c.args.desk.now.cache.now.settings;
      settings_are = c.requires.ready.ready.settings_are;
      choice_is = c.choose.ensures;
    })
    c.in-Start.is (sym c.is_full.ensures ∙ c.if-is_full.false) (λ h number size. c.accept.ensures.answers c.args.desk.now.cache.now.held h number size before history heard w) w

pub returns-in-NoStart-clause-answers : goal.returns-in-NoStart-clause-answers
returns-in-NoStart-clause-answers c = λ before history heard w.
    let queue = c.args.desk.now.queue.now in
    begin_refused c.args.desk.now.config.now c.args.desk.now.cache.now.held before history queue c.args.desk.now.visitor (shown_request c.args.request.now) c.rate_of-rate.result c.choose.result
    c.refuse-in-NoStart.result 507
    (record {
      channel = c.channel.result.now;
      tick = c.tick_ms.result;
      least = c.unwrap_or.result;
      channel_is = c.channel.ensures.value;
      tick_is = c.tick_ms.ensures.value;
      rate_is = c.rate_of-rate.ensures;
      least_is = c.unwrap_or.ensures;
      settings = c.args.desk.now.cache.now.settings;
      settings_are = c.requires.ready.ready.settings_are;
      choice_is = c.choose.ensures;
    })
    (λ choice. (refused_choice c.args.desk.now.cache.now.held c.choose.result _ choice).0 c.in-NoStart.is) (sym c.is_full.ensures ∙ c.if-is_full.false) c.refuse-in-NoStart.ensures w

pub returns-in-MinUnmet-clause-answers : goal.returns-in-MinUnmet-clause-answers
returns-in-MinUnmet-clause-answers c = λ before history heard w.
    let queue = c.args.desk.now.queue.now in
    begin_refused c.args.desk.now.config.now c.args.desk.now.cache.now.held before history queue c.args.desk.now.visitor (shown_request c.args.request.now) c.rate_of-rate.result c.choose.result
    c.refuse-in-MinUnmet.result 401
    (record {
      channel = c.channel.result.now;
      tick = c.tick_ms.result;
      least = c.unwrap_or.result;
      channel_is = c.channel.ensures.value;
      tick_is = c.tick_ms.ensures.value;
      rate_is = c.rate_of-rate.ensures;
      least_is = c.unwrap_or.ensures;
      settings = c.args.desk.now.cache.now.settings;
      settings_are = c.requires.ready.ready.settings_are;
      choice_is = c.choose.ensures;
    })
    (λ choice. (refused_choice c.args.desk.now.cache.now.held c.choose.result _ choice).1 c.in-MinUnmet.is) (sym c.is_full.ensures ∙ c.if-is_full.false) c.refuse-in-MinUnmet.ensures w

pub returns-in-MaxUnmet-clause-answers : goal.returns-in-MaxUnmet-clause-answers
returns-in-MaxUnmet-clause-answers c = λ before history heard w.
    let queue = c.args.desk.now.queue.now in
    begin_refused c.args.desk.now.config.now c.args.desk.now.cache.now.held before history queue c.args.desk.now.visitor (shown_request c.args.request.now) c.rate_of-rate.result c.choose.result
    c.refuse-in-MaxUnmet.result 402
    (record {
      channel = c.channel.result.now;
      tick = c.tick_ms.result;
      least = c.unwrap_or.result;
      channel_is = c.channel.ensures.value;
      tick_is = c.tick_ms.ensures.value;
      rate_is = c.rate_of-rate.ensures;
      least_is = c.unwrap_or.ensures;
      settings = c.args.desk.now.cache.now.settings;
      settings_are = c.requires.ready.ready.settings_are;
      choice_is = c.choose.ensures;
    })
    (λ choice. (refused_choice c.args.desk.now.cache.now.held c.choose.result _ choice).2 c.in-MaxUnmet.is) (sym c.is_full.ensures ∙ c.if-is_full.false) c.refuse-in-MaxUnmet.ensures w
