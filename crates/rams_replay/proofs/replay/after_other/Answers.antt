use Rattle.std.proofs.Common.{ℕ, Some, List, sym, ◌∙◌, refl, subst}
use Rattle.std.proofs.lemmas.Result.{IfOk-weaker}
use Rattle.server_hub.specs.declared.HubEvent.TheVariants as events
use Rattle.server_hub.specs.Seen.{Seen}
use Rattle.rams_model.specs.Texts.{head_line, live_line, feedback_line, tick_line}
use Rattle.trace_loop.specs.trace_book.trace_serving.{after_line, counted, eventless, brought}
use Rattle.trace_loop.specs.trace_book.{run}
use Rattle.trace_lines.specs.declared.Line.{Line}
use Rattle.trace_lines.specs.{shown}
use Rattle.trace_loop.specs.declared.Turn.TheVariants.{GoesOn}
use Rattle.rams_replay.specs.{Comes, Took}
use Rattle.rams_replay.proofs.Opening.{head_bounds, head_turn}
use Rattle.rams_replay.proofs.Turning.{event_stage, event_has_hub, receiver_turn}
use Rattle.rams_replay.proofs.replay.after_other.Goals as goal

pub new-requires-clause-tick_least : goal.new-requires-clause-tick_least
new-requires-clause-tick_least c =
    let r = c.args.replay.now in
    (head_bounds r.hub r.events c.in-Head.version c.in-Head.tick_ms c.in-Head.link r.state c.requires.comes.0
    (subst (λ (l : Line). Comes r.hub r.events r.state (shown l) c.requires.comes.0) c.in-Head.is c.requires.comes.1)).tick_least

pub new-requires-clause-tick_most : goal.new-requires-clause-tick_most
new-requires-clause-tick_most c =
    let r = c.args.replay.now in
    (head_bounds r.hub r.events c.in-Head.version c.in-Head.tick_ms c.in-Head.link r.state c.requires.comes.0
    (subst (λ (l : Line). Comes r.hub r.events r.state (shown l) c.requires.comes.0) c.in-Head.is c.requires.comes.1)).tick_most

pub new-requires-clause-link_least : goal.new-requires-clause-link_least
new-requires-clause-link_least c =
    let r = c.args.replay.now in
    (head_bounds r.hub r.events c.in-Head.version c.in-Head.tick_ms c.in-Head.link r.state c.requires.comes.0
    (subst (λ (l : Line). Comes r.hub r.events r.state (shown l) c.requires.comes.0) c.in-Head.is c.requires.comes.1)).link_least

pub new-requires-clause-link_most : goal.new-requires-clause-link_most
new-requires-clause-link_most c =
    let r = c.args.replay.now in
    (head_bounds r.hub r.events c.in-Head.version c.in-Head.tick_ms c.in-Head.link r.state c.requires.comes.0
    (subst (λ (l : Line). Comes r.hub r.events r.state (shown l) c.requires.comes.0) c.in-Head.is c.requires.comes.1)).link_most

pub serve-requires-clause-there : goal.serve-requires-clause-there
serve-requires-clause-there c =
    let r = c.args.replay.now in
    event_has_hub r.hub r.events r.state (live_line c.in-Live.id c.in-Live.hex.now) c.requires.comes.0
    (subst (λ (l : Line). Comes r.hub r.events r.state (shown l) c.requires.comes.0) c.in-Live.is c.requires.comes.1) refl

pub serve-requires-in-Feedback-clause-there : goal.serve-requires-in-Feedback-clause-there
serve-requires-in-Feedback-clause-there c =
    let r = c.args.replay.now in
    event_has_hub r.hub r.events r.state (feedback_line c.in-Feedback.id c.in-Feedback.client c.in-Feedback.hex.now) c.requires.comes.0
    (subst (λ (l : Line). Comes r.hub r.events r.state (shown l) c.requires.comes.0) c.in-Feedback.is c.requires.comes.1) refl

pub serve-requires-in-Tick-clause-there : goal.serve-requires-in-Tick-clause-there
serve-requires-in-Tick-clause-there c =
    let r = c.args.replay.now in
    event_has_hub r.hub r.events r.state tick_line c.requires.comes.0
    (subst (λ (l : Line). Comes r.hub r.events r.state (shown l) c.requires.comes.0) c.in-Tick.is c.requires.comes.1) refl

pub returns-in_ok-new-in-Head : goal.returns-in_ok-new-in-Head
returns-in_ok-new-in-Head c = λ stage number comes.
    let r = c.args.replay.now in
    let head = head_line c.in-Head.version c.in-Head.tick_ms c.in-Head.link in
    let come = subst (λ (l : Line). Comes r.hub r.events r.state (shown l) stage) c.in-Head.is comes in
    subst (λ (l : Line). Took (after_line run stage r.state (shown l) (brought run (shown l))) (Some c.in_ok-new-in-Head.field-0) r.events r.state number GoesOn) (sym c.in-Head.is)
    (subst (λ (v : Seen). Took (eventless run stage r.state head) (Some v) r.events r.state number GoesOn) (sym c.in_ok-new-in-Head.ensures.value)
    (head_turn r.hub r.events c.in-Head.version c.in-Head.tick_ms c.in-Head.link number r.state stage come))

pub returns-in_ok-decode_to-in-Live : goal.returns-in_ok-decode_to-in-Live
returns-in_ok-decode_to-in-Live c =
    let call = c.serve in
    let r = c.args.replay.now in
    let line = live_line c.in-Live.id c.in-Live.hex.now in
    IfOk-weaker call.result _ _
    (λ t took stage number comes.
    let come = subst (λ (l : Line). Comes r.hub r.events r.state (shown l) stage) c.in-Live.is comes in
    subst (λ (l : Line). Took (after_line run stage r.state (shown l) (brought run (shown l))) call.new.hub call.new.events r.state number t) (sym c.in-Live.is)
    (subst (λ (b : List ℕ). Took (counted run stage r.state (events.Live c.in-Live.id b)) call.new.hub call.new.events r.state number t)
    (c.deref.ensures.value ∙ c.in_ok-decode_to-in-Live.ensures)
    (took (record stage { reached = r.state }) number (event_stage r.hub r.events r.state line stage come refl))))
    call.ensures

pub returns-in_ok-decode_to-in-Feedback : goal.returns-in_ok-decode_to-in-Feedback
returns-in_ok-decode_to-in-Feedback c =
    let call = c.serve-in-Feedback in
    let r = c.args.replay.now in
    let line = feedback_line c.in-Feedback.id c.in-Feedback.client c.in-Feedback.hex.now in
    IfOk-weaker call.result _ _
    (λ t took stage number comes.
    let come = subst (λ (l : Line). Comes r.hub r.events r.state (shown l) stage) c.in-Feedback.is comes in
    subst (λ (l : Line). Took (after_line run stage r.state (shown l) (brought run (shown l))) call.new.hub call.new.events r.state number t) (sym c.in-Feedback.is)
    (subst (λ (b : List ℕ). Took (counted run stage r.state (events.Feedback c.in-Feedback.id c.in-Feedback.client b)) call.new.hub call.new.events r.state number t)
    (c.deref-in-Feedback.ensures.value ∙ c.in_ok-decode_to-in-Feedback.ensures)
    (took (record stage { reached = r.state }) number (event_stage r.hub r.events r.state line stage come refl))))
    call.ensures

pub returns-in-Tick : goal.returns-in-Tick
returns-in-Tick c =
    let call = c.serve-in-Tick in
    let r = c.args.replay.now in
    IfOk-weaker call.result _ _
    (λ t took stage number comes.
    let come = subst (λ (l : Line). Comes r.hub r.events r.state (shown l) stage) c.in-Tick.is comes in
    subst (λ (l : Line). Took (after_line run stage r.state (shown l) (brought run (shown l))) call.new.hub call.new.events r.state number t) (sym c.in-Tick.is)
    (took (record stage { reached = r.state }) number (event_stage r.hub r.events r.state tick_line stage come refl)))
    call.ensures

pub returns-in-Tune : goal.returns-in-Tune
returns-in-Tune c = λ stage number comes.
    let r = c.args.replay.now in
    receiver_turn r.hub r.events number r.state stage c.args.line comes c.requires.other c.in-Tune.is
