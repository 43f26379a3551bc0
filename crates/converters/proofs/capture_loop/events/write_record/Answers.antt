use Rattle.std.proofs.Common.{◌≡◌, ℕ, ◌+◌, ◌<◌, List, ◌++◌, length, take, Option, None, Some, option_map, MatchOption, sym, subst}
use Rattle.std.specs.Prelude.{All, IfSome}
use Rattle.std.proofs.lemmas.Result.{err_from_is_err_and}
use Rattle.line_io.specs.Passes.{Passes}
use Rattle.server_hub.specs.declared.{Heard.Heard, HubEvent.HubEvent}
use Rattle.server_hub.specs.{event_of}
use Rattle.trace_loop.specs.journal_book.{CanCome, HasLine, event_lines}
use Rattle.trace_loop.specs.{StopsIn}
use Rattle.converters.specs.capture_loop.{Numbered, ticks_and}
use Rattle.converters.proofs.capture_loop.Bringing.{events_are, events_spelled, frame_is}
use Rattle.trace_loop.proofs.Stopping.{err_so, only_err}
use Rattle.converters.proofs.capture_loop.events.write_record.Goals as goal

abbrev event : Option Heard → Option HubEvent
event heard = option_map (λ h. event_of h) heard

can_come : (o : Option Heard) → IfSome o (λ h. CanCome (event_of h)) → IfSome (event o) CanCome
can_come None can = tt
can_come (Some h) can = can

pub returns-in_err-left-clause-spelled : goal.returns-in_err-left-clause-spelled
returns-in_err-left-clause-spelled g c = λ channels numbered.
    let are = events_are c.args.port channels c.args.progress.now.due c.args.header c.args.intake.now _ c.ticks_before-ticks.result (event c.frame_heard-heard.result) c.ticks_before-ticks.ensures.ticks (c.frame_heard-heard.ensures.heard channels (subst (λ (l : List ℕ). Numbered l channels) (sym c.deref.ensures.value) numbered))
    (frame_is c.bytes.result.now c.args.intake.now c.args.header.len c.bytes.ensures) in
    subst (All HasLine) are (events_spelled c.turns_make_journals.ensures.spelled c.ticks_before-ticks.result (event c.frame_heard-heard.result) (can_come c.frame_heard-heard.result (c.frame_heard-heard.ensures.spelled channels (subst (λ (l : List ℕ). Numbered l channels) (sym c.deref.ensures.value) numbered))))

pub returns-in-Some-clause-spelled : goal.returns-in-Some-clause-spelled
returns-in-Some-clause-spelled g c = λ channels numbered.
    let are = events_are c.args.port channels c.args.progress.now.due c.args.header c.args.intake.now _ c.ticks_before-ticks.result (event c.frame_heard-heard.result) c.ticks_before-ticks.ensures.ticks (c.frame_heard-heard.ensures.heard channels (subst (λ (l : List ℕ). Numbered l channels) (sym c.deref.ensures.value) numbered))
    (frame_is c.bytes.result.now c.args.intake.now c.args.header.len c.bytes.ensures) in
    subst (All HasLine) are (events_spelled c.turns_make_journals.ensures.spelled c.ticks_before-ticks.result (event c.frame_heard-heard.result) (can_come c.frame_heard-heard.result (c.frame_heard-heard.ensures.spelled channels (subst (λ (l : List ℕ). Numbered l channels) (sym c.deref.ensures.value) numbered))))

pub returns-in-None-clause-spelled : goal.returns-in-None-clause-spelled
returns-in-None-clause-spelled g c = λ channels numbered.
    let are = events_are c.args.port channels c.args.progress.now.due c.args.header c.args.intake.now _ c.ticks_before-ticks.result (event c.frame_heard-heard.result) c.ticks_before-ticks.ensures.ticks (c.frame_heard-heard.ensures.heard channels (subst (λ (l : List ℕ). Numbered l channels) (sym c.deref.ensures.value) numbered))
    (frame_is c.bytes.result.now c.args.intake.now c.args.header.len c.bytes.ensures) in
    subst (All HasLine) are (events_spelled c.turns_make_journals.ensures.spelled c.ticks_before-ticks.result (event c.frame_heard-heard.result) (can_come c.frame_heard-heard.result (c.frame_heard-heard.ensures.spelled channels (subst (λ (l : List ℕ). Numbered l channels) (sym c.deref.ensures.value) numbered))))

pub returns-in_err-left-clause-front : goal.returns-in_err-left-clause-front
returns-in_err-left-clause-front g c = λ channels numbered.
    let p = err_from_is_err_and c.from_residual.result c.from_residual.ensures.1 in
    let are = events_are c.args.port channels c.args.progress.now.due c.args.header c.args.intake.now _ c.ticks_before-ticks.result (event c.frame_heard-heard.result) c.ticks_before-ticks.ensures.ticks (c.frame_heard-heard.ensures.heard channels (subst (λ (l : List ℕ). Numbered l channels) (sym c.deref.ensures.value) numbered))
    (frame_is c.bytes.result.now c.args.intake.now c.args.header.len c.bytes.ensures) in
    err_so c.from_residual.result p.0 c.in_err-left.field-0.0 _ p.1 p.2
    (subst (λ (es : List HubEvent). StopsIn (g.K.Sink.held c.args.sink.now) (g.K.Sink.held c.write_events.new.sink) (c.args.gather.now ++ event_lines (take c.args.progress.now.room es)) c.write_events.new.gather c.in_err-left.field-0.0) are c.in_err-left.ensures.front)

pub returns-in_err-left-clause-steady : goal.returns-in_err-left-clause-steady
returns-in_err-left-clause-steady g c = λ channels more numbered h.
    let p = err_from_is_err_and c.from_residual.result c.from_residual.ensures.1 in
    let are = events_are c.args.port channels c.args.progress.now.due c.args.header c.args.intake.now _ c.ticks_before-ticks.result (event c.frame_heard-heard.result) c.ticks_before-ticks.ensures.ticks (c.frame_heard-heard.ensures.heard channels (subst (λ (l : List ℕ). Numbered l channels) (sym c.deref.ensures.value) numbered))
    (frame_is c.bytes.result.now c.args.intake.now c.args.header.len c.bytes.ensures) in
    only_err c.from_residual.result p.0 c.in_err-left.field-0.0 _ p.1 p.2
    (c.in_err-left.ensures.steady more (subst (λ (es : List HubEvent). g.K.Sink.is_steady c.args.sink.now (length c.args.gather.now + length (event_lines (take c.args.progress.now.room es)) + more)) (sym are) h))

pub returns-in-Some-clause-fits : goal.returns-in-Some-clause-fits
returns-in-Some-clause-fits g c = λ channels numbered.
    let are = events_are c.args.port channels c.args.progress.now.due c.args.header c.args.intake.now _ c.ticks_before-ticks.result (event c.frame_heard-heard.result) c.ticks_before-ticks.ensures.ticks (c.frame_heard-heard.ensures.heard channels (subst (λ (l : List ℕ). Numbered l channels) (sym c.deref.ensures.value) numbered))
    (frame_is c.bytes.result.now c.args.intake.now c.args.header.len c.bytes.ensures) in
    let left = subst (λ (o : Option ℕ). MatchOption o (c.args.progress.now.room < length (ticks_and c.ticks_before-ticks.result (event c.frame_heard-heard.result))) (λ n. n + length (ticks_and c.ticks_before-ticks.result (event c.frame_heard-heard.result)) ≡ c.args.progress.now.room)) c.in-Some.is c.in_ok-left.ensures.left in
    subst (λ (es : List HubEvent). c.in-Some.room + length es ≡ c.args.progress.now.room) are left

pub returns-in-Some-clause-all : goal.returns-in-Some-clause-all
returns-in-Some-clause-all g c = λ channels numbered.
    let are = events_are c.args.port channels c.args.progress.now.due c.args.header c.args.intake.now _ c.ticks_before-ticks.result (event c.frame_heard-heard.result) c.ticks_before-ticks.ensures.ticks (c.frame_heard-heard.ensures.heard channels (subst (λ (l : List ℕ). Numbered l channels) (sym c.deref.ensures.value) numbered))
    (frame_is c.bytes.result.now c.args.intake.now c.args.header.len c.bytes.ensures) in
    subst (λ (es : List HubEvent). Passes (g.K.Sink.held c.args.sink.now) (g.K.Sink.held c.write_events.new.sink) (c.args.gather.now ++ event_lines (take c.args.progress.now.room es)) c.write_events.new.gather) are c.in_ok-left.ensures.all

pub returns-in-Some-clause-steady : goal.returns-in-Some-clause-steady
returns-in-Some-clause-steady g c = λ channels more numbered h.
    let are = events_are c.args.port channels c.args.progress.now.due c.args.header c.args.intake.now _ c.ticks_before-ticks.result (event c.frame_heard-heard.result) c.ticks_before-ticks.ensures.ticks (c.frame_heard-heard.ensures.heard channels (subst (λ (l : List ℕ). Numbered l channels) (sym c.deref.ensures.value) numbered))
    (frame_is c.bytes.result.now c.args.intake.now c.args.header.len c.bytes.ensures) in
    c.in_ok-left.ensures.steady more (subst (λ (es : List HubEvent). g.K.Sink.is_steady c.args.sink.now (length c.args.gather.now + length (event_lines (take c.args.progress.now.room es)) + more)) (sym are) h)

pub returns-in-None-clause-fits : goal.returns-in-None-clause-fits
returns-in-None-clause-fits g c = λ channels numbered.
    let are = events_are c.args.port channels c.args.progress.now.due c.args.header c.args.intake.now _ c.ticks_before-ticks.result (event c.frame_heard-heard.result) c.ticks_before-ticks.ensures.ticks (c.frame_heard-heard.ensures.heard channels (subst (λ (l : List ℕ). Numbered l channels) (sym c.deref.ensures.value) numbered))
    (frame_is c.bytes.result.now c.args.intake.now c.args.header.len c.bytes.ensures) in
    let left = subst (λ (o : Option ℕ). MatchOption o (c.args.progress.now.room < length (ticks_and c.ticks_before-ticks.result (event c.frame_heard-heard.result))) (λ n. n + length (ticks_and c.ticks_before-ticks.result (event c.frame_heard-heard.result)) ≡ c.args.progress.now.room)) c.in-None.is c.in_ok-left.ensures.left in
    subst (λ (es : List HubEvent). c.args.progress.now.room < length es) are left

pub returns-in-None-clause-all : goal.returns-in-None-clause-all
returns-in-None-clause-all g c = λ channels numbered.
    let are = events_are c.args.port channels c.args.progress.now.due c.args.header c.args.intake.now _ c.ticks_before-ticks.result (event c.frame_heard-heard.result) c.ticks_before-ticks.ensures.ticks (c.frame_heard-heard.ensures.heard channels (subst (λ (l : List ℕ). Numbered l channels) (sym c.deref.ensures.value) numbered))
    (frame_is c.bytes.result.now c.args.intake.now c.args.header.len c.bytes.ensures) in
    subst (λ (es : List HubEvent). Passes (g.K.Sink.held c.args.sink.now) (g.K.Sink.held c.write_events.new.sink) (c.args.gather.now ++ event_lines (take c.args.progress.now.room es)) c.write_events.new.gather) are c.in_ok-left.ensures.all

pub returns-in-None-clause-steady : goal.returns-in-None-clause-steady
returns-in-None-clause-steady g c = λ channels more numbered h.
    let are = events_are c.args.port channels c.args.progress.now.due c.args.header c.args.intake.now _ c.ticks_before-ticks.result (event c.frame_heard-heard.result) c.ticks_before-ticks.ensures.ticks (c.frame_heard-heard.ensures.heard channels (subst (λ (l : List ℕ). Numbered l channels) (sym c.deref.ensures.value) numbered))
    (frame_is c.bytes.result.now c.args.intake.now c.args.header.len c.bytes.ensures) in
    c.in_ok-left.ensures.steady more (subst (λ (es : List HubEvent). g.K.Sink.is_steady c.args.sink.now (length c.args.gather.now + length (event_lines (take c.args.progress.now.room es)) + more)) (sym are) h)
