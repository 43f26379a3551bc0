use Rattle.std.proofs.Common.{sym, ◌∙◌}
use Rattle.std.proofs.lemmas.Result.{IfOk-weaker}
use Rattle.trace_lines.specs.{shown}
use Rattle.meet_loop.proofs.Turning.{event_stage, brought_turn}
use Rattle.meet_loop.proofs.meeting.after_other.Goals as goal

pub serve-turn-requires-clause-there : goal.serve-turn-requires-clause-there
serve-turn-requires-clause-there c =
    let m = c.args.meeting.now in
    (event_stage m.world m.events m.state (shown c.args.line) c.in-Some.event c.requires.comes.0 (sym c.in_ok-event.ensures ∙ c.in-Some.is) c.requires.comes.1).there

pub returns-in-Some : goal.returns-in-Some
returns-in-Some c =
    let call = c.serve-turn in
    let m = c.args.meeting.now in
    IfOk-weaker call.result _ _
    (λ t took stage number comes.
    let brings = sym c.in_ok-event.ensures ∙ c.in-Some.is in
    let begun = event_stage m.world m.events m.state (shown c.args.line) c.in-Some.event stage brings comes in
    brought_turn stage m.state (shown c.args.line) c.in-Some.event call.new.world call.new.events call.new.notes.items number t brings
    (took (record stage { reached = m.state }) number begun.stands begun.begun_is))
    call.ensures
