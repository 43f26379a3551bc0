use Rattle.std.proofs.Common.{◌≡◌, true, ap, sym, subst, ◌∙◌}
use Rattle.rams_model.specs.Texts.{Reached, end_line, may_come}
use Rattle.trace_loop.specs.trace_book.trace_serving.{done, ends}
use Rattle.trace_lines.specs.{shown}
use Rattle.trace_lines.specs.declared.Line.{Line}
use Rattle.takeover.specs.standby.{turn_of}
use Rattle.takeover.proofs.standby.Turning.{end_turn}
use Rattle.takeover.proofs.standby.line.after_other.Goals as goal

pub returns-in-End-clause-turn : goal.returns-in-End-clause-turn
returns-in-End-clause-turn c = λ stage number stands is.
    let old = c.args.channels.now in
    let mode = ap (λ (r : Reached). r.mode) (sym stands.lines) ∙ stands.mode in
    let may = subst (λ (r : Reached). may_come r end_line ≡ true) stands.lines (subst (λ (l : Line). may_come old.state (shown l) ≡ true) c.in-End.is c.requires.may) in
    (stage.events, subst (λ (l : Line). turn_of stage number (shown l) ≡ ends (done stage.events)) (sym c.in-End.is) (end_turn stage number mode may))
