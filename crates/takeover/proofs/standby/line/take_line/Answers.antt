use Rattle.std.proofs.Common.{◌≡◌, List, Ok, Err, ap, sym, subst, ◌∙◌}
use Rattle.std.specs.Prelude.{is_ok}
use Rattle.rams_model.specs.Texts.{Reached, judged}
use Rattle.server_hub.specs.Served.{Served}
use Rattle.trace_loop.specs.trace_book.trace_serving.{Turn}
use Rattle.trace_loop.proofs.head_loop.HeadLines.{refused_turn}
use Rattle.trace_text.specs.{told}
use Rattle.takeover.specs.standby.{Stands, Took}
use Rattle.takeover.proofs.standby.Turning.{judged_turn}
use Rattle.takeover.proofs.standby.line.take_line.Goals as goal

pub after_line-requires-clause-accepted : goal.after_line-requires-clause-accepted
after_line-requires-clause-accepted c = ap is_ok c.in-Ok.ensures.ok.accepts

pub returns-in-Ok-clause-turn : goal.returns-in-Ok-clause-turn
returns-in-Ok-clause-turn c = λ stage number stands is.
    let new = c.after_line.new.channels in
    let j = c.in-Ok.ensures.ok in
    let judges = subst (λ (r : Reached). judged r c.args.line.now ≡ Ok (told c.in-Ok.read, j.later)) stands.lines j.judges in
    subst (λ (was : Turn (List Served)). Took c.after_line.result was (Stands new.hub new.ids.items new.events new.state) number)
    (sym (judged_turn stage number c.args.line.now (told c.in-Ok.read) j.later judges))
    (c.after_line.ensures.turn stage number stands is)

pub returns-in-Err-clause-turn : goal.returns-in-Err-clause-turn
returns-in-Err-clause-turn c = λ stage number stands is. (
  c.next_number-line.ensures ∙ sym is,
  refused_turn stage number c.args.line.now c.in-Err.fault (subst (λ (r : Reached). judged r c.args.line.now ≡ Err c.in-Err.fault) stands.lines c.in-Err.ensures.err),
)
