use Rattle.std.proofs.Common.{◌≡◌, Ok, Err, subst}
use Rattle.std.proofs.lemmas.Result.{IfOk-weaker}
use Rattle.rams_model.specs.Texts.{Reached, judged}
use Rattle.trace_text.specs.{told}
use Rattle.rams_replay.proofs.Turning.{comes_next, judged_turn, refused_turn}
use Rattle.rams_replay.proofs.replay.take_line.Goals as goal

pub after_line-requires-clause-comes : goal.after_line-requires-clause-comes
after_line-requires-clause-comes c =
    (c.requires.0, comes_next _ _ _ c.judge.new.self c.args.line.now (told c.in-Ok.read) c.requires.0 c.requires.1 c.in-Ok.ensures.ok)

pub returns-in-Ok : goal.returns-in-Ok
returns-in-Ok c =
    IfOk-weaker c.after_line.result _ _
    (λ t took stage number stands.
    judged_turn stage number c.args.line.now (told c.in-Ok.read) c.judge.new.self _ _ _ t
    (subst (λ (r : Reached). judged r c.args.line.now ≡ Ok (told c.in-Ok.read, c.judge.new.self)) stands.lines c.in-Ok.ensures.ok)
    (took stage number (comes_next _ _ _ c.judge.new.self c.args.line.now (told c.in-Ok.read) stage stands c.in-Ok.ensures.ok)))
    c.after_line.ensures

pub returns-in-Err : goal.returns-in-Err
returns-in-Err c = λ stage number stands.
    refused_turn stage number c.args.line.now c.in-Err.fault _ _ _
    (subst (λ (r : Reached). judged r c.args.line.now ≡ Err c.in-Err.fault) stands.lines c.in-Err.ensures.err)
