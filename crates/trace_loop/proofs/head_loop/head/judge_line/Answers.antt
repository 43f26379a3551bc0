use Rattle.std.proofs.Common.{◌≡◌, Ok, Err, subst}
use Rattle.std.proofs.lemmas.Result.{IfOk-weaker}
use Rattle.rams_model.specs.Texts.{Reached, judged}
use Rattle.trace_text.specs.{told}
use Rattle.trace_loop.proofs.head_loop.HeadLines.{judged_turn, refused_turn}
use Rattle.trace_loop.proofs.head_loop.head.judge_line.Goals as goal

pub returns-in-Ok-clause-took : goal.returns-in-Ok-clause-took
returns-in-Ok-clause-took c =
    IfOk-weaker c.after_line.result _ _
    (λ did took stage number opened.
    let judges = subst (λ (r : Reached). judged r c.args.line.now ≡ Ok (told c.in-Ok.read, c.judge.new.self)) opened.0 c.in-Ok.ensures.ok in
    judged_turn stage number c.args.line.now (told c.in-Ok.read) c.judge.new.self _ _ _ did judges
    (took stage number (record { before = opened.1; bytes = c.args.line.now; comes = judges })))
    c.after_line.ensures.took

pub returns-in-Err-clause-took : goal.returns-in-Err-clause-took
returns-in-Err-clause-took c = λ stage number opened.
    refused_turn stage number c.args.line.now c.in-Err.fault (subst (λ (r : Reached). judged r c.args.line.now ≡ Err c.in-Err.fault) opened.0 c.in-Err.ensures.err)
