use Rattle.std.proofs.Common.{◌≡◌, Ok, Err, refl, subst}
use Rattle.std.proofs.lemmas.Result.{IfOk-weaker}
use Rattle.rams_model.specs.Texts.{Reached, judged}
use Rattle.trace_text.specs.{told}
use Rattle.pool.proofs.pool_loop.LineByLine.{judged_turn}
use Rattle.pool.proofs.pool_loop.Taking.{with_state}
use Rattle.trace_loop.proofs.EndedTurns.{refused_turn}
use Rattle.pool.specs.pool_loop.{pool}
use Rattle.pool.proofs.pool_loop.dealing.take_line.Goals as goal

pub after_line-requires-clause-comes : goal.after_line-requires-clause-comes
after_line-requires-clause-comes c =
    let d = c.args.dealt.now in
    let came = c.requires.0 in
    let stage = c.requires.1 in
    let dealt = c.requires.2 in
    let judges = subst (λ (r : Reached). judged r c.args.line.now ≡ Ok (told c.in-Ok.read, c.judge.new.self)) dealt.0 c.in-Ok.ensures.ok in
    (came, c.args.line.now, stage, record { before = with_state d (record d { state = c.judge.new.self }) came stage dealt.1 refl refl; comes = judges })

pub returns-in-Ok : goal.returns-in-Ok
returns-in-Ok c =
    IfOk-weaker c.after_line.result _ _
    (λ does took came stage number dealt.
    let d = c.args.dealt.now in
    let judges = subst (λ (r : Reached). judged r c.args.line.now ≡ Ok (told c.in-Ok.read, c.judge.new.self)) dealt.0 c.in-Ok.ensures.ok in
    judged_turn c.after_line.new.dealt came stage number c.args.line.now (told c.in-Ok.read) c.judge.new.self does judges
    (took came c.args.line.now stage number (record { before = with_state d (record d { state = c.judge.new.self }) came stage dealt.1 refl refl; comes = judges })))
    c.after_line.ensures

pub returns-in-Err : goal.returns-in-Err
returns-in-Err c = λ came stage number dealt.
    refused_turn pool stage number c.args.line.now c.in-Err.fault (subst (λ (r : Reached). judged r c.args.line.now ≡ Err c.in-Err.fault) dealt.0 c.in-Err.ensures.err)
