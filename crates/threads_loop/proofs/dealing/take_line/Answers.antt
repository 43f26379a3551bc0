use Rattle.std.proofs.Common.{◌≡◌, Option, Ok, Err, refl, sym, subst}
use Rattle.std.proofs.lemmas.Result.{IfOk-weaker}
use Rattle.rams_model.specs.Texts.{Reached, judged}
use Rattle.trace_text.specs.{told}
use Rattle.server_hub.specs.declared.HubEvent.{HubEvent}
use Rattle.threads_loop.specs.{threads, Grows}
use Rattle.trace_loop.proofs.EndedTurns.{refused_turn}
use Rattle.threads_loop.proofs.LineByLine.{judged_turn, brings_so}
use Rattle.threads_loop.proofs.Taking.{with_state}
use Rattle.threads_loop.proofs.dealing.take_line.Goals as goal

pub returns-in-Ok-clause-took : goal.returns-in-Ok-clause-took
returns-in-Ok-clause-took c =
    IfOk-weaker c.after_line.result _ _
    (λ does took stage number dealt.
    let d = c.args.dealt.now in
    let judges = subst (λ (r : Reached). judged r c.args.line.now ≡ Ok (told c.in-Ok.read, c.judge.new.self)) dealt.0 c.in-Ok.ensures.ok in
    judged_turn c.after_line.new.dealt stage number c.args.line.now (told c.in-Ok.read) c.judge.new.self does judges (took stage number (record { before = with_state d (record d { state = c.judge.new.self }) stage dealt.1 refl refl refl refl; comes = judges })))
    c.after_line.ensures.took

pub returns-in-Ok-clause-head : goal.returns-in-Ok-clause-head
returns-in-Ok-clause-head c =
    let d = c.args.dealt.now in
    let n = c.after_line.new.dealt in
    IfOk-weaker c.after_line.result _ _
    (λ does grows. subst (λ (o : Option HubEvent). Grows does d.head.items n.head.items c.args.line.now o) (sym (brings_so d.state c.judge.new.self c.args.line.now (told c.in-Ok.read) c.in-Ok.ensures.ok)) grows)
    c.after_line.ensures.head

pub returns-in-Err-clause-took : goal.returns-in-Err-clause-took
returns-in-Err-clause-took c = λ stage number dealt.
    refused_turn threads stage number c.args.line.now c.in-Err.fault (subst (λ (r : Reached). judged r c.args.line.now ≡ Err c.in-Err.fault) dealt.0 c.in-Err.ensures.err)
