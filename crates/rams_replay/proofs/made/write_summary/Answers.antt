use Rattle.std.proofs.Common.{◌≡◌, ℕ, ◌+◌, length, ap, subst, ◌∙◌, arith}
use Rattle.line_io.proofs.Passing.{Passes-none}
use Rattle.generated.specs.summary.{made_summary}
use Rattle.rams_replay.proofs.made.write_summary.Goals as goal

pub returns-in_err-text-clause-front : goal.returns-in_err-text-clause-front
returns-in_err-text-clause-front g c =
    let text = made_summary c.args.seed c.args.blocks in
    (text, Passes-none (g.K.Sink.held c.args.sink.now) text)

pub returns-clause-steady : goal.returns-clause-steady
returns-clause-steady g c = λ steady.
    let all : length (made_summary c.args.seed c.args.blocks) ≡ length c.deref.result.now + 0 = omega (arith, ap length (c.deref.ensures.value ∙ c.in_ok-text.ensures)) in
    absurd (c.in-Err.ensures.steady 0 (subst (λ (n : ℕ). g.K.Sink.is_steady c.args.sink.now n) all steady))
