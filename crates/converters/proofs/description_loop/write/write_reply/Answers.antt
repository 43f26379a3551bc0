use Rattle.std.proofs.Common.{◌≡◌, ℕ, ◌+◌, length, ap, subst, arith}
use Rattle.converters.proofs.description_loop.write.write_reply.Goals as goal

pub returns-in-Err-clause-steady : goal.returns-in-Err-clause-steady
returns-in-Err-clause-steady g c = λ steady.
    let all : length c.args.reply.now.text.items ≡ length c.deref.result.now + 0 = omega (arith, ap length c.deref.ensures.value) in
    absurd (c.in-Err.ensures.steady 0 (subst (λ (n : ℕ). g.K.Sink.is_steady c.args.sink.now n) all steady))
