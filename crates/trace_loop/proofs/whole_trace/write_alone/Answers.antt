use Rattle.std.proofs.Common.{◌≡◌, ◌+◌, length, subst, arith}
use Rattle.std.specs.Prelude.{IsOkAnd}
use Rattle.trace_loop.proofs.whole_trace.write_alone.Goals as goal

pub returns-in-Err-clause-steady : goal.returns-in-Err-clause-steady
returns-in-Err-clause-steady g c = λ h.
    let room : length c.args.line.now ≡ length c.args.line.now + 0 = omega arith in
    let ok = c.put_all.ensures.steady 0 (subst (g.K.Sink.is_steady c.args.sink.now) room h) in
    absurd (subst (λ r. IsOkAnd r (λ _. g.K.Sink.is_steady c.put_all.new.sink 0)) c.in-Err.is ok)
