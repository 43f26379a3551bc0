use Rattle.serve_loop.proofs.Closing.{nothing_alone}
use Rattle.serve_loop.proofs.Steps.{each_error}
use Rattle.serve_loop.proofs.serving.serve.Goals as goal

pub returns-in_err-line-clause-stopped : goal.returns-in_err-line-clause-stopped
returns-in_err-line-clause-stopped g c = λ given is. each_error c.from_residual.result _ (λ stop. nothing_alone given (g.K.Sink.held c.args.sink.now) (g.W.Wire.sent c.args.wire.now))
