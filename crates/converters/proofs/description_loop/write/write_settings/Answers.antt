use Rattle.converters.specs.description_loop.{settings_outcome}
use Rattle.converters.proofs.description_loop.Outcomes.{unwritten}
use Rattle.converters.proofs.description_loop.write.write_settings.Goals as goal

pub returns-in_err-reply-clause-front : goal.returns-in_err-reply-clause-front
returns-in_err-reply-clause-front g c = unwritten settings_outcome (g.K.Sink.held c.args.sink.now) (g.S.Source.left c.args.source.now)
