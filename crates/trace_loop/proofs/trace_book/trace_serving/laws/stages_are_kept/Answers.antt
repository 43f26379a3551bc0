use Rattle.trace_loop.proofs.trace_book.trace_serving.Steps.{opening_stage}
use Rattle.trace_loop.proofs.trace_book.trace_serving.Runs.{stages_kept}
use Rattle.trace_loop.proofs.trace_book.trace_serving.laws.stages_are_kept.Goals as goal

pub returns-clause-opening : goal.returns-clause-opening
returns-clause-opening g c = opening_stage g.S.Serves.serving

pub returns-clause-kept : goal.returns-clause-kept
returns-clause-kept g c = stages_kept g.S.Serves.serving
