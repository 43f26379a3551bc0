use Rattle.std.proofs.Common.{List, ℕ, Option, ◌++◌, IfErr, sym, subst}
use Rattle.rams_model.specs.Service.{Settings}
use Rattle.server_hub.specs.Seen.{Seen}
use Rattle.trace_loop.specs.{StopsIn}
use Rattle.rams_replay.specs.{at_text, settled_text}
use Rattle.rams_replay.proofs.writer.write_at.Goals as goal

pub returns-in-Some-config-clause-front : goal.returns-in-Some-config-clause-front
returns-in-Some-config-clause-front g c =
    let call = c.write_answer in
    let at = c.args.at.now in
    let stops = λ (text : List ℕ). IfErr call.result (StopsIn (g.K.Sink.held c.args.sink.now) (g.K.Sink.held call.new.sink) (c.args.writer.now.gather ++ text) call.new.writer.gather) in
    subst (λ (o : Option Seen). stops (at_text o c.args.event at)) (sym c.in-Some.is)
    (subst (λ (o : Option Settings). stops (settled_text c.args.event at.answer o)) c.in-Some-config.ensures.value call.ensures.front)
