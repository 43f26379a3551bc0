use Rattle.std.proofs.Common.{List, ℕ, ◌++◌, IfErr, sym, subst}
use Rattle.server_hub.specs.declared.HubAnswer.{HubAnswer}
use Rattle.server_hub.specs.{told}
use Rattle.trace_loop.specs.{StopsIn}
use Rattle.rams_replay.specs.{told_text}
use Rattle.rams_replay.proofs.Telling.{one_is_told}
use Rattle.rams_replay.proofs.writer.write_said.Goals as goal

pub returns-in-NoChannel-clause-front : goal.returns-in-NoChannel-clause-front
returns-in-NoChannel-clause-front g c =
    let call = c.write_no_channel in
    subst (λ (a : HubAnswer). IfErr call.result (StopsIn (g.K.Sink.held c.args.sink.now) (g.K.Sink.held call.new.sink) (c.args.writer.now.gather ++ told_text c.args.hub.now c.args.event (told a)) call.new.writer.gather))
    (sym c.in-NoChannel.is) call.ensures.front

pub returns-in-Answer-clause-front : goal.returns-in-Answer-clause-front
returns-in-Answer-clause-front g c =
    let call = c.write_at in
    let held = g.K.Sink.held c.args.sink.now in
    let holds = g.K.Sink.held call.new.sink in
    subst (λ (a : HubAnswer). IfErr call.result (StopsIn held holds (c.args.writer.now.gather ++ told_text c.args.hub.now c.args.event (told a)) call.new.writer.gather)) (sym c.in-Answer.is)
    (subst (λ (text : List ℕ). IfErr call.result (StopsIn held holds (c.args.writer.now.gather ++ text) call.new.writer.gather)) (sym (one_is_told c.args.hub.now c.args.event c.in-Answer.at)) call.ensures.front)
