use Rattle.line_io.proofs.Passing.{Passes-then}
use Rattle.takeover.specs.takeover_loop.{outcome_of}
use Rattle.takeover.proofs.takeover_loop.taking.refuse.Goals as goal
use Rattle.serve_loop.proofs.Closing.{alone}

pub returns-in_err-flush-clause-front : goal.returns-in_err-flush-clause-front
returns-in_err-flush-clause-front g c =
    let text = (outcome_of c.args.fault).text in
    let put = alone (g.K.Sink.held c.args.sink.now) (g.K.Sink.held c.put_fault.new.sink) c.args.journal text c.put_fault.new.journal c.requires c.in_ok-status.ensures.all in
    let front = c.flush.ensures.prefix in
    (front.0, Passes-then (g.K.Sink.held c.args.sink.now) (g.K.Sink.held c.put_fault.new.sink) (g.K.Sink.held c.flush.new.sink) text c.put_fault.new.journal front.0 put front.1)

pub returns-clause-front : goal.returns-clause-front
returns-clause-front g c =
    let text = (outcome_of c.args.fault).text in
    let put = alone (g.K.Sink.held c.args.sink.now) (g.K.Sink.held c.put_fault.new.sink) c.args.journal text c.put_fault.new.journal c.requires c.in_ok-status.ensures.all in
    let front = c.flush.ensures.prefix in
    (front.0, Passes-then (g.K.Sink.held c.args.sink.now) (g.K.Sink.held c.put_fault.new.sink) (g.K.Sink.held c.flush.new.sink) text c.put_fault.new.journal front.0 put front.1)
