use Rattle.std.proofs.Common.{rules, ◌≡◌, ℕ, ◌+◌, List, [], ◌++◌, Result, IfErr, sym, subst, ◌∙◌}
use Rattle.std.proofs.lemmas.Result.{err_from_is_err_and}
use Rattle.server_hub.specs.Served.{Served}
use Rattle.trace_loop.specs.journal_book.{behind, event_lines, next_moment, sent_for, tick_at}
use Rattle.trace_loop.specs.declared.Stop.{Stop}
use Rattle.serve_loop.specs.{Broken, HasRoom, IsOutStop, OnlyMemoryStops, next_events}
use Rattle.serve_loop.proofs.Steps.{broken_more}
use Rattle.serve_loop.proofs.Rooms.{behind_append, room_for, room_split, room_join}
use Rattle.trace_loop.proofs.Stopping.{err_so}
use Rattle.serve_loop.proofs.Causes.{outside_since}
use Rattle.serve_loop.proofs.turns.take_turn.Goals as goal

pub returns-in_err-take_arrival-clause-breaks : goal.returns-in_err-take_arrival-clause-breaks
returns-in_err-take_arrival-clause-breaks g c = λ b events arrivals moments i told shows.
    let holds = g.K.Sink.held c.take_arrival.new.sink in
    let waits = c.take_arrival.new.server.journal in
    let sent = g.W.Wire.sent c.take_arrival.new.wire in
    let p = err_from_is_err_and c.from_residual.result c.from_residual.ensures.1 in
    let tick = tick_at c.args.due (next_moment moments) in
    let broken = c.in_err-take_arrival.ensures.breaks b events arrivals i told in
    subst (λ (r : Result ℕ Stop). IfErr r (Broken b ((events ++ next_events b arrivals) ++ tick) holds waits sent)) (sym p.1)
    (subst (Broken b ((events ++ next_events b arrivals) ++ tick) holds waits sent) (sym p.2) (broken_more b (events ++ next_events b arrivals) tick holds waits sent _ broken))

pub returns-in_err-take_arrival-clause-steady : goal.returns-in_err-take_arrival-clause-steady
returns-in_err-take_arrival-clause-steady g c = λ b events arrivals moments more i told shows h.
    let tick = tick_at c.args.due (next_moment moments) in
    let channels = behind events b.channels in
    let first = room_split (g.K.Sink.is_steady c.args.sink.now) (g.W.Wire.is_steady c.args.wire.now) c.args.server.now.journal (b.live + 1) channels (next_events b arrivals) tick more h in
    let stop = c.in_err-take_arrival.ensures.steady b events arrivals (room_for (b.live + 1) (behind (next_events b arrivals) channels) tick more) i told first in
    let p = err_from_is_err_and c.from_residual.result c.from_residual.ensures.1 in
    subst (λ (r : Result ℕ Stop). OnlyMemoryStops r (HasRoom (g.K.Sink.is_steady c.take_arrival.new.sink) (g.W.Wire.is_steady c.take_arrival.new.wire) c.take_arrival.new.server.journal [] more)) (sym p.1) (p.2 ∙ stop)

pub returns-clause-steady : goal.returns-clause-steady
returns-clause-steady g c = λ b events arrivals moments more i told shows h.
    let moment : c.now_ms-moment.result ≡ next_moment moments = search rules in
    let tick = tick_at c.args.due (next_moment moments) in
    let channels = behind events b.channels in
    let first = room_split (g.K.Sink.is_steady c.args.sink.now) (g.W.Wire.is_steady c.args.wire.now) c.args.server.now.journal (b.live + 1) channels (next_events b arrivals) tick more h in
    let after = c.in_ok-take_arrival.ensures.steady b events arrivals (room_for (b.live + 1) (behind (next_events b arrivals) channels) tick more) i told first in
    let between = c.in_ok-take_arrival.ensures.goes_on b events arrivals i told in
    let sink = g.K.Sink.is_steady c.take_arrival.new.sink in
    let wire = g.W.Wire.is_steady c.take_arrival.new.wire in
    let waits = c.take_arrival.new.server.journal in
    let joined = room_join sink wire waits (b.live + 1) (behind (next_events b arrivals) channels) tick more after in
    let placed = subst (λ (cs : List Served). HasRoom sink wire (waits ++ event_lines tick) (sent_for (b.live + 1) cs tick) more) (sym (behind_append b.channels events (next_events b arrivals))) joined in
    let at = subst (λ m. HasRoom sink wire (waits ++ event_lines (tick_at c.args.due m)) (sent_for (b.live + 1) (behind (events ++ next_events b arrivals) b.channels) (tick_at c.args.due m)) more) (sym moment) placed in
    c.hear_tick.ensures.steady b (events ++ next_events b arrivals) more between at

pub returns-in_err-take_arrival-clause-cause : goal.returns-in_err-take_arrival-clause-cause
returns-in_err-take_arrival-clause-cause g c =
    let p = err_from_is_err_and c.from_residual.result c.from_residual.ensures.1 in
    let stops = IsOutStop (g.K.Sink.faults c.args.sink.now) (g.K.Sink.faults c.take_arrival.new.sink) (g.W.Wire.faults c.args.wire.now) (g.W.Wire.faults c.take_arrival.new.wire) in
    record {
      write_later = c.take_arrival.ensures.cause.write_later;
      wire_later = c.take_arrival.ensures.cause.wire_later;
      cause = err_so c.from_residual.result p.0 c.in_err-take_arrival.field-0.0 stops p.1 p.2 c.in_err-take_arrival.ensures.cause.cause;
    }

pub returns-clause-cause : goal.returns-clause-cause
returns-clause-cause g c =
    outside_since (g.K.Sink.faults c.args.sink.now) (g.K.Sink.faults c.take_arrival.new.sink) (g.K.Sink.faults c.hear_tick.new.sink) (g.W.Wire.faults c.args.wire.now) (g.W.Wire.faults c.take_arrival.new.wire) (g.W.Wire.faults c.hear_tick.new.wire) c.hear_tick.result
    c.take_arrival.ensures.cause.write_later c.take_arrival.ensures.cause.wire_later c.hear_tick.ensures.cause
