use Rattle.std.proofs.Common.{rules, ◌≡◌, ◌+◌, ◌-◌, List, [], ◌++◌, length, take, Option, option_map, Result, IfErr, sym, subst, ◌∙◌, arith}
use Rattle.std.specs.Prelude.{OnOk}
use Rattle.std.proofs.lemmas.Result.{err_from_is_err_and, IfOk-weaker}
use Rattle.server_hub.specs.declared.HubEvent.{HubEvent}
use Rattle.server_hub.specs.Served.{Served}
use Rattle.trace_loop.specs.journal_book.{behind, event_lines, next_moment, sent_for, tick_at}
use Rattle.trace_loop.specs.declared.Stop.{Stop}
use Rattle.trace_loop.proofs.Stopping.{err_so}
use Rattle.serve_loop.specs.{Broken, HasRoom, IsBetween, IsOutStop, OnlyMemoryStops, next_events}
use Rattle.serve_loop.proofs.Causes.{outside_since}
use Rattle.serve_loop.proofs.Rooms.{behind_append, room_join}
use Rattle.takeover.specs.declared.takeover_loop.turns.Pace.{Pace}
use Rattle.takeover.specs.takeover_loop.{DoesWithin}
use Rattle.takeover.proofs.takeover_loop.Within.{breaks_first, does_both, done_first, none_done, regroup, room_done, room_first, some_done}
use Rattle.takeover.proofs.takeover_loop.turns.take_turn.Goals as goal

pub returns-in_err-left-clause-breaks : goal.returns-in_err-left-clause-breaks
returns-in_err-left-clause-breaks g c = λ b events arrivals moments i told shows.
    let holds = g.K.Sink.held c.take_arrival.new.sink in
    let waits = c.take_arrival.new.server.journal in
    let sent = g.W.Wire.sent c.take_arrival.new.wire in
    let p = err_from_is_err_and c.from_residual.result c.from_residual.ensures.1 in
    let tick = tick_at c.args.pace.due (next_moment moments) in
    let now = Broken b (events ++ take c.args.pace.left (next_events b arrivals ++ tick)) holds waits sent in
    let broken = c.in_err-left.ensures.breaks b events arrivals i told in
    subst (λ (r : Result (Option Pace) Stop). IfErr r now) (sym p.1) (subst now (sym p.2) (breaks_first b events (next_events b arrivals) tick c.args.pace.left holds waits sent _ broken))

pub returns-in_err-left-clause-steady : goal.returns-in_err-left-clause-steady
returns-in_err-left-clause-steady g c = λ b events arrivals moments more i told shows h.
    let tick = tick_at c.args.pace.due (next_moment moments) in
    let first = room_first (g.K.Sink.is_steady c.args.sink.now) (g.W.Wire.is_steady c.args.wire.now) c.args.server.now.journal (b.live + 1) (behind events b.channels) (next_events b arrivals) tick c.args.pace.left more h in
    let stop = c.in_err-left.ensures.steady b events arrivals _ i told first in
    let p = err_from_is_err_and c.from_residual.result c.from_residual.ensures.1 in
    subst (λ (r : Result (Option Pace) Stop). OnlyMemoryStops r (HasRoom (g.K.Sink.is_steady c.take_arrival.new.sink) (g.W.Wire.is_steady c.take_arrival.new.wire) c.take_arrival.new.server.journal [] more)) (sym p.1) (p.2 ∙ stop)

pub returns-in_default-clause-goes_on : goal.returns-in_default-clause-goes_on
returns-in_default-clause-goes_on g c = λ b events arrivals moments i told shows.
    let tick = tick_at c.args.pace.due (next_moment moments) in
    let less = none_done _ (next_events b arrivals) c.args.pace.left c.in_default.is (c.in_ok-left.ensures.within b events arrivals i told) in
    let between = c.in_ok-left.ensures.goes_on b events arrivals i told in
    let n = c.take_arrival.new.server in
    subst (λ (l : List HubEvent). IsBetween b (events ++ l) n.live n.ids.items n.hub (g.K.Sink.held c.take_arrival.new.sink) n.journal (g.W.Wire.sent c.take_arrival.new.wire)) (sym (done_first (next_events b arrivals) tick c.args.pace.left less)) between

pub returns-in_default-clause-steady : goal.returns-in_default-clause-steady
returns-in_default-clause-steady g c = λ b events arrivals moments more i told shows h.
    let tick = tick_at c.args.pace.due (next_moment moments) in
    let less = none_done _ (next_events b arrivals) c.args.pace.left c.in_default.is (c.in_ok-left.ensures.within b events arrivals i told) in
    let room = room_done (g.K.Sink.is_steady c.args.sink.now) (g.W.Wire.is_steady c.args.wire.now) c.args.server.now.journal (b.live + 1) (behind events b.channels) _ _ more (done_first (next_events b arrivals) tick c.args.pace.left less) h in
    c.in_ok-left.ensures.steady b events arrivals more i told room

pub returns-clause-within : goal.returns-clause-within
returns-clause-within g c = λ b events arrivals moments i told shows.
    let moment : c.now_ms-moment.result ≡ next_moment moments = search rules in
    let first = some_done _ c.in-Some.left (next_events b arrivals) c.args.pace.left c.in-Some.is (c.in_ok-left.ensures.within b events arrivals i told) in
    IfOk-weaker c.hear_tick.result _ _
    (λ o h. does_both (next_events b arrivals) (tick_at c.args.pace.due (next_moment moments)) c.args.pace.left c.in-Some.left _ first
    (subst (λ m. DoesWithin (tick_at c.args.pace.due m) c.in-Some.left (option_map (λ (p : Pace). p.left) o)) moment h))
    c.hear_tick.ensures.within

pub returns-clause-goes_on : goal.returns-clause-goes_on
returns-clause-goes_on g c = λ b events arrivals moments i told shows.
    let moment : c.now_ms-moment.result ≡ next_moment moments = search rules in
    let first = some_done _ c.in-Some.left (next_events b arrivals) c.args.pace.left c.in-Some.is (c.in_ok-left.ensures.within b events arrivals i told) in
    let between = c.in_ok-left.ensures.goes_on b events arrivals i told in
    let n = c.hear_tick.new.server in
    let on = c.hear_tick.ensures.goes_on b (events ++ take c.args.pace.left (next_events b arrivals)) between in
    let at = subst (λ m. OnOk c.hear_tick.result (IsBetween b ((events ++ take c.args.pace.left (next_events b arrivals)) ++ take c.in-Some.left (tick_at c.args.pace.due m)) n.live n.ids.items n.hub (g.K.Sink.held c.hear_tick.new.sink) n.journal (g.W.Wire.sent c.hear_tick.new.wire))) moment on in
    subst (λ (es : List HubEvent). OnOk c.hear_tick.result (IsBetween b es n.live n.ids.items n.hub (g.K.Sink.held c.hear_tick.new.sink) n.journal (g.W.Wire.sent c.hear_tick.new.wire)))
    (regroup events (next_events b arrivals) (tick_at c.args.pace.due (next_moment moments)) c.args.pace.left c.in-Some.left first) at

pub returns-clause-breaks : goal.returns-clause-breaks
returns-clause-breaks g c = λ b events arrivals moments i told shows.
    let moment : c.now_ms-moment.result ≡ next_moment moments = search rules in
    let first = some_done _ c.in-Some.left (next_events b arrivals) c.args.pace.left c.in-Some.is (c.in_ok-left.ensures.within b events arrivals i told) in
    let between = c.in_ok-left.ensures.goes_on b events arrivals i told in
    let n = c.hear_tick.new.server in
    let breaks = c.hear_tick.ensures.breaks b (events ++ take c.args.pace.left (next_events b arrivals)) between in
    let at = subst (λ m. IfErr c.hear_tick.result (Broken b ((events ++ take c.args.pace.left (next_events b arrivals)) ++ take c.in-Some.left (tick_at c.args.pace.due m)) (g.K.Sink.held c.hear_tick.new.sink) n.journal (g.W.Wire.sent c.hear_tick.new.wire))) moment breaks in
    subst (λ (es : List HubEvent). IfErr c.hear_tick.result (Broken b es (g.K.Sink.held c.hear_tick.new.sink) n.journal (g.W.Wire.sent c.hear_tick.new.wire)))
    (regroup events (next_events b arrivals) (tick_at c.args.pace.due (next_moment moments)) c.args.pace.left c.in-Some.left first) at

pub returns-clause-steady : goal.returns-clause-steady
returns-clause-steady g c = λ b events arrivals moments more i told shows h.
    let moment : c.now_ms-moment.result ≡ next_moment moments = search rules in
    let next = next_events b arrivals in
    let all = c.args.pace.left in
    let tick = tick_at c.args.pace.due (next_moment moments) in
    let channels = behind events b.channels in
    let done = some_done _ c.in-Some.left next all c.in-Some.is (c.in_ok-left.ensures.within b events arrivals i told) in
    let first = room_first (g.K.Sink.is_steady c.args.sink.now) (g.W.Wire.is_steady c.args.wire.now) c.args.server.now.journal (b.live + 1) channels next tick all more h in
    let after = c.in_ok-left.ensures.steady b events arrivals _ i told first in
    let between = c.in_ok-left.ensures.goes_on b events arrivals i told in
    let sink = g.K.Sink.is_steady c.take_arrival.new.sink in
    let wire = g.W.Wire.is_steady c.take_arrival.new.wire in
    let waits = c.take_arrival.new.server.journal in
    let joined = room_join sink wire waits (b.live + 1) (behind (take all next) channels) (take (all - length next) tick) more after in
    let placed = subst (λ (cs : List Served). HasRoom sink wire (waits ++ event_lines (take (all - length next) tick)) (sent_for (b.live + 1) cs (take (all - length next) tick)) more) (sym (behind_append b.channels events (take all next))) joined in
    let left_is : all - length next ≡ c.in-Some.left = omega (arith, done) in
    let counted = subst (λ n. HasRoom sink wire (waits ++ event_lines (take n tick)) (sent_for (b.live + 1) (behind (events ++ take all next) b.channels) (take n tick)) more) left_is placed in
    let at = subst (λ m. HasRoom sink wire (waits ++ event_lines (take c.in-Some.left (tick_at c.args.pace.due m))) (sent_for (b.live + 1) (behind (events ++ take all next) b.channels) (take c.in-Some.left (tick_at c.args.pace.due m))) more) (sym moment) counted in
    c.hear_tick.ensures.steady b (events ++ take all next) more between at

pub returns-in_err-left-clause-cause : goal.returns-in_err-left-clause-cause
returns-in_err-left-clause-cause g c =
    let p = err_from_is_err_and c.from_residual.result c.from_residual.ensures.1 in
    let stops = IsOutStop (g.K.Sink.faults c.args.sink.now) (g.K.Sink.faults c.take_arrival.new.sink) (g.W.Wire.faults c.args.wire.now) (g.W.Wire.faults c.take_arrival.new.wire) in
    record {
      write_later = c.take_arrival.ensures.cause.write_later;
      wire_later = c.take_arrival.ensures.cause.wire_later;
      cause = err_so c.from_residual.result p.0 c.in_err-left.field-0.0 stops p.1 p.2 c.in_err-left.ensures.cause.cause;
    }

pub returns-in_default-clause-cause : goal.returns-in_default-clause-cause
returns-in_default-clause-cause g c = record { write_later = c.take_arrival.ensures.cause.write_later; wire_later = c.take_arrival.ensures.cause.wire_later; cause = tt }

pub returns-clause-cause : goal.returns-clause-cause
returns-clause-cause g c =
    outside_since (g.K.Sink.faults c.args.sink.now) (g.K.Sink.faults c.take_arrival.new.sink) (g.K.Sink.faults c.hear_tick.new.sink) (g.W.Wire.faults c.args.wire.now) (g.W.Wire.faults c.take_arrival.new.wire) (g.W.Wire.faults c.hear_tick.new.wire) c.hear_tick.result
    c.take_arrival.ensures.cause.write_later c.take_arrival.ensures.cause.wire_later c.hear_tick.ensures.cause
