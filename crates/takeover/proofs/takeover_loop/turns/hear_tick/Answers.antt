use Rattle.std.proofs.Common.{◌+◌, List, [], ◌++◌, take, refl, ap, sym, subst, ◌∙◌, arith}
use Rattle.std.proofs.lemmas.Result.{err_from_is_err_and}
use Rattle.server_hub.specs.declared.HubEvent.{HubEvent}
use Rattle.trace_loop.specs.journal_book.{behind, event_lines, sent_for, tick_at}
use Rattle.trace_loop.proofs.Stopping.{err_so, only_err}
use Rattle.serve_loop.specs.{Broken, HasRoom, IsBetween, IsOutStop}
use Rattle.serve_loop.proofs.Between.{no_tick_due, tick_due}
use Rattle.serve_loop.proofs.Rooms.{room_none}
use Rattle.takeover.specs.takeover_loop.{DoesWithin}
use Rattle.takeover.proofs.takeover_loop.Within.{all_within}
use Rattle.takeover.proofs.takeover_loop.turns.hear_tick.Goals as goal

pub returns-then-moment-pace-clause-steady : goal.returns-then-moment-pace-clause-steady
returns-then-moment-pace-clause-steady g c = λ b events more i h.
    let none = ap (take c.args.pace.left) (no_tick_due c.args.pace.due c.args.moment c.if-moment-pace.true) ∙ all_within c.args.pace.left [] (omega arith) in
    room_none (g.K.Sink.is_steady c.args.sink.now) (g.W.Wire.is_steady c.args.wire.now) c.args.server.now.journal (b.live + 1) (behind events b.channels) (take c.args.pace.left (tick_at c.args.pace.due c.args.moment)) more none h

pub returns-in_err-left-clause-breaks : goal.returns-in_err-left-clause-breaks
returns-in_err-left-clause-breaks g c = λ b events i.
    let p = err_from_is_err_and c.from_residual.result c.from_residual.ensures.1 in
    let left = c.args.pace.left in
    let holds = g.K.Sink.held c.hear_within.new.sink in
    let waits = c.hear_within.new.server.journal in
    let sent = g.W.Wire.sent c.hear_within.new.wire in
    let stop = c.in_err-left.field-0.0 in
    let broken = c.in_err-left.ensures.breaks b events i refl in
    err_so c.from_residual.result p.0 stop (Broken b (events ++ take left (tick_at c.args.pace.due c.args.moment)) holds waits sent) p.1 p.2
    (subst (λ (l : List HubEvent). Broken b (events ++ take left l) holds waits sent stop) (sym (tick_due c.args.pace.due c.args.moment c.if-moment-pace.false)) broken)

pub returns-in_err-left-clause-cause : goal.returns-in_err-left-clause-cause
returns-in_err-left-clause-cause g c =
    let p = err_from_is_err_and c.from_residual.result c.from_residual.ensures.1 in
    let stops = IsOutStop (g.K.Sink.faults c.args.sink.now) (g.K.Sink.faults c.hear_within.new.sink) (g.W.Wire.faults c.args.wire.now) (g.W.Wire.faults c.hear_within.new.wire) in
    record {
      write_later = c.hear_within.ensures.cause.write_later;
      wire_later = c.hear_within.ensures.cause.wire_later;
      cause = err_so c.from_residual.result p.0 c.in_err-left.field-0.0 stops p.1 p.2 c.in_err-left.ensures.cause.cause;
    }

pub returns-in_err-left-clause-steady : goal.returns-in_err-left-clause-steady
returns-in_err-left-clause-steady g c = λ b events more i h.
    let p = err_from_is_err_and c.from_residual.result c.from_residual.ensures.1 in
    let left = c.args.pace.left in
    let room =
    subst (λ (l : List HubEvent). HasRoom (g.K.Sink.is_steady c.args.sink.now) (g.W.Wire.is_steady c.args.wire.now) (c.args.server.now.journal ++ event_lines (take left l)) (sent_for (b.live + 1) (behind events b.channels) (take left l)) more)
    (tick_due c.args.pace.due c.args.moment c.if-moment-pace.false) h in
    only_err c.from_residual.result p.0 c.in_err-left.field-0.0 (HasRoom (g.K.Sink.is_steady c.hear_within.new.sink) (g.W.Wire.is_steady c.hear_within.new.wire) c.hear_within.new.server.journal [] more) p.1 p.2
    (c.in_err-left.ensures.steady b events more i refl room)

pub returns-clause-within : goal.returns-clause-within
returns-clause-within g c =
    let done = subst (λ (l : List HubEvent). DoesWithin l c.args.pace.left c.in_ok-left.left) (sym (tick_due c.args.pace.due c.args.moment c.if-moment-pace.false)) c.in_ok-left.ensures.within in
    subst (DoesWithin (tick_at c.args.pace.due c.args.moment) c.args.pace.left) (sym c.paced.ensures.left) done

pub returns-clause-goes_on : goal.returns-clause-goes_on
returns-clause-goes_on g c = λ b events i.
    let n = c.hear_within.new.server in
    subst (λ (l : List HubEvent). IsBetween b (events ++ take c.args.pace.left l) n.live n.ids.items n.hub (g.K.Sink.held c.hear_within.new.sink) n.journal (g.W.Wire.sent c.hear_within.new.wire))
    (sym (tick_due c.args.pace.due c.args.moment c.if-moment-pace.false)) (c.in_ok-left.ensures.goes_on b events i refl)

pub returns-clause-cause : goal.returns-clause-cause
returns-clause-cause g c = record {
  write_later = c.hear_within.ensures.cause.write_later;
  wire_later = c.hear_within.ensures.cause.wire_later;
  cause = tt;
}

pub returns-clause-steady : goal.returns-clause-steady
returns-clause-steady g c = λ b events more i h.
    let left = c.args.pace.left in
    let room =
    subst (λ (l : List HubEvent). HasRoom (g.K.Sink.is_steady c.args.sink.now) (g.W.Wire.is_steady c.args.wire.now) (c.args.server.now.journal ++ event_lines (take left l)) (sent_for (b.live + 1) (behind events b.channels) (take left l)) more)
    (tick_due c.args.pace.due c.args.moment c.if-moment-pace.false) h in
    c.in_ok-left.ensures.steady b events more i refl room
