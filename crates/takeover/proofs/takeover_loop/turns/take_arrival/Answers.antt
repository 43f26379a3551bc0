use Rattle.std.proofs.Common.{rules, ◌≡◌, ℕ, ◌+◌, length, refl, arith, List, [], ◌++◌, take, Option, None, Some, Result, Err, IfErr, ap, sym, subst, ◌∙◌}
use Rattle.std.proofs.lemmas.Result.{err_from_is_err_and}
use Rattle.ram_io.specs.{Outgoing}
use Rattle.server_hub.specs.declared.HubEvent.{HubEvent}
use Rattle.trace_loop.specs.journal_book.{behind}
use Rattle.trace_loop.specs.declared.{Stop.Stop, Stop.TheVariants.Wire}
use Rattle.trace_loop.proofs.Stopping.{err_so, only_err}
use Rattle.serve_loop.specs.{Broken, HasRoom, IsOutStop, next_events}
use Rattle.serve_loop.proofs.Between.{told_next, nothing_next, datagram_next}
use Rattle.serve_loop.proofs.Rooms.{quiet_room, room_at, room_none, wire_none}
use Rattle.serve_loop.proofs.Steps.{broken_more, flushing_breaks, serving_breaks}
use Rattle.serve_loop.proofs.Causes.{outside_since, stopped_by_write}
use Rattle.takeover.proofs.takeover_loop.Within.{all_within}
use Rattle.takeover.proofs.takeover_loop.turns.take_arrival.Goals as goal

none_of : (left : ℕ) (events : List HubEvent) → events ≡ [] → take left events ≡ []
none_of left events none = ap (take left) none ∙ all_within left [] (omega arith)

pub returns-in-Err-clause-breaks : goal.returns-in-Err-clause-breaks
returns-in-Err-clause-breaks g c = λ b events arrivals i told.
    let holds = g.K.Sink.held c.args.sink.now in
    let waits = c.args.server.now.journal in
    let was = g.W.Wire.sent c.args.wire.now in
    let new = take c.args.left (next_events b arrivals) in
    subst (λ (s : Option (List Outgoing)). Broken b (events ++ new) holds waits s Wire) (sym c.receive.ensures.unsent)
    (broken_more b events new holds waits was Wire (serving_breaks b events holds waits was i.serving Wire))

pub returns-in_err-flush-in-Ok-None-clause-breaks : goal.returns-in_err-flush-in-Ok-None-clause-breaks
returns-in_err-flush-in-Ok-None-clause-breaks g c = λ b events arrivals i told.
    let holds = g.K.Sink.held c.args.sink.now in
    let waits = c.args.server.now.journal in
    let was = g.W.Wire.sent c.args.wire.now in
    let new = take c.args.left (next_events b arrivals) in
    let p = err_from_is_err_and c.from_residual.result c.from_residual.ensures.1 in
    let stop = c.in_err-flush-in-Ok-None.field-0.0 in
    let now = Broken b (events ++ new) (g.K.Sink.held c.flush.new.sink) c.flush.new.gather (g.W.Wire.sent c.receive.new.self) in
    let broken = flushing_breaks b events holds waits was i.serving (g.K.Sink.held c.flush.new.sink) c.flush.new.gather stop c.in_err-flush-in-Ok-None.ensures.front in
    subst (λ (r : Result (Option ℕ) Stop). IfErr r now) (sym p.1)
    (subst now (sym p.2)
    (subst (λ (s : Option (List Outgoing)). Broken b (events ++ new) (g.K.Sink.held c.flush.new.sink) c.flush.new.gather s stop) (sym c.receive.ensures.unsent)
    (broken_more b events new (g.K.Sink.held c.flush.new.sink) c.flush.new.gather was stop broken)))

pub returns-in_ok-flush-in-Ok-None-clause-steady : goal.returns-in_ok-flush-in-Ok-None-clause-steady
returns-in_ok-flush-in-Ok-None-clause-steady g c = λ b events arrivals more i told h.
    let next = told_next _ _ c.receive.result None c.receive.new.buf arrivals (search rules) told c.receive.ensures.next in
    let none = none_of c.args.left (next_events b arrivals) (nothing_next b arrivals c.receive.new.buf next.0) in
    let room = room_none (g.K.Sink.is_steady c.args.sink.now) (g.W.Wire.is_steady c.args.wire.now) c.args.server.now.journal (b.live + 1) (behind events b.channels) (take c.args.left (next_events b arrivals)) more none h in
    let quiet = c.in-Ok-None.ensures.steady more.bytes more.datagrams (wire_none (g.W.Wire.is_steady c.args.wire.now) [] more.bytes more.datagrams refl room.datagrams_fit) in
    let fits = c.in_ok-flush-in-Ok-None.ensures.steady more.text room.text_fits in
    subst (λ (l : List ℕ). HasRoom (g.K.Sink.is_steady c.flush.new.sink) (g.W.Wire.is_steady c.receive.new.self) l [] more) (sym c.in_ok-flush-in-Ok-None.ensures.empty)
    (quiet_room (g.K.Sink.is_steady c.flush.new.sink) (g.W.Wire.is_steady c.receive.new.self) [] more (subst (g.K.Sink.is_steady c.flush.new.sink) (let zero : more.text ≡ length {A = ℕ} [] + more.text = omega arith in zero) fits) quiet)

pub returns-in-None-clause-steady : goal.returns-in-None-clause-steady
returns-in-None-clause-steady g c = λ b events arrivals more i told h.
    let next = told_next _ _ c.receive.result (Some c.in-Ok-Some.arrival) c.receive.new.buf arrivals (search rules) told c.receive.ensures.next in
    let heard = c.event_at.ensures.heard b.channels (c.deref.ensures.value ∙ i.ids_are) in
    let none = none_of c.args.left (next_events b arrivals) (datagram_next b arrivals c.in-Ok-Some.arrival c.receive.new.buf _ c.args.server.now.live _ next.0 i.live_is refl heard ∙ search rules) in
    let room = room_none (g.K.Sink.is_steady c.args.sink.now) (g.W.Wire.is_steady c.args.wire.now) c.args.server.now.journal (b.live + 1) (behind events b.channels) (take c.args.left (next_events b arrivals)) more none h in
    room_at (g.K.Sink.is_steady c.args.sink.now) (g.W.Wire.is_steady c.args.wire.now) c.args.server.now.journal (b.live + 1) (behind events b.channels) (g.W.Wire.is_steady c.receive.new.self)
    c.args.server.now.journal [] more c.in-Ok-Some.ensures.steady room

pub returns-in_err-flush-in-Ok-None-clause-cause : goal.returns-in_err-flush-in-Ok-None-clause-cause
returns-in_err-flush-in-Ok-None-clause-cause g c =
    let p = err_from_is_err_and c.from_residual.result c.from_residual.ensures.1 in
    let before = g.K.Sink.faults c.args.sink.now in
    let now = g.K.Sink.faults c.flush.new.sink in
    let wire = g.W.Wire.faults c.args.wire.now in
    let wires = g.W.Wire.faults c.receive.new.self in
    let stopped = stopped_by_write before now wire wires (Err c.in_err-flush-in-Ok-None.field-0.0) c.receive.ensures.cause.later c.in_err-flush-in-Ok-None.ensures.cause in
    record {
      write_later = stopped.write_later;
      wire_later = stopped.wire_later;
      cause = err_so c.from_residual.result p.0 c.in_err-flush-in-Ok-None.field-0.0 (IsOutStop before now wire wires) p.1 p.2 stopped.cause;
    }

pub returns-in_err-flush-in-Ok-None-clause-steady : goal.returns-in_err-flush-in-Ok-None-clause-steady
returns-in_err-flush-in-Ok-None-clause-steady g c = λ b events arrivals more i told h.
    let p = err_from_is_err_and c.from_residual.result c.from_residual.ensures.1 in
    let next = told_next _ _ c.receive.result None c.receive.new.buf arrivals (search rules) told c.receive.ensures.next in
    let none = none_of c.args.left (next_events b arrivals) (nothing_next b arrivals c.receive.new.buf next.0) in
    let room = room_none (g.K.Sink.is_steady c.args.sink.now) (g.W.Wire.is_steady c.args.wire.now) c.args.server.now.journal (b.live + 1) (behind events b.channels) (take c.args.left (next_events b arrivals)) more none h in
    only_err c.from_residual.result p.0 c.in_err-flush-in-Ok-None.field-0.0 (HasRoom (g.K.Sink.is_steady c.flush.new.sink) (g.W.Wire.is_steady c.receive.new.self) c.flush.new.gather [] more) p.1 p.2
    (c.in_err-flush-in-Ok-None.ensures.steady more.text room.text_fits)

pub returns-in_ok-flush-in-Ok-None-clause-cause : goal.returns-in_ok-flush-in-Ok-None-clause-cause
returns-in_ok-flush-in-Ok-None-clause-cause g c = record { write_later = c.flush.ensures.cause.later; wire_later = c.receive.ensures.cause.later; cause = tt }

pub returns-in-Some-clause-cause : goal.returns-in-Some-clause-cause
returns-in-Some-clause-cause g c =
    let before = g.K.Sink.faults c.args.sink.now in
    outside_since before before (g.K.Sink.faults c.hear_within.new.sink) (g.W.Wire.faults c.args.wire.now) (g.W.Wire.faults c.receive.new.self) (g.W.Wire.faults c.hear_within.new.wire) c.hear_within.result (omega arith)
    c.receive.ensures.cause.later c.hear_within.ensures.cause
