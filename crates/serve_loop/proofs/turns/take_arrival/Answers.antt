use Rattle.std.proofs.Common.{rules, ◌≡◌, ℕ, ◌+◌, length, refl, arith, List, [], ◌∷◌, ◌++◌, Option, None, Some, sym, subst, ◌∙◌}
use Rattle.std.proofs.lemmas.Result.{IfErr-weaker}
use Rattle.ram_io.specs.{Outgoing}
use Rattle.server_hub.specs.{event_of}
use Rattle.trace_loop.specs.journal_book.{behind, datagrams_of, event_line}
use Rattle.trace_loop.specs.declared.Stop.TheVariants.{Wire}
use Rattle.serve_loop.specs.{Broken, HasRoom, next_events}
use Rattle.serve_loop.proofs.Between.{told_next, nothing_next, datagram_next}
use Rattle.serve_loop.proofs.Rooms.{only_both, only_weaker, quiet_room, room_at, room_none, room_one, wire_none}
use Rattle.serve_loop.proofs.Steps.{broken_more, flushing_breaks, serving_breaks}
use Rattle.serve_loop.proofs.Causes.{outside_since, stopped_by_write}
use Rattle.serve_loop.proofs.turns.take_arrival.Goals as goal

pub returns-in-Err-clause-breaks : goal.returns-in-Err-clause-breaks
returns-in-Err-clause-breaks g c = λ b events arrivals i told.
    let holds = g.K.Sink.held c.args.sink.now in
    let waits = c.args.server.now.journal in
    let was = g.W.Wire.sent c.args.wire.now in
    subst (λ (s : Option (List Outgoing)). Broken b (events ++ next_events b arrivals) holds waits s Wire) (sym c.receive.ensures.unsent)
    (broken_more b events (next_events b arrivals) holds waits was Wire (serving_breaks b events holds waits was i.serving Wire))

pub returns-in-Ok-None-clause-breaks : goal.returns-in-Ok-None-clause-breaks
returns-in-Ok-None-clause-breaks g c = λ b events arrivals i told.
    let holds = g.K.Sink.held c.args.sink.now in
    let waits = c.args.server.now.journal in
    let was = g.W.Wire.sent c.args.wire.now in
    let now = g.K.Sink.held c.flush.new.sink in
    IfErr-weaker c.flush.result _ _
    (λ stop h. subst (λ (s : Option (List Outgoing)). Broken b (events ++ next_events b arrivals) now c.flush.new.gather s stop) (sym c.receive.ensures.unsent)
    (broken_more b events (next_events b arrivals) now c.flush.new.gather was stop (flushing_breaks b events holds waits was i.serving now c.flush.new.gather stop h)))
    c.flush.ensures.front

pub returns-in-Ok-None-clause-steady : goal.returns-in-Ok-None-clause-steady
returns-in-Ok-None-clause-steady g c = λ b events arrivals more i told h.
    let next = told_next _ _ c.receive.result None c.receive.new.buf arrivals (search rules) told c.receive.ensures.next in
    let none = nothing_next b arrivals c.receive.new.buf next.0 in
    let room = room_none (g.K.Sink.is_steady c.args.sink.now) (g.W.Wire.is_steady c.args.wire.now) c.args.server.now.journal (b.live + 1) (behind events b.channels) (next_events b arrivals) more none h in
    let quiet = c.in-Ok-None.ensures.steady more.bytes more.datagrams (wire_none (g.W.Wire.is_steady c.args.wire.now) [] more.bytes more.datagrams refl room.datagrams_fit) in
    only_weaker c.flush.result _ _
    (λ p. subst (λ (l : List ℕ). HasRoom (g.K.Sink.is_steady c.flush.new.sink) (g.W.Wire.is_steady c.receive.new.self) l [] more) (sym p.0)
    (quiet_room (g.K.Sink.is_steady c.flush.new.sink) (g.W.Wire.is_steady c.receive.new.self) [] more (subst (g.K.Sink.is_steady c.flush.new.sink) (let zero : more.text ≡ length {A = ℕ} [] + more.text = omega arith in zero) p.1) quiet))
    (only_both c.flush.result (c.flush.new.gather ≡ []) (g.K.Sink.is_steady c.flush.new.sink more.text) c.flush.ensures.empty (c.flush.ensures.steady more.text room.text_fits))

pub returns-in-Some-clause-steady : goal.returns-in-Some-clause-steady
returns-in-Some-clause-steady g c = λ b events arrivals more i told h.
    let e = event_of c.in-Some.e.heard in
    let next = told_next _ _ c.receive.result (Some c.in-Ok-Some.arrival) c.receive.new.buf arrivals (search rules) told c.receive.ensures.next in
    let heard = c.event_at.ensures.heard b.channels (c.deref.ensures.value ∙ i.ids_are) in
    let one : next_events b arrivals ≡ e ∷ [] = datagram_next b arrivals c.in-Ok-Some.arrival c.receive.new.buf _ c.args.server.now.live _ next.0 i.live_is refl heard ∙ search rules in
    let room = room_one (g.K.Sink.is_steady c.args.sink.now) (g.W.Wire.is_steady c.args.wire.now) c.args.server.now.journal (b.live + 1) (behind events b.channels) (next_events b arrivals) e more one h in
    c.hear.ensures.steady b events more (search rules)
    (room_at (g.K.Sink.is_steady c.args.sink.now) (g.W.Wire.is_steady c.args.wire.now) c.args.server.now.journal (b.live + 1) (behind events b.channels) (g.W.Wire.is_steady c.receive.new.self)
    (c.args.server.now.journal ++ event_line e) (datagrams_of (b.live + 1) e (behind events b.channels)) more c.in-Ok-Some.ensures.steady room)

pub returns-in-None-clause-steady : goal.returns-in-None-clause-steady
returns-in-None-clause-steady g c = λ b events arrivals more i told h.
    let next = told_next _ _ c.receive.result (Some c.in-Ok-Some.arrival) c.receive.new.buf arrivals (search rules) told c.receive.ensures.next in
    let heard = c.event_at.ensures.heard b.channels (c.deref.ensures.value ∙ i.ids_are) in
    let none : next_events b arrivals ≡ [] = datagram_next b arrivals c.in-Ok-Some.arrival c.receive.new.buf _ c.args.server.now.live _ next.0 i.live_is refl heard ∙ search rules in
    let room = room_none (g.K.Sink.is_steady c.args.sink.now) (g.W.Wire.is_steady c.args.wire.now) c.args.server.now.journal (b.live + 1) (behind events b.channels) (next_events b arrivals) more none h in
    room_at (g.K.Sink.is_steady c.args.sink.now) (g.W.Wire.is_steady c.args.wire.now) c.args.server.now.journal (b.live + 1) (behind events b.channels) (g.W.Wire.is_steady c.receive.new.self)
    c.args.server.now.journal [] more c.in-Ok-Some.ensures.steady room

pub returns-in-Ok-None-clause-cause : goal.returns-in-Ok-None-clause-cause
returns-in-Ok-None-clause-cause g c =
    stopped_by_write (g.K.Sink.faults c.args.sink.now) (g.K.Sink.faults c.flush.new.sink) (g.W.Wire.faults c.args.wire.now) (g.W.Wire.faults c.receive.new.self) c.flush.result c.receive.ensures.cause.later c.flush.ensures.cause

pub returns-in-Some-clause-cause : goal.returns-in-Some-clause-cause
returns-in-Some-clause-cause g c =
    let before = g.K.Sink.faults c.args.sink.now in
    outside_since before before (g.K.Sink.faults c.hear.new.sink) (g.W.Wire.faults c.args.wire.now) (g.W.Wire.faults c.receive.new.self) (g.W.Wire.faults c.hear.new.wire) c.hear.result (omega arith) c.receive.ensures.cause.later
    c.hear.ensures.cause
