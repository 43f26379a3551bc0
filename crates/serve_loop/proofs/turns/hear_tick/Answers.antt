use Rattle.std.proofs.Common.{rules, ℕ, ◌+◌, List, [], ◌∷◌, ◌++◌, Result, refl, sym, subst, ◌∙◌}
use Rattle.std.proofs.lemmas.Result.{err_from_is_err_and}
use Rattle.server_hub.specs.declared.{HubEvent.HubEvent, HubEvent.TheVariants.Tick}
use Rattle.trace_loop.specs.journal_book.{behind, tick_at}
use Rattle.trace_loop.specs.declared.Stop.{Stop}
use Rattle.serve_loop.specs.{HasRoom, IsBetween, IsOutStop, OnlyMemoryStops}
use Rattle.serve_loop.proofs.Between.{between_ready, between_after, tick_due, no_tick_due}
use Rattle.serve_loop.proofs.Rooms.{room_none, room_one}
use Rattle.trace_loop.proofs.Stopping.{err_so}
use Rattle.serve_loop.proofs.turns.hear_tick.Goals as goal

pub returns-then-moment-due-clause-steady : goal.returns-then-moment-due-clause-steady
returns-then-moment-due-clause-steady g c = λ b events more i h.
    room_none (g.K.Sink.is_steady c.args.sink.now) (g.W.Wire.is_steady c.args.wire.now) c.args.server.now.journal (b.live + 1) (behind events b.channels) (tick_at c.args.due c.args.moment) more
    (no_tick_due c.args.due c.args.moment c.if-moment-due.true) h

pub returns-in_err-hear-clause-steady : goal.returns-in_err-hear-clause-steady
returns-in_err-hear-clause-steady g c = λ b events more i h.
    let room = room_one (g.K.Sink.is_steady c.args.sink.now) (g.W.Wire.is_steady c.args.wire.now) c.args.server.now.journal (b.live + 1) (behind events b.channels) (tick_at c.args.due c.args.moment) Tick more
    (tick_due c.args.due c.args.moment c.if-moment-due.false) h in
    let ready = between_ready b events _ _ _ _ _ _ Tick (c.args.server.now.live + 1) i refl in
    let stop = c.in_err-hear.ensures.steady b events more ready room in
    let p = err_from_is_err_and c.from_residual.result c.from_residual.ensures.1 in
    subst (λ (r : Result ℕ Stop). OnlyMemoryStops r (HasRoom (g.K.Sink.is_steady c.hear.new.sink) (g.W.Wire.is_steady c.hear.new.wire) c.hear.new.server.journal [] more)) (sym p.1) (p.2 ∙ stop)

pub returns-clause-goes_on : goal.returns-clause-goes_on
returns-clause-goes_on g c = λ b events i.
    let ready = between_ready b events _ _ _ _ _ _ Tick (c.args.server.now.live + 1) i refl in
    let on = c.in_ok-hear.ensures.goes_on b events ready in
    let after = between_after b events (events ++ Tick ∷ []) c.args.server.now.live c.hear.new.server.live c.args.server.now.ids.items c.hear.new.server.ids.items c.args.server.now.hub c.hear.new.server.hub _ _ _ _ _ _ i c.hear.ensures.live (search rules) on in
    subst (λ (l : List HubEvent). IsBetween b (events ++ l) c.hear.new.server.live c.hear.new.server.ids.items c.hear.new.server.hub (g.K.Sink.held c.hear.new.sink) c.hear.new.server.journal (g.W.Wire.sent c.hear.new.wire))
    (sym (tick_due c.args.due c.args.moment c.if-moment-due.false)) after

pub returns-clause-steady : goal.returns-clause-steady
returns-clause-steady g c = λ b events more i h.
    let room = room_one (g.K.Sink.is_steady c.args.sink.now) (g.W.Wire.is_steady c.args.wire.now) c.args.server.now.journal (b.live + 1) (behind events b.channels) (tick_at c.args.due c.args.moment) Tick more
    (tick_due c.args.due c.args.moment c.if-moment-due.false) h in
    let ready = between_ready b events _ _ _ _ _ _ Tick (c.args.server.now.live + 1) i refl in
    c.in_ok-hear.ensures.steady b events more ready room

pub returns-in_err-hear-clause-cause : goal.returns-in_err-hear-clause-cause
returns-in_err-hear-clause-cause g c =
    let p = err_from_is_err_and c.from_residual.result c.from_residual.ensures.1 in
    let stops = IsOutStop (g.K.Sink.faults c.args.sink.now) (g.K.Sink.faults c.hear.new.sink) (g.W.Wire.faults c.args.wire.now) (g.W.Wire.faults c.hear.new.wire) in
    record {
      write_later = c.hear.ensures.cause.write_later;
      wire_later = c.hear.ensures.cause.wire_later;
      cause = err_so c.from_residual.result p.0 c.in_err-hear.field-0.0 stops p.1 p.2 c.in_err-hear.ensures.cause.cause;
    }
