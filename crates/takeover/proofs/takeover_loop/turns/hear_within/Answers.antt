use Rattle.std.proofs.Common.{rules, ℕ, ◌+◌, List, [], ◌∷◌, ◌++◌, Option, take, Result, IfErr, sym, ap, subst, ◌∙◌, append-nil}
use Rattle.std.proofs.lemmas.Result.{err_from_is_err_and}
use Rattle.server_hub.specs.declared.HubEvent.{HubEvent}
use Rattle.server_hub.specs.{event_of}
use Rattle.trace_loop.specs.journal_book.{behind}
use Rattle.trace_loop.specs.declared.Stop.{Stop}
use Rattle.trace_loop.proofs.Stopping.{err_so}
use Rattle.serve_loop.specs.{Broken, HasRoom, IsBetween, IsOutStop, OnlyMemoryStops}
use Rattle.serve_loop.proofs.Between.{between_ready, between_after}
use Rattle.serve_loop.proofs.Rooms.{room_none, room_one}
use Rattle.takeover.proofs.takeover_loop.Within.{none_left, one_within}
use Rattle.takeover.proofs.takeover_loop.turns.hear_within.Goals as goal

pub returns-then-left-eq0-clause-goes_on : goal.returns-then-left-eq0-clause-goes_on
returns-then-left-eq0-clause-goes_on g c = λ b events i from.
    let s = c.args.server.now in
    let none = none_left c.args.left (event_of c.args.heard ∷ []) c.if-left-eq0.true in
    subst (λ (es : List HubEvent). IsBetween b es s.live s.ids.items s.hub (g.K.Sink.held c.args.sink.now) s.journal (g.W.Wire.sent c.args.wire.now))
    (sym (ap (λ (l : List HubEvent). events ++ l) none ∙ append-nil events)) i

pub returns-then-left-eq0-clause-steady : goal.returns-then-left-eq0-clause-steady
returns-then-left-eq0-clause-steady g c = λ b events more i from h.
    let e = event_of c.args.heard in
    room_none (g.K.Sink.is_steady c.args.sink.now) (g.W.Wire.is_steady c.args.wire.now) c.args.server.now.journal (b.live + 1) (behind events b.channels) (take c.args.left (e ∷ [])) more
    (none_left c.args.left (e ∷ []) c.if-left-eq0.true) h

pub returns-in_err-hear-clause-breaks : goal.returns-in_err-hear-clause-breaks
returns-in_err-hear-clause-breaks g c = λ b events i from.
    let e = event_of c.args.heard in
    let one = one_within c.args.left e c.if-left-eq0.false in
    let ready = between_ready b events _ _ _ _ _ _ e c.args.first i from in
    let broken = c.in_err-hear.ensures.breaks b events ready in
    let p = err_from_is_err_and c.from_residual.result c.from_residual.ensures.1 in
    let holds = g.K.Sink.held c.hear.new.sink in
    let waits = c.hear.new.server.journal in
    let sent = g.W.Wire.sent c.hear.new.wire in
    subst (λ (r : Result (Option ℕ) Stop). IfErr r (Broken b (events ++ take c.args.left (e ∷ [])) holds waits sent)) (sym p.1)
    (subst (Broken b (events ++ take c.args.left (e ∷ [])) holds waits sent) (sym p.2)
    (subst (λ (l : List HubEvent). Broken b (events ++ l) holds waits sent c.in_err-hear.field-0.0) (sym one) broken))

pub returns-in_err-hear-clause-steady : goal.returns-in_err-hear-clause-steady
returns-in_err-hear-clause-steady g c = λ b events more i from h.
    let e = event_of c.args.heard in
    let one = one_within c.args.left e c.if-left-eq0.false in
    let ready = between_ready b events _ _ _ _ _ _ e c.args.first i from in
    let room = room_one (g.K.Sink.is_steady c.args.sink.now) (g.W.Wire.is_steady c.args.wire.now) c.args.server.now.journal (b.live + 1) (behind events b.channels) (take c.args.left (e ∷ [])) e more one h in
    let stop = c.in_err-hear.ensures.steady b events more ready room in
    let p = err_from_is_err_and c.from_residual.result c.from_residual.ensures.1 in
    subst (λ (r : Result (Option ℕ) Stop). OnlyMemoryStops r (HasRoom (g.K.Sink.is_steady c.hear.new.sink) (g.W.Wire.is_steady c.hear.new.wire) c.hear.new.server.journal [] more)) (sym p.1) (p.2 ∙ stop)

pub returns-clause-goes_on : goal.returns-clause-goes_on
returns-clause-goes_on g c = λ b events i from.
    let e = event_of c.args.heard in
    let one = one_within c.args.left e c.if-left-eq0.false in
    let ready = between_ready b events _ _ _ _ _ _ e c.args.first i from in
    let on = c.in_ok-hear.ensures.goes_on b events ready in
    let n = c.hear.new.server in
    let after = between_after b events (events ++ e ∷ []) c.args.server.now.live n.live c.args.server.now.ids.items n.ids.items c.args.server.now.hub n.hub _ _ _ _ _ _ i c.hear.ensures.live (search rules) on in
    subst (λ (l : List HubEvent). IsBetween b (events ++ l) n.live n.ids.items n.hub (g.K.Sink.held c.hear.new.sink) n.journal (g.W.Wire.sent c.hear.new.wire)) (sym one) after

pub returns-clause-steady : goal.returns-clause-steady
returns-clause-steady g c = λ b events more i from h.
    let e = event_of c.args.heard in
    let one = one_within c.args.left e c.if-left-eq0.false in
    let ready = between_ready b events _ _ _ _ _ _ e c.args.first i from in
    let room = room_one (g.K.Sink.is_steady c.args.sink.now) (g.W.Wire.is_steady c.args.wire.now) c.args.server.now.journal (b.live + 1) (behind events b.channels) (take c.args.left (e ∷ [])) e more one h in
    c.in_ok-hear.ensures.steady b events more ready room

pub returns-in_err-hear-clause-cause : goal.returns-in_err-hear-clause-cause
returns-in_err-hear-clause-cause g c =
    let p = err_from_is_err_and c.from_residual.result c.from_residual.ensures.1 in
    let stops = IsOutStop (g.K.Sink.faults c.args.sink.now) (g.K.Sink.faults c.hear.new.sink) (g.W.Wire.faults c.args.wire.now) (g.W.Wire.faults c.hear.new.wire) in
    record {
      write_later = c.hear.ensures.cause.write_later;
      wire_later = c.hear.ensures.cause.wire_later;
      cause = err_so c.from_residual.result p.0 c.in_err-hear.field-0.0 stops p.1 p.2 c.in_err-hear.ensures.cause.cause;
    }

pub returns-clause-cause : goal.returns-clause-cause
returns-clause-cause g c = record { write_later = c.hear.ensures.cause.write_later; wire_later = c.hear.ensures.cause.wire_later; cause = tt }
