use Rattle.std.proofs.Common.{◌≡◌, ℕ, List, [], ◌∷◌, ◌++◌, ◌+◌, ◌≤◌, false, not, Result, IfErr, sym, ap, subst, ◌∙◌, arith, length}
use Rattle.std.specs.Prelude.{◌==◌}
use Rattle.std.specs.List.{list_any}
use Rattle.std.proofs.lemmas.Result.{err_from_is_err_and}
use Rattle.ram_io.specs.{Outgoing}
use Rattle.server_hub.specs.{answers_said, event_of, after_event, settings_of, told}
use Rattle.server_hub.specs.declared.At.{At}
use Rattle.line_io.proofs.Passing.{Passes-then}
use Rattle.trace_loop.specs.journal_book.{behind, datagrams_of, event_line}
use Rattle.trace_loop.specs.declared.Stop.{Stop}
use Rattle.trace_loop.proofs.Stopping.{err_so, only_err}
use Rattle.trace_loop.proofs.Writing.{unwritten}
use Rattle.serve_loop.proofs.Causes.{stopped_by_wire, write_stops}
use Rattle.serve_loop.specs.{Broken, HasRoom, IsOutStop, Sends, Serving, bytes_of, said_datagrams}
use Rattle.serve_loop.proofs.Rooms.{only_weaker, quiet_room, text_parts, wire_quiet}
use Rattle.serve_loop.proofs.Steps.{StopsIn-then, quiet_goes_on, line_breaks, sent_goes_on, sending_breaks, none_ordered, each_error, where_ok, heard_sends, heard_stands}
use Rattle.serve_loop.proofs.Telling.{said_few}
use Rattle.serve_loop.proofs.hearing.hear.Goals as goal

pub send_all-requires : goal.send_all-requires
send_all-requires g c =
    let say = c.in_ok-answer.ensures.stands c.requires.stands.0 c.requires.stands.1 in
    let few : length c.answers_of-answers.result.now ≤ 64 =
    subst (λ (l : List At). length l ≤ 64) (sym (c.answers_of-answers.ensures ∙ ap answers_said say.0)) (said_few (event_of c.args.heard) c.requires.stands.0 c.hear.new.self say.1 c.hear.ensures.lawful) in
    let ports = c.requires.ports in
    omega (arith, few, ports)

pub returns-in_err-answer-clause-breaks : goal.returns-in_err-answer-clause-breaks
returns-in_err-answer-clause-breaks g c = λ b events r.
    let h = event_of c.args.heard in
    let p = err_from_is_err_and c.from_residual.result c.from_residual.ensures.1 in
    subst (λ (x : Result (Unit {0}) Stop). IfErr x (Broken b (events ++ h ∷ []) (g.K.Sink.held c.args.sink.now) c.args.server.now.journal (g.W.Wire.sent c.args.wire.now))) (sym p.1)
    (line_breaks b events h _ _ _ r.serving _ _ p.0 (unwritten (g.K.Sink.held c.args.sink.now) c.args.server.now.journal (event_line h) p.0))

pub returns-in_err-write_event-clause-breaks : goal.returns-in_err-write_event-clause-breaks
returns-in_err-write_event-clause-breaks g c = λ b events r.
    let h = event_of c.args.heard in
    let p = err_from_is_err_and c.from_residual-in_err-write_event.result c.from_residual-in_err-write_event.ensures.1 in
    let now = Broken b (events ++ h ∷ []) (g.K.Sink.held c.write_event.new.sink) c.write_event.new.journal (g.W.Wire.sent c.args.wire.now) in
    subst (λ (x : Result (Unit {0}) Stop). IfErr x now) (sym p.1)
    (subst now (sym p.2) (line_breaks b events h _ _ _ r.serving _ _ c.in_err-write_event.field-0.0 c.in_err-write_event.ensures.front))

pub returns-in_err-flush-clause-breaks : goal.returns-in_err-flush-clause-breaks
returns-in_err-flush-clause-breaks g c = λ b events r.
    let h = event_of c.args.heard in
    let p = err_from_is_err_and c.from_residual-in_err-flush.result c.from_residual-in_err-flush.ensures.1 in
    let now = Broken b (events ++ h ∷ []) (g.K.Sink.held c.flush.new.sink) c.flush.new.gather (g.W.Wire.sent c.args.wire.now) in
    let stops = StopsIn-then _ _ _ _ _ _ c.in_err-flush.field-0.0 c.in_ok-write_event.ensures.all c.in_err-flush.ensures.front in
    subst (λ (x : Result (Unit {0}) Stop). IfErr x now) (sym p.1)
    (subst now (sym p.2) (line_breaks b events h _ _ _ r.serving _ _ c.in_err-flush.field-0.0 stops))

pub returns-then-not-has_orders-clause-goes_on : goal.returns-then-not-has_orders-clause-goes_on
returns-then-not-has_orders-clause-goes_on g c = λ b events r.
    let h = event_of c.args.heard in
    let say = c.in_ok-answer.ensures.stands (behind events b.channels) r.stands in
    let sends = heard_sends b events h c.args.server.now.hub c.hear.new.self c.in_ok-answer.answer c.args.first _ _ _ r say.0 c.hear.ensures.settings.settings in
    let none = none_ordered c.args.first (settings_of c.hear.new.self) (answers_said (told c.in_ok-answer.answer))
    (subst (λ (l : List At). list_any (λ (at : At). not (length at.answer.orders == 0)) l ≡ false) c.answers_of-answers.ensures (sym c.has_orders.ensures ∙ c.if-not-has_orders.true)) in
    record { stands = heard_stands b events h c.hear.new.self say.1; serving = quiet_goes_on b events h _ _ _ r.serving _ _ c.in_ok-write_event.ensures.all (sym sends ∙ none) }

pub returns-clause-goes_on : goal.returns-clause-goes_on
returns-clause-goes_on g c = λ b events r.
    let h = event_of c.args.heard in
    let say = c.in_ok-answer.ensures.stands (behind events b.channels) r.stands in
    let sends = ap (said_datagrams c.args.first (settings_of c.hear.new.self)) c.answers_of-answers.ensures
    ∙ heard_sends b events h c.args.server.now.hub c.hear.new.self c.in_ok-answer.answer c.args.first _ _ _ r say.0 c.hear.ensures.settings.settings in
    let gone = Passes-then _ _ _ _ _ _ c.in_ok-write_event.ensures.all c.in_ok-flush.ensures.all in
    let was = g.W.Wire.sent c.args.wire.now in
    let is = g.W.Wire.sent c.send_all.new.wire in
    where_ok c.send_all.result _ _
    (λ all. record {
      stands = heard_stands b events h c.hear.new.self say.1;
      serving = subst (λ (l : List ℕ). Serving b (events ++ h ∷ []) (g.K.Sink.held c.flush.new.sink) l is) (sym c.in_ok-flush.ensures.empty)
          (sent_goes_on b events h _ _ _ r.serving _ _ gone (subst (λ (l : List Outgoing). Sends was is l []) sends all));
    })
    c.send_all.ensures.all

pub returns-clause-breaks : goal.returns-clause-breaks
returns-clause-breaks g c = λ b events r.
    let h = event_of c.args.heard in
    let say = c.in_ok-answer.ensures.stands (behind events b.channels) r.stands in
    let sends = ap (said_datagrams c.args.first (settings_of c.hear.new.self)) c.answers_of-answers.ensures
    ∙ heard_sends b events h c.args.server.now.hub c.hear.new.self c.in_ok-answer.answer c.args.first _ _ _ r say.0 c.hear.ensures.settings.settings in
    let gone = Passes-then _ _ _ _ _ _ c.in_ok-write_event.ensures.all c.in_ok-flush.ensures.all in
    let was = g.W.Wire.sent c.args.wire.now in
    let is = g.W.Wire.sent c.send_all.new.wire in
    let front = c.send_all.ensures.front in
    each_error c.send_all.result _
    (λ stop. subst (λ (l : List ℕ). Broken b (events ++ h ∷ []) (g.K.Sink.held c.flush.new.sink) l is stop) (sym c.in_ok-flush.ensures.empty)
    (sending_breaks b events h _ _ _ r.serving _ _ front.0 stop gone (subst (λ (l : List Outgoing). Sends was is l front.0) sends front.1)))

pub returns-clause-stands : goal.returns-clause-stands
returns-clause-stands g c =
    let say = c.in_ok-answer.ensures.stands c.requires.stands.0 c.requires.stands.1 in
    where_ok c.send_all.result _ _ (λ all. (after_event (event_of c.args.heard) c.requires.stands.0, say.1)) c.send_all.ensures.all

pub returns-then-not-has_orders-clause-steady : goal.returns-then-not-has_orders-clause-steady
returns-then-not-has_orders-clause-steady g c = λ b events more r h.
    let e = event_of c.args.heard in
    let say = c.in_ok-answer.ensures.stands (behind events b.channels) r.stands in
    let sends = heard_sends b events e c.args.server.now.hub c.hear.new.self c.in_ok-answer.answer c.args.first _ _ _ r say.0 c.hear.ensures.settings.settings in
    let none = none_ordered c.args.first (settings_of c.hear.new.self) (answers_said (told c.in_ok-answer.answer))
    (subst (λ (l : List At). list_any (λ (at : At). not (length at.answer.orders == 0)) l ≡ false) c.answers_of-answers.ensures (sym c.has_orders.ensures ∙ c.if-not-has_orders.true)) in
    quiet_room (g.K.Sink.is_steady c.write_event.new.sink) (g.W.Wire.is_steady c.args.wire.now) c.write_event.new.journal more
    (c.in_ok-write_event.ensures.steady more.text (text_parts (g.K.Sink.is_steady c.args.sink.now) c.args.server.now.journal (event_line e) more.text h.text_fits))
    (wire_quiet (g.W.Wire.is_steady c.args.wire.now) (datagrams_of (b.live + 1) e (behind events b.channels)) more (sym sends ∙ none) h.datagrams_fit)

pub returns-clause-steady : goal.returns-clause-steady
returns-clause-steady g c = λ b events more r h.
    let e = event_of c.args.heard in
    let say = c.in_ok-answer.ensures.stands (behind events b.channels) r.stands in
    let sends = ap (said_datagrams c.args.first (settings_of c.hear.new.self)) c.answers_of-answers.ensures
    ∙ heard_sends b events e c.args.server.now.hub c.hear.new.self c.in_ok-answer.answer c.args.first _ _ _ r say.0 c.hear.ensures.settings.settings in
    let written = c.in_ok-write_event.ensures.steady more.text (text_parts (g.K.Sink.is_steady c.args.sink.now) c.args.server.now.journal (event_line e) more.text h.text_fits) in
    let gone = c.in_ok-flush.ensures.steady more.text written in
    let fits = subst (λ (l : List Outgoing). g.W.Wire.is_steady c.args.wire.now (bytes_of l + more.bytes) (length l + more.datagrams)) (sym sends) h.datagrams_fit in
    only_weaker c.send_all.result (g.W.Wire.is_steady c.send_all.new.wire more.bytes more.datagrams) _
    (λ quiet. subst (λ (l : List ℕ). HasRoom (g.K.Sink.is_steady c.flush.new.sink) (g.W.Wire.is_steady c.send_all.new.wire) l [] more) (sym c.in_ok-flush.ensures.empty)
    (quiet_room (g.K.Sink.is_steady c.flush.new.sink) (g.W.Wire.is_steady c.send_all.new.wire) [] more (subst (g.K.Sink.is_steady c.flush.new.sink) (let zero : more.text ≡ length {A = ℕ} [] + more.text = omega arith in zero) gone) quiet))
    (c.send_all.ensures.steady more.bytes more.datagrams fits)

pub returns-in_err-write_event-clause-cause : goal.returns-in_err-write_event-clause-cause
returns-in_err-write_event-clause-cause g c =
    let p = err_from_is_err_and c.from_residual-in_err-write_event.result c.from_residual-in_err-write_event.ensures.1 in
    let before = g.K.Sink.faults c.args.sink.now in
    let wire = g.W.Wire.faults c.args.wire.now in
    let stops = write_stops before before (g.K.Sink.faults c.write_event.new.sink) wire c.in_err-write_event.field-0.0 (omega arith) c.in_err-write_event.ensures.cause.cause in
    record {
      write_later = c.write_event.ensures.cause.later;
      wire_later = omega arith;
      cause =
          err_so c.from_residual-in_err-write_event.result p.0 c.in_err-write_event.field-0.0 (IsOutStop before (g.K.Sink.faults c.write_event.new.sink) wire wire) p.1 p.2 stops;
    }

pub returns-in_err-write_event-clause-steady : goal.returns-in_err-write_event-clause-steady
returns-in_err-write_event-clause-steady g c = λ b events more r h.
    let p = err_from_is_err_and c.from_residual-in_err-write_event.result c.from_residual-in_err-write_event.ensures.1 in
    only_err c.from_residual-in_err-write_event.result p.0 c.in_err-write_event.field-0.0 (HasRoom (g.K.Sink.is_steady c.write_event.new.sink) (g.W.Wire.is_steady c.args.wire.now) c.write_event.new.journal [] more) p.1 p.2
    (c.in_err-write_event.ensures.steady more.text (text_parts (g.K.Sink.is_steady c.args.sink.now) c.args.server.now.journal (event_line (event_of c.args.heard)) more.text h.text_fits))

pub returns-in_err-flush-clause-cause : goal.returns-in_err-flush-clause-cause
returns-in_err-flush-clause-cause g c =
    let p = err_from_is_err_and c.from_residual-in_err-flush.result c.from_residual-in_err-flush.ensures.1 in
    let before = g.K.Sink.faults c.args.sink.now in
    let written = c.write_event.ensures.cause.later in
    let flushed = c.flush.ensures.cause.later in
    let wire = g.W.Wire.faults c.args.wire.now in
    let stops = write_stops before (g.K.Sink.faults c.write_event.new.sink) (g.K.Sink.faults c.flush.new.sink) wire c.in_err-flush.field-0.0 written c.in_err-flush.ensures.cause.cause in
    record {
      write_later = omega (arith, written, flushed);
      wire_later = omega arith;
      cause =
          err_so c.from_residual-in_err-flush.result p.0 c.in_err-flush.field-0.0 (IsOutStop before (g.K.Sink.faults c.flush.new.sink) wire wire) p.1 p.2 stops;
    }

pub returns-in_err-flush-clause-steady : goal.returns-in_err-flush-clause-steady
returns-in_err-flush-clause-steady g c = λ b events more r h.
    let p = err_from_is_err_and c.from_residual-in_err-flush.result c.from_residual-in_err-flush.ensures.1 in
    let written = c.in_ok-write_event.ensures.steady more.text
    (text_parts (g.K.Sink.is_steady c.args.sink.now) c.args.server.now.journal (event_line (event_of c.args.heard)) more.text h.text_fits) in
    only_err c.from_residual-in_err-flush.result p.0 c.in_err-flush.field-0.0 (HasRoom (g.K.Sink.is_steady c.flush.new.sink) (g.W.Wire.is_steady c.args.wire.now) c.flush.new.gather [] more) p.1 p.2 (c.in_err-flush.ensures.steady more.text written)

pub returns-clause-cause : goal.returns-clause-cause
returns-clause-cause g c =
    let written = c.write_event.ensures.cause.later in
    let flushed = c.flush.ensures.cause.later in
    stopped_by_wire _ _ _ _ c.send_all.result (omega (arith, written, flushed)) c.send_all.ensures.cause
