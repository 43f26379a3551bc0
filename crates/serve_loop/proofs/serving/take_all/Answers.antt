use Rattle.std.proofs.Common.{◌≡◌, ℕ, ◌+◌, List, [], ◌++◌, length, Result, IfErr, refl, sym, subst, ◌∙◌, arith, length-append}
use Rattle.std.proofs.lemmas.Result.{err_from_is_err_and, IfErr-weaker}
use Rattle.trace_loop.specs.journal_book.{event_lines, events_of, sent_for}
use Rattle.ram_io.specs.{Outgoing}
use Rattle.trace_loop.specs.declared.Stop.{Stop}
use Rattle.serve_loop.specs.{HasRoom, OnlyMemoryStops, Room, Stopping}
use Rattle.serve_loop.proofs.Closing.{end_text, end_goes, end_breaks, turns_stop}
use Rattle.serve_loop.proofs.Rooms.{only_weaker, quiet_room, wire_none}
use Rattle.serve_loop.proofs.Steps.{where_ok}
use Rattle.serve_loop.proofs.serving.take_all.Goals as goal

-- room for the lines, beside that for `end`
abbrev with_end : Room → Room
with_end more = record more { text = length end_text + more.text }

room_for_end : (sink : ℕ → Type 0) (wire : ℕ → ℕ → Type 0) (waits lines : List ℕ) (datagrams : List Outgoing) (more : Room) → HasRoom sink wire (waits ++ (lines ++ end_text)) datagrams more
    → HasRoom sink wire (waits ++ lines) datagrams (with_end more)
room_for_end sink wire waits lines datagrams more h =
    let all = length-append waits (lines ++ end_text) in
    let both = length-append lines end_text in
    let first = length-append waits lines in
    let size : length (waits ++ (lines ++ end_text)) + more.text ≡ length (waits ++ lines) + (length end_text + more.text) = omega (arith, all, both, first) in
    record { text_fits = subst sink size h.text_fits; datagrams_fit = h.datagrams_fit }

pub returns-in_err-take_turns-clause-stopping : goal.returns-in_err-take_turns-clause-stopping
returns-in_err-take_turns-clause-stopping g c = λ b arrivals moments i told shows.
    let events = events_of b.live c.args.server.now.hub.tick b.channels c.args.turns arrivals moments in
    let holds = g.K.Sink.held c.take_turns.new.sink in
    let waits = c.take_turns.new.server.journal in
    let sent = g.W.Wire.sent c.take_turns.new.wire in
    let p = err_from_is_err_and c.from_residual.result c.from_residual.ensures.1 in
    let stops = turns_stop b events holds waits sent _ (c.in_err-take_turns.ensures.breaks b arrivals moments i told shows) in
    subst (λ (r : Result (Unit {0}) Stop). IfErr r (Stopping b events holds waits sent)) (sym p.1) (subst (Stopping b events holds waits sent) (sym p.2) stops)

pub returns-in_err-take_turns-clause-steady : goal.returns-in_err-take_turns-clause-steady
returns-in_err-take_turns-clause-steady g c = λ b arrivals moments more i told shows h.
    let events = events_of b.live c.args.server.now.hub.tick b.channels c.args.turns arrivals moments in
    let room = room_for_end (g.K.Sink.is_steady c.args.sink.now) (g.W.Wire.is_steady c.args.wire.now) c.args.server.now.journal (event_lines events) (sent_for (b.live + 1) b.channels events) more h in
    let stop = c.in_err-take_turns.ensures.steady b arrivals moments (with_end more) i told shows room in
    let p = err_from_is_err_and c.from_residual.result c.from_residual.ensures.1 in
    subst (λ (r : Result (Unit {0}) Stop). OnlyMemoryStops r (HasRoom (g.K.Sink.is_steady c.take_turns.new.sink) (g.W.Wire.is_steady c.take_turns.new.wire) c.take_turns.new.server.journal [] more)) (sym p.1) (p.2 ∙ stop)

pub returns-clause-ending : goal.returns-clause-ending
returns-clause-ending g c = λ b arrivals moments i told shows.
    let events = events_of b.live c.args.server.now.hub.tick b.channels c.args.turns arrivals moments in
    let served = c.in_ok-take_turns.ensures.goes_on b arrivals moments i told shows in
    where_ok c.put.result _ _ (λ p. (end_goes b events (g.K.Sink.held c.take_turns.new.sink) c.take_turns.new.server.journal (g.W.Wire.sent c.take_turns.new.wire) served.0 (g.K.Sink.held c.put.new.sink) c.put.new.gather p, served.1)) c.put.ensures.all

pub returns-clause-stopping : goal.returns-clause-stopping
returns-clause-stopping g c = λ b arrivals moments i told shows.
    let events = events_of b.live c.args.server.now.hub.tick b.channels c.args.turns arrivals moments in
    let served = c.in_ok-take_turns.ensures.goes_on b arrivals moments i told shows in
    IfErr-weaker c.put.result _ _ (λ stop p. end_breaks b events (g.K.Sink.held c.take_turns.new.sink) c.take_turns.new.server.journal (g.W.Wire.sent c.take_turns.new.wire) served.0 (g.K.Sink.held c.put.new.sink) c.put.new.gather stop p) c.put.ensures.front

pub returns-clause-steady : goal.returns-clause-steady
returns-clause-steady g c = λ b arrivals moments more i told shows h.
    let events = events_of b.live c.args.server.now.hub.tick b.channels c.args.turns arrivals moments in
    let room = room_for_end (g.K.Sink.is_steady c.args.sink.now) (g.W.Wire.is_steady c.args.wire.now) c.args.server.now.journal (event_lines events) (sent_for (b.live + 1) b.channels events) more h in
    let after = c.in_ok-take_turns.ensures.steady b arrivals moments (with_end more) i told shows room in
    let size : length c.take_turns.new.server.journal + (length end_text + more.text) ≡ length c.take_turns.new.server.journal + length end_text + more.text = omega arith in
    only_weaker c.put.result _ _
    (λ fits. quiet_room (g.K.Sink.is_steady c.put.new.sink) (g.W.Wire.is_steady c.take_turns.new.wire) c.put.new.gather more fits (wire_none (g.W.Wire.is_steady c.take_turns.new.wire) [] more.bytes more.datagrams refl after.datagrams_fit))
    (c.put.ensures.steady more.text (subst (g.K.Sink.is_steady c.take_turns.new.sink) size after.text_fits))
