use Rattle.std.proofs.Common.{◌≡◌, ◌+◌, [], Bool, not, length, take, Result, Ok, IfErr, refl, sym, ap, subst, ◌∙◌}
use Rattle.std.specs.Prelude.{IfOk, OnOk, nat_lt}
use Rattle.std.proofs.lemmas.Result.{err_from_is_err_and, IfErr-weaker}
use Rattle.rams_model.specs.declared.Status.{Status}
use Rattle.trace_loop.specs.journal_book.{events_of}
use Rattle.trace_loop.specs.declared.Stop.{Stop}
use Rattle.serve_loop.specs.{HasRoom, OnlyMemoryStops}
use Rattle.serve_loop.proofs.Rooms.{only_weaker, quiet_room, wire_none}
use Rattle.serve_loop.proofs.Steps.{where_ok}
use Rattle.takeover.specs.takeover_loop.{Ending, Stopping, last_line}
use Rattle.takeover.proofs.takeover_loop.Closing.{last_breaks, last_goes, last_room, put_last_room, turns_stop, within_done, within_is}
use Rattle.takeover.proofs.takeover_loop.taking.take_all.Goals as goal

pub returns-in_err-within-clause-stopping : goal.returns-in_err-within-clause-stopping
returns-in_err-within-clause-stopping g c = λ b arrivals moments i told shows.
    let all = events_of b.live c.args.server.now.hub.tick b.channels c.args.turns arrivals moments in
    let last = (last_line (nat_lt c.args.left (length all))).text in
    let p = err_from_is_err_and c.from_residual.result c.from_residual.ensures.1 in
    let now = Stopping b (take c.args.left all) last (g.K.Sink.held c.take_turns.new.sink) c.take_turns.new.server.journal (g.W.Wire.sent c.take_turns.new.wire) in
    subst (λ (r : Result Status Stop). IfErr r now) (sym p.1) (subst now (sym p.2) (turns_stop b (take c.args.left all) last _ _ _ _ (c.in_err-within.ensures.breaks b arrivals moments i told shows)))

pub returns-in_err-within-clause-steady : goal.returns-in_err-within-clause-steady
returns-in_err-within-clause-steady g c = λ b arrivals moments more i told shows h.
    let room = last_room (g.K.Sink.is_steady c.args.sink.now) (g.W.Wire.is_steady c.args.wire.now) c.args.server.now.journal _ _ _ more h in
    let stop = c.in_err-within.ensures.steady b arrivals moments _ i told shows room in
    let p = err_from_is_err_and c.from_residual.result c.from_residual.ensures.1 in
    subst (λ (r : Result Status Stop). OnlyMemoryStops r (HasRoom (g.K.Sink.is_steady c.take_turns.new.sink) (g.W.Wire.is_steady c.take_turns.new.wire) c.take_turns.new.server.journal [] more)) (sym p.1) (p.2 ∙ stop)

pub returns-clause-ends : goal.returns-clause-ends
returns-clause-ends g c = λ b arrivals moments i told shows.
    let all = events_of b.live c.args.server.now.hub.tick b.channels c.args.turns arrivals moments in
    let over = within_is all c.args.left c.in_ok-within.within (c.in_ok-within.ensures.within b arrivals moments i told shows) in
    subst (λ (t : Bool). IfOk c.put_last.result (λ status. status ≡ (last_line t).status)) over c.put_last.ensures.status

pub returns-clause-ending : goal.returns-clause-ending
returns-clause-ending g c = λ b arrivals moments i told shows.
    let all = events_of b.live c.args.server.now.hub.tick b.channels c.args.turns arrivals moments in
    let over = within_is all c.args.left c.in_ok-within.within (c.in_ok-within.ensures.within b arrivals moments i told shows) in
    let serving = c.in_ok-within.ensures.goes_on b arrivals moments i told shows in
    subst (λ (t : Bool). OnOk c.put_last.result (Ending b (take c.args.left all) (last_line t).text (g.K.Sink.held c.put_last.new.sink) c.put_last.new.gather (g.W.Wire.sent c.take_turns.new.wire))) over
    (where_ok c.put_last.result _ _ (λ p. last_goes b (take c.args.left all) (last_line (not c.in_ok-within.within)).text _ _ _ serving _ _ p) c.put_last.ensures.all)

pub returns-clause-stopping : goal.returns-clause-stopping
returns-clause-stopping g c = λ b arrivals moments i told shows.
    let all = events_of b.live c.args.server.now.hub.tick b.channels c.args.turns arrivals moments in
    let over = within_is all c.args.left c.in_ok-within.within (c.in_ok-within.ensures.within b arrivals moments i told shows) in
    let serving = c.in_ok-within.ensures.goes_on b arrivals moments i told shows in
    subst (λ (t : Bool). IfErr c.put_last.result (Stopping b (take c.args.left all) (last_line t).text (g.K.Sink.held c.put_last.new.sink) c.put_last.new.gather (g.W.Wire.sent c.take_turns.new.wire))) over
    (IfErr-weaker c.put_last.result _ _ (λ stop p. last_breaks b (take c.args.left all) (last_line (not c.in_ok-within.within)).text _ _ _ serving _ _ stop p) c.put_last.ensures.front)

pub returns-clause-left : goal.returns-clause-left
returns-clause-left g c = λ b arrivals moments i told shows done.
    c.in_ok-within.ensures.left b arrivals moments i told shows (ap Ok (within_done c.in_ok-within.within c.put_last.result done c.put_last.ensures.status))

pub returns-clause-steady : goal.returns-clause-steady
returns-clause-steady g c = λ b arrivals moments more i told shows h.
    let all = events_of b.live c.args.server.now.hub.tick b.channels c.args.turns arrivals moments in
    let over = within_is all c.args.left c.in_ok-within.within (c.in_ok-within.ensures.within b arrivals moments i told shows) in
    let last = (last_line (nat_lt c.args.left (length all))).text in
    let room = last_room (g.K.Sink.is_steady c.args.sink.now) (g.W.Wire.is_steady c.args.wire.now) c.args.server.now.journal _ _ _ more h in
    let after = c.in_ok-within.ensures.steady b arrivals moments _ i told shows room in
    let waits = c.take_turns.new.server.journal in
    let fits = put_last_room (g.K.Sink.is_steady c.take_turns.new.sink) waits last more.text after.text_fits in
    let there = subst (λ (t : Bool). g.K.Sink.is_steady c.take_turns.new.sink (length waits + length (last_line t).text + more.text)) (sym over) fits in
    only_weaker c.put_last.result _ _
    (λ p. quiet_room (g.K.Sink.is_steady c.put_last.new.sink) (g.W.Wire.is_steady c.take_turns.new.wire) c.put_last.new.gather more p (wire_none (g.W.Wire.is_steady c.take_turns.new.wire) [] more.bytes more.datagrams refl after.datagrams_fit))
    (c.put_last.ensures.steady more.text there)
