use Rattle.std.proofs.Common.{rules, ◌≡◌, ◌+◌, ◌-◌, [], take, drop, option_map, Result, IfErr, refl, sym, ap, subst, ◌∙◌, arith}
use Rattle.std.proofs.lemmas.Result.{err_from_is_err_and}
use Rattle.trace_loop.specs.journal_book.{due_after, events_of, next_moment}
use Rattle.trace_loop.specs.declared.Stop.{Stop}
use Rattle.serve_loop.specs.{Broken, HasRoom, OnlyMemoryStops}
use Rattle.serve_loop.proofs.Between.{told_moment}
use Rattle.takeover.specs.declared.takeover_loop.turns.Pace.{Pace}
use Rattle.takeover.proofs.takeover_loop.Pacing.{IsPacing, pacing_begins, pacing_breaks, pacing_ends, pacing_goes_on, pacing_room, pacing_room_last, pacing_too_many}
use Rattle.takeover.proofs.takeover_loop.Within.{none_done, some_done, some_is}
use Rattle.takeover.proofs.takeover_loop.turns.take_turns.Goals as goal
use Rattle.serve_loop.proofs.TurnByTurn.{one_left, none_left}

pub loop-init : goal.loop-init
loop-init g c =
    let s = c.args.server.now in
    record {
      pacing = λ b arrivals moments i told shows.
          let moment = told_moment (g.C.Clock.moments c.args.clock.now) (g.C.Clock.moments c.now_ms.new.self) c.now_ms.result moments shows c.now_ms.ensures.next in
          let all : c.args.turns ≡ c.args.turns - 0 = omega arith in
          let due : c.now_ms.result + c.from.result ≡ next_moment moments + s.hub.tick = ap (λ n. n + c.from.result) moment.0 ∙ ap (λ n. next_moment moments + n) (search rules) in
          subst (λ n. IsPacing b (g.K.Sink.is_steady c.args.sink.now) (g.W.Wire.is_steady c.args.wire.now) (g.K.Sink.is_steady c.args.sink.now) (g.W.Wire.is_steady c.args.wire.now) s.journal
          (events_of b.live s.hub.tick b.channels c.args.turns arrivals moments) c.args.left s.hub.tick (c.now_ms.result + c.from.result) c.args.left n (drop c.args.turns arrivals)
          s.live s.ids.items s.hub (g.K.Sink.held c.args.sink.now) s.journal (g.W.Wire.sent c.args.wire.now) (g.W.Wire.arrivals c.args.wire.now) (g.C.Clock.moments c.now_ms.new.self)) all
          (pacing_begins b (g.K.Sink.is_steady c.args.sink.now) (g.W.Wire.is_steady c.args.wire.now) s.journal c.args.left s.hub.tick (c.now_ms.result + c.from.result) c.args.turns s.live s.ids.items s.hub
          (g.K.Sink.held c.args.sink.now) (g.W.Wire.sent c.args.wire.now) (g.W.Wire.arrivals c.args.wire.now) arrivals moments (g.C.Clock.moments c.now_ms.new.self) i told moment.1 due);
      server = c.requires.server;
      calls = c.requires.calls;
      tick = refl;
      write_later = omega arith;
      wire_later = omega arith;
    }

pub returns-in_err-next-clause-breaks : goal.returns-in_err-next-clause-breaks
returns-in_err-next-clause-breaks g c = λ b arrivals moments i told shows.
    let r = c.loop.invariant.pacing b arrivals moments i told shows in
    let broken = c.in_err-next.ensures.breaks b r.events r.brings r.shows r.between r.wire_is r.clock_is in
    let p = err_from_is_err_and c.from_residual.result c.from_residual.ensures.1 in
    let all = take c.args.left (events_of b.live c.args.server.now.hub.tick b.channels c.args.turns arrivals moments) in
    let holds = g.K.Sink.held c.take_turn.new.sink in
    let waits = c.take_turn.new.server.journal in
    let sent = g.W.Wire.sent c.take_turn.new.wire in
    let is = pacing_breaks _ _ _ _ _ _ _ _ _ _ _ _ _ _ _ _ _ _ _ _ _ r (c.args.turns - (c.loop.counter + 1)) (one_left c.args.turns c.loop.counter c.loop-test.true) holds waits sent _ broken in
    subst (λ (x : Result _ Stop). IfErr x (Broken b all holds waits sent)) (sym p.1) (subst (Broken b all holds waits sent) (sym p.2) is)

pub returns-in_err-next-clause-steady : goal.returns-in_err-next-clause-steady
returns-in_err-next-clause-steady g c = λ b arrivals moments more i told shows h.
    let r = c.loop.invariant.pacing b arrivals moments i told shows in
    let room = pacing_room _ _ _ _ _ _ _ _ _ _ _ _ _ _ _ _ _ _ _ _ _ r (c.args.turns - (c.loop.counter + 1)) (one_left c.args.turns c.loop.counter c.loop-test.true) more h in
    let stop = c.in_err-next.ensures.steady b r.events r.brings r.shows _ r.between r.wire_is r.clock_is room in
    let p = err_from_is_err_and c.from_residual.result c.from_residual.ensures.1 in
    subst (λ (x : Result _ Stop). OnlyMemoryStops x (HasRoom (g.K.Sink.is_steady c.take_turn.new.sink) (g.W.Wire.is_steady c.take_turn.new.wire) c.take_turn.new.server.journal [] more)) (sym p.1) (p.2 ∙ stop)

pub loop-preserved : goal.loop-preserved
loop-preserved g c =
    let writes = c.loop.invariant.write_later in
    let more_writes = c.take_turn.ensures.cause.write_later in
    let sends = c.loop.invariant.wire_later in
    let more_sends = c.take_turn.ensures.cause.wire_later in
    record {
      pacing = λ b arrivals moments i told shows.
          let r = c.loop.invariant.pacing b arrivals moments i told shows in
          pacing_goes_on _ _ _ _ _ _ _ _ _ _ _ _ _ _ _ _ _ _ _ _ _ r (c.args.turns - (c.loop.counter + 1)) (one_left c.args.turns c.loop.counter c.loop-test.true) (g.K.Sink.is_steady c.take_turn.new.sink) (g.W.Wire.is_steady c.take_turn.new.wire)
          _ _ c.take_turn.new.server.live c.take_turn.new.server.ids.items c.take_turn.new.server.hub (g.K.Sink.held c.take_turn.new.sink) c.take_turn.new.server.journal (g.W.Wire.sent c.take_turn.new.wire)
          (g.W.Wire.arrivals c.take_turn.new.wire) (g.C.Clock.moments c.take_turn.new.clock)
          (some_is _ c.in-Some.next _ c.in-Some.is (c.in_ok-next.ensures.due r.shows r.clock_is) ∙ ap (λ t. due_after t c.loop.pace.due (next_moment r.shows)) c.loop.invariant.tick)
          (some_done _ c.in-Some.next.left _ _ (ap (option_map (λ (p : Pace). p.left)) c.in-Some.is) (c.in_ok-next.ensures.within b r.events r.brings r.shows r.between r.wire_is r.clock_is))
          (c.in_ok-next.ensures.goes_on b r.events r.brings r.shows r.between r.wire_is r.clock_is)
          (c.in_ok-next.ensures.left r.brings r.wire_is)
          (some_is _ c.in-Some.next _ c.in-Some.is (c.in_ok-next.ensures.later r.shows r.clock_is))
          (λ more h. c.in_ok-next.ensures.steady b r.events r.brings r.shows more r.between r.wire_is r.clock_is h);
      server = c.in_ok-next.ensures.server;
      calls = some_is _ c.in-Some.next _ c.in-Some.is c.in_ok-next.ensures.calls;
      tick = c.take_turn.ensures.tick ∙ c.loop.invariant.tick;
      write_later = omega (arith, writes, more_writes);
      wire_later = omega (arith, sends, more_sends);
    }

pub returns-in-None-clause-within : goal.returns-in-None-clause-within
returns-in-None-clause-within g c = λ b arrivals moments i told shows.
    let r = c.loop.invariant.pacing b arrivals moments i told shows in
    let less = none_done _ _ _ (ap (option_map (λ (p : Pace). p.left)) c.in-None.is) (c.in_ok-next.ensures.within b r.events r.brings r.shows r.between r.wire_is r.clock_is) in
    (pacing_too_many _ _ _ _ _ _ _ _ _ _ _ _ _ _ _ _ _ _ _ _ _ r (c.args.turns - (c.loop.counter + 1)) (one_left c.args.turns c.loop.counter c.loop-test.true) _ _ _ _ _ _ less
    (c.in_ok-next.ensures.goes_on b r.events r.brings r.shows r.between r.wire_is r.clock_is)).0

pub returns-in-None-clause-goes_on : goal.returns-in-None-clause-goes_on
returns-in-None-clause-goes_on g c = λ b arrivals moments i told shows.
    let r = c.loop.invariant.pacing b arrivals moments i told shows in
    let less = none_done _ _ _ (ap (option_map (λ (p : Pace). p.left)) c.in-None.is) (c.in_ok-next.ensures.within b r.events r.brings r.shows r.between r.wire_is r.clock_is) in
    (pacing_too_many _ _ _ _ _ _ _ _ _ _ _ _ _ _ _ _ _ _ _ _ _ r (c.args.turns - (c.loop.counter + 1)) (one_left c.args.turns c.loop.counter c.loop-test.true) _ _ _ _ _ _ less
    (c.in_ok-next.ensures.goes_on b r.events r.brings r.shows r.between r.wire_is r.clock_is)).1

pub returns-in-None-clause-steady : goal.returns-in-None-clause-steady
returns-in-None-clause-steady g c = λ b arrivals moments more i told shows h.
    let r = c.loop.invariant.pacing b arrivals moments i told shows in
    let less = none_done _ _ _ (ap (option_map (λ (p : Pace). p.left)) c.in-None.is) (c.in_ok-next.ensures.within b r.events r.brings r.shows r.between r.wire_is r.clock_is) in
    let room = pacing_room_last _ _ _ _ _ _ _ _ _ _ _ _ _ _ _ _ _ _ _ _ _ r (c.args.turns - (c.loop.counter + 1)) (one_left c.args.turns c.loop.counter c.loop-test.true) less more h in
    c.in_ok-next.ensures.steady b r.events r.brings r.shows more r.between r.wire_is r.clock_is room

pub returns-clause-within : goal.returns-clause-within
returns-clause-within g c = λ b arrivals moments i told shows.
    (pacing_ends _ _ _ _ _ _ _ _ _ _ _ _ _ _ _ _ _ _ _ _ _ (c.loop.invariant.pacing b arrivals moments i told shows) (none_left c.args.turns c.loop.counter c.loop-test.false)).0

pub returns-clause-goes_on : goal.returns-clause-goes_on
returns-clause-goes_on g c = λ b arrivals moments i told shows.
    (pacing_ends _ _ _ _ _ _ _ _ _ _ _ _ _ _ _ _ _ _ _ _ _ (c.loop.invariant.pacing b arrivals moments i told shows) (none_left c.args.turns c.loop.counter c.loop-test.false)).1

pub returns-clause-left : goal.returns-clause-left
returns-clause-left g c = λ b arrivals moments i told shows is.
    (pacing_ends _ _ _ _ _ _ _ _ _ _ _ _ _ _ _ _ _ _ _ _ _ (c.loop.invariant.pacing b arrivals moments i told shows) (none_left c.args.turns c.loop.counter c.loop-test.false)).2

pub returns-clause-steady : goal.returns-clause-steady
returns-clause-steady g c = λ b arrivals moments more i told shows h.
    (pacing_ends _ _ _ _ _ _ _ _ _ _ _ _ _ _ _ _ _ _ _ _ _ (c.loop.invariant.pacing b arrivals moments i told shows) (none_left c.args.turns c.loop.counter c.loop-test.false)).3 more h
