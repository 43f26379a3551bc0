use Rattle.std.proofs.Common.{◌≡◌, All}
use Rattle.mio.specs.Event.{event_token}
use Rattle.udp_edge.specs.{IsReady, KeepsReady}
use Rattle.udp_edge.proofs.sockets.mark_all.Given as goal

-- the events so far are marked
abbrev pub invariant-loop-event : goal.invariant-loop-event
invariant-loop-event l =
    record {
      marked : All (λ e. IsReady l.round.ready (event_token e.now).0) l.yielded;
      kept : KeepsReady l.fn.round.ready l.round.ready;
      turn : l.round.turn ≡ l.fn.round.turn;
    }
