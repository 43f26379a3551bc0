use Rattle.std.proofs.Common.{◌≡◌}
use Rattle.udp_edge.proofs.sockets.next_datagram.Given as goal

-- the place whose turn it was has it still
abbrev pub invariant-loop : goal.invariant-loop
invariant-loop l = l.round.turn ≡ l.fn.round.turn
