use Rattle.std.proofs.Common.{◌≡◌, vec_len}
use Rattle.udp_edge.proofs.sockets.bound_sockets.Given as goal

abbrev pub invariant-loop-place : goal.invariant-loop-place
invariant-loop-place g l = vec_len l.sockets ≡ l.place
