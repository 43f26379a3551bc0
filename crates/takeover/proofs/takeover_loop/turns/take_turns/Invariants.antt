use Rattle.std.proofs.Common.{◌≡◌, ℕ, ◌+◌, ◌-◌, ◌≤◌, List, [], drop, Some}
use Rattle.ram_io.specs.declared.Incoming.{Incoming}
use Rattle.trace_loop.specs.journal_book.{events_of}
use Rattle.serve_loop.specs.{Begun, IsBetween, IsServer}
use Rattle.takeover.proofs.takeover_loop.Pacing.{IsPacing}
use Rattle.takeover.proofs.takeover_loop.turns.take_turns.Given as goal

abbrev pub invariant-loop : goal.invariant-loop
invariant-loop g l = record {
  pacing : (b : Begun) (arrivals : List Incoming) (moments : List ℕ)
      → IsBetween b [] l.fn.server.live l.fn.server.ids.items l.fn.server.hub (g.K.Sink.held l.fn.sink) l.fn.server.journal (g.W.Wire.sent l.fn.wire)
      → g.W.Wire.arrivals l.fn.wire ≡ Some arrivals → g.C.Clock.moments l.fn.clock ≡ Some moments
      → IsPacing b (g.K.Sink.is_steady l.fn.sink) (g.W.Wire.is_steady l.fn.wire) (g.K.Sink.is_steady l.sink) (g.W.Wire.is_steady l.wire) l.fn.server.journal
      (events_of b.live l.fn.server.hub.tick b.channels l.turns arrivals moments) l.left l.fn.server.hub.tick l.pace.due l.pace.left (l.turns - l.counter) (drop l.turns arrivals)
      l.server.live l.server.ids.items l.server.hub (g.K.Sink.held l.sink) l.server.journal (g.W.Wire.sent l.wire) (g.W.Wire.arrivals l.wire) (g.C.Clock.moments l.clock);
  server : IsServer l.server.live l.server.ids.items l.server.hub;
  calls : l.server.hub.calls + l.pace.left ≤ 1000000;
  tick : l.server.hub.tick ≡ l.fn.server.hub.tick;
  write_later : g.K.Sink.faults l.fn.sink ≤ g.K.Sink.faults l.sink;
  wire_later : g.W.Wire.faults l.fn.wire ≤ g.W.Wire.faults l.wire;
}
