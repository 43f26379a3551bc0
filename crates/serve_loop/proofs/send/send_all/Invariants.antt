use Rattle.std.proofs.Common.{◌≡◌, ℕ, ◌≤◌, ◌+◌, ◌*◌, drop, length}
use Rattle.server_hub.specs.{settings_of}
use Rattle.serve_loop.specs.{Sends, bytes_of, said_datagrams}
use Rattle.serve_loop.proofs.send.send_all.Given as goal

abbrev pub invariant-loop-at : goal.invariant-loop-at
invariant-loop-at g l =
    Sends (g.W.Wire.sent l.fn.wire) (g.W.Wire.sent l.wire) (said_datagrams l.first (settings_of l.hub) l.all) (said_datagrams l.port (settings_of l.hub) (drop l.at-index l.all))
    × (l.port ≡ l.first + 2 * l.at-index)
    × (g.W.Wire.arrivals l.wire ≡ g.W.Wire.arrivals l.fn.wire)
    × (g.W.Wire.faults l.fn.wire ≤ g.W.Wire.faults l.wire)
    × ((bytes count : ℕ) → g.W.Wire.is_steady l.fn.wire (bytes_of (said_datagrams l.first (settings_of l.hub) l.all) + bytes) (length (said_datagrams l.first (settings_of l.hub) l.all) + count)
    → g.W.Wire.is_steady l.wire (bytes_of (said_datagrams l.port (settings_of l.hub) (drop l.at-index l.all)) + bytes) (length (said_datagrams l.port (settings_of l.hub) (drop l.at-index l.all)) + count))
