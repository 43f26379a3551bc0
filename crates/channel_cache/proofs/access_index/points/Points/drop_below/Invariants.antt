use Rattle.std.proofs.Common.{◌≡◌, ◌+◌, ◌/◌, ◌≤◌, deque_len}
use Rattle.std.specs.VecDeque.{deque_capacity}
use Rattle.channel_cache.specs.access_index.{above, Spanned, lows_of, AreLids}
use Rattle.channel_cache.proofs.access_index.points.Points.drop_below.Given as goal

abbrev pub invariant-loop-lo : goal.invariant-loop-lo
invariant-loop-lo l =
    let p = l.self-inside in
    record {
      items : above l.lo p.points.items ≡ above l.lo l.fn.self.items;
      capacity : deque_capacity p.points ≡ l.fn.self.capacity;
      spanned : Spanned p.gone p.spans.items p.points.items;
      room : deque_capacity p.points / 64 + 2 ≤ deque_capacity p.spans;
      lows : p.lows.items ≡ lows_of (above l.lo l.fn.self.items);
      lows_room : l.fn.self.capacity ≤ deque_capacity p.lows;
      lids : AreLids p.lids p.points.items;
    }

abbrev pub decreases-loop-lo : goal.decreases-loop-lo
decreases-loop-lo l = deque_len l.self-inside.points
