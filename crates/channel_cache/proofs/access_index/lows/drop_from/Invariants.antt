use Rattle.std.proofs.Common.{◌≡◌, ◌≤◌, length, deque_len}
use Rattle.std.specs.VecDeque.{deque_capacity}
use Rattle.channel_cache.specs.access_index.{under, RiseLast}
use Rattle.channel_cache.proofs.access_index.lows.drop_from.Given as goal

abbrev pub invariant-loop-lows : goal.invariant-loop-lows
invariant-loop-lows l = record {
  items : under l.ts l.lows.items ≡ under l.ts l.fn.lows.items;
  risen : RiseLast (length l.lows.items) l.lows.items;
  few : length l.lows.items ≤ length l.fn.lows.items;
  capacity : deque_capacity l.lows ≡ deque_capacity l.fn.lows;
}

abbrev pub decreases-loop-lows : goal.decreases-loop-lows
decreases-loop-lows l = deque_len l.lows
