use Rattle.std.proofs.Common.{◌≡◌, deque_len}
use Rattle.std.specs.VecDeque.{deque_capacity}
use Rattle.channel_cache.specs.access_index.{above}
use Rattle.channel_cache.proofs.access_index.lows.drop_lows.Given as goal

abbrev pub invariant-loop-lo : goal.invariant-loop-lo
invariant-loop-lo l = record {
  items : above l.lo l.lows.items ≡ above l.lo l.fn.lows.items;
  capacity : deque_capacity l.lows ≡ deque_capacity l.fn.lows;
}

abbrev pub decreases-loop-lo : goal.decreases-loop-lo
decreases-loop-lo l = deque_len l.lows
