use Rattle.std.proofs.Common.{◌≡◌, ◌-◌, ◌≤◌, deque_len, take}
use Rattle.channel_cache.specs.access_index.{start_of, IsLastOld}
use Rattle.channel_cache.proofs.access_index.lows.old_count.Given as goal

-- the points in front of `low` are old enough, and those from `high` on too young
abbrev pub invariant-loop-low : goal.invariant-loop-low
invariant-loop-low l = record {
  ordered : l.low ≤ l.high;
  within : l.high ≤ deque_len l.lows;
  old : IsLastOld l.ask.last l.ask.min_ms l.low l.lows.items;
  same : start_of l.ask (take l.high l.lows.items) ≡ start_of l.ask l.lows.items;
}

abbrev pub decreases-loop-low : goal.decreases-loop-low
decreases-loop-low l = l.high - l.low
