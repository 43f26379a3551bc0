use Rattle.std.proofs.Common.{◌≡◌, ◌^◌, ◌++◌, take}
use Rattle.std.specs.VecDeque.Iter.{deque_iter_rest}
use Rattle.channel_cache.specs.access_index.{start_of, RiseIn}
use Rattle.channel_cache.proofs.access_index.points.Points.look.Given as goal

-- the points that were looked at are too young
abbrev pub invariant-loop-point : goal.invariant-loop-point
invariant-loop-point l =
    let left = take l.start l.self.items ++ deque_iter_rest l.point-iterator.iter in
    record {
      same : start_of l.ask left ≡ start_of l.ask (take l.end l.self.items);
      rise : RiseIn 0 (2 ^ 62) 0 l.ask.total left;
    }
