use Rattle.std.proofs.Common.{◌≡◌, ◌-◌, ◌*◌, ◌≤◌, deque_len, take}
use Rattle.channel_cache.specs.access_index.{start_of}
use Rattle.channel_cache.proofs.access_index.points.Points.choose.Given as goal

-- the points of the spans that were passed over or looked into are too young
abbrev pub invariant-loop-place : goal.invariant-loop-place
invariant-loop-place l =
    let p = l.self-inside in
    record {
      within : l.place ≤ deque_len p.spans;
      same : start_of l.ask (take (l.place * 64 - p.gone) p.points.items) ≡ start_of l.ask p.points.items;
    }

abbrev pub decreases-loop-place : goal.decreases-loop-place
decreases-loop-place l = l.place
