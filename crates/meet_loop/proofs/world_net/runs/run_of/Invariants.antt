use Rattle.std.proofs.Common.{◌≢◌, All, take}
use Rattle.meet_loop.proofs.world_net.runs.run_of.Given as goal

-- none of those that were looked at is the channel's
abbrev pub invariant-loop-place : goal.invariant-loop-place
invariant-loop-place l = All (λ r. r.id ≢ l.id) (take l.place l.runs)
