use Rattle.std.proofs.Common.{◌≡◌, ◌==◌, take}
use Rattle.std.specs.List.{list_any}
use Rattle.server_hub.proofs.places.has.Given as goal

-- whether it is one of those so far
abbrev pub invariant-loop-k : goal.invariant-loop-k
invariant-loop-k l = l.is_any ≡ list_any (λ k. k == l.id) (take l.k-index l.block)
