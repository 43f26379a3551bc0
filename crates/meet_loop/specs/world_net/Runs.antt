-- Packets whose numbers follow one another.
use Rattle.std.specs.Prelude.{◌≡◌, ◌≢◌, ℕ, ◌-◌, ◌<◌, List, [], ◌∷◌, Option, None, Some, ◌==◌, if◌then◌else◌, All, length, slice_get, nat_lt, take}
use Rattle.std.specs.Option.{option_or}
use Rattle.meet_loop.specs.declared.world_net.runs.Run.{Run}
use Rattle.meet_loop.specs.world_net.Pairs.{at_pair}

-- the packet of a number in a run
abbrev pub in_run : ℕ → Run → Option (List ℕ)
in_run n r = if nat_lt n r.first then None else slice_get r.packets.items (n - r.first)

-- the packet of a channel and a number in runs, of which a channel has one
abbrev pub in_runs : ℕ → ℕ → List Run → Option (List ℕ)
in_runs id n [] = None
in_runs id n (r ∷ rs) = if r.id == id then in_run n r else in_runs id n rs

-- A channel's run is at a place, and none before.
pub record IsRunOf (id : ℕ) (runs : List Run) (place : ℕ) : Type 0 where
  pub run : Run
  pub within : place < length runs
  pub at : slice_get runs place ≡ Some run
  pub its : run.id ≡ id
  pub before : All (λ r. r.id ≢ id) (take place runs)

-- packets of channels: in runs, or apart by their channel's number and their own
pub record Packed : Type 0 where
  pub runs : List Run
  pub apart : List ((ℕ × ℕ) × List ℕ)

-- the packet of a channel and a number: one that was put apart, or that of the channel's run
abbrev pub packet_in : Packed → ℕ → ℕ → Option (List ℕ)
packet_in p id n = option_or (at_pair p.apart id n) (in_runs id n p.runs)
