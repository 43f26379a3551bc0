-- Lines `tick`, one after another.
use Rattle.std.proofs.Common.{◌≡◌, ℕ, suc, ◌+◌, ◌-◌, ◌<◌, ◌≤◌, [], ◌++◌, replicate, ap, arith}
use Rattle.server_hub.specs.declared.HubEvent.TheVariants.{Tick}
use Rattle.trace_loop.specs.journal_book.{event_line, event_lines}

-- one of the ticks that are left
pub ticks_next : (count done : ℕ) → done < count → event_lines (replicate (count - done) Tick) ≡ event_line Tick ++ event_lines (replicate (count - (done + 1)) Tick)
ticks_next count done h = let left : count - done ≡ suc (count - (done + 1)) = omega arith in ap (λ n. event_lines (replicate n Tick)) left

-- all of them, and none
pub ticks_all : (count : ℕ) → event_lines (replicate (count - 0) Tick) ≡ event_lines (replicate count Tick)
ticks_all count = let same : count - 0 ≡ count = omega arith in ap (λ n. event_lines (replicate n Tick)) same

pub ticks_none : (count done : ℕ) → count ≤ done → event_lines (replicate (count - done) Tick) ≡ []
ticks_none count done h = let none : count - done ≡ 0 = omega arith in ap (λ n. event_lines (replicate n Tick)) none
