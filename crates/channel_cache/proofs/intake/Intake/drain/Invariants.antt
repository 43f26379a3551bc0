use Rattle.std.proofs.Common.{◌≡◌, ℕ, List, ◌++◌, length}
use Rattle.rams_model.specs.declared.Held.{Held}
use Rattle.channel_cache.specs.packet_ring.Seen as rings
use Rattle.channel_cache.specs.reorder_window.{Start}
use Rattle.channel_cache.specs.reorder_window.Seen as windows
use Rattle.channel_cache.specs.{packets_of, IsIntake, Grows}
use Rattle.channel_cache.proofs.Draining.{IsHolding}
use Rattle.channel_cache.proofs.intake.Intake.drain.Given as goal

abbrev pub invariant-loop-held : goal.invariant-loop-held
invariant-loop-held l = record {
  intake : IsIntake l.self;
  window : l.self.window ≡ record l.fn.self.window { kept = l.self.window.kept };
  grows : Grows l.fn.self l.self 0;
  stands : (before : List Held) (s : Start Held) (out : List (ℕ × Held)) → windows.StandsFor l.fn.self.window s out → rings.StandsFor l.fn.self.stock.ring (before ++ packets_of out) → IsHolding l.self.window l.self.stock.ring before s;
}

abbrev pub decreases-loop-held : goal.decreases-loop-held
decreases-loop-held l = length l.self.window.kept
