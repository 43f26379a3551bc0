-- What stays as packets come, call by call.
use Rattle.std.proofs.Common.{◌≡◌, ℕ, ◌+◌, ◌≤◌, length, refl, ◌∙◌, arith}
use Rattle.rams_model.specs.declared.Held.{Held}
use Rattle.channel_cache.specs.reorder_window.Seen as windows
use Rattle.channel_cache.specs.declared.intake.Intake.{Intake}
use Rattle.channel_cache.specs.{Grows}

-- one call after another
pub grows_then : (a b c : Intake) (m n : ℕ) → Grows a b m → Grows b c n → Grows a c (m + n)
grows_then a b c m n one two =
    record { width = two.width ∙ one.width; capacity = two.capacity ∙ one.capacity; end = omega (arith, one.end, two.end); total = omega (arith, one.total, two.total) }

-- another window alone
pub window_grows : (v : Intake) (w : windows.Seen Held) (more : ℕ) → w.width ≡ v.window.width → length w.kept ≤ length v.window.kept + more → Grows v (record v { window = w }) more
window_grows v w more width fits = record { width = width; capacity = refl; end = omega arith; total = omega (arith, fits) }
