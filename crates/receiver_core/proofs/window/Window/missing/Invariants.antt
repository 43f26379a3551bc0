-- The least missing numbers among those that were looked at, which go no further than the last.
use Rattle.std.proofs.Common.{◌≡◌, ℕ, ◌-◌, ◌%◌, ◌≤◌, map, not}
use Rattle.rams_model.specs.Receiver.{has_piece, most_named}
use Rattle.receiver_core.specs.{pieces_of, AreBelow}
use Rattle.receiver_core.proofs.Missing.{least_passing}
use Rattle.receiver_core.proofs.window.Window.missing.Given as goal

abbrev pub invariant-loop-n : goal.invariant-loop-n
invariant-loop-n l = record {
  found : l.numbers.items
      ≡ map (λ (n : ℕ). n % 65536) (least_passing (λ (n : ℕ). not (has_piece n (pieces_of l.self-inside.waits.items))) most_named l.self-inside.next (l.n - l.self-inside.next));
  within : l.n - l.self-inside.next ≤ l.n-end - l.self-inside.next;
  below : AreBelow l.n l.self-inside.waits.items l.passed;
}
