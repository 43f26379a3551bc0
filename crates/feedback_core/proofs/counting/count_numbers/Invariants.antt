-- The numbers so far, and those of the entries that are left, are all of them.
use Rattle.std.proofs.Common.{◌≡◌, ◌+◌, length}
use Rattle.rams_model.specs.Formats.{numbers_of, nack_numbers}
use Rattle.rams_model.specs.Service.{named}
use Rattle.feedback_core.proofs.counting.count_numbers.Given as goal

abbrev pub invariant-loop-entries : goal.invariant-loop-entries
invariant-loop-entries l = l.count + length (numbers_of l.entries) ≡ length (named (nack_numbers l.fn.fci))

abbrev pub decreases-loop-entries : goal.decreases-loop-entries
decreases-loop-entries l = length l.entries
