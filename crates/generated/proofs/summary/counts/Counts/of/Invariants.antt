use Rattle.std.proofs.Common.{◌≡◌, take}
use Rattle.generated.specs.summary.Counts.{counts_of}
use Rattle.generated.proofs.summary.counts.Counts.of.Given as goal

abbrev pub invariant-loop-note : goal.invariant-loop-note
invariant-loop-note l = l.counts ≡ counts_of (take l.note-index l.notes)
