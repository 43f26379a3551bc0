-- The sections of the lines that are left are those of all.
use Rattle.std.proofs.Common.{◌≡◌, length}
use Rattle.converters.specs.description_loop.sdp_config.{lines_left, sections_of}
use Rattle.converters.proofs.description_loop.sdp_config.section.SectionsIterator.next.Given as goal

abbrev pub invariant-loop-media : goal.invariant-loop-media
invariant-loop-media l = sections_of (lines_left l.self.lines) ≡ sections_of (lines_left l.initial.self.lines)

abbrev pub decreases-loop-media : goal.decreases-loop-media
decreases-loop-media l = length (lines_left l.self.lines)
