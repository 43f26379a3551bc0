use Rattle.std.proofs.Common.{rules}
use Rattle.cache_tests.proofs.live_packets.expect_notes.Goals as goal

pub expect_noted-requires : goal.expect_noted-requires
expect_noted-requires g c =
    let one = c.in_ok-expect_note.ensures 1 c.requires in
    let two = c.in_ok-expect_note-2.ensures 2 one in
    (3, two, search rules)
