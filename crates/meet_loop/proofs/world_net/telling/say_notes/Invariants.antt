use Rattle.std.proofs.Common.{◌≡◌, ◌≤◌, ◌++◌, drop, length}
use Rattle.meet_loop.specs.world_net.{notes_with_sent}
use Rattle.meet_loop.proofs.world_net.telling.say_notes.Given as goal

abbrev pub invariant-loop-note : goal.invariant-loop-note
invariant-loop-note l = record {
  within : l.told ≤ length l.sent;
  notes : l.notes.items ++ notes_with_sent l.id (drop l.note-index l.all) (drop l.told l.sent) ≡ l.fn.notes.items ++ notes_with_sent l.id l.all l.sent;
}
