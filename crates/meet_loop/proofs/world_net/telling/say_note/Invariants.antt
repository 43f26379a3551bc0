use Rattle.std.proofs.Common.{◌≡◌, ◌++◌, map, drop}
use Rattle.meet_loop.specs.world_net.{sent_note, note_with_sent}
use Rattle.meet_loop.proofs.world_net.telling.say_note.Given as goal

abbrev pub invariant-loop-parcel : goal.invariant-loop-parcel
invariant-loop-parcel l = l.notes.items ++ map sent_note (drop l.parcel-index l.sent) ≡ l.fn.notes.items ++ note_with_sent l.fn.id l.fn.note l.sent
