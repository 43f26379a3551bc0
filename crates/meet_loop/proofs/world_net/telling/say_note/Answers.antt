use Rattle.std.proofs.Common.{◌∷◌, [], map, append_assoc, ap, ◌∙◌, ◌++◌, List}
use Rattle.meet_loop.specs.declared.world_laws.world.WorldNote.{WorldNote}
use Rattle.meet_loop.specs.world_net.{sent_note}
use Rattle.meet_loop.proofs.world_net.Loops.{ended, map_past}
use Rattle.meet_loop.proofs.world_net.telling.say_note.Goals as goal

pub loop-parcel-init : goal.loop-parcel-init
loop-parcel-init c =
    ap (λ (l : List WorldNote). l ++ map sent_note c.args.sent.now) c.in_ok-say.ensures ∙ append_assoc c.args.notes.now.items (_ ∷ []) (map sent_note c.args.sent.now)

pub returns : goal.returns
returns c = ended _ _ _ c.loop-parcel.invariant (map_past _ _ _ c.loop-parcel-test.false)
