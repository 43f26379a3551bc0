use Rattle.meet_loop.proofs.world_net.Loops.{ended, notes_step, notes_past, drop_told}
use Rattle.meet_loop.proofs.world_net.telling.say_notes.Goals as goal

pub loop-note-preserved : goal.loop-note-preserved
loop-note-preserved c =
    record {
      within = c.next_of-its.ensures.within;
      notes = notes_step c.args.id c.args.all.now c.loop-note.note-index _ _ _ _ _ _ _ _ c.loop-note-test.true c.asks.ensures c.next_of-its.ensures.those
          (drop_told c.args.sent.now c.loop-note.told c.asks.result _ c.next_of-its.ensures.those) c.in_ok-say_note.ensures c.loop-note.invariant.notes;
    }

pub returns : goal.returns
returns c = ended _ _ _ c.loop-note.invariant.notes (notes_past _ _ _ _ c.loop-note-test.false)
