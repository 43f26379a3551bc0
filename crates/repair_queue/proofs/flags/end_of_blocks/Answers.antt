use Rattle.std.proofs.Common.{◌-◌, ◌∙◌, sym, arith}
use Rattle.repair_queue.proofs.Marked.{unset_block}
use Rattle.repair_queue.proofs.flags.end_of_blocks.Goals as goal

pub loop-end-preserved : goal.loop-end-preserved
loop-end-preserved c =
    let end = c.loop-end.end in
    let done = c.args.done.now in
    record {
      within = omega (arith, c.loop-end.invariant.within);
      unset = unset_block done (end - 8) (end - (end - 8)) end (omega (arith, c.loop-end-test.true)) (sym c.is_any_set.ensures ∙ c.if-is_any_set.false) c.loop-end.invariant.unset;
    }
