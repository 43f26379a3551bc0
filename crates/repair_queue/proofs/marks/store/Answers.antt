use Rattle.std.proofs.Common.{Bool, cond, ◌/◌, ◌%◌, sym, ap, ◌∙◌}
use Rattle.std.specs.declared.{option.Option.Option, option.Option.TheVariants.None, option.Option.TheVariants.Some}
use Rattle.std.specs.HashMap.{get}
use Rattle.repair_queue.specs.declared.block.Block.{Block}
use Rattle.repair_queue.specs.{same_pair, mark_in, marked_in}
use Rattle.repair_queue.proofs.Blocks.{mark_chosen}
use Rattle.repair_queue.proofs.marks.store.Goals as goal

pub returns-then-is_empty : goal.returns-then-is_empty
returns-then-is_empty c = λ k m.
    let same = same_pair c.args.key (k, m / 64) in
    ap (λ (o : Option Block). mark_in o (m % 64)) (c.remove.ensures.updates.0 (k, m / 64))
    ∙ (mark_chosen same None (get same_pair c.args.blocks.now (k, m / 64)) (m % 64)
    ∙ ap (λ (b : Bool). cond same b (marked_in c.args.blocks.now k m)) (sym (c.is_empty.ensures c.if-is_empty.true (m % 64))))

pub returns-in_ok-insert : goal.returns-in_ok-insert
returns-in_ok-insert c = λ k m.
    ap (λ (o : Option Block). mark_in o (m % 64)) (c.in_ok-insert.ensures.updates.0 (k, m / 64))
    ∙ mark_chosen (same_pair c.args.key (k, m / 64)) (Some c.args.block) (get same_pair c.args.blocks.now (k, m / 64)) (m % 64)
