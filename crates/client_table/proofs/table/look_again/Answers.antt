use Rattle.std.proofs.Common.{◌∙◌}
use Rattle.client_table.specs.{entry_at}
use Rattle.client_table.proofs.InTime.{joined_shown, moved, in_time_anew}
use Rattle.client_table.proofs.table.look_again.Goals as goal

pub place_anew-requires-clause-joins : goal.place_anew-requires-clause-joins
place_anew-requires-clause-joins c =
    joined_shown (entry_at c.args.tick c.args.entries.now.slots) (entry_at c.args.tick c.loop-client.entries.slots) c.loop-client.invariant.shown c.args.index.now.entries c.requires.joins

pub loop-client-preserved : goal.loop-client-preserved
loop-client-preserved c =
    let tick = c.args.tick in
    let es = c.args.index.now.entries in
    let slots = c.loop-client.entries.slots in
    let joins = joined_shown (entry_at tick c.args.entries.now.slots) (entry_at tick slots) c.loop-client.invariant.shown es c.requires.joins in
    record {
      times = in_time_anew c.loop-client.due c.place_anew.new.due c.in-Some.client tick slots c.place_anew.new.entries.slots
          (moved c.in-Some.client c.loop-client.due c.take.new.self c.place_anew.new.due c.in-Some.ensures.moves c.place_anew.ensures.moves) es joins c.place_anew.ensures.others c.place_anew.ensures.there c.loop-client.invariant.times;
      shown = λ key. c.place_anew.ensures.shown key ∙ c.loop-client.invariant.shown key;
    }
