use Rattle.std.specs.Prelude.{is_ok}
use Rattle.channel_cache.proofs.reorder_window.Keeping.{inserted}
use Rattle.channel_cache.proofs.reorder_window.kept.put.Goals as goal

pub returns-clause-items : goal.returns-clause-items
returns-clause-items g c =
    inserted c.args.kept.now.items c.deref.result.now c.insert.new.self.items c.place_of-place.result c.args.n c.args.item (is_ok c.insert.result) (c.insert.ensures.succeeds c.requires.room) c.insert.ensures.items c.deref.ensures.value c.place_of-place.ensures.place
