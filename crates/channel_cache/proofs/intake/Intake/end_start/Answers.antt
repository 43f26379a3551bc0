use Rattle.std.proofs.Common.{length, ◌∙◌, ap, arith}
use Rattle.rams_model.specs.declared.Held.{Held}
use Rattle.channel_cache.specs.reorder_window.{released}
use Rattle.channel_cache.specs.reorder_window.Seen as windows
use Rattle.channel_cache.proofs.Settling.{grows_then, window_grows}
use Rattle.channel_cache.proofs.Placing.{ended_holds}
use Rattle.channel_cache.proofs.intake.Intake.end_start.Goals as goal

pub returns-clause-stands : goal.returns-clause-stands
returns-clause-stands c = λ before s held.
    let v = c.args.self.now.window in
    let w = c.drain.new.self.window in
    let out = released v.width v.ended s in
    let ended = ap (λ (x : windows.Seen Held). x.ended) c.drain.ensures.window ∙ ap (λ (x : windows.Seen Held). x.ended) c.end_start.ensures.step in
    ended_holds w c.drain.new.self.stock.ring before s ended (c.drain.ensures.stands before s out (c.end_start.ensures.stands s out held.waits) held.holds).holds

pub returns-clause-grows : goal.returns-clause-grows
returns-clause-grows c =
    let v = c.args.self.now in
    let w = c.end_start.new.self in
    let step = c.end_start.ensures.step in
    let ended = window_grows v w 0 (ap (λ (x : windows.Seen Held). x.width) step) (omega (arith, ap (λ (x : windows.Seen Held). length x.kept) step)) in
    grows_then v (record v { window = w }) c.drain.new.self 0 0 ended c.drain.ensures.grows
