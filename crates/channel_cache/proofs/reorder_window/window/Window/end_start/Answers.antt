use Rattle.std.proofs.Common.{sym, subst}
use Rattle.channel_cache.specs.reorder_window.{seen_of, StandsFor}
use Rattle.channel_cache.specs.reorder_window.Seen.{Seen}
use Rattle.channel_cache.proofs.reorder_window.Standing.{ended_stands}
use Rattle.channel_cache.proofs.reorder_window.window.Window.end_start.Goals as goal

pub returns-clause-stands : goal.returns-clause-stands
returns-clause-stands g c = λ s out stood.
    let w = c.self.inside in
    ended_stands (seen_of w.width w.awaited w.greatest w.ended w.kept.items) s out (subst (λ (v : Seen g.row.T.Denot). StandsFor v s out) (sym c.self.view_is) stood)
