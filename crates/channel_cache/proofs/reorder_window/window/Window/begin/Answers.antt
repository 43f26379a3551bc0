use Rattle.std.proofs.Common.{◌∙◌, ap}
use Rattle.channel_cache.specs.reorder_window.{seen_of}
use Rattle.channel_cache.proofs.reorder_window.Standing.{begun_stands}
use Rattle.channel_cache.proofs.reorder_window.window.Window.begin.Goals as goal

pub returns-clause-stands : goal.returns-clause-stands
returns-clause-stands g c =
    let w = c.self.inside in
    begun_stands (seen_of w.width w.awaited w.greatest w.ended w.kept.items) c.args.n (ap (λ v. v.kept) c.self.view_is ∙ c.requires.empty)
