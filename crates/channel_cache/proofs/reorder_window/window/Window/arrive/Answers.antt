use Rattle.std.proofs.Common.{sym, ◌∙◌, subst}
use Rattle.channel_cache.specs.declared.reorder_window.window.Came.{Came}
use Rattle.channel_cache.specs.reorder_window.{arrived, StandsFor, start_after}
use Rattle.channel_cache.specs.reorder_window.Seen.{Seen}
use Rattle.channel_cache.proofs.reorder_window.Standing.{came_same, arrived_stands}
use Rattle.channel_cache.proofs.reorder_window.window.Window.arrive.Goals as goal

pub returns-clause-stands : goal.returns-clause-stands
returns-clause-stands g c = λ s out stood.
    let v = c.args.self.now in (
      c.keep_in_time.ensures.came ∙ came_same v s out c.args.n c.requires.going stood,
      subst (λ (w : Seen g.row.T.Denot). StandsFor w (start_after s c.args.n c.args.item c.keep_in_time.result) out) (sym c.keep_in_time.ensures.step)
          (subst (λ (r : Came). StandsFor (arrived v c.args.n c.args.item r) (start_after s c.args.n c.args.item r) out) (sym c.keep_in_time.ensures.came)
          (arrived_stands v s out c.args.n c.args.item c.keep_in_time.ensures.was c.requires.going c.requires.settled stood)),
    )
