use Rattle.channel_cache.proofs.reorder_window.Passing.{went_by}
use Rattle.channel_cache.proofs.reorder_window.window.Window.pass.Goals as goal

pub returns-clause-stands : goal.returns-clause-stands
returns-clause-stands g c = λ item s out stood.
    went_by c.args.self.now c.go_by.new.self c.args.n item s out c.go_by.ensures.was c.go_by.ensures.is c.requires.small c.requires.going c.requires.next.empty (c.go_by.ensures.by item) stood
