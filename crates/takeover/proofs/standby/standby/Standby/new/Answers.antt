use Rattle.std.proofs.Common.{ℕ, List, [], None, false, sym, subst}
use Rattle.takeover.specs.standby.{HasRead}
use Rattle.takeover.proofs.standby.Reading.{nothing_read}
use Rattle.takeover.proofs.standby.standby.Standby.new.Goals as goal

pub returns : goal.returns
returns c =
    let s = c.new_channels.result in
    subst (λ (p : List ℕ). HasRead (record { hub = s.hub; ids = s.ids.items; events = s.events; reached = s.state; part = p; ended = false; fault = None }) []) (sym c.in_ok-with_capacity.ensures.items)
    (nothing_read s.hub s.ids.items s.events s.state c.new_channels.ensures.stands c.new_channels.ensures.count)
