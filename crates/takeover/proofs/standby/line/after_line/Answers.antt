use Rattle.std.proofs.Common.{sym, subst}
use Rattle.rams_model.specs.Texts.{accepted}
use Rattle.trace_lines.specs.{shown}
use Rattle.trace_text.specs.{told}
use Rattle.trace_text.specs.declared.Judged.{Judged}
use Rattle.takeover.specs.standby.{Stands, Took, turn_of}
use Rattle.trace_text.proofs.Judging.{settled}
use Rattle.takeover.proofs.standby.Turning.{accepted_as, may_be}
use Rattle.takeover.proofs.standby.line.after_line.Goals as goal

pub after_other-requires-clause-may : goal.after_other-requires-clause-may
after_other-requires-clause-may c = let r = c.args.channels.now.state in (may_be r (shown c.in-Other.line) (accepted_as r _ _ c.in-Other.is c.requires.accepted)).0

pub after_other-requires-clause-range : goal.after_other-requires-clause-range
after_other-requires-clause-range c = let r = c.args.channels.now.state in (may_be r (shown c.in-Other.line) (accepted_as r _ _ c.in-Other.is c.requires.accepted)).1

pub after_other-requires-clause-other : goal.after_other-requires-clause-other
after_other-requires-clause-other c = (settled c.args.channels.now.state _ _ c.in-Other.is c.requires.settled).0

pub after_other-requires-clause-digits : goal.after_other-requires-clause-digits
after_other-requires-clause-digits c = (settled c.args.channels.now.state _ _ c.in-Other.is c.requires.settled).1

pub returns-in-Other-clause-turn : goal.returns-in-Other-clause-turn
returns-in-Other-clause-turn c = λ stage number stands is.
    let new = c.after_other.new.channels in
    subst (λ (j : Judged). Took c.after_other.result (turn_of stage number (told j)) (Stands new.hub new.ids.items new.events new.state) number) (sym c.in-Other.is) (c.after_other.ensures.turn stage number stands is)
