use Rattle.std.proofs.Common.{Some, sym, subst}
use Rattle.trace_loop.specs.trace_book.trace_serving.{eventless}
use Rattle.trace_lines.specs.declared.Line.{Line}
use Rattle.trace_lines.specs.{shown}
use Rattle.trace_loop.specs.declared.Turn.TheVariants.{GoesOn}
use Rattle.meet_loop.specs.world_book.{meet}
use Rattle.meet_loop.specs.{Comes, Took}
use Rattle.meet_loop.proofs.Opening.{head_bounds, head_turn}
use Rattle.meet_loop.proofs.meeting.begin_or_end.Goals as goal

pub new_world-requires-clause-tick_least : goal.new_world-requires-clause-tick_least
new_world-requires-clause-tick_least c =
    let m = c.args.meeting.now in
    (head_bounds m.world m.events c.in-Head.version c.in-Head.tick_ms c.in-Head.link m.state c.requires.comes.0
    (subst (λ (l : Line). Comes m.world m.events m.state (shown l) c.requires.comes.0) c.in-Head.is c.requires.comes.1)).tick_least

pub new_world-requires-clause-tick_most : goal.new_world-requires-clause-tick_most
new_world-requires-clause-tick_most c =
    let m = c.args.meeting.now in
    (head_bounds m.world m.events c.in-Head.version c.in-Head.tick_ms c.in-Head.link m.state c.requires.comes.0
    (subst (λ (l : Line). Comes m.world m.events m.state (shown l) c.requires.comes.0) c.in-Head.is c.requires.comes.1)).tick_most

pub new_world-requires-clause-link_least : goal.new_world-requires-clause-link_least
new_world-requires-clause-link_least c =
    let m = c.args.meeting.now in
    (head_bounds m.world m.events c.in-Head.version c.in-Head.tick_ms c.in-Head.link m.state c.requires.comes.0
    (subst (λ (l : Line). Comes m.world m.events m.state (shown l) c.requires.comes.0) c.in-Head.is c.requires.comes.1)).link_least

pub new_world-requires-clause-link_most : goal.new_world-requires-clause-link_most
new_world-requires-clause-link_most c =
    let m = c.args.meeting.now in
    (head_bounds m.world m.events c.in-Head.version c.in-Head.tick_ms c.in-Head.link m.state c.requires.comes.0
    (subst (λ (l : Line). Comes m.world m.events m.state (shown l) c.requires.comes.0) c.in-Head.is c.requires.comes.1)).link_most

pub returns-in_ok-new_world-in-Head : goal.returns-in_ok-new_world-in-Head
returns-in_ok-new_world-in-Head c = λ stage number comes.
    let m = c.args.meeting.now in
    let v = c.in_ok-new_world-in-Head.field-0 in
    let come = subst (λ (l : Line). Comes m.world m.events m.state (shown l) stage) c.in-Head.is comes in
    subst (λ (l : Line). Took (eventless meet stage m.state (shown l)) (Some v) m.events m.state m.notes.items number GoesOn) (sym c.in-Head.is)
    (head_turn m.world v m.events c.in-Head.version c.in-Head.tick_ms c.in-Head.link number m.state stage m.notes.items c.in_ok-new_world-in-Head.ensures come)
