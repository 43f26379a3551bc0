use Rattle.std.proofs.Common.{Some, sym, subst}
use Rattle.server_hub.specs.Seen.{Seen}
use Rattle.rams_model.specs.Texts.{head_line}
use Rattle.trace_loop.specs.trace_book.trace_serving.{after_line, eventless, brought}
use Rattle.trace_loop.specs.trace_book.{run}
use Rattle.trace_lines.specs.declared.Line.{Line}
use Rattle.trace_lines.specs.{shown}
use Rattle.trace_loop.specs.declared.head_loop.head.HeadLine.TheVariants.{GoesOn, Ends}
use Rattle.trace_loop.specs.head_loop.{Comes, Took}
use Rattle.trace_loop.proofs.head_loop.Opening.{head_bounds, head_turn, end_turn, no_other}
use Rattle.trace_loop.proofs.head_loop.head.after_other.Goals as goal

pub new-requires-clause-tick_least : goal.new-requires-clause-tick_least
new-requires-clause-tick_least c =
    let r = c.requires.comes in
    (head_bounds c.args.hub.now r.1 c.in-Head.version c.in-Head.tick_ms c.in-Head.link r.2 r.0 (subst (λ (l : Line). Comes c.args.hub.now r.1 r.2 (shown l) r.0) c.in-Head.is r.3)).tick_least

pub new-requires-clause-tick_most : goal.new-requires-clause-tick_most
new-requires-clause-tick_most c =
    let r = c.requires.comes in
    (head_bounds c.args.hub.now r.1 c.in-Head.version c.in-Head.tick_ms c.in-Head.link r.2 r.0 (subst (λ (l : Line). Comes c.args.hub.now r.1 r.2 (shown l) r.0) c.in-Head.is r.3)).tick_most

pub new-requires-clause-link_least : goal.new-requires-clause-link_least
new-requires-clause-link_least c =
    let r = c.requires.comes in
    (head_bounds c.args.hub.now r.1 c.in-Head.version c.in-Head.tick_ms c.in-Head.link r.2 r.0 (subst (λ (l : Line). Comes c.args.hub.now r.1 r.2 (shown l) r.0) c.in-Head.is r.3)).link_least

pub new-requires-clause-link_most : goal.new-requires-clause-link_most
new-requires-clause-link_most c =
    let r = c.requires.comes in
    (head_bounds c.args.hub.now r.1 c.in-Head.version c.in-Head.tick_ms c.in-Head.link r.2 r.0 (subst (λ (l : Line). Comes c.args.hub.now r.1 r.2 (shown l) r.0) c.in-Head.is r.3)).link_most

pub returns-in_ok-new-in-Head : goal.returns-in_ok-new-in-Head
returns-in_ok-new-in-Head c = λ stage ids reached number comes.
    let head = head_line c.in-Head.version c.in-Head.tick_ms c.in-Head.link in
    let come = subst (λ (l : Line). Comes c.args.hub.now ids reached (shown l) stage) c.in-Head.is comes in
    subst (λ (l : Line). Took stage (after_line run stage reached (shown l) (brought run (shown l))) (Some c.in_ok-new-in-Head.field-0) ids reached number GoesOn) (sym c.in-Head.is)
    (subst (λ (v : Seen). Took stage (eventless run stage reached head) (Some v) ids reached number GoesOn) (sym c.in_ok-new-in-Head.ensures.value)
    (head_turn c.args.hub.now ids c.in-Head.version c.in-Head.tick_ms c.in-Head.link number reached stage come))

pub returns-in-End : goal.returns-in-End
returns-in-End c = λ stage ids reached number comes.
    subst (λ (l : Line). Took stage (after_line run stage reached (shown l) (brought run (shown l))) c.args.hub.now ids reached number Ends) (sym c.in-End.is)
    (end_turn c.args.hub.now ids number reached stage (subst (λ (l : Line). Comes c.args.hub.now ids reached (shown l) stage) c.in-End.is comes))

pub returns-in_default : goal.returns-in_default
returns-in_default c = λ stage ids reached number comes.
    no_other c.args.hub.now ids reached stage c.args.line comes c.requires.other _ (λ version tick link is. absurd (c.in_default.not-Head version tick link is)) (λ is. absurd (c.in_default.not-End is))
