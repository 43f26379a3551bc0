use Rattle.std.proofs.Common.{sym, subst}
use Rattle.std.proofs.lemmas.Result.{IfOk-weaker}
use Rattle.trace_loop.specs.trace_book.trace_serving.{after_line, brought}
use Rattle.trace_loop.specs.trace_book.{run}
use Rattle.trace_text.specs.declared.Judged.{Judged}
use Rattle.trace_text.specs.{told}
use Rattle.trace_text.proofs.Judging.{settled}
use Rattle.server_hub.specs.declared.HubAnswer.{HubAnswer}
use Rattle.trace_loop.specs.declared.{Turn.Turn, Turn.TheVariants.GoesOn}
use Rattle.rams_replay.specs.{Comes, Took}
use Rattle.rams_replay.proofs.Opening.{opens_next, opened_turn}
use Rattle.rams_replay.proofs.replay.after_line.Goals as goal

pub open-requires : goal.open-requires
open-requires c =
    let r = c.args.replay.now in
    opens_next r.hub r.events c.in-Channel.version r.state c.in-Channel.config c.requires.comes.0 (settled r.state _ _ c.in-Channel.is c.requires.settled)
    (subst (λ (j : Judged). Comes r.hub r.events r.state (told j) c.requires.comes.0) c.in-Channel.is c.requires.comes.1)

pub after_other-requires-clause-other : goal.after_other-requires-clause-other
after_other-requires-clause-other c = (settled c.args.replay.now.state _ _ c.in-Other.is c.requires.settled).0

pub after_other-requires-clause-digits : goal.after_other-requires-clause-digits
after_other-requires-clause-digits c = (settled c.args.replay.now.state _ _ c.in-Other.is c.requires.settled).1

pub returns-in-Channel : goal.returns-in-Channel
returns-in-Channel c =
    let call = c.open in
    let r = c.args.replay.now in
    IfOk-weaker call.result _ _
    (λ t opens stage number comes.
    let come = subst (λ (j : Judged). Comes r.hub r.events r.state (told j) stage) c.in-Channel.is comes in
    let took = opened_turn r.hub call.new.hub r.events c.in-Channel.version number r.state c.in-Channel.config stage (settled r.state _ _ c.in-Channel.is c.requires.settled) opens.1 come in
    subst (λ (x : Turn HubAnswer). Took (after_line run stage r.state (told c.args.line.now) (brought run (told c.args.line.now))) call.new.hub r.events r.state number x) (sym opens.0)
    (subst (λ (j : Judged). Took (after_line run stage r.state (told j) (brought run (told j))) call.new.hub r.events r.state number GoesOn) (sym c.in-Channel.is) took))
    call.ensures

pub returns-in-Other : goal.returns-in-Other
returns-in-Other c =
    let call = c.after_other in
    let r = c.args.replay.now in
    IfOk-weaker call.result _ _
    (λ t took stage number comes.
    subst (λ (j : Judged). Took (after_line run stage r.state (told j) (brought run (told j))) call.new.replay.hub call.new.replay.events call.new.replay.state number t) (sym c.in-Other.is)
    (took stage number (subst (λ (j : Judged). Comes r.hub r.events r.state (told j) stage) c.in-Other.is comes)))
    call.ensures
