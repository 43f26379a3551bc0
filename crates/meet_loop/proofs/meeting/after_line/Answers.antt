use Rattle.std.proofs.Common.{sym, subst}
use Rattle.std.proofs.lemmas.Result.{IfOk-weaker}
use Rattle.trace_loop.specs.trace_book.trace_serving.{after_line, brought}
use Rattle.trace_text.specs.declared.Judged.{Judged}
use Rattle.trace_text.specs.{told}
use Rattle.trace_text.proofs.Judging.{settled}
use Rattle.trace_loop.specs.declared.{Turn.Turn, Turn.TheVariants.GoesOn}
use Rattle.meet_loop.specs.world_book.{meet}
use Rattle.meet_loop.specs.{Comes, Took}
use Rattle.meet_loop.proofs.Opening.{opens_next, opened_turn}
use Rattle.meet_loop.proofs.meeting.after_line.Goals as goal

pub open-requires : goal.open-requires
open-requires c =
    let m = c.args.meeting.now in
    opens_next m.world m.events c.in-Channel.version m.state c.in-Channel.config c.requires.comes.0 (settled m.state _ _ c.in-Channel.is c.requires.settled)
    (subst (λ (j : Judged). Comes m.world m.events m.state (told j) c.requires.comes.0) c.in-Channel.is c.requires.comes.1)

pub after_other-requires-clause-other : goal.after_other-requires-clause-other
after_other-requires-clause-other c = (settled c.args.meeting.now.state _ _ c.in-Other.is c.requires.settled).0

pub after_other-requires-clause-digits : goal.after_other-requires-clause-digits
after_other-requires-clause-digits c = (settled c.args.meeting.now.state _ _ c.in-Other.is c.requires.settled).1

pub returns-in-Channel : goal.returns-in-Channel
returns-in-Channel c =
    let call = c.open in
    let m = c.args.meeting.now in
    IfOk-weaker call.result _ _
    (λ t opens stage number comes.
    let come = subst (λ (j : Judged). Comes m.world m.events m.state (told j) stage) c.in-Channel.is comes in
    let took = opened_turn m.world call.new.world m.events c.in-Channel.version number m.state c.in-Channel.config stage m.notes.items (settled m.state _ _ c.in-Channel.is c.requires.settled) opens.1 come in
    subst (λ (x : Turn (Unit {0})). Took (after_line meet stage m.state (told c.args.line.now) (brought meet (told c.args.line.now))) call.new.world m.events m.state m.notes.items number x) (sym opens.0)
    (subst (λ (j : Judged). Took (after_line meet stage m.state (told j) (brought meet (told j))) call.new.world m.events m.state m.notes.items number GoesOn) (sym c.in-Channel.is) took))
    call.ensures

pub returns-in-Other : goal.returns-in-Other
returns-in-Other c =
    let call = c.after_other in
    let m = c.args.meeting.now in
    IfOk-weaker call.result _ _
    (λ t took stage number comes.
    subst (λ (j : Judged). Took (after_line meet stage m.state (told j) (brought meet (told j))) call.new.meeting.world call.new.meeting.events call.new.meeting.state call.new.meeting.notes.items number t) (sym c.in-Other.is)
    (took stage number (subst (λ (j : Judged). Comes m.world m.events m.state (told j) stage) c.in-Other.is comes)))
    call.ensures
