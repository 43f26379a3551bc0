use Rattle.std.proofs.Common.{ℕ, List, ◌∙◌, sym, subst, refl}
use Rattle.rams_model.specs.Texts.{bytes_in, live_line, feedback_line, tick_line}
use Rattle.rams_model.specs.declared.Event.TheVariants as event
use Rattle.std.proofs.lemmas.Result.{IfOk-weaker}
use Rattle.server_hub.specs.{after_event_of}
use Rattle.server_hub.specs.declared.HubEvent.TheVariants.{Live, Feedback, Tick}
use Rattle.trace_loop.specs.trace_book.{run}
use Rattle.trace_loop.specs.trace_book.trace_serving.{after_line, brought}
use Rattle.trace_lines.specs.declared.Line.{Line}
use Rattle.trace_lines.specs.{shown}
use Rattle.trace_loop.specs.declared.whole_trace.Does.TheVariants.{GoesOn, Ends}
use Rattle.pool.specs.declared.pool_loop.routes.Route.TheVariants.{To}
use Rattle.pool.specs.pool_loop.{pool, Comes, IsDealt, Took}
use Rattle.pool.proofs.pool_loop.Taking.{once_dealt, takes_head, takes_end, takes_event, no_other}
use Rattle.pool.proofs.pool_loop.dealing.after_other.Goals as goal

pub returns-in-Head : goal.returns-in-Head
returns-in-Head c = λ came bytes stage number comes.
    let d = c.args.dealt.now in
    let come = subst (λ (l : Line). Comes d came bytes (shown l) stage) c.in-Head.is comes in
    subst (λ (l : Line). Took d came (brought run (shown l)) stage (after_line pool stage d.state (shown l) (brought pool (shown l))) number GoesOn) (sym c.in-Head.is)
    (takes_head d came stage bytes c.in-Head.version c.in-Head.tick_ms c.in-Head.link number come)

pub returns-in-End : goal.returns-in-End
returns-in-End c = λ came bytes stage number comes.
    let d = c.args.dealt.now in
    subst (λ (l : Line). Took d came (brought run (shown l)) stage (after_line pool stage d.state (shown l) (brought pool (shown l))) number Ends) (sym c.in-End.is)
    (takes_end d came stage bytes number (subst (λ (l : Line). Comes d came bytes (shown l) stage) c.in-End.is comes))

pub returns-in-Tick : goal.returns-in-Tick
returns-in-Tick c =
    let d = c.args.dealt.now in
    let new = c.deal_tick.new.dealt in
    IfOk-weaker c.deal_tick.result _ _ (λ does is came bytes stage number comes.
    subst (λ (l : Line). Took new came (brought run (shown l)) stage (after_line pool stage d.state (shown l) (brought pool (shown l))) number does) (sym c.in-Tick.is)
    (takes_event d new came stage bytes tick_line (subst (λ (l : Line). Comes d came bytes (shown l) stage) c.in-Tick.is comes) Tick refl refl number does is)) c.deal_tick.ensures

pub deal_to-requires : goal.deal_to-requires
deal_to-requires c = record { once = once_dealt c.args.dealt.now c.requires.comes.0 c.requires.comes.2 c.requires.comes.3.before }

pub deal_to-requires-in-Feedback : goal.deal_to-requires-in-Feedback
deal_to-requires-in-Feedback c = record { once = once_dealt c.args.dealt.now c.requires.comes.0 c.requires.comes.2 c.requires.comes.3.before }

pub returns-in_ok-decode-in-Live : goal.returns-in_ok-decode-in-Live
returns-in_ok-decode-in-Live c =
    let d = c.args.dealt.now in
    let new = c.deal_to.new.dealt in
    let hex = c.in-Live.hex.now in
    let made = c.of-bytes.ensures ∙ c.in_ok-decode-in-Live.ensures in
    IfOk-weaker c.deal_to.result _ _ (λ does is came bytes stage number comes.
    subst (λ (l : Line). Took new came (brought run (shown l)) stage (after_line pool stage d.state (shown l) (brought pool (shown l))) number does) (sym c.in-Live.is)
    (takes_event d new came stage bytes (live_line c.in-Live.id hex) (subst (λ (l : Line). Comes d came bytes (shown l) stage) c.in-Live.is comes) (Live c.in-Live.id (bytes_in hex)) refl refl number does
    (subst (λ (bs : List ℕ). IsDealt (after_event_of c.in-Live.id (event.Live bs)) (To c.in-Live.id) d new does) made is))) c.deal_to.ensures

pub returns-in_ok-decode-in-Feedback : goal.returns-in_ok-decode-in-Feedback
returns-in_ok-decode-in-Feedback c =
    let d = c.args.dealt.now in
    let new = c.deal_to-in-Feedback.new.dealt in
    let hex = c.in-Feedback.hex.now in
    let id = c.in-Feedback.id in
    let client = c.in-Feedback.client in
    let made = c.of-bytes-in-Feedback.ensures ∙ c.in_ok-decode-in-Feedback.ensures in
    IfOk-weaker c.deal_to-in-Feedback.result _ _ (λ does is came bytes stage number comes.
    subst (λ (l : Line). Took new came (brought run (shown l)) stage (after_line pool stage d.state (shown l) (brought pool (shown l))) number does) (sym c.in-Feedback.is)
    (takes_event d new came stage bytes (feedback_line id client hex) (subst (λ (l : Line). Comes d came bytes (shown l) stage) c.in-Feedback.is comes) (Feedback id client (bytes_in hex)) refl refl number does
    (subst (λ (bs : List ℕ). IsDealt (after_event_of id (event.Feedback client bs)) (To id) d new does) made is))) c.deal_to-in-Feedback.ensures

pub returns-in_default : goal.returns-in_default
returns-in_default c = λ came bytes stage number comes.
    no_other c.args.dealt.now came stage bytes c.args.line comes c.requires.other _
    (λ version tick link is. absurd (c.in_default.not-Head version tick link is))
    (λ id hex is. absurd (c.in_default.not-Live id hex is))
    (λ id client hex is. absurd (c.in_default.not-Feedback id client hex is))
    (λ is. absurd (c.in_default.not-Tick is))
    (λ is. absurd (c.in_default.not-End is))
