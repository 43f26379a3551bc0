use Rattle.std.proofs.Common.{ℕ, List, ◌∙◌, sym, subst, refl}
use Rattle.rams_model.specs.declared.Event.TheVariants as event
use Rattle.std.proofs.lemmas.Result.{IfOk-weaker}
use Rattle.trace_loop.specs.trace_book.trace_serving.{after_line, brought}
use Rattle.trace_lines.specs.declared.Line.{Line}
use Rattle.trace_lines.specs.{shown, HasDigits}
use Rattle.trace_loop.specs.declared.whole_trace.Does.TheVariants.{GoesOn, Ends}
use Rattle.threads_loop.specs.{threads, Comes, IsDealt, Took}
use Rattle.threads_loop.proofs.Taking.{takes_head, takes_end, takes_tick, takes_live, takes_feedback, no_other}
use Rattle.threads_loop.proofs.dealing.after_other.Goals as goal

pub returns-in_ok-keep-in-Head-clause-took : goal.returns-in_ok-keep-in-Head-clause-took
returns-in_ok-keep-in-Head-clause-took c = λ stage number comes.
    let d = c.args.dealt.now in
    let n = record d { head = c.keep.new.head } in
    let come = subst (λ (l : Line). Comes d c.args.bytes.now (shown l) stage) c.in-Head.is comes in
    subst (λ (l : Line). Took n stage (after_line threads stage d.state (shown l) (brought threads (shown l))) number GoesOn) (sym c.in-Head.is)
    (takes_head d n stage c.args.bytes.now c.in-Head.version c.in-Head.tick_ms c.in-Head.link number come refl refl refl refl refl)

pub returns-in-End-clause-took : goal.returns-in-End-clause-took
returns-in-End-clause-took c = λ stage number comes.
    let d = c.args.dealt.now in
    subst (λ (l : Line). Took d stage (after_line threads stage d.state (shown l) (brought threads (shown l))) number Ends) (sym c.in-End.is)
    (takes_end d stage c.args.bytes.now number (subst (λ (l : Line). Comes d c.args.bytes.now (shown l) stage) c.in-End.is comes))

pub returns-in-Tick-clause-took : goal.returns-in-Tick-clause-took
returns-in-Tick-clause-took c =
    let d = c.args.dealt.now in
    let new = c.deal-in-Tick.new.dealt in
    IfOk-weaker c.deal-in-Tick.result _ _ (λ does is stage number comes.
    subst (λ (l : Line). Took new stage (after_line threads stage d.state (shown l) (brought threads (shown l))) number does) (sym c.in-Tick.is)
    (takes_tick d new stage c.args.bytes.now number does (subst (λ (l : Line). Comes d c.args.bytes.now (shown l) stage) c.in-Tick.is comes) c.deal-in-Tick.ensures.workers is)) c.deal-in-Tick.ensures.dealt

pub returns-in_ok-decode-in-Live-clause-took : goal.returns-in_ok-decode-in-Live-clause-took
returns-in_ok-decode-in-Live-clause-took c =
    let d = c.args.dealt.now in
    let new = c.deal.new.dealt in
    let hex = c.in-Live.hex.now in
    let made = c.of-bytes.ensures ∙ c.in_ok-decode-in-Live.ensures in
    let digits = subst HasDigits c.in-Live.is c.requires.digits in
    IfOk-weaker c.deal.result _ _ (λ does is stage number comes.
    subst (λ (l : Line). Took new stage (after_line threads stage d.state (shown l) (brought threads (shown l))) number does) (sym c.in-Live.is)
    (takes_live d new stage c.args.bytes.now hex c.in-Live.id number does (subst (λ (l : Line). Comes d c.args.bytes.now (shown l) stage) c.in-Live.is comes) digits c.deal.ensures.workers
    (subst (λ (bs : List ℕ). IsDealt (event.Live bs) d new does) made is))) c.deal.ensures.dealt

pub returns-in_ok-decode-in-Feedback-clause-took : goal.returns-in_ok-decode-in-Feedback-clause-took
returns-in_ok-decode-in-Feedback-clause-took c =
    let d = c.args.dealt.now in
    let new = c.deal-in-Feedback.new.dealt in
    let hex = c.in-Feedback.hex.now in
    let made = c.of-bytes-in-Feedback.ensures ∙ c.in_ok-decode-in-Feedback.ensures in
    let digits = subst HasDigits c.in-Feedback.is c.requires.digits in
    IfOk-weaker c.deal-in-Feedback.result _ _ (λ does is stage number comes.
    subst (λ (l : Line). Took new stage (after_line threads stage d.state (shown l) (brought threads (shown l))) number does) (sym c.in-Feedback.is)
    (takes_feedback d new stage c.args.bytes.now hex c.in-Feedback.id c.in-Feedback.client number does (subst (λ (l : Line). Comes d c.args.bytes.now (shown l) stage) c.in-Feedback.is comes) digits c.deal-in-Feedback.ensures.workers
    (subst (λ (bs : List ℕ). IsDealt (event.Feedback c.in-Feedback.client bs) d new does) made is))) c.deal-in-Feedback.ensures.dealt

pub returns-in_default-clause-took : goal.returns-in_default-clause-took
returns-in_default-clause-took c = λ stage number comes.
    no_other c.args.dealt.now stage c.args.bytes.now c.args.line comes c.requires.other _
    (λ version tick link is. absurd (c.in_default.not-Head version tick link is))
    (λ id hex is. absurd (c.in_default.not-Live id hex is))
    (λ id client hex is. absurd (c.in_default.not-Feedback id client hex is))
    (λ is. absurd (c.in_default.not-Tick is))
    (λ is. absurd (c.in_default.not-End is))
