use Rattle.std.proofs.Common.{◌≡◌, ◌∷◌, sym, subst}
use Rattle.std.proofs.lemmas.Result.{IfOk-weaker}
use Rattle.rams_model.specs.declared.Event.TheVariants.{Feedback}
use Rattle.rams_model.specs.Service.{Answered, answer}
use Rattle.channel_parts.specs.{StandsFor}
use Rattle.server_hub.specs.session_core.{SendsShort}
use Rattle.server_hub.proofs.session_core.Planned.{goes_on}
use Rattle.server_hub.proofs.session_core.Short.{sends_short}
use Rattle.server_hub.proofs.session_core.channel.Core.feedback.Goals as goal

pub invariant_of-self : goal.invariant_of-self
invariant_of-self c =
    let core = c.self.invariant in
    goes_on c.answer_feedback.result (λ (a : Answered). a ≡ answer c.self.inside.parts.config core.events (Feedback c.args.client c.args.bytes.now)) c.self.inside.parts c.answer_feedback.new.parts
    (Feedback c.args.client c.args.bytes.now ∷ core.events) core (c.answer_feedback.ensures.stands core.events core.stands) c.answer_feedback.ensures.same

pub returns-clause-short : goal.returns-clause-short
returns-clause-short c =
    let core = c.self.invariant in
    let s = c.self.inside.parts.config in
    let event = Feedback c.args.client c.args.bytes.now in
    IfOk-weaker c.answer_feedback.result (λ (a : Answered). (a ≡ answer s core.events event) × StandsFor c.answer_feedback.new.parts (event ∷ core.events)) SendsShort
    (λ a is. subst SendsShort (sym is.0) (sends_short s core.events event)) (c.answer_feedback.ensures.stands core.events core.stands)
