-- What each kind of message gets is on the page.
use Rattle.std.proofs.Common.{◌≡◌, ◌∷◌, List, inl, inr, refl, sym, ap, subst, ◌∙◌}
use Rattle.rams_model.specs.Service.{after_message, told, is_rams, Wanted}
use Rattle.feedback_core.specs.declared.{desk.Desk.Desk, framing.Message.Message, page.Page.Page}
use Rattle.feedback_core.specs.{shown_message, IsTurned}
use Rattle.feedback_core.specs.declared.framing.Message.TheVariants.{Bye, Nack, Request, Stop}
use Rattle.feedback_core.proofs.Turns.{said_turn, noted_turn, told_heard, told_turn}
use Rattle.feedback_core.proofs.answering.answer_message.Goals as goal

pub returns-in-Bye-clause-answers : goal.returns-in-Bye-clause-answers
returns-in-Bye-clause-answers c = λ before history hold visit written.
    let s = c.args.desk.now.config.now in
    let v = c.args.desk.now.visitor in
    let queue = c.args.desk.now.queue.now in
    let new = c.answer_bye-said.new.desk in
    let t : IsTurned s before history queue v c.args.desk.now.page = record { visit = visit; written = written } in
    let t' = subst (IsTurned s before history queue v) (sym c.answer_bye-said.ensures.page) t in
    let m = shown_message (Bye c.in-Bye.packet) in
    let w = told_turn s m before history queue v new.page t' in
    subst (λ (x : Message). IsTurned s before (after_message s v.client (shown_message x) (told v.client (shown_message x) ∷ history)) new.queue.now new.visitor c.write.new.self)
    (sym c.in-Bye.is)
    (said_turn s m before history (after_message s v.client m (told v.client m ∷ history)) new.queue.now queue new.visitor v c.answer_bye-said.result new.page c.write.new.self
    c.answer_bye-said.ensures.same.one.client c.write.ensures.notes c.write.ensures.info (inl c.answer_bye-said.ensures.info) t'
    (c.answer_bye-said.ensures.says before (told v.client m ∷ history) tt w))

pub returns-in-Nack-clause-answers : goal.returns-in-Nack-clause-answers
returns-in-Nack-clause-answers c = λ before history hold visit written.
    let s = c.args.desk.now.config.now in
    let v = c.args.desk.now.visitor in
    let queue = c.args.desk.now.queue.now in
    let new = c.answer_nack.new.desk in
    let t : IsTurned s before history queue v c.args.desk.now.page = record { visit = visit; written = written } in
    let m = shown_message (Nack c.in-Nack.nack) in
    let w = told_turn s m before history queue v c.args.desk.now.page t in
    subst (λ (x : Message). IsTurned s before (after_message s v.client (shown_message x) (told v.client (shown_message x) ∷ history)) new.queue.now new.visitor new.page) (sym c.in-Nack.is)
    (noted_turn s m before history (after_message s v.client m (told v.client m ∷ history)) new.queue.now queue new.visitor v c.args.desk.now.page new.page
    c.answer_nack.ensures.same.one.client (ap (λ (p : Page). p.info) c.answer_nack.ensures.page) t
    (c.answer_nack.ensures.answers before (told v.client m ∷ history) (told_heard s v.client m history c.args.desk.now.cache.now.held c.in-Nack.nack.sender hold refl) w))

pub returns-in-Request-clause-answers : goal.returns-in-Request-clause-answers
returns-in-Request-clause-answers c = λ before history hold visit written.
    let s = c.args.desk.now.config.now in
    let v = c.args.desk.now.visitor in
    let queue = c.args.desk.now.queue.now in
    let new = c.say_request-said.new.desk in
    let page : new.page ≡ c.args.desk.now.page = ap (λ (d : Desk). d.page) c.say_request-said.ensures.same in
    let t : IsTurned s before history queue v c.args.desk.now.page = record { visit = visit; written = written } in
    let t' = subst (IsTurned s before history queue v) (sym page) t in
    let m = shown_message (Request c.in-Request.feedback) in
    let w = told_turn s m before history queue v new.page t' in
    subst (λ (x : Message). IsTurned s before (after_message s v.client (shown_message x) (told v.client (shown_message x) ∷ history)) new.queue.now new.visitor c.write-in-Request.new.self)
    (sym c.in-Request.is)
    (subst (λ (ws : List Wanted). IsTurned s before (after_message s v.client m (told v.client m ∷ history)) ws new.visitor c.write-in-Request.new.self)
    (sym (ap (λ (d : Desk). d.queue.now) c.say_request-said.ensures.same))
    (said_turn s m before history (after_message s v.client m (told v.client m ∷ history)) queue queue new.visitor v c.say_request-said.result new.page c.write-in-Request.new.self
    c.say_request-said.ensures.one.client c.write-in-Request.ensures.notes c.write-in-Request.ensures.info
    (inr (ap (λ (p : Page). p.info) page ∙ c.requires.fresh (ap (λ (x : Message). is_rams (shown_message x)) c.in-Request.is))) t'
    (c.say_request-said.ensures.says before (told v.client m ∷ history)
    (told_heard s v.client m history c.args.desk.now.cache.now.held c.in-Request.feedback.sender hold refl) w)))

pub returns-in-Stop-clause-answers : goal.returns-in-Stop-clause-answers
returns-in-Stop-clause-answers c = λ before history hold visit written.
    let s = c.args.desk.now.config.now in
    let v = c.args.desk.now.visitor in
    let queue = c.args.desk.now.queue.now in
    let new = c.answer_stop-said.new.desk in
    let page : new.page ≡ c.args.desk.now.page = ap (λ (d : Desk). d.page) c.answer_stop-said.ensures.same in
    let t : IsTurned s before history queue v c.args.desk.now.page = record { visit = visit; written = written } in
    let t' = subst (IsTurned s before history queue v) (sym page) t in
    let m = shown_message (Stop c.in-Stop.feedback) in
    let w = told_turn s m before history queue v new.page t' in
    subst (λ (x : Message). IsTurned s before (after_message s v.client (shown_message x) (told v.client (shown_message x) ∷ history)) new.queue.now new.visitor c.write-in-Stop.new.self)
    (sym c.in-Stop.is)
    (subst (λ (ws : List Wanted). IsTurned s before (after_message s v.client m (told v.client m ∷ history)) ws new.visitor c.write-in-Stop.new.self)
    (sym (ap (λ (d : Desk). d.queue.now) c.answer_stop-said.ensures.same))
    (said_turn s m before history (after_message s v.client m (told v.client m ∷ history)) queue queue new.visitor v c.answer_stop-said.result new.page c.write-in-Stop.new.self
    c.answer_stop-said.ensures.one.client c.write-in-Stop.ensures.notes c.write-in-Stop.ensures.info
    (inr (ap (λ (p : Page). p.info) page ∙ c.requires.fresh (ap (λ (x : Message). is_rams (shown_message x)) c.in-Stop.is))) t'
    (c.answer_stop-said.ensures.says before (told v.client m ∷ history) tt w)))
