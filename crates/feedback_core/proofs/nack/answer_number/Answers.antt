-- The first line that applies.
use Rattle.std.proofs.Common.{◌∙◌, refl, sym}
use Rattle.rams_model.specs.declared.Note.TheVariants.{Unheld}
use Rattle.rams_model.specs.Service.{room, number_answer}
use Rattle.repair_queue.specs.declared.Asked.TheVariants.{Already, ClientFull, QueueFull}
use Rattle.feedback_core.proofs.Lows.{number_unheld, answer_idle, answer_early, answer_full, answer_refused, answer_queued}
use Rattle.feedback_core.proofs.nack.answer_number.Goals as goal

pub returns-in_default-clause-answers : goal.returns-in_default-clause-answers
returns-in_default-clause-answers c = λ before history heard w.
    let s = c.args.desk.now.config.now in
    let v = c.args.desk.now.visitor in
    let held = c.args.desk.now.cache.now.held in
    answer_idle s before history c.args.desk.now.queue.now v (Unheld v.client c.args.low) (number_answer room s held v.client history c.args.low) refl tt
    (number_unheld s held v.client history c.args.low c.args.from c.args.to c.requires.ready.ready.run c.requires.oldest c.requires.end c.in_default.ensures.none) w

pub returns-then-is_early-clause-answers : goal.returns-then-is_early-clause-answers
returns-then-is_early-clause-answers c = λ before history heard w.
    answer_early c.args.desk.now.config.now c.args.desk.now.cache.now.held before history c.args.desk.now.queue.now c.args.desk.now.visitor c.args.low c.args.from c.args.to c.in-Some.n
    (record { run = c.requires.ready.ready.run; from_is = c.requires.oldest; to_is = c.requires.end; resolved = c.in-Some.ensures.found; only = c.in-Some.ensures.only })
    (sym c.is_early.ensures ∙ c.if-is_early.true) w

pub returns-then-is_full-clause-answers : goal.returns-then-is_full-clause-answers
returns-then-is_full-clause-answers c = λ before history heard w.
    answer_full c.args.desk.now.config.now c.args.desk.now.cache.now.held before history c.args.desk.now.queue.now c.args.desk.now.visitor c.args.low c.args.from c.args.to c.in-Some.n
    (record { run = c.requires.ready.ready.run; from_is = c.requires.oldest; to_is = c.requires.end; resolved = c.in-Some.ensures.found; only = c.in-Some.ensures.only })
    (sym c.is_early.ensures ∙ c.if-is_early.false) (sym c.is_full.ensures ∙ c.if-is_full.true) w

pub returns-in-Already-clause-answers : goal.returns-in-Already-clause-answers
returns-in-Already-clause-answers c = λ before history heard w.
    answer_refused c.args.desk.now.config.now c.args.desk.now.cache.now.held before history c.args.desk.now.queue.now c.ask.new.self c.args.desk.now.visitor c.args.low c.args.from c.args.to c.in-Some.n
    c.ask.result Already
    (record { run = c.requires.ready.ready.run; from_is = c.requires.oldest; to_is = c.requires.end; resolved = c.in-Some.ensures.found; only = c.in-Some.ensures.only })
    (sym c.is_early.ensures ∙ c.if-is_early.false) (sym c.is_full.ensures ∙ c.if-is_full.false) c.ask.ensures.answer c.ask.ensures.pending c.in-Already.is tt w

pub returns-in-ClientFull-clause-answers : goal.returns-in-ClientFull-clause-answers
returns-in-ClientFull-clause-answers c = λ before history heard w.
    answer_refused c.args.desk.now.config.now c.args.desk.now.cache.now.held before history c.args.desk.now.queue.now c.ask.new.self c.args.desk.now.visitor c.args.low c.args.from c.args.to c.in-Some.n
    c.ask.result ClientFull
    (record { run = c.requires.ready.ready.run; from_is = c.requires.oldest; to_is = c.requires.end; resolved = c.in-Some.ensures.found; only = c.in-Some.ensures.only })
    (sym c.is_early.ensures ∙ c.if-is_early.false) (sym c.is_full.ensures ∙ c.if-is_full.false) c.ask.ensures.answer c.ask.ensures.pending c.in-ClientFull.is tt w

pub returns-in-QueueFull-clause-answers : goal.returns-in-QueueFull-clause-answers
returns-in-QueueFull-clause-answers c = λ before history heard w.
    answer_refused c.args.desk.now.config.now c.args.desk.now.cache.now.held before history c.args.desk.now.queue.now c.ask.new.self c.args.desk.now.visitor c.args.low c.args.from c.args.to c.in-Some.n
    c.ask.result QueueFull
    (record { run = c.requires.ready.ready.run; from_is = c.requires.oldest; to_is = c.requires.end; resolved = c.in-Some.ensures.found; only = c.in-Some.ensures.only })
    (sym c.is_early.ensures ∙ c.if-is_early.false) (sym c.is_full.ensures ∙ c.if-is_full.false) c.ask.ensures.answer c.ask.ensures.pending c.in-QueueFull.is tt w

pub returns-in-Queued-clause-answers : goal.returns-in-Queued-clause-answers
returns-in-Queued-clause-answers c = λ before history heard w.
    answer_queued c.args.desk.now.config.now c.args.desk.now.cache.now.held c.args.sender before history c.args.desk.now.queue.now c.ask.new.self c.args.desk.now.visitor c.know.new.self c.args.low c.args.from c.args.to
    c.in-Some.n c.ask.result c.channel.result.now
    (record { run = c.requires.ready.ready.run; from_is = c.requires.oldest; to_is = c.requires.end; resolved = c.in-Some.ensures.found; only = c.in-Some.ensures.only })
    (sym c.is_early.ensures ∙ c.if-is_early.false) (sym c.is_full.ensures ∙ c.if-is_full.false) c.ask.ensures.answer c.ask.ensures.pending c.in-Queued.is
    c.channel.ensures.value c.channel.ensures.lawful.seq0_most c.know.ensures heard.sender_is w
