-- One number more, and in the end all of them.
use Rattle.std.proofs.Common.{◌≡◌, [], ◌∷◌, ◌++◌, length, ap, ◌∙◌, arith}
use Rattle.wire_packets.specs.rtcp_feedback.{numbers_left}
use Rattle.feedback_core.specs.declared.page.Page.{Page}
use Rattle.feedback_core.proofs.Desks.{same_still, number_before}
use Rattle.feedback_core.proofs.Writing.{next_number, all_numbered}
use Rattle.feedback_core.proofs.nack.answer_numbers.Goals as goal

pub loop-low-preserved : goal.loop-low-preserved
loop-low-preserved c =
    let s = c.args.desk.now.config.now in
    let i = c.loop-low.invariant in
    let fewer : length (numbers_left c.loop-low.low-iterator) ≡ length (c.in-Some.low ∷ numbers_left c.next.new.self) = ap length c.in-Some.ensures.steps in
    let len = ap (λ (p : Page). length p.notes.items) c.answer_number-note.ensures.page in
    let room = ap (λ (p : Page). p.notes.room) c.answer_number-note.ensures.page in
    let same = same_still c.args.desk.now c.loop-low.desk c.answer_number-note.new.desk i.same c.answer_number-note.ensures.same in
    record {
      can_next = tt;
      is_finite = tt;
      ready = record { ready = c.answer_number-note.ensures.ready.ready; safe = c.answer_number-note.ensures.ready.safe };
      same_queue = c.answer_number-note.ensures.same_queue ∙ i.same_queue;
      same = record { config = same.config; cache = same.cache; one = same.one };
      page = ap (λ (p : Page). record p { notes = c.push.new.self }) (c.answer_number-note.ensures.page ∙ i.page);
      room = omega (arith, fewer, i.room, len, room, c.push.ensures.len, c.push.ensures.room);
      few = omega (arith, fewer, i.few, len, c.push.ensures.len);
      kept = c.push.ensures.room ∙ (room ∙ i.kept);
      answers = λ before history heard w.
          let u = i.answers before history heard w in
          next_number s c.args.desk.now.cache.now.held c.args.sender c.args.desk.now.visitor.client before history (numbers_left c.args.numbers) (numbers_left c.loop-low.low-iterator)
          (numbers_left c.next.new.self) c.in-Some.low c.loop-low.desk.queue.now c.answer_number-note.new.desk.queue.now c.loop-low.desk.visitor c.answer_number-note.new.desk.visitor c.args.desk.now.page.notes.items
          c.loop-low.desk.page.notes.items c.push.new.self.items c.answer_number-note.result c.loop-low.desk.visitor.client u i.same.one.client c.in-Some.ensures.steps
          (c.push.ensures.items ∙ ap (λ (p : Page). p.notes.items ++ c.answer_number-note.result ∷ []) c.answer_number-note.ensures.page) (number_before c.args.desk.now c.loop-low.desk c.answer_number-note.new.desk c.args.sender c.in-Some.low c.answer_number-note.result i.same c.answer_number-note.ensures.answers before u.middle u.heard u.are_noted.visit);
    }

pub returns-clause-answers : goal.returns-clause-answers
returns-clause-answers c = λ before history heard w.
    let s = c.args.desk.now.config.now in
    let u = c.loop-low.invariant.answers before history heard w in
    let done : numbers_left c.loop-low.low-iterator ≡ [] = c.in-None.ensures.steps.0 in
    all_numbered s c.args.desk.now.cache.now.held c.args.sender c.args.desk.now.visitor.client before history (numbers_left c.args.numbers) (numbers_left c.loop-low.low-iterator) c.loop-low.desk.queue.now
    c.loop-low.desk.visitor c.args.desk.now.page.notes.items c.loop-low.desk.page.notes.items u done
