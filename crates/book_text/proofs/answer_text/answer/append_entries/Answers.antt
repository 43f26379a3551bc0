-- One note more.
use Rattle.std.proofs.Common.{◌+◌, ◌++◌, drop, sym, ap, ◌∙◌, append_assoc, append-nil}
use Rattle.rams_model.specs.Texts.{notes_text}
use Rattle.book_text.proofs.answer_text.Fronts.{starts_on}
use Rattle.book_text.proofs.answer_text.Notes.{notes_text-step, notes_text-past}
use Rattle.book_text.proofs.answer_text.answer.append_entries.Goals as goal

pub loop-note-preserved : goal.loop-note-preserved
loop-note-preserved c =
    let s = c.args.config.now in
    let notes = c.deref-note-items.result.now in
    let orders = c.loop-note.orders in
    let later = notes_text s c.args.event (drop (c.loop-note.note-index + 1) notes) c.pass.new.self in
    let more = notes_text-step s c.args.event notes orders c.pass.new.self c.loop-note.note-index _ c.loop-note-test.true c.pass.ensures in
    record {
      begun = rw c.in_ok-append_entry.ensures.text (starts_on c.args.text.now.items c.loop-note.text.items _ c.loop-note.invariant.begun);
      written = ap (λ t. t ++ later) c.in_ok-append_entry.ensures.text ∙ append_assoc c.loop-note.text.items _ later ∙ ap (λ t. c.loop-note.text.items ++ t) (sym more) ∙ c.loop-note.invariant.written;
    }

pub returns-clause-text : goal.returns-clause-text
returns-clause-text c =
    let none = notes_text-past c.args.config.now c.args.event c.deref-note-items.result.now c.loop-note.orders c.loop-note.note-index c.loop-note-test.false in
    sym (append-nil c.loop-note.text.items) ∙ ap (λ t. c.loop-note.text.items ++ t) (sym none) ∙ c.loop-note.invariant.written
