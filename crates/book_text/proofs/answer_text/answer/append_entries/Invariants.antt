use Rattle.std.proofs.Common.{◌≡◌, ◌++◌, drop}
use Rattle.rams_model.specs.Texts.{answer_text, notes_text}
use Rattle.std.specs.Io.{StartsWith}
use Rattle.book_text.proofs.answer_text.answer.append_entries.Given as goal

abbrev pub invariant-loop-note : goal.invariant-loop-note
invariant-loop-note l = record {
  begun : StartsWith l.text.items l.fn.text.items;
  written : l.text.items ++ notes_text l.config l.event (drop l.note-index l.note-items) l.orders ≡ l.fn.text.items ++ answer_text l.config l.event l.answer;
}
