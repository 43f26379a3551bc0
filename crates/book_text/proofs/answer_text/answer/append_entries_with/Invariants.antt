use Rattle.std.proofs.Common.{◌≡◌, ◌++◌, drop, map}
use Rattle.rams_model.specs.Service.{datagram}
use Rattle.rams_model.specs.Texts.{answer_text, notes_text}
use Rattle.std.specs.Io.{StartsWith}
use Rattle.book_text.proofs.answer_text.answer.append_entries_with.Given as goal

abbrev pub invariant-loop-note : goal.invariant-loop-note
invariant-loop-note l = record {
  made : l.made ≡ map (datagram l.config) l.orders;
  begun : StartsWith l.text.items l.fn.text.items;
  written : l.text.items ++ notes_text l.config l.event (drop l.note-index l.note-items) l.orders ≡ l.fn.text.items ++ answer_text l.config l.event l.answer;
}
