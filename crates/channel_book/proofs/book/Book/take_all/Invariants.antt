use Rattle.std.proofs.Common.{◌≡◌, ◌+◌, ◌≤◌, ◌++◌, List, length, vec_len, vec_capacity}
use Rattle.std.specs.Vec.Iter.{into_iter_items}
use Rattle.rams_model.specs.declared.Event.{Event}
use Rattle.channel_book.specs.{HasTaken}
use Rattle.channel_book.proofs.book.Book.take_all.Given as goal

abbrev pub invariant-loop-event : goal.invariant-loop-event
invariant-loop-event l = record {
  can_next : (goal.iterator-loop-event).can_next l.event-iterator;
  is_finite : (goal.iterator-loop-event).is_finite l.event-iterator;
  taken : (front : List Event) × (front ++ into_iter_items l.event-iterator ≡ l.fn.events.items) × HasTaken l.list front l.fn.self.entries l.answers.items l.self.entries;
  room : vec_len l.answers + length (into_iter_items l.event-iterator) ≤ vec_capacity l.answers;
  settings : l.self.settings ≡ l.fn.self.settings;
}
