-- The lines of a channel's book.
use Rattle.std.specs.Prelude.{ℕ, ◌+◌, List, [], ◌∷◌, ◌++◌, length, take, drop}
use Rattle.std.specs.List.{flat_map}
use Rattle.rams_model.specs.declared.{answer.Order.Order, note.Note.Note}
use Rattle.rams_model.specs.Service.{Answered, Settings, client_of, datagram, Book}
use Rattle.rams_model.specs.Texts.BookText.{note_line, send_line, order_count}

-- the line of a datagram
abbrev pub order_line : Settings → ℕ → Order → List ℕ
order_line s event order = send_line event s.channel.id (client_of order) (datagram s order)

-- each note, followed at once by the datagram that it asks for
unfoldable pub notes_text : Settings → ℕ → List Note → List Order → List ℕ
notes_text s event [] orders = []
notes_text s event (note ∷ notes) orders =
    note_line event s.channel.id note ++ flat_map (order_line s event) (take (order_count note) orders) ++ notes_text s event notes (drop (order_count note) orders)

-- the lines of the answer to an event
abbrev pub answer_text : Settings → ℕ → Answered → List ℕ
answer_text s event a = notes_text s event a.notes a.orders

-- The lines of a book; events are counted from 1.
unfoldable pub book_lines : Settings → Book → List ℕ
book_lines s [] = []
book_lines s (e ∷ before) = book_lines s before ++ answer_text s (length before + 1) e.answer
