-- There is exactly one book of some events, and the laws on moments speak of it.
use Rattle.std.specs.Prelude.{◌≡◌, List, [], ◌∷◌, ◌++◌, Option, option_to_list}
use Rattle.rams_model.specs.declared.{Order.Order, Event.Event, Held.Held, Note.Note}
use Rattle.rams_model.specs.Service.{Settings, noted, History, order_of, Book, IsLawful, events_of, history_of}
use Rattle.service_laws.specs.book_laws.Moments.{IsMoment}

-- The one lawful book of some events.
pub record IsTheBook (s : Settings) (events : List Event) (book : Book) : Type 0 where
  pub lawful : IsLawful s book
  pub same_events : events_of book ≡ events
  pub only : (other : Book) → IsLawful s other → events_of other ≡ events → other ≡ book

-- Each list of events has exactly one lawful book.
abbrev pub ExactlyOneBook : Type 0
ExactlyOneBook = (s : Settings) (events : List Event) → (book : Book) × IsTheBook s events book

-- An earlier part of a lawful book is lawful: nothing that was answered changes later.
abbrev pub EarlierPartsAreLawful : Type 0
EarlierPartsAreLawful = (s : Settings) (later earlier : Book) → IsLawful s (later ++ earlier) → IsLawful s earlier

-- the notes of a book, the oldest first
abbrev pub notes_in : Book → List Note
notes_in [] = []
notes_in (entry ∷ before) = notes_in before ++ entry.answer.notes

-- its orders in the same way
abbrev pub orders_in : Book → List Order
orders_in [] = []
orders_in (entry ∷ before) = orders_in before ++ entry.answer.orders

-- the notes of a history, the oldest first
abbrev pub notes_of : History → List Note
notes_of [] = []
notes_of (noted note packet ∷ history) = notes_of history ++ (note ∷ [])
notes_of (_ ∷ history) = notes_of history

-- the orders of its notes, each by what stood before it
abbrev pub orders_of : Settings → History → List Order
orders_of s [] = []
orders_of s (noted note packet ∷ history) = orders_of s history ++ option_to_list (order_of s history note packet)
orders_of s (_ ∷ history) = orders_of s history

-- A lawful book tells what the history of its events tells, note for note and order for order.
pub record TellsTheHistory (s : Settings) (book : Book) : Type 0 where
  pub notes : notes_in book ≡ notes_of (history_of s (events_of book))
  pub orders : orders_in book ≡ orders_of s (history_of s (events_of book))

abbrev pub BooksTellTheHistory : Type 0
BooksTellTheHistory = (s : Settings) (book : Book) → IsLawful s book → TellsTheHistory s book

-- A note of a book was made at a moment: these notes stood before it.
pub record WasMade (s : Settings) (earlier : List Note) (note : Note) : Type 0 where
  pub packet : Option Held
  pub before : History
  pub moment : IsMoment s (noted note packet ∷ before)
  pub stood : notes_of before ≡ earlier

-- Each note of a lawful book was made at a moment, so that the laws on moments are laws on the notes of books.
abbrev pub EachNoteWasMadeAtAMoment : Type 0
EachNoteWasMadeAtAMoment =
    (s : Settings) (book : Book) (earlier later : List Note) (note : Note) → IsLawful s book → notes_in book ≡ earlier ++ (note ∷ later) → WasMade s earlier note

-- And each note that was made at a moment is in the book of the events so far.
abbrev pub EachMomentIsInABook : Type 0
EachMomentIsInABook =
    (s : Settings) (note : Note) (packet : Option Held) (before : History) → IsMoment s (noted note packet ∷ before)
    → (book : Book) × IsLawful s book × (later : List Note) × (notes_in book ≡ notes_of before ++ (note ∷ later))
