-- The books of some channels, read side by side in the order of their events.
use Rattle.std.specs.Prelude.{ℕ, ◌+◌, ◌==◌, if◌then◌else◌, List, [], ◌∷◌, ◌++◌, map, drop}
use Rattle.std.specs.List.{flat_map, list_any}
use Rattle.rams_model.specs.Service.{Settings}
use Rattle.rams_model.specs.Texts.{answer_text}
use Rattle.book_text.specs.{no_channel_line}
use Rattle.channel_book.specs.declared.Entry.{Entry}
use Rattle.channel_book.specs.{Kept}
use Rattle.pool.specs.declared.pool_loop.routes.Route.{Route}
use Rattle.pool.specs.declared.pool_loop.routes.Route.TheVariants.{To, Everyone}
use Rattle.pool.specs.declared.pool_loop.walking.Unwritten.{Unwritten}
use Rattle.pool.specs.pool_loop.Routing.{reaches}

-- what is left of a book, with its channel's settings
abbrev pub kept : Settings → List Entry → Kept
kept s entries = record { settings = s; entries = entries }

abbrev pub left_of : Unwritten → Kept
left_of u = kept u.config.now u.entries.now

abbrev pub all_left : List Unwritten → List Kept
all_left all = map left_of all

-- the number of its channel
abbrev pub number_of : Kept → ℕ
number_of b = b.settings.channel.id

-- the numbers of the channels of some books
abbrev pub numbers_of : List Kept → List ℕ
numbers_of books = map number_of books

-- the lines of the first of some entries, where it is of the event of this number
abbrev pub first_text : Settings → ℕ → List Entry → List ℕ
first_text s number [] = []
first_text s number (e ∷ later) = answer_text s number e.answer

abbrev pub next_text : ℕ → Kept → List ℕ
next_text number b = first_text b.settings number b.entries

-- what is left behind the first
abbrev pub turned : Kept → Kept
turned b = kept b.settings (drop 1 b.entries)

-- what the book of a channel has for an event that goes there
abbrev pub heard_text : ℕ → Route → Kept → List ℕ
heard_text number route b = if reaches route (number_of b) then next_text number b else []

-- and what is left of it
abbrev pub past : Route → Kept → Kept
past route b = if reaches route (number_of b) then turned b else b

abbrev pub all_past : Route → List Kept → List Kept
all_past route books = map (past route) books

-- what is written where no channel has the number that an event names
abbrev pub unheard_text : ℕ → Route → List Kept → List ℕ
unheard_text number Everyone books = []
unheard_text number (To id) books = if list_any (λ b. number_of b == id) books then [] else no_channel_line number id

-- what these books have for the event of this number, which goes there
abbrev pub route_text : ℕ → Route → List Kept → List ℕ
route_text number route books = unheard_text number route books ++ flat_map (heard_text number route) books

-- for events that go there, the first of which has this number
unfoldable pub walk_text : ℕ → List Route → List Kept → List ℕ
walk_text number [] books = []
walk_text number (route ∷ routes) books = route_text number route books ++ walk_text (number + 1) routes (all_past route books)
