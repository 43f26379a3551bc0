-- What each step of a lock tells its caller, and how views are cut and put together.
use Rattle.std.specs.Prelude.{◌≡◌, ℕ, ◌+◌, ◌-◌, ◌^◌, ◌<◌, ◌≤◌, ◌==◌, List, [], ◌∷◌, ◌++◌, map, take, drop, length, Some, MatchBool}
use mathlib.Core.Logic.{◌⊎◌}
use Rattle.atomic_table.specs.Table.{Step, Me}
use Rattle.rams_model.specs.Service.{Settings}
use Rattle.channel_book.specs.declared.{entry.Entry.Entry, channel_lock.turns.View.View}
use Rattle.channel_book.specs.{IsLegal, calls_by, StartsWith, Kept}
use Rattle.channel_book.specs.channel_lock.Turns.{view, blank, kept}
use Rattle.channel_book.specs.channel_lock.Counts.{times}

abbrev pub Mine : Type 0
Mine = Me Kept View

-- the number found is the first of the tickets
abbrev pub Drawn : Step Kept → Mine → ℕ → Mine → Type 0
Drawn st m n w = w ≡ (record m.0 { left = m.0.left - st.first; ticket = n + 1; size = st.first }, m.1)

-- The book is out with the seat, and its entries are the whole history.
pub record IsServed (s : Settings) (m w : Mine) : Type 0 where
  pub log : List Entry
  pub seat_is : w ≡ (record m.0 { log = log; taken = 1 }, (0, kept s log) ∷ m.1)
  pub starts : StartsWith log m.0.log
  pub legal : IsLegal s log
  pub short : length log + m.0.size ≤ 2 ^ 40
  pub own : (list : ℕ) → 0 < times list m.0.owns → calls_by list log ≡ calls_by list m.0.log

-- the book is taken where the number found is the first ticket; else nothing changes
abbrev pub Looked : Step Kept → Mine → ℕ → Mine → Type 0
Looked st m n w = (s : Settings) → m.0.config ≡ Some s → MatchBool (n + 1 == m.0.ticket) (IsServed s m w) (w ≡ m)

-- what the book holds now was seen, and the tickets are gone
abbrev pub PassedOn : Step Kept → Mine → ℕ → Mine → Type 0
PassedOn st m n w = (book : Kept) (others : List (ℕ × Kept)) → m.1 ≡ (0, book) ∷ others → w ≡ (record m.0 { log = book.entries; ticket = 0; size = 0; taken = 0 }, others)

-- The longer of what was seen and what was told is seen now.
pub record HasLearnt (m w : Mine) : Type 0 where
  pub log : List Entry
  pub seat_is : w ≡ (record m.0 { log = log; told = [] }, m.1)
  pub starts : StartsWith log m.0.log
  pub tells : StartsWith log m.0.told
  pub one : (log ≡ m.0.log) ⊎ (log ≡ m.0.told)
  pub legal : (s : Settings) → m.0.config ≡ Some s → IsLegal s log
  pub own : (list : ℕ) → 0 < times list m.0.owns → calls_by list log ≡ calls_by list m.0.log

abbrev pub Learnt : Step Kept → Mine → ℕ → Mine → Type 0
Learnt st m n w = HasLearnt m w

abbrev pub Sat : Step Kept → Mine → ℕ → Mine → Type 0
Sat st m n w = w ≡ (blank, [])

-- the first list goes to a new pass, with 2^34 calls
abbrev pub undealt : View → View
undealt v = record v { owns = drop 1 v.owns; left = v.left - 2 ^ 34 }

abbrev pub dealt : View → View
dealt v = view v.config v.log [] (take 1 v.owns) [] (2 ^ 34) 0 0 0

-- what was seen
abbrev pub note_of : View → View
note_of v = view v.config v.log [] [] [] 0 0 0 0

abbrev pub told : View → View → View
told v note = record v { told = note.log }

-- the lists of a pass that is given back, each with what was seen
abbrev pub pasts : View → List (ℕ × List Entry)
pasts v = map (λ (list : ℕ). (list, v.log)) v.owns

abbrev pub with_pass : View → View → View
with_pass v pass = record v { past = v.past ++ pasts pass; left = v.left + pass.left }

-- What the holder of the book owes before it passes the turn on: the history went on by entries of its own, at most one for each ticket.
pub record Grew (v : View) (book : Kept) : Type 0 where
  pub settings : v.config ≡ Some book.settings
  pub more : List Entry
  pub entries : book.entries ≡ v.log ++ more
  pub count : length more ≤ v.size
  pub legal : IsLegal book.settings book.entries
  pub own : (list : ℕ) → times list v.owns ≡ 0 → calls_by list book.entries ≡ calls_by list v.log

-- The caller has the book, with the whole history, and makes the calls of this list, at most one for each ticket.
pub record HasBook (s : Settings) (log : List Entry) (list : ℕ) (m : Mine) : Type 0 where
  pub settings : m.0.config ≡ Some s
  pub log_is : m.0.log ≡ log
  pub owns : m.0.owns ≡ list ∷ []
  pub slot : m.1 ≡ (0, kept s log) ∷ []
  pub taken : m.0.taken ≡ 1
  pub legal : IsLegal s log
  pub short : length log + m.0.size ≤ 2 ^ 40

-- what a caller knows once its turn is passed on
abbrev pub rested : View → List Entry → View
rested v log = record v { log = log; ticket = 0; size = 0; taken = 0 }
