-- What contracts see of a pass and of a lock.
use Rattle.std.specs.Prelude.{◌≡◌, ◌≢◌, ℕ, ◌^◌, max, List, [], ◌∷◌, map, length, All, Some}
use Rattle.atomic_table.specs.Seated.{TableId}
use Rattle.rams_model.specs.Service.{Settings}
use Rattle.channel_book.specs.declared.{entry.Entry.Entry, channel_lock.turns.View.View}
use Rattle.channel_book.specs.{IsLegal, calls_by, StartsWith}
use Rattle.channel_book.specs.channel_lock.Turns.{view}
use Rattle.channel_book.specs.channel_lock.Steps.{Mine}
use Rattle.channel_book.specs.channel_lock.Counts.{numbers}

-- what is known of a pass
pub record Known : Type 0 where
  -- which lock made it
  pub lock : TableId
  pub settings : Settings
  pub list : ℕ
  pub seen : List Entry
  -- the calls that are left
  pub left : ℕ

-- what is known of a lock
pub record Guarded : Type 0 where
  pub lock : TableId
  pub settings : Settings
  -- how many passes it made
  pub passes : ℕ

abbrev pub known : TableId → Settings → ℕ → List Entry → ℕ → Known
known lock s list seen left = record { lock = lock; settings = s; list = list; seen = seen; left = left }

-- The passes of a new lock, one for each list from 0 on, with 2^34 calls each.
abbrev pub fresh : TableId → Settings → ℕ → List Known
fresh lock s n = map (λ list. known lock s list [] (2 ^ 34)) (numbers 0 n)

-- the view of a pass with so many tickets, the first of which is the one before this number
abbrev pub waiting : Settings → ℕ → List Entry → ℕ → ℕ → ℕ → View
waiting s list log left ticket size = view (Some s) log [] (list ∷ []) [] left ticket size 0

-- a pass that has no ticket
pub record IsAtRest (s : Settings) (list seen : ℕ) (me : Mine) : Type 0 where
  pub seat_is : me ≡ (waiting s list me.0.log me.0.left 0 0, [])
  pub counted : seen ≡ length me.0.log
  pub legal : IsLegal s me.0.log

-- The pass has seen what it had seen and what the other had, and no more. The calls of its own list are as before.
pub record HasMet (old : Known) (other : List Entry) (new : Known) : Type 0 where
  pub starts : StartsWith new.seen old.seen
  pub tells : StartsWith new.seen other
  pub count : length new.seen ≡ max (length old.seen) (length other)
  pub own : calls_by old.list new.seen ≡ calls_by old.list old.seen
  pub legal : IsLegal new.settings new.seen
  pub lock : new.lock ≡ old.lock
  pub settings : new.settings ≡ old.settings
  pub list : new.list ≡ old.list
  pub left : new.left ≡ old.left

-- The entries begin with what the pass has seen, and have no further calls of its list.
pub record IsOfPass (entries : List Entry) (p : Known) : Type 0 where
  pub starts : StartsWith entries p.seen
  pub own : calls_by p.list entries ≡ calls_by p.list p.seen

-- the list is of none of the passes
abbrev pub NotAmong : List Known → ℕ → Type 0
NotAmong passes list = All (λ p. p.list ≢ list) passes

-- the same right to make calls
abbrev pub IsSamePass : Known → Known → Type 0
IsSamePass old new = (new.lock ≡ old.lock) × (new.settings ≡ old.settings) × (new.list ≡ old.list)

-- two words, of the tickets and of the ticket that is served, and the slot of the book
pub record IsLock (lock : TableId) (passes made : ℕ) : Type 0 where
  pub words : lock.words ≡ 2
  pub slots : lock.slots ≡ 1
  pub count : passes ≡ made

-- what is left of passes that are given back: their lists, and what they had seen
abbrev pub pasts_of : List Known → List (ℕ × List Entry)
pasts_of passes = map (λ (p : Known). (p.list, p.seen)) passes
