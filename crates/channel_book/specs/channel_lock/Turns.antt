-- What each caller of a lock knows, and what holds of all of it between any two steps.
use Rattle.std.specs.Prelude.{◌≡◌, ℕ, ◌+◌, ◌^◌, ◌<◌, ◌≤◌, nat_lt, if◌then◌else◌, List, [], ◌∷◌, map, length, Option, Some, None}
use Rattle.std.specs.List.{AllByRecursion as Each}
use mathlib.Core.Option.{some}
use lib.ListN.{get_elem?}
use Rattle.atomic_table.specs.Table.{State}
use Rattle.rams_model.specs.Service.{Settings}
use Rattle.channel_book.specs.declared.{entry.Entry.Entry, channel_lock.turns.View.View}
use Rattle.channel_book.specs.{IsLegal, calls_by, StartsWith, Kept}
use Rattle.channel_book.specs.channel_lock.Counts.{total, times, numbers}

-- ---- views

abbrev pub view : Option Settings → List Entry → List Entry → List ℕ → List (ℕ × List Entry) → ℕ → ℕ → ℕ → ℕ → View
view config log told owns past left ticket size taken = record {
  config = config;
  log = log;
  told = told;
  owns = owns;
  past = past;
  left = left;
  ticket = ticket;
  size = size;
  taken = taken;
}

-- the view of one that knows nothing
abbrev pub blank : View
blank = view None [] [] [] [] 0 0 0 0

-- the view of one from whom the passes of these lists are still to be cut off
abbrev pub dealing : Settings → List ℕ → ℕ → View
dealing s owns left = view (Some s) [] [] owns [] left 0 0 0

-- the first view: it has the calls of all lists
abbrev pub first_view : Settings → ℕ → View
first_view s passes = dealing s (numbers 0 passes) (2 ^ 40)

-- the view of one that gathers passes
abbrev pub gathering : List (ℕ × List Entry) → ℕ → View
gathering past left = view None [] [] [] past left 0 0 0

abbrev pub lists_past : View → List ℕ
lists_past v = map (λ (p : ℕ × List Entry). p.0) v.past

-- how often the calls of this list are made with it, or with a pass that was given back to it
abbrev pub has_list : ℕ → View → ℕ
has_list list v = times list v.owns + times list (lists_past v)

-- how many lists that are
abbrev pub lists_of : View → ℕ
lists_of v = length v.owns + length v.past

abbrev pub calls_left : View → ℕ
calls_left v = v.left

abbrev pub is_taken : View → ℕ
is_taken v = v.taken

-- 1 for a ticket among so many, the first of which is the one before this number
abbrev pub among : ℕ → ℕ → ℕ → ℕ
among first size n = if nat_lt (n + 1) first then 0 else (if nat_lt (n + 1) (first + size) then 1 else 0)

abbrev pub has_ticket : ℕ → View → ℕ
has_ticket n v = among v.ticket v.size n

-- 1 for a ticket that was drawn and isn't passed on yet
abbrev pub waits : ℕ → ℕ → ℕ → ℕ
waits serving ticket n = if nat_lt n serving then 0 else (if nat_lt n ticket then 1 else 0)

-- ---- the rule

-- a pass that was given back: what it had seen, and that its list made no call since
pub record IsPast (log : List Entry) (p : ℕ × List Entry) : Type 0 where
  pub starts : StartsWith log p.1
  pub own : calls_by p.0 log ≡ calls_by p.0 p.1

-- what holds of one view
pub record Fits (s : Settings) (log : List Entry) (serving : ℕ) (v : View) : Type 0 where
  pub settings : (t : Settings) → v.config ≡ Some t → t ≡ s
  pub seen : StartsWith log v.log
  pub told : StartsWith log v.told
  pub own : (list : ℕ) → 0 < times list v.owns → calls_by list log ≡ calls_by list v.log
  pub past : Each (IsPast log) v.past
  pub turn : 0 < v.taken → (v.ticket ≡ serving + 1) × (0 < v.size) × (v.log ≡ log)
  pub idle : length v.owns ≡ 0 → (v.ticket ≡ 0) × (v.taken ≡ 0)

abbrev pub kept : Settings → List Entry → Kept
kept s log = record { settings = s; entries = log }

-- There is one legal history, of which all that was seen are beginnings. The tickets from the one that is served up to the next to be drawn are each held once, and the book is at home with the whole history, or out with the one who is served.
pub record Turns (s : Settings) (passes : ℕ) (state : State Kept View) : Type 0 where
  pub log : List Entry
  pub ticket : ℕ
  pub serving : ℕ
  pub words : state.words ≡ ticket ∷ serving ∷ []
  pub order : serving ≤ ticket
  pub legal : IsLegal s log
  pub short : length log ≤ serving
  pub room : total calls_left state.views + ticket ≡ 2 ^ 40
  pub tickets : (n : ℕ) → total (has_ticket n) state.views ≡ waits serving ticket n
  pub home : total is_taken state.views ≡ 0 → get_elem? state.homes 0 ≡ some (some (kept s log))
  pub out : total is_taken state.views ≤ 1
  pub once : (list : ℕ) → total (has_list list) state.views ≤ 1
  pub all : total lists_of state.views ≡ passes
  pub others : (list : ℕ) → total (has_list list) state.views ≡ 0 → calls_by list log ≡ []
  pub fits : (id : ℕ) (v : View) → get_elem? state.views id ≡ some v → Fits s log serving v
