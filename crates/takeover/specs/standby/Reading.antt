-- The bytes of a journal as far as it was read: its whole lines, and what they lead to.
use Rattle.std.specs.Prelude.{◌≡◌, ℕ, ◌+◌, ◌==◌, Bool, nat_lt, if◌then◌else◌, List, [], ◌∷◌, ◌++◌, length, filter_map, Option, None, Some, codes}
use Rattle.std.specs.List.{list_any, flat_map}
use Rattle.rams_model.specs.Texts.{whole_lines}
use Rattle.server_hub.specs.declared.HubEvent.{HubEvent}
use Rattle.server_hub.specs.Served.{Served}
use Rattle.trace_loop.specs.trace_book.trace_serving.{Stage, Turn, goes_on, ends, Outcome, opening, turn, stage_from, taken_from, event_at}
use Rattle.trace_loop.specs.trace_book.{run}

abbrev pub is_feed : ℕ → Bool
is_feed b = b == 10

-- the bytes behind the last line feed
unfoldable pub rest_of : List ℕ → List ℕ
rest_of [] = []
rest_of (b ∷ bytes) = if list_any is_feed (b ∷ bytes) then rest_of bytes else b ∷ bytes

-- the bytes up to the first line feed, with it; all where there is none
unfoldable pub first_part : List ℕ → List ℕ
first_part [] = []
first_part (b ∷ bytes) = if b == 10 then b ∷ [] else b ∷ first_part bytes

-- A line that isn't whole is looked at only where it has too many bytes already.
abbrev pub overlong : List ℕ → List (List ℕ)
overlong line = if nat_lt 4096 (length line) then line ∷ [] else []

-- the lines that are looked at
abbrev pub looked_at : List ℕ → List (List ℕ)
looked_at bytes = whole_lines bytes ++ overlong (rest_of bytes)

-- what a turn ends the journal with, or the rest of the journal does
abbrev pub end_after : Turn (List Served) → (Stage (List Served) → Option Outcome) → Option Outcome
end_after (goes_on later text) rest = rest later
end_after (ends o) rest = Some o

-- What these lines end with, the first of which is line number `number`, where one of them is `end`, is refused or brings one event too many.
unfoldable pub end_from : Stage (List Served) → ℕ → List (List ℕ) → Option Outcome
end_from stage number [] = None
end_from stage number (bytes ∷ lines) = end_after (turn run stage number bytes) (λ later. end_from later (number + 1) lines)

abbrev pub end_of : List ℕ → Option Outcome
end_of bytes = end_from (opening run) 1 (looked_at bytes)

-- what stands behind the whole lines, up to the one that ends them
abbrev pub stage_of : List ℕ → Stage (List Served)
stage_of bytes = stage_from run (opening run) 1 (whole_lines bytes)

-- the whole lines that are followed: those before the one that ends them
abbrev pub lines_followed : List ℕ → List (List ℕ)
lines_followed bytes = taken_from run (opening run) 1 (whole_lines bytes)

-- their events, in order
abbrev pub followed : List ℕ → List HubEvent
followed bytes = filter_map (event_at run) (lines_followed bytes)

-- the whole lines, each with its line feed
abbrev pub whole_text : List ℕ → List ℕ
whole_text bytes = flat_map (λ line. line ++ codes "\n") (whole_lines bytes)

-- Nothing behind the line that ends a journal changes what is followed, or how it ended.
pub record StaysEnded (bytes more : List ℕ) (o : Outcome) : Type 0 where
  pub end : end_of (bytes ++ more) ≡ Some o
  pub reaches : stage_of (bytes ++ more) ≡ stage_of bytes
  pub takes : lines_followed (bytes ++ more) ≡ lines_followed bytes

abbrev pub NothingBehindCounts : Type 0
NothingBehindCounts = (bytes more : List ℕ) (o : Outcome) → end_of bytes ≡ Some o → StaysEnded bytes more o
