-- The head of a description: a head line, one channel line of its version, and `end`.
use Rattle.std.specs.Prelude.{ℕ, ◌==◌, if◌then◌else◌, List, [], ◌∷◌, Result, Ok, Err}
use Rattle.rams_model.specs.declared.{LineFault.LineFault, LineFault.TheVariants.Order, Mode.TheVariants.Describe}
use Rattle.rams_model.specs.Service.{Settings, settings}
use Rattle.rams_model.specs.Texts.{TraceLine, head_line, channel_line, end_line, Reached, nothing_reached, tick_of, lines_of, judged}

-- what a head says
pub record Heading : Type 0 where
  -- of the text
  pub version : ℕ
  -- bytes per tick of all channels together
  pub link : ℕ
  -- its channel, and the length of a tick
  pub settings : Settings

-- A head says this; or the line of this number is the first that is refused.
pub data HeadSays : Type 0 where
  says : Heading → HeadSays
  refuses : ℕ → LineFault → HeadSays

-- the bytes behind the first line feed
unfoldable pub behind_line : List ℕ → List ℕ
behind_line [] = []
behind_line (b ∷ bytes) = if b == 10 then bytes else behind_line bytes

-- those behind the three lines of a head
abbrev pub behind_head : List ℕ → List ℕ
behind_head bytes = behind_line (behind_line (behind_line bytes))

-- the first of some lines, judged behind those before them; one that is missing is out of order
abbrev pub first_judged : Reached → List (List ℕ) → Result (TraceLine × Reached) LineFault
first_judged r [] = Err Order
first_judged r (line ∷ lines) = judged r line

-- that of the lines of some bytes
unfoldable pub next_judged : Reached → List ℕ → Result (TraceLine × Reached) LineFault
next_judged r bytes = first_judged r (lines_of bytes)

-- what the line of this number says, unless it is refused
abbrev pub by_judging : (TraceLine → Reached → HeadSays) → ℕ → Result (TraceLine × Reached) LineFault → HeadSays
by_judging say number (Ok read) = say read.0 read.1
by_judging say number (Err fault) = refuses number fault

-- `end` stands third
abbrev pub behind_second : Heading → TraceLine → Reached → HeadSays
behind_second heading end_line r = says heading
behind_second heading line r = refuses 3 Order

-- the channel line stands second, in front of these bytes
abbrev pub behind_first : ℕ → ℕ → List ℕ → TraceLine → Reached → HeadSays
behind_first version link bytes (channel_line spelled c) r =
    by_judging (behind_second (record { version = version; link = link; settings = settings c (tick_of r.head) })) 3 (next_judged r bytes)
behind_first version link bytes line r = refuses 2 Order

-- the head line stands first, in front of these bytes
abbrev pub behind_none : List ℕ → TraceLine → Reached → HeadSays
behind_none bytes (head_line version tick link) r = by_judging (behind_first version link (behind_line bytes)) 2 (next_judged r bytes)
behind_none bytes line r = refuses 1 Order

-- what the first three lines of the bytes say
unfoldable pub head_of : List ℕ → HeadSays
head_of bytes = by_judging (behind_none (behind_line bytes)) 1 (next_judged (nothing_reached Describe) bytes)
