-- What is read of a head and behind it, as code has it.
use Rattle.std.specs.Prelude.{◌≡◌, ℕ, ◌<◌, ◌⊎◌, List, [], ◌++◌, length, Option, Result, Ok, Err}
use Rattle.std.specs.Io.KnownBytes.{Consumes, IsAtEnd}
use Rattle.rams_model.specs.declared.{LineFault.LineFault, LineFault.TheVariants.Order}
use Rattle.rams_model.specs.Texts.{TraceLine, head_line, channel_line, end_line, Reached, tick_of, judged}
use Rattle.converters.specs.declared.{description_loop.said.Said.Said, description_loop.said.Head.Head}
use Rattle.converters.specs.declared.description_loop.said.Head.TheVariants.{Lawful, Unlawful}
use Rattle.converters.specs.declared.description_loop.said.Said.TheVariants as said
use Rattle.converters.specs.declared.description_loop.said.Heading as code
use Rattle.converters.specs.description_loop.Heads.{Heading, says, refuses, behind_line, behind_head, next_judged, head_of}

-- a head has no such line
abbrev pub IsOfNoHead : TraceLine → Type 0
IsOfNoHead (head_line version tick link) = ⊥
IsOfNoHead (channel_line version c) = ⊥
IsOfNoHead end_line = ⊥
IsOfNoHead line = Unit {0}

-- what a line says that is judged so, up to this
abbrev pub SaysOf : Result (TraceLine × Reached) LineFault → Reached → Said → Type 0
SaysOf o now (said.Head version link) = (tick : ℕ) × (o ≡ Ok (head_line version tick link, now))
SaysOf o now (said.Channel config) = (version : ℕ) × (o ≡ Ok (channel_line version config.channel, now)) × (config.tick ≡ tick_of now.head)
SaysOf o now said.End = o ≡ Ok (end_line, now)
SaysOf o now said.Other = (line : TraceLine) × (o ≡ Ok (line, now)) × IsOfNoHead line
SaysOf o now (said.Refused fault) = o ≡ Err fault

-- what a line of these bytes says behind those that have reached this
abbrev pub Says : Reached → List ℕ → Reached → Said → Type 0
Says r bytes now s = SaysOf (judged r bytes) now s

-- what stands behind a line that isn't refused
abbrev pub IsBehind : Said → List ℕ → List ℕ → Type 0
IsBehind (said.Refused fault) xs ys = Unit {0}
IsBehind s xs ys = ys ≡ behind_line xs

-- the first line of xs says this, and ys stands behind it
abbrev pub IsNext : Reached → Reached → Said → List ℕ → List ℕ → Type 0
IsNext r now s xs ys = SaysOf (next_judged r xs) now s × IsBehind s xs ys

-- why a line is refused that may not stand where it does
abbrev pub said_fault : Said → LineFault
said_fault (said.Refused fault) = fault
said_fault _ = Order

-- what a head says
abbrev pub said_by : code.Heading → Heading
said_by h = record { version = h.version; link = h.link; settings = h.config }

-- what was read of xs, where ys is left
abbrev pub HasRead : Head → List ℕ → List ℕ → Type 0
HasRead (Lawful heading) xs ys = (head_of xs ≡ says (said_by heading)) × (ys ≡ behind_head xs)
HasRead (Unlawful number fault) xs ys = head_of xs ≡ refuses number fault

-- The text grows by n bytes that were taken, and by none only at the end.
abbrev pub TakesPiece : Option (List ℕ) → Option (List ℕ) → List ℕ → List ℕ → ℕ → Type 0
TakesPiece left leaves old new n =
    (more : List ℕ) × (new ≡ old ++ more) × (length more ≡ n) × Consumes left leaves more × (n ≡ 0 → IsAtEnd leaves)

-- The text is all of xs, or a front of it that is longer than a lawful description.
pub record IsFrontOf (text xs : List ℕ) : Type 0 where
  pub rest : List ℕ
  pub whole : xs ≡ text ++ rest
  pub enough : (rest ≡ []) ⊎ (4098000 < length text)
