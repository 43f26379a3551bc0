-- What a line reader holds, and what reading the next line does.
use Rattle.std.specs.Prelude.{◌≡◌, ℕ, ◌<◌, ◌≤◌, ◌⊎◌, List, [], ◌∷◌, ◌++◌, length, take, Option, Some, None}
use Rattle.rams_model.specs.Texts.{lines_of}
use Rattle.line_io.specs.Feeds.{HasNoFeed}
use Rattle.line_io.specs.declared.reader.Next.{Next}
use Rattle.line_io.specs.declared.reader.Next.TheVariants.{Line, Long, End}

-- The line that was handed out last, and the bytes that were taken and aren't handed out yet.
pub record Reading : Type 0 where
  pub line : List ℕ
  pub kept : List ℕ

-- the line is what stands in front of the first line feed of xs, and ys what stands behind it; or it is all of xs
pub record IsCutOff (xs ys line : List ℕ) : Type 0 where
  pub clean : HasNoFeed line
  pub whole : (xs ≡ line ++ (10 ∷ ys)) ⊎ ((xs ≡ line) × (ys ≡ []))

-- xs begins with the line, of which ys is left; or its first line is too long, and this is the front of it; or it has no line
abbrev pub IsNextOf : List ℕ → List ℕ → List ℕ → Next → Type 0
IsNextOf xs ys line Line = (lines_of xs ≡ line ∷ lines_of ys) × (length line ≤ 4096) × IsCutOff xs ys line
IsNextOf xs ys line Long = (first : List ℕ) × (rest : List (List ℕ)) × (lines_of xs ≡ first ∷ rest) × (4096 < length first) × (line ≡ take 4097 first)
IsNextOf xs ys line End = lines_of xs ≡ []

-- the same, where all that was left to read is told
abbrev pub TakesNext : Option (List ℕ) → Option (List ℕ) → List ℕ → Next → Type 0
TakesNext None new line next = Unit {0}
TakesNext (Some xs) None line next = ⊥
TakesNext (Some xs) (Some ys) line next = IsNextOf xs ys line next

-- a line that is handed out is short enough
abbrev pub IsShort : List ℕ → Next → Type 0
IsShort line Line = length line ≤ 4096
IsShort line Long = Unit {0}
IsShort line End = Unit {0}
