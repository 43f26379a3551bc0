-- Line feeds among bytes, and the window of a buffer that is searched for them.
use Rattle.std.specs.Prelude.{◌≡◌, ℕ, ◌+◌, ◌<◌, ◌≤◌, ◌==◌, false, List, [], ◌∷◌, ◌++◌, length, take, drop}

-- none of the bytes is a line feed
abbrev pub HasNoFeed : List ℕ → Type 0
HasNoFeed [] = Unit {0}
HasNoFeed (b ∷ bytes) = ((b == 10) ≡ false) × HasNoFeed bytes

-- the first line feed of some bytes is at this place
pub record IsCutAt (bytes : List ℕ) (at : ℕ) : Type 0 where
  pub inside : at < length bytes
  pub front : HasNoFeed (take at bytes)
  pub whole : bytes ≡ take at bytes ++ 10 ∷ drop (at + 1) bytes

-- some bytes and n more
pub record IsGrown (old new : List ℕ) (n : ℕ) : Type 0 where
  pub more : List ℕ
  pub whole : new ≡ old ++ more
  pub count : length more ≡ n

-- the line and what is kept are ranges of a buffer of 65,536 bytes
pub record AreRanges (line end from to : ℕ) (bytes : List ℕ) : Type 0 where
  pub line_ordered : line ≤ end
  pub line_within : end ≤ 65536
  pub kept_ordered : from ≤ to
  pub kept_within : to ≤ 65536
  pub size : length bytes ≡ 65536
