-- How a journal is read as far as it goes, and its lines put to a sink.
use Rattle.std.specs.Prelude.{◌≡◌, ℕ, ◌+◌, ◌-◌, ◌==◌, Bool, false, nat_lt, List, [], ◌++◌, length, slice_index, Option, None, Some}
use Rattle.std.specs.Io.KnownBytes.{Appends, Consumes}
use Rattle.rams_model.specs.Texts.{whole_lines}
use Rattle.line_io.specs.Passes.{Passes}
use Rattle.takeover.specs.standby.{HasRead, HasReadSome, Seen, end_of, rest_of, whole_text}
use Rattle.takeover.specs.standby.standby_book.{followed_text}

-- the last of the bytes is a line feed
abbrev pub is_fed : List ℕ → Bool
is_fed bytes = slice_index bytes (length bytes - 1) == 10

-- one of the lines is whole
abbrev pub has_lines : List ℕ → Bool
has_lines bytes = nat_lt 0 (length (whole_lines bytes))

-- The whole lines of these bytes went to the sink, or wait for it, and the part of a line behind them is kept.
pub record KeepsLines (held holds : Option (List ℕ)) (waits line : List ℕ) (begun : Bool) (bytes : List ℕ) : Type 0 where
  pub text : Passes held holds (whole_text bytes) waits
  pub line_is : line ≡ rest_of bytes
  pub begun_is : begun ≡ has_lines bytes

-- These bytes of a journal were read, and nothing in them ends it.
pub record IsReading (held holds : Option (List ℕ)) (v : Seen) (waits line : List ℕ) (begun : Bool) (bytes : List ℕ) : Type 0 where
  pub read : HasRead v bytes
  pub unended : v.ended ≡ false
  pub unrefused : v.fault ≡ None
  pub lines : KeepsLines held holds waits line begun bytes

-- A journal was read as far as it goes: the lines that are followed went to the sink, or wait for it.
pub record IsOver (held holds : Option (List ℕ)) (v : Seen) (waits : List ℕ) (begun : Bool) (bytes : List ℕ) : Type 0 where
  pub read : HasRead v bytes
  pub text : Passes held holds (followed_text bytes) waits
  pub begun_is : end_of bytes ≡ None → begun ≡ has_lines bytes

-- nothing was read yet
pub record IsFresh (v : Seen) (waits line : List ℕ) (begun : Bool) : Type 0 where
  pub read : HasRead v []
  pub waiting : waits ≡ []
  pub kept : line ≡ []
  pub unbegun : begun ≡ false

-- how many bytes of all the lines that are followed aren't among these
abbrev pub left_text : List ℕ → List ℕ → ℕ
left_text all bytes = length (followed_text all) - length (followed_text bytes)

-- A source gave some bytes of a journal that goes on, and their whole lines went to the sink.
pub record IsFollowing (left_then held left holds : Option (List ℕ)) (v : Seen) (waits line : List ℕ) (begun : Bool) : Type 0 where
  pub bytes : List ℕ
  pub taken : Consumes left_then left bytes
  pub reading : IsReading held holds v waits line begun bytes
  pub gone : waits ≡ []

-- The same of a source that had these bytes, where the sink has room for the other lines that are followed, and more.
pub record FollowsWithin (left_then held : Option (List ℕ)) (all : List ℕ) (more : ℕ) (left : Option (List ℕ)) (sink : ℕ → Type 0) (holds : Option (List ℕ)) (v : Seen) (waits line : List ℕ) (begun : Bool) : Type 0 where
  pub following : IsFollowing left_then held left holds v waits line begun
  pub told : left_then ≡ Some all
  pub room : sink (left_text all following.bytes + more)

-- The journal that a source had was read as far as it goes, and the lines that are followed went to the sink.
pub record HasFollowed (left_then held holds : Option (List ℕ)) (v : Seen) (waits : List ℕ) (begun : Bool) : Type 0 where
  pub some : HasReadSome v
  pub told : (all : List ℕ) → left_then ≡ Some all → IsOver held holds v waits begun all
  pub gone : waits ≡ []

-- Some bytes were taken, and the sink holds their whole lines.
pub record HoldsItsLines (held holds : Option (List ℕ)) (all left : List ℕ) : Type 0 where
  pub taken : List ℕ
  pub whole : all ≡ taken ++ left
  pub text : Appends held holds (whole_text taken)
