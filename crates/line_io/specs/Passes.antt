-- How much of a text has gone to a sink.
use Rattle.std.specs.Prelude.{◌≡◌, ℕ, List, ◌++◌, Option}
use Rattle.std.specs.Io.KnownBytes.{Appends}

-- A front of the text went to the sink, and the rest did not.
pub record Passes (old new : Option (List ℕ)) (text rest : List ℕ) : Type 0 where
  pub front : List ℕ
  pub sink : Appends old new front
  pub whole : text ≡ front ++ rest
