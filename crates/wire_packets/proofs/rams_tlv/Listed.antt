-- Whether a list of SSRCs, which may be empty, has one.
use Rattle.std.proofs.Common.{◌≡◌, ℕ, ◌≤◌, ◌<◌, true, List, length, Some, refl}
use Rattle.std.specs.Prelude.{◌==◌}
use Rattle.std.specs.List.{list_any}
use Rattle.rams_model.specs.Formats.{words32, is_listed}
use Rattle.rams_model.proofs.Joined.{words_step, words_end}

-- a list that has a word
pub is_listed_some : (ssrc : ℕ) (bytes : List ℕ) → 4 ≤ length bytes → is_listed ssrc (Some (words32 bytes)) ≡ list_any (λ s. s == ssrc) (words32 bytes)
is_listed_some ssrc bytes h = rw (words_step bytes h) refl

-- a list that has none
pub is_listed_empty : (ssrc : ℕ) (bytes : List ℕ) → length bytes < 4 → is_listed ssrc (Some (words32 bytes)) ≡ true
is_listed_empty ssrc bytes h = rw (words_end bytes h) refl

pub ruleset listed = (is_listed_some, is_listed_empty)
