-- The first fault of lines.
use Rattle.std.proofs.Common.{◌≡◌, ℕ, ◌<◌, List, [], ◌∷◌, length, refl, arith}
use Rattle.converters.specs.description_loop.sdp_config.{text_fault, first_fault}

-- of a line or more
pub some_fault : (ls : List (List ℕ)) → 0 < length ls → text_fault ls ≡ first_fault 1 ls
some_fault [] h = absurd (omega arith)
some_fault (line ∷ ls) h = refl
