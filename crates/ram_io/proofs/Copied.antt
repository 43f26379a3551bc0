-- Bytes that were copied into a buffer.
use Rattle.std.proofs.Common.{◌≡◌, ℕ, List, ◌++◌, length, take, min, arith}
use Rattle.std.proofs.lemmas.List.{take_min}
use Rattle.std.proofs.lemmas.Grind.{common_steps}

-- what stands in the front of a buffer of n bytes are the first n bytes
pub take-copied : (bytes to rest : List ℕ) (n k room : ℕ) → k ≡ min n (min (length bytes) room) → room ≡ n → to ≡ take k bytes ++ rest → take k to ≡ take n bytes
take-copied bytes to rest n k room count full copied =
    let same : k ≡ min n (length bytes) = omega arith in
    grind (arith, common_steps, take_min n bytes)
