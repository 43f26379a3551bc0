-- The words of a front of some bytes.
use Rattle.std.proofs.Common.{◌≡◌, ℕ, zero, suc, ◌*◌, ◌∷◌, List, [], take, refl, ap, ◌∙◌, arith}
use Rattle.std.specs.Int.{w32, from_be_bytes}
use Rattle.rams_model.specs.Formats.{words32}

more : (n : ℕ) → 4 * suc n ≡ suc (suc (suc (suc (4 * n))))
more n = omega arith

-- n words are those of 4 n bytes
pub words32-take : (n : ℕ) (bytes : List ℕ) → words32 (take (4 * n) bytes) ≡ take n (words32 bytes)
unfolding words32
words32-take zero bytes = refl
words32-take (suc n) [] = ap (λ (k : ℕ). words32 (take k [])) (more n)
words32-take (suc n) (a ∷ []) = ap (λ (k : ℕ). words32 (take k (a ∷ []))) (more n)
words32-take (suc n) (a ∷ b ∷ []) = ap (λ (k : ℕ). words32 (take k (a ∷ b ∷ []))) (more n)
words32-take (suc n) (a ∷ b ∷ c ∷ []) = ap (λ (k : ℕ). words32 (take k (a ∷ b ∷ c ∷ []))) (more n)
words32-take (suc n) (a ∷ b ∷ c ∷ d ∷ rest) =
    ap (λ (k : ℕ). words32 (take k (a ∷ b ∷ c ∷ d ∷ rest))) (more n)
    ∙ ap (λ (ws : List ℕ). from_be_bytes w32 (a ∷ b ∷ c ∷ d ∷ []) ∷ ws) (words32-take n rest)
