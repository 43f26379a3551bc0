-- Where the first word of a line ends.
use Rattle.std.proofs.Common.{◌≡◌, ℕ, zero, suc, ◌+◌, true, cond, eqb, List, [], ◌∷◌, length, take, drop, refl, ap, ◌∙◌, arith, add-one}
use Rattle.std.proofs.lemmas.Bool.{false_from_ne_true}
use Rattle.memchr.specs.Find.{is_byte, Passes, Nowhere, NoneBefore}
use Rattle.rams_model.specs.Texts.{words_of, onto_first}

-- one byte that is no space goes onto the first word
pub words_of-other : (b : ℕ) (bytes : List ℕ) → ¬ (eqb b 32 ≡ true) → words_of (b ∷ bytes) ≡ onto_first b (words_of bytes)
unfolding words_of
words_of-other b bytes h =
    ap (λ t. cond t ([] ∷ words_of bytes) (onto_first b (words_of bytes))) (false_from_ne_true (eqb b 32) h)

-- a space ends a word
pub words_of-space : (b : ℕ) (bytes : List ℕ) → eqb b 32 ≡ true → words_of (b ∷ bytes) ≡ [] ∷ words_of bytes
unfolding words_of
words_of-space b bytes h = ap (λ t. cond t ([] ∷ words_of bytes) (onto_first b (words_of bytes))) h

-- without a space there is one word
pub words_whole : (bytes : List ℕ) → Nowhere (Passes (is_byte 32) bytes) 0 (length bytes) → words_of bytes ≡ bytes ∷ []
unfolding words_of
words_whole [] h = refl
words_whole (b ∷ bytes) h =
    words_of-other b bytes (h 0 (omega arith) (omega arith))
    ∙ ap (onto_first b) (words_whole bytes (λ k low high. h (suc k) (omega arith) (omega arith)))

-- the first space ends the first word
words_of-at : (bytes : List ℕ) (at : ℕ) → NoneBefore (Passes (is_byte 32) bytes) 0 (length bytes) at × Passes (is_byte 32) bytes at → words_of bytes ≡ take at bytes ∷ words_of (drop (suc at) bytes)
words_of-at [] at h = let none = h.0.high in absurd (omega arith)
words_of-at (b ∷ bytes) zero h = words_of-space b bytes h.1
words_of-at (b ∷ bytes) (suc at) h =
    let none = h.0 in
    let first : NoneBefore (Passes (is_byte 32) bytes) 0 (length bytes) at = record {
      low = omega arith;
      high = let within = none.high in omega arith;
      before = λ k low high. none.before (suc k) (omega arith) (omega arith);
    } in
    words_of-other b bytes (none.before 0 (omega arith) (omega arith))
    ∙ ap (onto_first b) (words_of-at bytes at (first, h.1))

pub words_at : (bytes : List ℕ) (at : ℕ) → NoneBefore (Passes (is_byte 32) bytes) 0 (length bytes) at × Passes (is_byte 32) bytes at → words_of bytes ≡ take at bytes ∷ words_of (drop (at + 1) bytes)
words_at bytes at h = rw add-one (words_of-at bytes at h)
