-- Pieces joined end to end, one after another.
use Rattle.std.proofs.Common.{◌≡◌, ℕ, zero, suc, ◌≤◌, ◌<◌, ◌%◌, get_or, Ok, List, [], ◌∷◌, length, drop, refl, ap, arith, length-drop}
use Rattle.rams_model.specs.Formats.{Format, pieces_from, pieces_of, unless_fault, onto, words32}
use Rattle.std.specs.List.{flat_map}
use Rattle.std.specs.Int.{w32, from_be_bytes, to_be_bytes}
use Rattle.std.proofs.lemmas.Nat.{be_bytes_4}
use Rattle.rams_model.proofs.PlainPackets.{four_below}

-- any bound does that is no less than the length
bound_free : {Piece Fault : Type 0} (f : Format Piece Fault) → ((bytes : List ℕ) → 1 ≤ f.size bytes) → (n m : ℕ) (bytes : List ℕ) → length bytes ≤ n → length bytes ≤ m
    → pieces_from f n bytes ≡ pieces_from f m bytes
unfolding pieces_from
bound_free f each zero zero bytes h k = refl
bound_free f each zero (suc m) [] h k = refl
bound_free f each zero (suc m) (b ∷ bytes) h k = absurd (omega arith)
bound_free f each (suc n) zero [] h k = refl
bound_free f each (suc n) zero (b ∷ bytes) h k = absurd (omega arith)
bound_free f each (suc n) (suc m) [] h k = refl
bound_free f each (suc n) (suc m) (b ∷ bytes) h k =
    let size = f.size (b ∷ bytes) in
    let one : 1 ≤ size = each (b ∷ bytes) in
    let left : length (drop size (b ∷ bytes)) ≤ length bytes = omega (arith, length-drop size (b ∷ bytes)) in
    ap (λ r. unless_fault (onto (f.piece (b ∷ bytes)) r) (f.fault (b ∷ bytes))) (bound_free f each n m (drop size (b ∷ bytes)) (omega arith) (omega arith))

-- where there are bytes, the pieces are the one in front and those behind it, or its fault
pub pieces_step : {Piece Fault : Type 0} (f : Format Piece Fault) → ((bytes : List ℕ) → 1 ≤ f.size bytes) → (bytes : List ℕ) → 0 < length bytes
    → pieces_of f bytes ≡ unless_fault (onto (f.piece bytes) (pieces_of f (drop (f.size bytes) bytes))) (f.fault bytes)
unfolding pieces_from
pieces_step f each [] h = absurd (omega arith)
pieces_step f each (b ∷ bytes) h =
    let size = f.size (b ∷ bytes) in
    let one : 1 ≤ size = each (b ∷ bytes) in
    let left : length (drop size (b ∷ bytes)) ≤ length bytes = omega (arith, length-drop size (b ∷ bytes)) in
    ap (λ r. unless_fault (onto (f.piece (b ∷ bytes)) r) (f.fault (b ∷ bytes)))
    (bound_free f each (length bytes) (length (drop size (b ∷ bytes))) (drop size (b ∷ bytes)) (omega arith) (omega arith))

-- where there are none, there are no pieces
pub pieces_end : {Piece Fault : Type 0} (f : Format Piece Fault) (bytes : List ℕ) → length bytes ≡ 0 → pieces_of f bytes ≡ Ok []
unfolding pieces_from
pieces_end f [] h = refl
pieces_end f (b ∷ bytes) h = absurd (omega arith)

-- the first whole word of 32 bits, and those behind it
pub words_step : (bytes : List ℕ) → 4 ≤ length bytes → words32 bytes ≡ from_be_bytes w32 bytes ∷ words32 (drop 4 bytes)
unfolding words32
words_step (a ∷ b ∷ c ∷ d ∷ rest) h = refl
words_step [] h = absurd (omega arith)
words_step (a ∷ []) h = absurd (omega arith)
words_step (a ∷ b ∷ []) h = absurd (omega arith)
words_step (a ∷ b ∷ c ∷ []) h = absurd (omega arith)

pub words_end : (bytes : List ℕ) → length bytes < 4 → words32 bytes ≡ []
unfolding words32
words_end [] h = refl
words_end (a ∷ []) h = refl
words_end (a ∷ b ∷ []) h = refl
words_end (a ∷ b ∷ c ∷ []) h = refl
words_end (a ∷ b ∷ c ∷ d ∷ rest) h = absurd (omega arith)

-- whole words are spelled again by their numbers
pub words_again : (bytes : List ℕ) → ((i : ℕ) → get_or bytes i 0 < 256) → length bytes % 4 ≡ 0 → flat_map (to_be_bytes w32) (words32 bytes) ≡ bytes
unfolding words32
words_again [] small h = refl
words_again (a ∷ []) small h = absurd (omega arith)
words_again (a ∷ b ∷ []) small h = absurd (omega arith)
words_again (a ∷ b ∷ c ∷ []) small h = absurd (omega arith)
words_again (a ∷ b ∷ c ∷ d ∷ rest) small h =
    let word = be_bytes_4 (a ∷ b ∷ c ∷ d ∷ []) (from_be_bytes w32 (a ∷ b ∷ c ∷ d ∷ [])) refl (four_below a b c d (small 0) (small 1) (small 2) (small 3)) refl in
    let others = words_again rest (λ i. small (suc (suc (suc (suc i))))) (omega arith) in
    cc
