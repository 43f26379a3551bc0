-- A plain packet is spelled again from what is read of it.
use Rattle.std.proofs.Common.{◌≡◌, ℕ, suc, ◌+◌, ◌/◌, ◌%◌, ◌<◌, true, List, [], ◌∷◌, length, get_or, refl, arith, eqb, leb, lit<, zero, ⊎_elim}
use Rattle.std.specs.Prelude.{All, if◌then◌else◌, ◌==◌}
use Rattle.std.specs.Int.{w16, w32, to_be_bytes, from_be_bytes}
use Rattle.std.proofs.lemmas.Nat.{be_bytes_2, be_bytes_4}
use Rattle.std.proofs.lemmas.Bool.{eqb-true, and_parts, cases_lt}
use Rattle.std.proofs.lemmas.List.{append-nil, get_or_past}
use Rattle.std.proofs.lemmas.Bool.Decides.{nat_tests}
use Rattle.rams_model.specs.Formats.{header, spelling, stripped, is_plain, packet_of}

-- the first byte says the version, and nothing more
first_byte : (bytes : List ℕ) → is_plain bytes ≡ true → get_or bytes 0 0 ≡ 128
first_byte bytes p = eqb-true (get_or bytes 0 0) 128 (and_parts (leb 12 (length bytes)) (eqb (get_or bytes 0 0) 128) p).1

-- the marker and the payload type make the byte that they were read of
pub marker_and_type : (b : ℕ) → b < 256 → (if b / 128 == 1 then 128 else 0) + b % 128 ≡ b
marker_and_type b h = grind (arith, nat_tests)

-- the bytes that stand in front of others
pub pair_below : (a b : ℕ) → a < 256 → b < 256 → (i : ℕ) → get_or (a ∷ b ∷ []) i 0 < 256
pair_below a b ha hb zero = ha
pair_below a b ha hb (suc zero) = hb
pair_below a b ha hb (suc (suc i)) = lit< tt

pub two_again : (a b : ℕ) (rest : List ℕ) → a < 256 → b < 256 → to_be_bytes w16 (from_be_bytes w16 (a ∷ b ∷ rest)) ≡ a ∷ b ∷ []
two_again a b rest ha hb = be_bytes_2 (a ∷ b ∷ []) (from_be_bytes w16 (a ∷ b ∷ rest)) refl (pair_below a b ha hb) refl

pub four_below : (a b c d : ℕ) → a < 256 → b < 256 → c < 256 → d < 256 → (i : ℕ) → get_or (a ∷ b ∷ c ∷ d ∷ []) i 0 < 256
four_below a b c d ha hb hc hd zero = ha
four_below a b c d ha hb hc hd (suc zero) = hb
four_below a b c d ha hb hc hd (suc (suc i)) = pair_below c d hc hd i

pub four_again : (a b c d : ℕ) (rest : List ℕ) → a < 256 → b < 256 → c < 256 → d < 256
    → to_be_bytes w32 (from_be_bytes w32 (a ∷ b ∷ c ∷ d ∷ rest)) ≡ a ∷ b ∷ c ∷ d ∷ []
four_again a b c d rest ha hb hc hd =
    be_bytes_4 (a ∷ b ∷ c ∷ d ∷ []) (from_be_bytes w32 (a ∷ b ∷ c ∷ d ∷ rest)) refl (four_below a b c d ha hb hc hd) refl

-- plain bytes, each below 256 (beyond the end `get_or` gives 0), are what the packet that is read of them spells
pub spelled_again : (bytes : List ℕ) → ((i : ℕ) → get_or bytes i 0 < 256) → is_plain bytes ≡ true → spelling (packet_of bytes) ≡ bytes
unfolding spelling header packet_of
spelled_again [] h p = cc
spelled_again (a0 ∷ a1 ∷ a2 ∷ a3 ∷ a4 ∷ a5 ∷ a6 ∷ a7 ∷ a8 ∷ a9 ∷ a10 ∷ a11 ∷ rest) h p =
    let first : a0 ≡ 128 = first_byte (a0 ∷ a1 ∷ a2 ∷ a3 ∷ a4 ∷ a5 ∷ a6 ∷ a7 ∷ a8 ∷ a9 ∷ a10 ∷ a11 ∷ rest) p in
    let second = marker_and_type a1 (h 1) in
    let sequence = two_again a2 a3 (a4 ∷ a5 ∷ a6 ∷ a7 ∷ a8 ∷ a9 ∷ a10 ∷ a11 ∷ rest) (h 2) (h 3) in
    let timestamp = four_again a4 a5 a6 a7 (a8 ∷ a9 ∷ a10 ∷ a11 ∷ rest) (h 4) (h 5) (h 6) (h 7) in
    let ssrc = four_again a8 a9 a10 a11 rest (h 8) (h 9) (h 10) (h 11) in
    let end = append-nil rest in
    cc
spelled_again short h p = cc

-- such a packet has no padding, and so nothing is stripped
pub stripped_again : (bytes : List ℕ) → ((i : ℕ) → get_or bytes i 0 < 256) → is_plain bytes ≡ true → stripped (packet_of bytes) ≡ bytes
unfolding packet_of
stripped_again bytes h p = spelled_again bytes h p

-- the same premise in other words
pub below_at : (bytes : List ℕ) → All (λ b. b < 256) bytes → (i : ℕ) → get_or bytes i 0 < 256
below_at bytes h i =
    ⊎_elim (λ l. h i 0 l) (λ l. rw (get_or_past bytes i 0 l) (lit< tt)) (cases_lt i (length bytes))
