-- The digits of bytes, 16 bytes more at a time.
use Rattle.std.proofs.Common.{◌≡◌, ℕ, ◌+◌, ◌-◌, ◌*◌, ◌<◌, ◌≤◌, List, [], ◌∷◌, ◌++◌, length, take, drop, refl, sym, ap, ◌∙◌, arith, suc, zero}
use Rattle.std.proofs.lemmas.List.{append_assoc, append-nil, drop-drop, drop_all, length-drop, take_at, take-take, length-take-le}
use Rattle.std.proofs.lemmas.Slice.{take-put_mid}
use borrow.Rule.Slice.PartMut.{put_mid}
use Rattle.hex.specs.Hex.{encode_lower, encode_with, lower_digits}
use Rattle.hex.proofs.HexLemmas.{length-encode_with}

encode_lower-split : (i : ℕ) (bytes : List ℕ) → encode_lower bytes ≡ encode_lower (take i bytes) ++ encode_lower (drop i bytes)
unfolding encode_with
encode_lower-split zero bytes = refl
encode_lower-split (suc i) [] = refl
encode_lower-split (suc i) (b ∷ bytes) = rw (encode_lower-split i bytes) refl

pub block_more : (bytes out block : List ℕ) (k size room : ℕ) → size ≡ 16 → 32 * k ≤ length out → length block ≡ 32
    → block ≡ encode_lower (take size (drop (16 * k) bytes)) → take (32 * k) out ++ encode_lower (drop (16 * k) bytes) ≡ encode_lower bytes
    → take (32 * (k + 1)) (put_mid (32 * k) room out block) ++ encode_lower (drop (16 * (k + 1)) bytes) ≡ encode_lower bytes
block_more bytes out block k size room is_16 within long is inv =
    let front = take-put_mid (32 * k) room out block (32 * (k + 1)) (omega arith) within in
    let more : 16 * (k + 1) ≡ 16 * k + 16 = omega arith in
    let rest : drop (16 * (k + 1)) bytes ≡ drop 16 (drop (16 * k) bytes) = rw more (sym (drop-drop 16 (16 * k) bytes)) in
    let whole : encode_lower (drop (16 * k) bytes) ≡ block ++ encode_lower (drop (16 * (k + 1)) bytes) = rw (rest, is, is_16) (encode_lower-split 16 (drop (16 * k) bytes)) in
    rw (front, append_assoc) (rw whole at inv)

-- the digits of the first bytes
encode_lower-take : (i : ℕ) (bytes : List ℕ) → i ≤ length bytes → take (2 * i) (encode_lower bytes) ≡ encode_lower (take i bytes)
encode_lower-take i bytes within =
    ap (take (2 * i)) (encode_lower-split i bytes)
    ∙ take_at (encode_lower (take i bytes)) (encode_lower (drop i bytes)) (2 * i) (omega (arith, length-encode_with lower_digits (take i bytes), length-take-le i bytes within))

-- a last block, of which a part is there already
pub block_last : (bytes out block : List ℕ) (done room : ℕ) → 16 ≤ length bytes → length bytes < done + 16 → done ≤ length bytes → length out ≡ 2 * length bytes
    → room ≡ length out - 2 * (length bytes - 16) → block ≡ encode_lower (drop (length bytes - 16) bytes) → take (2 * done) out ++ encode_lower (drop done bytes) ≡ encode_lower bytes
    → put_mid (2 * (length bytes - 16)) room out block ≡ encode_lower bytes
block_last bytes out block done room long short within whole is_room is inv =
    let first = length bytes - 16 in
    let there : take (2 * done) (encode_lower bytes) ≡ take (2 * done) out =
    ap (take (2 * done)) (sym inv) ∙ take_at (take (2 * done) out) (encode_lower (drop done bytes)) (2 * done) (length-take-le (2 * done) out (omega arith)) in
    let front : take (2 * first) out ≡ encode_lower (take first bytes) =
    sym (take-take (2 * first) (2 * done) out (omega arith))
    ∙ (ap (take (2 * first)) (sym there) ∙ (take-take (2 * first) (2 * done) (encode_lower bytes) (omega arith) ∙ encode_lower-take first bytes (omega arith))) in
    let none : drop room (drop (2 * first) out) ≡ [] = drop_all room (drop (2 * first) out) (omega (arith, length-drop (2 * first) out)) in
    ap (λ (l : List ℕ). l ++ (block ++ drop room (drop (2 * first) out))) front
    ∙ (ap (λ (l : List ℕ). encode_lower (take first bytes) ++ (block ++ l)) none
    ∙ (ap (λ (l : List ℕ). encode_lower (take first bytes) ++ l) (append-nil block ∙ is) ∙ sym (encode_lower-split first bytes)))
