-- TLVs are read as they are spelled.
use Rattle.std.proofs.Common.{◌≡◌, ℕ, suc, ◌+◌, ◌-◌, ◌*◌, ◌/◌, ◌%◌, ◌≤◌, ◌<◌, Bool, true, false, IsTrue, List, [], ◌∷◌, ◌++◌, length, take, drop, get_or, None, refl, sym, ◌∙◌, ap, subst, arith, length-take, length-drop, length-append, append_assoc, take_at, take-add, ltb, le-ltb}
use Rattle.std.specs.Int.{w16, to_be_bytes, from_be_bytes}
use Rattle.std.proofs.lemmas.Nat.{be_bytes_2, from_be_bytes-to_be_bytes_2}
use Rattle.std.proofs.lemmas.Bool.Decides.{nat_tests}
use Rattle.rams_model.specs.Formats.{Tlv, IsTlv, tlv_format, tlv_fault, tlv_size, value_length, first_tlv}
use Rattle.rams_model.proofs.JoinedLaws.{Spells, ReadsAs}
use Rattle.rams_model.proofs.PlainPackets.{pair_below}

-- a TLV in which nothing is wrong
record IsWhole (lengths : ℕ → ℕ → Bool) (bytes : List ℕ) : Type 0 where
  header : 4 ≤ length bytes
  within : tlv_size bytes ≤ length bytes
  lawful : IsTrue (lengths (get_or bytes 0 0) (value_length bytes))

whole_tlv : (lengths : ℕ → ℕ → Bool) (bytes : List ℕ) → tlv_fault lengths bytes ≡ None → IsWhole lengths bytes
whole_tlv lengths bytes h = record {
  header = grind (arith, nat_tests, h);
  within = grind (arith, nat_tests, h);
  lawful = grind (arith, nat_tests, h);
}

-- the bytes behind the first four
take_four : (x k r a b : ℕ) (rest : List ℕ) → take (4 + x) (k ∷ r ∷ a ∷ b ∷ rest) ≡ k ∷ r ∷ a ∷ b ∷ take x rest
take_four x k r a b rest = let four : 4 + x ≡ suc (suc (suc (suc x))) = omega arith in ap (λ (j : ℕ). take j (k ∷ r ∷ a ∷ b ∷ rest)) four

-- a value, and what fills its last word
value_and_filling : (rest : List ℕ) (n size : ℕ) → n ≤ size → take size rest ≡ take n rest ++ take (size - n) (drop n rest)
value_and_filling rest n size h = let sum : size ≡ n + (size - n) = omega arith in ap (λ (j : ℕ). take j rest) sum ∙ take-add n (size - n) rest

tlv_text : (k r a b n : ℕ) (value filling : List ℕ) → length value ≡ n → to_be_bytes w16 n ≡ a ∷ b ∷ []
    → k ∷ r ∷ a ∷ b ∷ (value ++ filling) ≡ k ∷ r ∷ (to_be_bytes w16 (length value) ++ value ++ filling)
tlv_text k r a b n value filling e again = ap (λ (l : List ℕ). k ∷ r ∷ (l ++ value ++ filling)) (sym (ap (to_be_bytes w16) e ∙ again))

spelled_tlv : (lengths : ℕ → ℕ → Bool) (bytes : List ℕ) → ((i : ℕ) → get_or bytes i 0 < 256) → tlv_fault lengths bytes ≡ None → IsTlv lengths (take (tlv_size bytes) bytes) (first_tlv bytes)
spelled_tlv lengths (k ∷ r ∷ a ∷ b ∷ rest) small h =
    let whole = whole_tlv lengths (k ∷ r ∷ a ∷ b ∷ rest) h in
    let n = from_be_bytes w16 (a ∷ b ∷ []) in
    let size = (n + 3) / 4 * 4 in
    let within : 4 + size ≤ 4 + length rest = omega (arith, whole.within) in
    let again = be_bytes_2 (a ∷ b ∷ []) n refl (pair_below a b (small 2) (small 3)) refl in
    let value = take (4 + n - 4) rest in
    let filling = take (size - n) (drop n rest) in
    let behind : 4 + n - 4 ≡ n = omega arith in
    let len : length value ≡ n = simp length-take (omega arith) in
    record {
      reserved = r;
      filling = filling;
      text = take_four size k r a b rest ∙ ap (λ (l : List ℕ). k ∷ r ∷ a ∷ b ∷ l) (value_and_filling rest n size (omega arith))
          ∙ ap (λ (j : ℕ). k ∷ r ∷ a ∷ b ∷ (take j rest ++ filling)) (sym behind) ∙ tlv_text k r a b n value filling len again;
      size = omega (arith, small 2, small 3, len);
      fills = simp (length-take, length-drop) (omega (arith, len));
      lawful = subst (λ (j : ℕ). IsTrue (lengths k j)) (sym len) whole.lawful;
    }
spelled_tlv lengths [] small h = absurd (omega (arith, (whole_tlv lengths [] h).header))
spelled_tlv lengths (k ∷ []) small h = absurd (omega (arith, (whole_tlv lengths (k ∷ []) h).header))
spelled_tlv lengths (k ∷ r ∷ []) small h = absurd (omega (arith, (whole_tlv lengths (k ∷ r ∷ []) h).header))
spelled_tlv lengths (k ∷ r ∷ a ∷ []) small h = absurd (omega (arith, (whole_tlv lengths (k ∷ r ∷ a ∷ []) h).header))

no_fault : (lengths : ℕ → ℕ → Bool) (bytes : List ℕ) → 4 ≤ length bytes → tlv_size bytes ≤ length bytes → lengths (get_or bytes 0 0) (value_length bytes) ≡ true → tlv_fault lengths bytes ≡ None
no_fault lengths bytes h1 h2 h3 =
    let a : ltb (length bytes) 4 ≡ false = le-ltb (length bytes) 4 h1 in
    let b : ltb (length bytes) (tlv_size bytes) ≡ false = le-ltb (length bytes) (tlv_size bytes) h2 in
    rw (a, b, h3) refl

tlv_read : (lengths : ℕ → ℕ → Bool) (k r : ℕ) (value filling rest : List ℕ) → length value < 65536 → length filling ≡ 3 - (length value + 3) % 4 → lengths k (length value) ≡ true
    → ReadsAs (tlv_format lengths) (k ∷ r ∷ (to_be_bytes w16 (length value) ++ value ++ filling)) rest (record { kind = k; value = value })
tlv_read lengths k r value filling rest h1 h2 h3 =
    let n = length value in
    let text = k ∷ r ∷ (to_be_bytes w16 n ++ value ++ filling) in
    let all = text ++ rest in
    let named : value_length all ≡ n = from_be_bytes-to_be_bytes_2 n h1 in
    let long : length all ≡ 4 + n + length filling + length rest = omega (arith, length-append (value ++ filling) rest, length-append value filling) in
    let size : tlv_size all ≡ length text = omega (arith, named, length-append value filling) in
    let behind : 4 + value_length all - 4 ≡ n = omega (arith, named) in
    record {
      fault = no_fault lengths all (omega arith) (omega (arith, length-append value filling)) (ap (lengths k) named ∙ h3);
      piece = ap (λ (v : List ℕ). let t : Tlv = record { kind = k; value = v } in t)
          (ap (λ (j : ℕ). take j (value ++ filling ++ rest)) behind ∙ ap (take n) (append_assoc value filling rest) ∙ take_at value (filling ++ rest) n refl);
      size = size;
      long = omega arith;
    }

-- a TLV in front of other bytes is read, and nothing of what follows it
pub tlvs_are_spelled : (lengths : ℕ → ℕ → Bool) → Spells (tlv_format lengths) (IsTlv lengths)
tlvs_are_spelled lengths = record {
  long = λ bytes. omega arith;
  spelled = spelled_tlv lengths;
  read = λ front rest t h. subst (λ (f : List ℕ). ReadsAs (tlv_format lengths) f rest t) (sym h.text) (tlv_read lengths t.kind h.reserved t.value h.filling rest h.size h.fills h.lawful);
}
