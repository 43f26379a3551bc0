-- Bytes read as an RTP packet exactly where they are one, and else with their first fault.
use Rattle.std.proofs.Common.{◌≡◌, ◌≢◌, ℕ, ◌+◌, ◌-◌, ◌*◌, ◌/◌, ◌%◌, ◌<◌, ◌≤◌, ◌⊎◌, inl, inr, ⊎_elim, Bool, true, false, cond, not, ◌&&◌, ◌||◌, List, length, drop, get_or, refl, ap, sym, ◌∙◌, arith, eqb, ltb}
use Rattle.std.specs.Prelude.{slice_index, Result, Ok, Err}
use Rattle.std.specs.Int.{w16, from_be_bytes}
use Rattle.std.proofs.lemmas.Bool.{cond_both, cond-true, cond-false, and_parts, or_cases, not-true, not-false, eqb-true, eqb-false, ltb-true, ltb-false, cases_Bool, or_parts, lt-ltb, le-ltb, eq-eqb, ne_eqb}
use Rattle.std.proofs.lemmas.List.{get_or-drop, drop-drop, length-drop}
use Rattle.rams_model.specs.declared.RtpFault.{RtpFault}
use Rattle.rams_model.specs.declared.RtpFault.TheVariants.{Short, Version, Csrc, Extension, Padding}
use Rattle.rams_model.specs.Formats.{Packet, version, has_padding, has_extension, csrc_size, behind_csrc, extension_size, behind_extension, padding_size, lacks_extension, miscounts_padding, fields_of, packet_at}
use Rattle.rams_model.proofs.RtpPackets.{read_without_fault}
use Rattle.service_laws.specs.byte_laws.{number16, front_size, last_byte, HasHeader, IsRtp, IsNoRtp}

-- ---- the header extension

words_there : (bytes : List ℕ) → from_be_bytes w16 (drop 2 (behind_csrc bytes)) ≡ number16 (14 + csrc_size bytes) bytes
words_there bytes =
    let cs = csrc_size bytes in
    let one = drop-drop cs 12 bytes in
    let two = drop-drop 2 (12 + cs) bytes in
    let at : 12 + cs + 2 ≡ 14 + cs = omega arith in
    let whole : drop 2 (behind_csrc bytes) ≡ drop (14 + cs) bytes = ap (drop 2) one ∙ two ∙ ap (λ (n : ℕ). drop n bytes) at in
    ap (from_be_bytes w16) whole ∙ read (14 + cs)
  where
    read : (n : ℕ) → from_be_bytes w16 (drop n bytes) ≡ number16 n bytes
    read n =
        let first : get_or (drop n bytes) 0 0 ≡ get_or bytes n 0 = get_or-drop n bytes 0 0 ∙ ap (λ (i : ℕ). get_or bytes i 0) (omega arith) in
        omega (arith, first, get_or-drop n bytes 1 0)

front_is : (bytes : List ℕ) → 12 + csrc_size bytes + extension_size bytes ≡ front_size bytes
front_is bytes = ap (λ (x : ℕ). 12 + csrc_size bytes + cond (has_extension bytes) (4 + 4 * x) 0) (words_there bytes)

-- so many bytes stand behind the sources, and behind the extension
behind_is : (bytes : List ℕ) → length (behind_csrc bytes) ≡ length bytes - 12 - csrc_size bytes
behind_is bytes = omega (arith, length-drop (csrc_size bytes) (drop 12 bytes), length-drop 12 bytes)

after_is : (bytes : List ℕ) → length (behind_extension bytes) ≡ length bytes - 12 - csrc_size bytes - extension_size bytes
after_is bytes = omega (arith, length-drop (extension_size bytes) (behind_csrc bytes), behind_is bytes)

whole_front : (bytes : List ℕ) → 12 + csrc_size bytes ≤ length bytes → lacks_extension bytes ≡ false → front_size bytes ≤ length bytes
whole_front bytes long e = ⊎_elim there none (cases_Bool (has_extension bytes))
  where
    there : has_extension bytes ≡ true → front_size bytes ≤ length bytes
    there t =
        let lacks : (ltb (length (behind_csrc bytes)) 4 || ltb (length (behind_csrc bytes)) (extension_size bytes)) ≡ false =
        ap (λ (b : Bool). b && (ltb (length (behind_csrc bytes)) 4 || ltb (length (behind_csrc bytes)) (extension_size bytes))) (sym t) ∙ e in
        let le = ltb-false (length (behind_csrc bytes)) (extension_size bytes) (or_parts (ltb (length (behind_csrc bytes)) 4) _ lacks).1 in
        let four = ltb-false (length (behind_csrc bytes)) 4 (or_parts (ltb (length (behind_csrc bytes)) 4) _ lacks).0 in
        let front = front_is bytes in
        let behind = behind_is bytes in
        omega (arith, long, le, four, front, behind)

    none : has_extension bytes ≡ false → front_size bytes ≤ length bytes
    none f =
        let zero : extension_size bytes ≡ 0 = cond-false (has_extension bytes) (4 + 4 * from_be_bytes w16 (drop 2 (behind_csrc bytes))) 0 f in
        let front = front_is bytes in
        omega (arith, long, zero, front)

cut_front : (bytes : List ℕ) → 12 + csrc_size bytes ≤ length bytes → lacks_extension bytes ≡ true → length bytes < front_size bytes
cut_front bytes long e =
    let both = and_parts (has_extension bytes) _ e in
    let size : extension_size bytes ≡ 4 + 4 * from_be_bytes w16 (drop 2 (behind_csrc bytes)) =
    cond-true (has_extension bytes) (4 + 4 * from_be_bytes w16 (drop 2 (behind_csrc bytes))) 0 both.0 in
    let front = front_is bytes in
    let behind = behind_is bytes in
    ⊎_elim (λ t. let lt = ltb-true (length (behind_csrc bytes)) 4 t in omega (arith, lt, size, front, behind, long))
    (λ t. let lt = ltb-true (length (behind_csrc bytes)) (extension_size bytes) t in omega (arith, lt, front, behind, long))
    (or_cases (ltb (length (behind_csrc bytes)) 4) (ltb (length (behind_csrc bytes)) (extension_size bytes)) both.1)

-- ---- padding

counted : (bytes : List ℕ) → front_size bytes ≤ length bytes → miscounts_padding bytes ≡ false → slice_index bytes 0 / 32 % 2 ≡ 1
    → (1 ≤ last_byte bytes) × (front_size bytes + last_byte bytes ≤ length bytes)
counted bytes front e set =
    let has : has_padding bytes ≡ true = eq_there set in
    let size : padding_size bytes ≡ last_byte bytes = cond-true (has_padding bytes) (last_byte bytes) 0 has in
    let neither : (eqb (padding_size bytes) 0 || ltb (length (behind_extension bytes)) (padding_size bytes)) ≡ false =
    ap (λ (b : Bool). b && (eqb (padding_size bytes) 0 || ltb (length (behind_extension bytes)) (padding_size bytes))) (sym has) ∙ e in
    let parts = or_parts (eqb (padding_size bytes) 0) _ neither in
    let some : padding_size bytes ≢ 0 = eqb-false (padding_size bytes) 0 parts.0 in
    let within = ltb-false (length (behind_extension bytes)) (padding_size bytes) parts.1 in
    let is = front_is bytes in
    let after = after_is bytes in
    (omega (arith, size, some), omega (arith, size, within, is, after, front))
  where
    eq_there : slice_index bytes 0 / 32 % 2 ≡ 1 → has_padding bytes ≡ true
    eq_there e1 = ap (λ (n : ℕ). eqb n 1) e1

miscounted : (bytes : List ℕ) → front_size bytes ≤ length bytes → miscounts_padding bytes ≡ true
    → (slice_index bytes 0 / 32 % 2 ≡ 1) × ((last_byte bytes ≡ 0) ⊎ (length bytes < front_size bytes + last_byte bytes))
miscounted bytes front e =
    let both = and_parts (has_padding bytes) _ e in
    let size : padding_size bytes ≡ last_byte bytes = cond-true (has_padding bytes) (last_byte bytes) 0 both.0 in
    let is = front_is bytes in
    let after = after_is bytes in (
      eqb-true (slice_index bytes 0 / 32 % 2) 1 both.0,
      ⊎_elim (λ t. inl (sym size ∙ eqb-true (padding_size bytes) 0 t))
          (λ t. let lt = ltb-true (length (behind_extension bytes)) (padding_size bytes) t in inr (omega (arith, lt, size, is, after, front)))
          (or_cases (eqb (padding_size bytes) 0) (ltb (length (behind_extension bytes)) (padding_size bytes)) both.1),
    )

-- ---- all of it

-- what is read of the bytes is so
abbrev pub ReadsSo : List ℕ → Result Packet RtpFault → Type 0
ReadsSo bytes (Ok p) = IsRtp bytes × (fields_of bytes ≡ p)
ReadsSo bytes (Err fault) = IsNoRtp bytes fault

pub reads_so : (bytes : List ℕ) → ReadsSo bytes (packet_at bytes)
unfolding packet_at
reads_so bytes =
    cond_both (ltb (length bytes) 12) (Err Short) _ (ReadsSo bytes) (λ t. ltb-true (length bytes) 12 t)
    (λ f1. let long = ltb-false (length bytes) 12 f1 in
    cond_both (not (eqb (version bytes) 2)) (Err Version) _ (ReadsSo bytes) (λ t. (long, eqb-false (version bytes) 2 (not-true (eqb (version bytes) 2) t)))
    (λ f2. let two = eqb-true (version bytes) 2 (not-false (eqb (version bytes) 2) f2) in
    cond_both (ltb (length bytes) (12 + csrc_size bytes)) (Err Csrc) _ (ReadsSo bytes) (λ t. (long, two, ltb-true (length bytes) (12 + csrc_size bytes) t))
    (λ f3. let sources = ltb-false (length bytes) (12 + csrc_size bytes) f3 in
    let header : HasHeader bytes = record { long = long; version = two; sources = sources } in
    cond_both (lacks_extension bytes) (Err Extension) _ (ReadsSo bytes) (λ t. (header, cut_front bytes sources t))
    (λ f4. let front = whole_front bytes sources f4 in
    cond_both (miscounts_padding bytes) (Err Padding) (Ok (fields_of bytes)) (ReadsSo bytes)
    (λ t. let m = miscounted bytes front t in (header, front, m.0, m.1))
    (λ f5. (record { header = header; front = front; padding = counted bytes front f5 }, refl))))))

-- ---- and the other way round

whole_extension : (bytes : List ℕ) → HasHeader bytes → front_size bytes ≤ length bytes → lacks_extension bytes ≡ false
whole_extension bytes header front =
    ⊎_elim (λ t. let lt = cut_front bytes header.sources t in absurd (omega (arith, lt, front))) (λ f. f) (cases_Bool (lacks_extension bytes))

cut_extension : (bytes : List ℕ) → HasHeader bytes → length bytes < front_size bytes → lacks_extension bytes ≡ true
cut_extension bytes header cut =
    ⊎_elim (λ t. t) (λ f. let le = whole_front bytes header.sources f in absurd (omega (arith, le, cut))) (cases_Bool (lacks_extension bytes))

right_padding : (bytes : List ℕ) → front_size bytes ≤ length bytes
    → (slice_index bytes 0 / 32 % 2 ≡ 1 → (1 ≤ last_byte bytes) × (front_size bytes + last_byte bytes ≤ length bytes)) → miscounts_padding bytes ≡ false
right_padding bytes front right =
    ⊎_elim (λ t. let m = miscounted bytes front t in
    let both = right m.0 in absurd (⊎_elim (λ (zero : last_byte bytes ≡ 0). omega (arith, zero, both.0)) (λ lt. omega (arith, lt, both.1)) m.1))
    (λ f. f) (cases_Bool (miscounts_padding bytes))

wrong_padding : (bytes : List ℕ) → front_size bytes ≤ length bytes → slice_index bytes 0 / 32 % 2 ≡ 1
    → (last_byte bytes ≡ 0) ⊎ (length bytes < front_size bytes + last_byte bytes) → miscounts_padding bytes ≡ true
wrong_padding bytes front set wrong =
    ⊎_elim (λ t. t)
    (λ f. let both = counted bytes front f set in absurd (⊎_elim (λ (zero : last_byte bytes ≡ 0). omega (arith, zero, both.0)) (λ lt. omega (arith, lt, both.1)) wrong))
    (cases_Bool (miscounts_padding bytes))

pub rtp_reads : (bytes : List ℕ) → IsRtp bytes → packet_at bytes ≡ Ok (fields_of bytes)
rtp_reads bytes is =
    let header = is.header in
    read_without_fault bytes (record {
      short = header.long;
      version = header.version;
      csrc = header.sources;
      extension = whole_extension bytes header is.front;
      padding = right_padding bytes is.front is.padding;
    })

pub no_rtp_reads : (bytes : List ℕ) (fault : RtpFault) → IsNoRtp bytes fault → packet_at bytes ≡ Err fault
unfolding packet_at
no_rtp_reads bytes Short is = rw (lt-ltb (length bytes) 12 is) refl
no_rtp_reads bytes Version is = rw (le-ltb (length bytes) 12 is.0, ne_eqb (version bytes) 2 is.1) refl
no_rtp_reads bytes Csrc is = rw (le-ltb (length bytes) 12 is.0, eq-eqb (version bytes) 2 is.1, lt-ltb (length bytes) (12 + csrc_size bytes) is.2) refl
no_rtp_reads bytes Extension is =
    let header = is.0 in
    rw (le-ltb (length bytes) 12 header.long, eq-eqb (version bytes) 2 header.version, le-ltb (length bytes) (12 + csrc_size bytes) header.sources, cut_extension bytes header is.1) refl
no_rtp_reads bytes Padding is =
    let header = is.0 in
    rw (le-ltb (length bytes) 12 header.long, eq-eqb (version bytes) 2 header.version, le-ltb (length bytes) (12 + csrc_size bytes) header.sources, whole_extension bytes header is.1, wrong_padding bytes is.1 is.2 is.3) refl
