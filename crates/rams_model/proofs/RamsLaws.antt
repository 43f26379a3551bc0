-- RAMS messages are read as they are spelled, and what is written is read back.
use Rattle.std.proofs.Common.{◌≡◌, ℕ, suc, ◌+◌, ◌-◌, ◌*◌, ◌/◌, ◌%◌, ◌^◌, ◌≤◌, ◌<◌, Bool, true, false, IfSome, List, [], ◌∷◌, ◌++◌, length, get_or, Option, None, Some, option_map, is_some, Result, Ok, Err, refl, ◌∙◌, ap, arith, append_assoc, eqb, eq-eqb, le-leb, leb, replicate, lit<}
use Rattle.std.proofs.lemmas.List.{length-replicate}
use Rattle.std.specs.Prelude.{if◌then◌else◌, ◌&&◌, ◌==◌, nat_le}
use Rattle.std.specs.List.{flat_map, AllByRecursion}
use Rattle.std.specs.Int.{Width, w16, w32, w64, to_be_bytes, from_be_bytes}
use Rattle.std.proofs.lemmas.Nat.{from_be_bytes-to_be_bytes_2, from_be_bytes-to_be_bytes_4, from_be_bytes-to_be_bytes_8}
use Rattle.std.proofs.lemmas.Bool.{eqb-true, and_parts}
use Rattle.rams_model.specs.declared.{fault.TlvFault.TlvFault, message.Info.Info, message.Stop.Stop, fault.TlvFault.TheVariants.Form}
use Rattle.rams_model.specs.Formats.{Joins, pieces_of, map_ok, words32, tlv, optional_tlv, info_fci, Tlv, IsTlv, IsMessage, tlv_format, tlvs_at, first_value, number_of, Request, request_of, request_at, request_fci, request_length, ssrcs_tlv, ssrcs_in, ssrcs_back, FitsIn, FitsRequest, FitsInfo, request_back, preamble_tlv, info_of, info_at, info_length, stop_of, stop_at, stop_fci, stop_length}
use Rattle.rams_model.proofs.JoinedLaws.{spelled_as_read, read_as_spelled, joins_one, joins_append}
use Rattle.rams_model.proofs.TlvLaws.{tlvs_are_spelled}

chosen : {A : Type 0} (b : Bool) (r : Result A TlvFault) (fault : TlvFault) (x : A) → (if b then r else Err fault) ≡ Ok x → (b ≡ true) × (r ≡ Ok x)
chosen true r fault x h = (refl, h)
chosen false r fault x h = cc

-- what is read of a message is spelled so
pub message_spelled : (sfmt : ℕ) (lengths : ℕ → ℕ → Bool) (fci : List ℕ) (ts : List Tlv) → ((i : ℕ) → get_or fci i 0 < 256) → tlvs_at sfmt lengths fci ≡ Ok ts → IsMessage sfmt lengths fci ts
message_spelled sfmt lengths (s ∷ a ∷ b ∷ c ∷ rest) ts small h =
    let parts = chosen (nat_le 4 (length (s ∷ a ∷ b ∷ c ∷ rest)) && s == sfmt) (pieces_of (tlv_format lengths) rest) Form ts h in
    let first = eqb-true s sfmt (and_parts (leb 4 (length (s ∷ a ∷ b ∷ c ∷ rest))) (eqb s sfmt) parts.0).1 in (
      a,
      b,
      c,
      rest,
      ap (λ (k : ℕ). k ∷ a ∷ b ∷ c ∷ rest) first,
      spelled_as_read (tlv_format lengths) (IsTlv lengths) (tlvs_are_spelled lengths) rest (λ i. small (suc (suc (suc (suc i))))) ts parts.1,
    )
message_spelled sfmt lengths [] ts small h = cc
message_spelled sfmt lengths (s ∷ []) ts small h = cc
message_spelled sfmt lengths (s ∷ a ∷ []) ts small h = cc
message_spelled sfmt lengths (s ∷ a ∷ b ∷ []) ts small h = cc

-- what is spelled so is read
pub message_read : (sfmt : ℕ) (lengths : ℕ → ℕ → Bool) (fci : List ℕ) (ts : List Tlv) → IsMessage sfmt lengths fci ts → tlvs_at sfmt lengths fci ≡ Ok ts
message_read sfmt lengths fci ts (a, b, c, rest, text, joins) =
    let same : (sfmt == sfmt) ≡ true = eq-eqb sfmt sfmt refl in
    let long : leb 4 (length (sfmt ∷ a ∷ b ∷ c ∷ rest)) ≡ true = le-leb 4 (length (sfmt ∷ a ∷ b ∷ c ∷ rest)) (omega arith) in
    ap (tlvs_at sfmt lengths) text ∙ rw (long, same) (read_as_spelled (tlv_format lengths) (IsTlv lengths) (tlvs_are_spelled lengths) rest ts joins)

-- ---- what is written is read back

tlv_written : (lengths : ℕ → ℕ → Bool) (kind : ℕ) (value : List ℕ) → length value < 65536 → lengths kind (length value) ≡ true → IsTlv lengths (tlv kind value) (record { kind = kind; value = value })
tlv_written lengths kind value h lawful = record {
  reserved = 0;
  filling = replicate (3 - (length value + 3) % 4) 0;
  text = refl;
  size = h;
  fills = length-replicate (3 - (length value + 3) % 4) 0;
  lawful = lawful;
}

-- the TLV of an optional number
abbrev optional : ℕ → Width → Option ℕ → List Tlv
optional kind w None = []
optional kind w (Some n) = record { kind = kind; value = to_be_bytes w n } ∷ []

optional_joins : (lengths : ℕ → ℕ → Bool) (kind : ℕ) (w : Width) → ((n : ℕ) → length (to_be_bytes w n) < 65536) → ((n : ℕ) → lengths kind (length (to_be_bytes w n)) ≡ true) → (o : Option ℕ)
    → Joins (IsTlv lengths) (optional_tlv kind w o) (optional kind w o)
optional_joins lengths kind w h lawful None = refl
optional_joins lengths kind w h lawful (Some n) =
    joins_one (IsTlv lengths) (tlv kind (to_be_bytes w n)) (record { kind = kind; value = to_be_bytes w n }) (tlv_written lengths kind (to_be_bytes w n) (h n) (lawful n))

abbrev or_value : Option (List ℕ) → Option (List ℕ) → Option (List ℕ)
or_value None other = other
or_value (Some v) other = Some v

or_none : (o : Option (List ℕ)) → or_value o None ≡ o
or_none None = refl
or_none (Some v) = refl

or_cond : (b : Bool) (v : List ℕ) (o p : Option (List ℕ)) → (if b then Some v else or_value o p) ≡ or_value (if b then Some v else o) p
or_cond true v o p = refl
or_cond false v o p = refl

value-append : (kind : ℕ) (ts us : List Tlv) → first_value kind (ts ++ us) ≡ or_value (first_value kind ts) (first_value kind us)
unfolding first_value
value-append kind [] us = refl
value-append kind (t ∷ ts) us = ap (λ o. if t.kind == kind then Some t.value else o) (value-append kind ts us) ∙ or_cond (t.kind == kind) t.value (first_value kind ts) (first_value kind us)

-- of another type
value_other : (kind k : ℕ) (w : Width) (o : Option ℕ) → (k == kind) ≡ false → first_value kind (optional k w o) ≡ None
unfolding first_value
value_other kind k w None h = refl
value_other kind k w (Some n) h = rw h refl

value_own : (kind : ℕ) (w : Width) (o : Option ℕ) → first_value kind (optional kind w o) ≡ option_map (to_be_bytes w) o
unfolding first_value
value_own kind w None = refl
value_own kind w (Some n) = let same : (kind == kind) ≡ true = eq-eqb kind kind refl in rw same refl

number_back : (w : Width) (bits : ℕ) → ((n : ℕ) → n < 2 ^ bits → from_be_bytes w (to_be_bytes w n) ≡ n) → (o : Option ℕ) → FitsIn bits o → option_map (from_be_bytes w) (option_map (to_be_bytes w) o) ≡ o
number_back w bits back None h = refl
number_back w bits back (Some n) h = ap Some (back n h)

five_values : (kind : ℕ) (a b c d e : List Tlv)
    → first_value kind (a ++ b ++ c ++ d ++ e) ≡ or_value (first_value kind a) (or_value (first_value kind b) (or_value (first_value kind c) (or_value (first_value kind d) (first_value kind e))))
five_values kind a b c d e =
    ap (first_value kind) (append_assoc (a ++ b ++ c) d e ∙ append_assoc (a ++ b) c (d ++ e) ∙ append_assoc a b (c ++ (d ++ e)))
    ∙ value-append kind a (b ++ (c ++ (d ++ e))) ∙ ap (or_value (first_value kind a)) (value-append kind b (c ++ (d ++ e))
    ∙ ap (or_value (first_value kind b)) (value-append kind c (d ++ e) ∙ ap (or_value (first_value kind c)) (value-append kind d e)))

-- ---- a request

abbrev ssrcs_of : Option (List ℕ) → List Tlv
ssrcs_of None = []
ssrcs_of (Some ssrcs) = record { kind = 1; value = flat_map (to_be_bytes w32) ssrcs } ∷ []

abbrev preamble_of : Bool → List Tlv
preamble_of true = record { kind = 5; value = [] } ∷ []
preamble_of false = []

abbrev tlvs_of : Request → List Tlv
tlvs_of r = ssrcs_of r.ssrcs ++ optional 2 w32 r.min_ms ++ optional 3 w32 r.max_ms ++ optional 4 w64 r.bps ++ preamble_of r.preamble

length_words : (ssrcs : List ℕ) → length (flat_map (to_be_bytes w32) ssrcs) ≡ 4 * length ssrcs
length_words [] = refl
length_words (s ∷ ssrcs) = omega (arith, length_words ssrcs)

words_back : (ssrcs : List ℕ) → AllByRecursion (λ s. s < 2 ^ 32) ssrcs → words32 (flat_map (to_be_bytes w32) ssrcs) ≡ ssrcs
unfolding words32
words_back [] h = refl
words_back (s ∷ ssrcs) h =
    let first = from_be_bytes-to_be_bytes_4 s h.0 in
    let others = words_back ssrcs h.1 in
    cc

ssrcs_joins : (o : Option (List ℕ)) → IfSome o (λ ssrcs. length ssrcs ≤ 64) → Joins (IsTlv request_length) (ssrcs_tlv o) (ssrcs_of o)
ssrcs_joins None h = refl
ssrcs_joins (Some ssrcs) h =
    let long = length_words ssrcs in
    let whole : length (flat_map (to_be_bytes w32) ssrcs) % 4 ≡ 0 = omega arith in
    joins_one (IsTlv request_length) (tlv 1 (flat_map (to_be_bytes w32) ssrcs)) (record { kind = 1; value = flat_map (to_be_bytes w32) ssrcs })
    (tlv_written request_length 1 (flat_map (to_be_bytes w32) ssrcs) (omega arith) (eq-eqb (length (flat_map (to_be_bytes w32) ssrcs) % 4) 0 whole))

preamble_joins : (b : Bool) → Joins (IsTlv request_length) (preamble_tlv b) (preamble_of b)
preamble_joins true = joins_one (IsTlv request_length) (tlv 5 []) (record { kind = 5; value = [] }) (tlv_written request_length 5 [] (lit< tt) refl)
preamble_joins false = refl

ssrcs_value : (o : Option (List ℕ)) → first_value 1 (ssrcs_of o) ≡ option_map (flat_map (to_be_bytes w32)) o
unfolding first_value
ssrcs_value None = refl
ssrcs_value (Some ssrcs) = refl

ssrcs_other : (kind : ℕ) (o : Option (List ℕ)) → (1 == kind) ≡ false → first_value kind (ssrcs_of o) ≡ None
unfolding first_value
ssrcs_other kind None h = refl
ssrcs_other kind (Some ssrcs) h = rw h refl

ssrcs_read : (o : Option (List ℕ)) → IfSome o (λ ssrcs. AllByRecursion (λ s. s < 2 ^ 32) ssrcs) → ssrcs_in (option_map (flat_map (to_be_bytes w32)) o) ≡ ssrcs_back o
ssrcs_read None h = refl
ssrcs_read (Some []) h = refl
ssrcs_read (Some (s ∷ ssrcs)) h = ap Some (words_back (s ∷ ssrcs) h)

preamble_value : (b : Bool) → is_some (first_value 5 (preamble_of b)) ≡ b
unfolding first_value
preamble_value true = refl
preamble_value false = refl

preamble_other : (kind : ℕ) (b : Bool) → (5 == kind) ≡ false → first_value kind (preamble_of b) ≡ None
unfolding first_value
preamble_other kind true h = rw h refl
preamble_other kind false h = refl

value_1 : (r : Request) → first_value 1 (tlvs_of r) ≡ option_map (flat_map (to_be_bytes w32)) r.ssrcs
value_1 r =
    five_values 1 (ssrcs_of r.ssrcs) (optional 2 w32 r.min_ms) (optional 3 w32 r.max_ms) (optional 4 w64 r.bps) (preamble_of r.preamble)
    ∙ rw (ssrcs_value r.ssrcs, value_other 1 2 w32 r.min_ms refl, value_other 1 3 w32 r.max_ms refl, value_other 1 4 w64 r.bps refl, preamble_other 1 r.preamble refl)
    (or_none (option_map (flat_map (to_be_bytes w32)) r.ssrcs))

value_2 : (r : Request) → first_value 2 (tlvs_of r) ≡ option_map (to_be_bytes w32) r.min_ms
value_2 r =
    five_values 2 (ssrcs_of r.ssrcs) (optional 2 w32 r.min_ms) (optional 3 w32 r.max_ms) (optional 4 w64 r.bps) (preamble_of r.preamble)
    ∙ rw (ssrcs_other 2 r.ssrcs refl, value_own 2 w32 r.min_ms, value_other 2 3 w32 r.max_ms refl, value_other 2 4 w64 r.bps refl, preamble_other 2 r.preamble refl)
    (or_none (option_map (to_be_bytes w32) r.min_ms))

value_3 : (r : Request) → first_value 3 (tlvs_of r) ≡ option_map (to_be_bytes w32) r.max_ms
value_3 r =
    five_values 3 (ssrcs_of r.ssrcs) (optional 2 w32 r.min_ms) (optional 3 w32 r.max_ms) (optional 4 w64 r.bps) (preamble_of r.preamble)
    ∙ rw (ssrcs_other 3 r.ssrcs refl, value_other 3 2 w32 r.min_ms refl, value_own 3 w32 r.max_ms, value_other 3 4 w64 r.bps refl, preamble_other 3 r.preamble refl)
    (or_none (option_map (to_be_bytes w32) r.max_ms))

value_4 : (r : Request) → first_value 4 (tlvs_of r) ≡ option_map (to_be_bytes w64) r.bps
value_4 r =
    five_values 4 (ssrcs_of r.ssrcs) (optional 2 w32 r.min_ms) (optional 3 w32 r.max_ms) (optional 4 w64 r.bps) (preamble_of r.preamble)
    ∙ rw (ssrcs_other 4 r.ssrcs refl, value_other 4 2 w32 r.min_ms refl, value_other 4 3 w32 r.max_ms refl, value_own 4 w64 r.bps, preamble_other 4 r.preamble refl)
    (or_none (option_map (to_be_bytes w64) r.bps))

value_5 : (r : Request) → first_value 5 (tlvs_of r) ≡ first_value 5 (preamble_of r.preamble)
value_5 r =
    five_values 5 (ssrcs_of r.ssrcs) (optional 2 w32 r.min_ms) (optional 3 w32 r.max_ms) (optional 4 w64 r.bps) (preamble_of r.preamble)
    ∙ rw (ssrcs_other 5 r.ssrcs refl, value_other 5 2 w32 r.min_ms refl, value_other 5 3 w32 r.max_ms refl, value_other 5 4 w64 r.bps refl) refl

tlvs_join : (r : Request) → FitsRequest r → Joins (IsTlv request_length) (ssrcs_tlv r.ssrcs ++ optional_tlv 2 w32 r.min_ms ++ optional_tlv 3 w32 r.max_ms ++ optional_tlv 4 w64 r.bps ++ preamble_tlv r.preamble) (tlvs_of r)
tlvs_join r h =
    let P = IsTlv request_length in
    let one = joins_append P (ssrcs_tlv r.ssrcs) (optional_tlv 2 w32 r.min_ms) (ssrcs_of r.ssrcs) (optional 2 w32 r.min_ms)
    (ssrcs_joins r.ssrcs h.few) (optional_joins request_length 2 w32 (λ n. lit< tt) (λ n. refl) r.min_ms) in
    let two = joins_append P (ssrcs_tlv r.ssrcs ++ optional_tlv 2 w32 r.min_ms) (optional_tlv 3 w32 r.max_ms) (ssrcs_of r.ssrcs ++ optional 2 w32 r.min_ms) (optional 3 w32 r.max_ms)
    one (optional_joins request_length 3 w32 (λ n. lit< tt) (λ n. refl) r.max_ms) in
    let three = joins_append P (ssrcs_tlv r.ssrcs ++ optional_tlv 2 w32 r.min_ms ++ optional_tlv 3 w32 r.max_ms) (optional_tlv 4 w64 r.bps)
    (ssrcs_of r.ssrcs ++ optional 2 w32 r.min_ms ++ optional 3 w32 r.max_ms) (optional 4 w64 r.bps)
    two (optional_joins request_length 4 w64 (λ n. lit< tt) (λ n. refl) r.bps) in
    joins_append P (ssrcs_tlv r.ssrcs ++ optional_tlv 2 w32 r.min_ms ++ optional_tlv 3 w32 r.max_ms ++ optional_tlv 4 w64 r.bps) (preamble_tlv r.preamble)
    (ssrcs_of r.ssrcs ++ optional 2 w32 r.min_ms ++ optional 3 w32 r.max_ms ++ optional 4 w64 r.bps) (preamble_of r.preamble) three (preamble_joins r.preamble)

same_request : {s t : Option (List ℕ)} {a b c d e f : Option ℕ} {p q : Bool} → s ≡ t → a ≡ b → c ≡ d → e ≡ f → p ≡ q
    → ◌≡◌ {A = Request} (record { ssrcs = s; min_ms = a; max_ms = c; bps = e; preamble = p }) (record { ssrcs = t; min_ms = b; max_ms = d; bps = f; preamble = q })
same_request h1 h2 h3 h4 h5 = cc

pub request_written_back : (r : Request) → FitsRequest r → request_at (request_fci r) ≡ Ok (request_back r)
request_written_back r h =
    let ts = tlvs_of r in
    let read = message_read 1 request_length (request_fci r) ts (0, 0, 0, ssrcs_tlv r.ssrcs ++ optional_tlv 2 w32 r.min_ms ++ optional_tlv 3 w32 r.max_ms ++ optional_tlv 4 w64 r.bps ++ preamble_tlv r.preamble, refl, tlvs_join r h) in
    let ssrcs : ssrcs_in (first_value 1 ts) ≡ ssrcs_back r.ssrcs = ap ssrcs_in (value_1 r) ∙ ssrcs_read r.ssrcs h.ssrcs in
    let least : number_of w32 2 ts ≡ r.min_ms = ap (option_map (from_be_bytes w32)) (value_2 r) ∙ number_back w32 32 from_be_bytes-to_be_bytes_4 r.min_ms h.min_ms in
    let most : number_of w32 3 ts ≡ r.max_ms = ap (option_map (from_be_bytes w32)) (value_3 r) ∙ number_back w32 32 from_be_bytes-to_be_bytes_4 r.max_ms h.max_ms in
    let rate : number_of w64 4 ts ≡ r.bps = ap (option_map (from_be_bytes w64)) (value_4 r) ∙ number_back w64 64 from_be_bytes-to_be_bytes_8 r.bps h.bps in
    let pre : is_some (first_value 5 ts) ≡ r.preamble = ap is_some (value_5 r) ∙ preamble_value r.preamble in
    ap (map_ok request_of) read ∙ ap Ok (same_request ssrcs least most rate pre)

-- ---- information

abbrev info_tlvs : Info → List Tlv
info_tlvs i = optional 32 w16 i.first ++ optional 33 w32 i.join_ms ++ optional 34 w32 i.length_ms ++ optional 35 w64 i.bps

four_values : (kind : ℕ) (a b c d : List Tlv)
    → first_value kind (a ++ b ++ c ++ d) ≡ or_value (first_value kind a) (or_value (first_value kind b) (or_value (first_value kind c) (first_value kind d)))
four_values kind a b c d =
    ap (first_value kind) (append_assoc (a ++ b) c d ∙ append_assoc a b (c ++ d))
    ∙ value-append kind a (b ++ (c ++ d)) ∙ ap (or_value (first_value kind a)) (value-append kind b (c ++ d) ∙ ap (or_value (first_value kind b)) (value-append kind c d))

value_32 : (i : Info) → first_value 32 (info_tlvs i) ≡ option_map (to_be_bytes w16) i.first
value_32 i =
    four_values 32 (optional 32 w16 i.first) (optional 33 w32 i.join_ms) (optional 34 w32 i.length_ms) (optional 35 w64 i.bps)
    ∙ rw (value_own 32 w16 i.first, value_other 32 33 w32 i.join_ms refl, value_other 32 34 w32 i.length_ms refl, value_other 32 35 w64 i.bps refl) (or_none (option_map (to_be_bytes w16) i.first))

value_33 : (i : Info) → first_value 33 (info_tlvs i) ≡ option_map (to_be_bytes w32) i.join_ms
value_33 i =
    four_values 33 (optional 32 w16 i.first) (optional 33 w32 i.join_ms) (optional 34 w32 i.length_ms) (optional 35 w64 i.bps)
    ∙ rw (value_other 33 32 w16 i.first refl, value_own 33 w32 i.join_ms, value_other 33 34 w32 i.length_ms refl, value_other 33 35 w64 i.bps refl) (or_none (option_map (to_be_bytes w32) i.join_ms))

value_34 : (i : Info) → first_value 34 (info_tlvs i) ≡ option_map (to_be_bytes w32) i.length_ms
value_34 i =
    four_values 34 (optional 32 w16 i.first) (optional 33 w32 i.join_ms) (optional 34 w32 i.length_ms) (optional 35 w64 i.bps)
    ∙ rw (value_other 34 32 w16 i.first refl, value_other 34 33 w32 i.join_ms refl, value_own 34 w32 i.length_ms, value_other 34 35 w64 i.bps refl) (or_none (option_map (to_be_bytes w32) i.length_ms))

value_35 : (i : Info) → first_value 35 (info_tlvs i) ≡ option_map (to_be_bytes w64) i.bps
value_35 i =
    four_values 35 (optional 32 w16 i.first) (optional 33 w32 i.join_ms) (optional 34 w32 i.length_ms) (optional 35 w64 i.bps)
    ∙ rw (value_other 35 32 w16 i.first refl, value_other 35 33 w32 i.join_ms refl, value_other 35 34 w32 i.length_ms refl, value_own 35 w64 i.bps) refl

info_text : Info → List ℕ
info_text i = optional_tlv 32 w16 i.first ++ optional_tlv 33 w32 i.join_ms ++ optional_tlv 34 w32 i.length_ms ++ optional_tlv 35 w64 i.bps

info_join : (i : Info) → Joins (IsTlv info_length) (info_text i) (info_tlvs i)
unfolding info_text
info_join i =
    let P = IsTlv info_length in
    let one = joins_append P (optional_tlv 32 w16 i.first) (optional_tlv 33 w32 i.join_ms) (optional 32 w16 i.first) (optional 33 w32 i.join_ms)
    (optional_joins info_length 32 w16 (λ n. lit< tt) (λ n. refl) i.first) (optional_joins info_length 33 w32 (λ n. lit< tt) (λ n. refl) i.join_ms) in
    let two = joins_append P (optional_tlv 32 w16 i.first ++ optional_tlv 33 w32 i.join_ms) (optional_tlv 34 w32 i.length_ms) (optional 32 w16 i.first ++ optional 33 w32 i.join_ms) (optional 34 w32 i.length_ms)
    one (optional_joins info_length 34 w32 (λ n. lit< tt) (λ n. refl) i.length_ms) in
    joins_append P (optional_tlv 32 w16 i.first ++ optional_tlv 33 w32 i.join_ms ++ optional_tlv 34 w32 i.length_ms) (optional_tlv 35 w64 i.bps)
    (optional 32 w16 i.first ++ optional 33 w32 i.join_ms ++ optional 34 w32 i.length_ms) (optional 35 w64 i.bps) two (optional_joins info_length 35 w64 (λ n. lit< tt) (λ n. refl) i.bps)

same_info : {m k l : ℕ} {a b c d e f g h : Option ℕ} → k ≡ l → a ≡ b → c ≡ d → e ≡ f → g ≡ h
    → ◌≡◌ {A = Info} (record { msn = m; code = k; first = a; join_ms = c; length_ms = e; bps = g }) (record { msn = m; code = l; first = b; join_ms = d; length_ms = f; bps = h })
same_info h1 h2 h3 h4 h5 = cc

-- the bytes in front, and the TLVs in their order
info_fci_text : (i : Info) → info_fci i ≡ 2 ∷ i.msn ∷ (to_be_bytes w16 i.code ++ info_text i)
unfolding info_text
info_fci_text i = refl

pub info_written_back : (i : Info) → FitsInfo i → info_at (info_fci i) ≡ Ok i
info_written_back i h =
    let ts = info_tlvs i in
    let code : from_be_bytes w16 (to_be_bytes w16 i.code) ≡ i.code = from_be_bytes-to_be_bytes_2 i.code h.code in
    let read = message_read 2 info_length (info_fci i) ts (i.msn, i.code / 256 % 256, i.code % 256, info_text i, info_fci_text i, info_join i) in
    let first : number_of w16 32 ts ≡ i.first = ap (option_map (from_be_bytes w16)) (value_32 i) ∙ number_back w16 16 from_be_bytes-to_be_bytes_2 i.first h.first in
    let join : number_of w32 33 ts ≡ i.join_ms = ap (option_map (from_be_bytes w32)) (value_33 i) ∙ number_back w32 32 from_be_bytes-to_be_bytes_4 i.join_ms h.join_ms in
    let duration : number_of w32 34 ts ≡ i.length_ms = ap (option_map (from_be_bytes w32)) (value_34 i) ∙ number_back w32 32 from_be_bytes-to_be_bytes_4 i.length_ms h.length_ms in
    let rate : number_of w64 35 ts ≡ i.bps = ap (option_map (from_be_bytes w64)) (value_35 i) ∙ number_back w64 64 from_be_bytes-to_be_bytes_8 i.bps h.bps in
    ap (map_ok (info_of (info_fci i))) read ∙ ap Ok (same_info code first join duration rate)

-- ---- a termination

stop_join : (o : Option ℕ) → Joins (IsTlv stop_length) (optional_tlv 61 w32 o) (optional 61 w32 o)
stop_join o = optional_joins stop_length 61 w32 (λ n. lit< tt) (λ n. refl) o

pub stop_written_back : (s : Stop) → FitsIn 32 s.first_multicast → stop_at (stop_fci s) ≡ Ok s
stop_written_back s h =
    let ts = optional 61 w32 s.first_multicast in
    let read = message_read 3 stop_length (stop_fci s) ts (0, 0, 0, optional_tlv 61 w32 s.first_multicast, refl, stop_join s.first_multicast) in
    let first : number_of w32 61 ts ≡ s.first_multicast = ap (option_map (from_be_bytes w32)) (value_own 61 w32 s.first_multicast) ∙ number_back w32 32 from_be_bytes-to_be_bytes_4 s.first_multicast h in
    ap (map_ok stop_of) read ∙ ap Ok (ap (λ (o : Option ℕ). let t : Stop = record { first_multicast = o } in t) first)
