-- What a NACK names, and what TLVs say, is read off their bytes.
use Rattle.std.proofs.Common.{◌≡◌, ℕ, zero, suc, ◌+◌, ◌-◌, ◌*◌, ◌/◌, ◌%◌, ◌^◌, ◌<◌, Bool, true, false, cond, List, [], ◌∷◌, ◌++◌, length, map, Option, Some, None, option_map, refl, ap, ap₂, sym, ◌∙◌, arith, eqb}
use Rattle.std.specs.Prelude.{filter, is_some, Result, Ok, Err, slice_index}
use Rattle.std.specs.Int.{w16, w32, w64, from_be_bytes, bit_at}
use Rattle.std.proofs.Math.Nat.{div-div-eq-div-mul, pow-suc}
use Rattle.std.proofs.lemmas.Bool.{cond_both, eqb-true, eqb-false, ne_eqb}
use Rattle.rams_model.specs.declared.{NackFault.TheVariants.Empty, NackFault.TheVariants.Length, TlvFault.TlvFault}
use Rattle.rams_model.specs.Formats.{counted_from, word_numbers, numbers_of, nack_numbers, words32, map_ok, Tlv, request_length, stop_length, tlvs_at, first_value, ssrcs_in, request_of, request_at, stop_of, stop_at}
use Rattle.rams_model.specs.Service.{named}
use Rattle.rams_model.proofs.RamsLaws.{message_spelled, message_read}
use Rattle.service_laws.specs.byte_laws.{number32, lost_from, named_by, IsFirstOf, none, this, later, number64, ssrcs_of, words_of, is_there, Asks, IsRequest, IsStop}
use Rattle.service_laws.proofs.byte_laws.Framing.{request_message, message_request, stop_message, message_stop}

-- ---- the numbers of a NACK

halved : (blp k : ℕ) → blp / 2 ^ k / 2 ≡ blp / 2 ^ (k + 1)
halved blp k =
    let next : 2 ^ k * 2 ≡ 2 ^ (k + 1) = sym (pow-suc 2 k) ∙ ap (λ (j : ℕ). 2 ^ j) (omega arith) in
    div-div-eq-div-mul blp (2 ^ k) 2 ∙ ap (λ (d : ℕ). blp / d) next

-- the bits of BLP from one on are those that are left of it
bits_left : (pid blp k n : ℕ) → lost_from pid (k + 1) n (blp / 2 ^ k) ≡ map (λ i. (pid + i) % 65536) (filter (λ i. eqb (bit_at blp (i - 1)) 1) (counted_from (k + 1) n))
unfolding lost_from
bits_left pid blp k zero = refl
bits_left pid blp k (suc n) =
    ap (λ (rest : ℕ). cond (eqb (blp / 2 ^ k % 2) 1) ((pid + (k + 1)) % 65536 ∷ lost_from pid (k + 1 + 1) n rest) (lost_from pid (k + 1 + 1) n rest)) (halved blp k)
    ∙ (ap (λ (l : List ℕ). cond (eqb (blp / 2 ^ k % 2) 1) ((pid + (k + 1)) % 65536 ∷ l) l) (bits_left pid blp (k + 1) n)
    ∙ (ap (λ (j : ℕ). cond (eqb (bit_at blp j) 1) ((pid + (k + 1)) % 65536 ∷ map f (filter test others)) (map f (filter test others))) same ∙ out (test (k + 1))))
  where
    f : ℕ → ℕ
    f i = (pid + i) % 65536

    test : ℕ → Bool
    test i = eqb (bit_at blp (i - 1)) 1

    others : List ℕ
    others = counted_from (k + 1 + 1) n

    same : k ≡ k + 1 - 1
    same = omega arith

    out : (b : Bool) → cond b (f (k + 1) ∷ map f (filter test others)) (map f (filter test others)) ≡ map f (cond b ((k + 1) ∷ filter test others) (filter test others))
    out true = refl
    out false = refl

word_is : (pid blp : ℕ) → word_numbers pid blp ≡ pid ∷ lost_from pid 1 16 blp
unfolding word_numbers
word_is pid blp = ap (λ (l : List ℕ). pid ∷ l) (sym (bits_left pid blp 0 16) ∙ ap (lost_from pid 1 16) (omega arith))

all_named : (fci : List ℕ) → numbers_of fci ≡ named_by fci
unfolding numbers_of named_by
all_named (a ∷ b ∷ c ∷ d ∷ rest) =
    let pid : from_be_bytes w16 (a ∷ b ∷ []) ≡ a * 256 + b = omega arith in
    let blp : from_be_bytes w16 (c ∷ d ∷ []) ≡ c * 256 + d = omega arith in
    ap₂ (λ (x y : ℕ). word_numbers x y ++ numbers_of rest) pid blp
    ∙ (ap (λ (l : List ℕ). l ++ numbers_of rest) (word_is (a * 256 + b) (c * 256 + d)) ∙ ap (λ (l : List ℕ). (a * 256 + b) ∷ (lost_from (a * 256 + b) 1 16 (c * 256 + d) ++ l)) (all_named rest))
all_named [] = refl
all_named (a ∷ []) = refl
all_named (a ∷ b ∷ []) = refl
all_named (a ∷ b ∷ c ∷ []) = refl

-- whole words
pub nack_named : (fci : List ℕ) → length fci % 4 ≡ 0 → named (nack_numbers fci) ≡ named_by fci
unfolding named_by
nack_named [] whole = refl
nack_named (b ∷ fci) whole =
    let long = length (b ∷ fci) in
    let some : eqb long 0 ≡ false = ne_eqb long 0 (λ e. omega (arith, e)) in
    ap (λ (t : Bool). named (cond t (Err Empty) (cond (eqb (long % 4) 0) (Ok (numbers_of (b ∷ fci))) (Err Length)))) some
    ∙ (ap (λ (n : ℕ). named (cond (eqb n 0) (Ok (numbers_of (b ∷ fci))) (Err Length))) whole ∙ all_named (b ∷ fci))

-- ---- TLVs

first_is : (kind : ℕ) (ts : List Tlv) → IsFirstOf kind ts (first_value kind ts)
unfolding first_value
first_is kind [] = none
first_is kind (t ∷ ts) =
    cond_both (eqb t.kind kind) (Some t.value) (first_value kind ts) (IsFirstOf kind (t ∷ ts)) (λ e. this t ts (eqb-true t.kind kind e))
    (λ f. later t ts (first_value kind ts) (eqb-false t.kind kind f) (first_is kind ts))

four : (a b c d : ℕ) (rest : List ℕ) → from_be_bytes w32 (a ∷ b ∷ c ∷ d ∷ rest) ≡ number32 0 (a ∷ b ∷ c ∷ d ∷ rest)
four a b c d rest = omega arith

is_32 : (bytes : List ℕ) → from_be_bytes w32 bytes ≡ number32 0 bytes
is_32 bytes = omega arith

is_64 : (bytes : List ℕ) → from_be_bytes w64 bytes ≡ number64 bytes
is_64 bytes = omega arith

mapped : (f g : List ℕ → ℕ) → ((bytes : List ℕ) → f bytes ≡ g bytes) → (o : Option (List ℕ)) → option_map f o ≡ option_map g o
mapped f g same None = refl
mapped f g same (Some bytes) = ap (λ (n : ℕ). Some n) (same bytes)

words_are : (bytes : List ℕ) → words32 bytes ≡ words_of bytes
unfolding words32 words_of
words_are (a ∷ b ∷ c ∷ d ∷ rest) = ap₂ (λ (x : ℕ) (l : List ℕ). x ∷ l) (four a b c d []) (words_are rest)
words_are [] = refl
words_are (a ∷ []) = refl
words_are (a ∷ b ∷ []) = refl
words_are (a ∷ b ∷ c ∷ []) = refl

senders_are : (o : Option (List ℕ)) → ssrcs_in o ≡ ssrcs_of o words_of
senders_are None = refl
senders_are (Some []) = refl
senders_are (Some (b ∷ bytes)) = ap (λ (l : List ℕ). Some l) (words_are (b ∷ bytes))

there_is : (o : Option (List ℕ)) → is_some o ≡ is_there o
there_is None = refl
there_is (Some value) = refl

asks_so : (ts : List Tlv) → Asks ts (request_of ts)
asks_so ts = record {
  senders = first_value 1 ts;
  is_senders = first_is 1 ts;
  ssrcs = senders_are (first_value 1 ts);
  least = first_value 2 ts;
  is_least = first_is 2 ts;
  min_ms = mapped (from_be_bytes w32) (number32 0) is_32 (first_value 2 ts);
  most = first_value 3 ts;
  is_most = first_is 3 ts;
  max_ms = mapped (from_be_bytes w32) (number32 0) is_32 (first_value 3 ts);
  rate = first_value 4 ts;
  is_rate = first_is 4 ts;
  bps = mapped (from_be_bytes w64) number64 is_64 (first_value 4 ts);
  alone = first_value 5 ts;
  is_alone = first_is 5 ts;
  preamble = there_is (first_value 5 ts);
}

pub request_is : (fci : List ℕ) → ((i : ℕ) → slice_index fci i < 256) → IsRequest fci (request_at fci)
request_is fci small = by_tlvs (tlvs_at 1 request_length fci) refl
  where
    by_tlvs : (r : Result (List Tlv) TlvFault) → tlvs_at 1 request_length fci ≡ r → IsRequest fci (map_ok request_of r)
    by_tlvs (Ok ts) e = (ts, message_request fci ts (message_spelled 1 request_length fci ts small e), asks_so ts)
    by_tlvs (Err fault) e = λ ts is. let both : Err fault ≡ Ok ts = sym e ∙ message_read 1 request_length fci ts (request_message fci ts is) in cc

pub stop_is : (fci : List ℕ) → ((i : ℕ) → slice_index fci i < 256) → IsStop fci (stop_at fci)
stop_is fci small = by_tlvs (tlvs_at 3 stop_length fci) refl
  where
    by_tlvs : (r : Result (List Tlv) TlvFault) → tlvs_at 3 stop_length fci ≡ r → IsStop fci (map_ok stop_of r)
    by_tlvs (Ok ts) e = (
      ts,
      message_stop fci ts (message_spelled 3 stop_length fci ts small e),
      (first_value 61 ts, first_is 61 ts, mapped (from_be_bytes w32) (number32 0) is_32 (first_value 61 ts)),
    )
    by_tlvs (Err fault) e = λ ts is. let both : Err fault ≡ Ok ts = sym e ∙ message_read 3 stop_length fci ts (stop_message fci ts is) in cc
