-- TLVs read one after another.
use Rattle.std.proofs.Common.{◌≡◌, ℕ, ◌≤◌, ◌<◌, ◌+◌, true, false, IsTrue, List, [], length, drop, get_or, Option, Some, None, Result, Ok, Err, refl, sym, ◌∙◌, ap, subst, arith, eq-eqb, le-leb, length-take, length-drop, ◌/◌, ◌*◌, is_ok, leb, if◌then◌else◌}
use Rattle.std.specs.Prelude.{◌==◌}
use Rattle.std.specs.Result.{result_err}
use Rattle.std.proofs.lemmas.Bool.{ne_eqb}
use Rattle.std.proofs.lemmas.Bool.Decides.{nat_tests}
use Rattle.rams_model.specs.declared.TlvFault.{TlvFault}
use Rattle.rams_model.specs.Formats.{unless_fault, onto, Tlv, tlvs_at, tlv_fault, tlv_size, tlv_format, first_tlv, value_length, first_value}
use Rattle.rams_model.proofs.Joined.{pieces_step, pieces_end}
use Rattle.wire_packets.specs.declared.rams_tlv.tlvs.Message.{Message}
use Rattle.wire_packets.specs.rams_tlv.{lengths, sfmt, tlvs_of, value_in}

-- the TLV in front is within the bytes and has its type's length
pub record IsWhole (m : Message) (bytes : List ℕ) : Type 0 where
  pub header : 4 ≤ length bytes
  pub within : tlv_size bytes ≤ length bytes
  pub lawful : IsTrue (lengths m (get_or bytes 0 0) (value_length bytes))

pub whole_where_no_fault : (m : Message) (bytes : List ℕ) → tlv_fault (lengths m) bytes ≡ None → IsWhole m bytes
whole_where_no_fault m bytes h = record {
  header = grind (arith, nat_tests, h);
  within = grind (arith, nat_tests, h);
  lawful = grind (arith, nat_tests, h);
}

tlvs_step : (m : Message) (bytes : List ℕ) → 0 < length bytes
    → tlvs_of m bytes ≡ unless_fault (onto (first_tlv bytes) (tlvs_of m (drop (tlv_size bytes) bytes))) (tlv_fault (lengths m) bytes)
unfolding tlvs_of
tlvs_step m bytes h = pieces_step (tlv_format (lengths m)) (λ b. omega arith) bytes h

tlvs_end : (m : Message) (bytes : List ℕ) → length bytes ≡ 0 → tlvs_of m bytes ≡ Ok []
unfolding tlvs_of
tlvs_end m bytes h = pieces_end (tlv_format (lengths m)) bytes h

err_some : {A : Type 0} (r : Result A TlvFault) (e : TlvFault) → result_err r ≡ Some e → r ≡ Err e
err_some (Ok x) e h = cc
err_some (Err d) e h = cc

ok_none : {A : Type 0} (r : Result A TlvFault) → result_err r ≡ None → is_ok r ≡ true
ok_none (Ok x) h = refl
ok_none (Err d) h = cc

err_onto : (t : Tlv) (r : Result (List Tlv) TlvFault) → result_err (onto t r) ≡ result_err r
err_onto t (Ok ts) = refl
err_onto t (Err e) = refl

-- a fault in front is the first one of all
pub fault_in_front : (m : Message) (rest bytes : List ℕ) (e : TlvFault) → 0 < length rest → tlv_fault (lengths m) rest ≡ Some e
    → result_err (tlvs_of m rest) ≡ result_err (tlvs_of m bytes) → tlvs_of m bytes ≡ Err e
fault_in_front m rest bytes e h f same =
    let others = onto (first_tlv rest) (tlvs_of m (drop (tlv_size rest) rest)) in
    err_some (tlvs_of m bytes) e (sym same ∙ ap result_err (tlvs_step m rest h ∙ ap (unless_fault others) f))

-- where there is none, the first fault is the one behind
pub fault_behind : (m : Message) (rest bytes : List ℕ) → 0 < length rest → tlv_fault (lengths m) rest ≡ None
    → result_err (tlvs_of m rest) ≡ result_err (tlvs_of m bytes) → result_err (tlvs_of m (drop (tlv_size rest) rest)) ≡ result_err (tlvs_of m bytes)
fault_behind m rest bytes h f same =
    let others = tlvs_of m (drop (tlv_size rest) rest) in
    sym (ap result_err (tlvs_step m rest h ∙ ap (unless_fault (onto (first_tlv rest) others)) f) ∙ err_onto (first_tlv rest) others) ∙ same

pub no_fault : (m : Message) (rest bytes : List ℕ) → length rest ≡ 0 → result_err (tlvs_of m rest) ≡ result_err (tlvs_of m bytes) → is_ok (tlvs_of m bytes) ≡ true
no_fault m rest bytes h same = ok_none (tlvs_of m bytes) (sym same ∙ ap result_err (tlvs_end m rest h))

ok_parts : {A : Type 0} (r : Result A TlvFault) (f : Option TlvFault) → is_ok (unless_fault r f) ≡ true → (f ≡ None) × (is_ok r ≡ true)
ok_parts r None h = (refl, h)
ok_parts r (Some e) h = cc

ok_onto : (t : Tlv) (r : Result (List Tlv) TlvFault) → is_ok (onto t r) ≡ true → is_ok r ≡ true
ok_onto t (Ok ts) h = refl
ok_onto t (Err e) h = cc

value_onto : (kind : ℕ) (t : Tlv) (r : Result (List Tlv) TlvFault) → is_ok r ≡ true
    → value_in kind (onto t r) ≡ (if t.kind == kind then Some t.value else value_in kind r)
unfolding first_value
value_onto kind t (Ok ts) h = refl
value_onto kind t (Err e) h = cc

-- Of TLVs that are read, the first: it is whole, and the others are read; the value of a type is its own, or among theirs.
pub record IsFront (m : Message) (kind : ℕ) (bytes : List ℕ) : Type 0 where
  pub whole : IsWhole m bytes
  pub behind : is_ok (tlvs_of m (drop (tlv_size bytes) bytes)) ≡ true
  pub value : value_in kind (tlvs_of m bytes) ≡ (if get_or bytes 0 0 == kind then Some (first_tlv bytes).value else value_in kind (tlvs_of m (drop (tlv_size bytes) bytes)))

pub front_of : (m : Message) (kind : ℕ) (bytes : List ℕ) → 0 < length bytes → is_ok (tlvs_of m bytes) ≡ true → IsFront m kind bytes
front_of m kind bytes h ok =
    let others = tlvs_of m (drop (tlv_size bytes) bytes) in
    let step = tlvs_step m bytes h in
    let parts = ok_parts (onto (first_tlv bytes) others) (tlv_fault (lengths m) bytes) (ap is_ok (sym step) ∙ ok) in
    let behind = ok_onto (first_tlv bytes) others parts.1 in
    record {
      whole = whole_where_no_fault m bytes parts.0;
      behind = behind;
      value = ap (value_in kind) (step ∙ ap (unless_fault (onto (first_tlv bytes) others)) parts.0) ∙ value_onto kind (first_tlv bytes) others behind;
    }

pub no_value : (m : Message) (kind : ℕ) (bytes : List ℕ) → length bytes ≡ 0 → None ≡ value_in kind (tlvs_of m bytes)
unfolding first_value
no_value m kind bytes h = sym (ap (value_in kind) (tlvs_end m bytes h))

-- the TLV in front is of the type that is looked for
pub found_in_front : (m : Message) (kind k : ℕ) (bytes value : List ℕ) (wanted : Option (List ℕ)) → 0 < length bytes → is_ok (tlvs_of m bytes) ≡ true
    → value_in kind (tlvs_of m bytes) ≡ wanted → k ≡ get_or bytes 0 0 → k ≡ kind → value ≡ (first_tlv bytes).value → Some value ≡ wanted
found_in_front m kind k bytes value wanted h ok same e1 e2 e3 =
    let found = (front_of m kind bytes h ok).value in
    let is : (get_or bytes 0 0 == kind) ≡ true = eq-eqb (get_or bytes 0 0) kind (sym e1 ∙ e2) in
    ap Some e3 ∙ sym (found ∙ ap (λ b. if b then Some (first_tlv bytes).value else value_in kind (tlvs_of m (drop (tlv_size bytes) bytes))) is) ∙ same

-- its value has the length of its type
pub found_length : (m : Message) (kind k : ℕ) (bytes value : List ℕ) → IsWhole m bytes → k ≡ get_or bytes 0 0 → k ≡ kind → value ≡ (first_tlv bytes).value
    → IsTrue (lengths m kind (length value))
found_length m kind k bytes value whole e1 e2 e3 =
    let within : 4 + (value_length bytes + 3) / 4 * 4 ≤ length bytes = whole.within in
    let len : length value ≡ value_length bytes = ap length e3 ∙ simp (length-take, length-drop) (omega arith) in
    subst (λ (j : ℕ). IsTrue (lengths m kind j)) (sym len) (subst (λ (j : ℕ). IsTrue (lengths m j (value_length bytes))) (sym e1 ∙ e2) whole.lawful)

-- the TLV in front is of another type
pub not_in_front : (m : Message) (kind k : ℕ) (bytes : List ℕ) (wanted : Option (List ℕ)) → 0 < length bytes → is_ok (tlvs_of m bytes) ≡ true
    → value_in kind (tlvs_of m bytes) ≡ wanted → k ≡ get_or bytes 0 0 → (k ≡ kind → ⊥) → value_in kind (tlvs_of m (drop (tlv_size bytes) bytes)) ≡ wanted
not_in_front m kind k bytes wanted h ok same e1 e2 =
    let found = (front_of m kind bytes h ok).value in
    let is : (get_or bytes 0 0 == kind) ≡ false = ne_eqb (get_or bytes 0 0) kind (λ e. e2 (e1 ∙ e)) in
    sym (found ∙ ap (λ b. if b then Some (first_tlv bytes).value else value_in kind (tlvs_of m (drop (tlv_size bytes) bytes))) is) ∙ same

-- a message that begins as it should has the TLVs behind its first four bytes
pub message_at : (m : Message) (fci rest : List ℕ) → 4 ≤ length fci → get_or fci 0 0 ≡ sfmt m → rest ≡ drop 4 fci → tlvs_at (sfmt m) (lengths m) fci ≡ tlvs_of m rest
unfolding tlvs_of
message_at m fci rest h e behind =
    let long : leb 4 (length fci) ≡ true = le-leb 4 (length fci) h in
    let is : (get_or fci 0 0 == sfmt m) ≡ true = eq-eqb (get_or fci 0 0) (sfmt m) e in
    rw (long, is, behind) refl
