-- Packets read one after another.
use Rattle.std.proofs.Common.{◌≡◌, ℕ, ◌<◌, true, List, [], ◌∷◌, length, drop, Option, Some, None, Result, Ok, Err, refl, sym, ◌∙◌, ap, arith, is_ok}
use Rattle.std.specs.Result.{result_err, result_unwrap_or}
use Rattle.rams_model.specs.declared.FrameFault.{FrameFault}
use Rattle.rams_model.specs.Formats.{unless_fault, onto, Framed, framed, packet_fault, packet_size, packet_format, framed_first}
use Rattle.rams_model.proofs.Joined.{pieces_step, pieces_end}
use Rattle.wire_packets.specs.rtcp_frame.{packets_in}

step : (bytes : List ℕ) → 0 < length bytes
    → packets_in bytes ≡ unless_fault (onto (framed_first bytes) (packets_in (drop (packet_size bytes) bytes))) (packet_fault bytes)
unfolding packets_in
step bytes h = pieces_step packet_format (λ b. omega arith) bytes h

no_packets : (bytes : List ℕ) → length bytes ≡ 0 → packets_in bytes ≡ Ok []
unfolding packets_in
no_packets bytes h = pieces_end packet_format bytes h

err_some : {A : Type 0} (r : Result A FrameFault) (e : FrameFault) → result_err r ≡ Some e → r ≡ Err e
err_some (Ok x) e h = cc
err_some (Err d) e h = cc

ok_none : {A : Type 0} (r : Result A FrameFault) → result_err r ≡ None → is_ok r ≡ true
ok_none (Ok x) h = refl
ok_none (Err d) h = cc

err_onto : (p : Framed) (r : Result (List Framed) FrameFault) → result_err (onto p r) ≡ result_err r
err_onto p (Ok ps) = refl
err_onto p (Err e) = refl

-- a fault in front is the first one of all
pub fault_in_front : (rest bytes : List ℕ) (e : FrameFault) → 0 < length rest → packet_fault rest ≡ Some e → result_err (packets_in rest) ≡ result_err (packets_in bytes) → packets_in bytes ≡ Err e
fault_in_front rest bytes e h f same =
    let others = onto (framed_first rest) (packets_in (drop (packet_size rest) rest)) in
    err_some (packets_in bytes) e (sym same ∙ ap result_err (step rest h ∙ ap (unless_fault others) f))

-- where there is none, the first fault is the one behind
pub fault_behind : (rest bytes : List ℕ) → 0 < length rest → packet_fault rest ≡ None → result_err (packets_in rest) ≡ result_err (packets_in bytes)
    → result_err (packets_in (drop (packet_size rest) rest)) ≡ result_err (packets_in bytes)
fault_behind rest bytes h f same =
    let others = packets_in (drop (packet_size rest) rest) in
    sym (ap result_err (step rest h ∙ ap (unless_fault (onto (framed_first rest) others)) f) ∙ err_onto (framed_first rest) others) ∙ same

pub no_fault : (rest bytes : List ℕ) → length rest ≡ 0 → result_err (packets_in rest) ≡ result_err (packets_in bytes) → is_ok (packets_in bytes) ≡ true
no_fault rest bytes h same = ok_none (packets_in bytes) (sym same ∙ ap result_err (no_packets rest h))

ok_is : {A : Type 0} (r : Result (List A) FrameFault) → is_ok r ≡ true → r ≡ Ok (result_unwrap_or r [])
ok_is (Ok x) h = refl
ok_is (Err e) h = cc

-- where nothing is wrong, the packets are known
pub all_packets : (bytes : List ℕ) → is_ok (packets_in bytes) ≡ true → packets_in bytes ≡ Ok (result_unwrap_or (packets_in bytes) [])
all_packets bytes h = ok_is (packets_in bytes) h

ok_parts : {A : Type 0} (r : Result A FrameFault) (f : Option FrameFault) → is_ok (unless_fault r f) ≡ true → (f ≡ None) × (is_ok r ≡ true)
ok_parts r None h = (refl, h)
ok_parts r (Some e) h = cc

ok_onto : (p : Framed) (r : Result (List Framed) FrameFault) → is_ok (onto p r) ≡ true → is_ok r ≡ true
ok_onto p (Ok ps) h = refl
ok_onto p (Err e) h = cc

list_onto : (p : Framed) (r : Result (List Framed) FrameFault) → is_ok r ≡ true → result_unwrap_or (onto p r) [] ≡ p ∷ result_unwrap_or r []
list_onto p (Ok ps) h = refl
list_onto p (Err e) h = cc

-- Of packets that are read, the first: nothing is wrong with it, and the others are read.
pub record IsFront (bytes : List ℕ) : Type 0 where
  pub fault : packet_fault bytes ≡ None
  pub behind : is_ok (packets_in (drop (packet_size bytes) bytes)) ≡ true
  pub list : result_unwrap_or (packets_in bytes) [] ≡ framed_first bytes ∷ result_unwrap_or (packets_in (drop (packet_size bytes) bytes)) []

pub front_of : (bytes : List ℕ) → 0 < length bytes → is_ok (packets_in bytes) ≡ true → IsFront bytes
front_of bytes h ok =
    let others = packets_in (drop (packet_size bytes) bytes) in
    let parts = ok_parts (onto (framed_first bytes) others) (packet_fault bytes) (ap is_ok (sym (step bytes h)) ∙ ok) in
    let behind = ok_onto (framed_first bytes) others parts.1 in
    record {
      fault = parts.0;
      behind = behind;
      list = ap (λ r. result_unwrap_or r []) (step bytes h ∙ ap (unless_fault (onto (framed_first bytes) others)) parts.0) ∙ list_onto (framed_first bytes) others behind;
    }

pub none_left : (bytes : List ℕ) → length bytes ≡ 0 → result_unwrap_or (packets_in bytes) [] ≡ []
none_left bytes h = ap (λ r. result_unwrap_or r []) (no_packets bytes h)

-- what is left before a packet was given, and after it
pub one_given : (bytes rest : List ℕ) (p : Framed) → 0 < length bytes → is_ok (packets_in bytes) ≡ true → p ≡ framed_first bytes → rest ≡ drop (packet_size bytes) bytes
    → result_unwrap_or (packets_in bytes) [] ≡ p ∷ result_unwrap_or (packets_in rest) []
one_given bytes rest p h ok first behind = rw (first, behind) (front_of bytes h ok).list

-- a datagram that has bytes
pub framed_of : (bytes : List ℕ) → 0 < length bytes → framed bytes ≡ packets_in bytes
unfolding packets_in
framed_of [] h = absurd (omega arith)
framed_of (b ∷ bytes) h = refl
