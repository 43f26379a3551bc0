-- A payload has a TS packet with the random access flag exactly where one stands at a place.
use Rattle.std.proofs.Common.{◌≡◌, ℕ, zero, suc, ◌+◌, ◌*◌, ◌/◌, ◌%◌, ◌<◌, ◌≤◌, Bool, true, ◌&&◌, ⊎_elim, List, length, take, drop, refl, ap, sym, ◌∙◌, arith}
use Rattle.std.specs.Prelude.{slice_index, ◌==◌, nat_le, IsTrue, ◌↔◌}
use Rattle.std.specs.List.{list_any}
use Rattle.std.proofs.lemmas.Bool.{and_parts, and_from, or_cases, or_left, or_right, eqb-true, eq-eqb, leb-true, le-leb, true≢false}
use Rattle.std.proofs.lemmas.List.{get_or-drop, get_or-take, drop-drop}
use Rattle.rams_model.specs.Packets.{ts_packets, has_flag, has_access}
use Rattle.service_laws.specs.byte_laws.{IsRandomAccessAt}

-- the flag of the TS packet at a place is read off the payload
abbrev flags_at : List ℕ → ℕ → Bool
flags_at payload at = has_flag (take 188 (drop at payload))

-- a byte of it stands in the payload
at_place : (payload : List ℕ) (at i : ℕ) → i < 188 → slice_index (take 188 (drop at payload)) i ≡ slice_index payload (at + i)
at_place payload at i few = get_or-take 188 (drop at payload) i 0 few ∙ get_or-drop at payload i 0

-- so it has the flag where these bytes say so
abbrev says : ℕ → ℕ → ℕ → ℕ → Bool
says a b c d = a == 0x47 && b / 32 % 2 == 1 && nat_le 1 c && d / 64 % 2 == 1

read_there : (payload : List ℕ) (at : ℕ) → flags_at payload at ≡ says (slice_index payload at) (slice_index payload (at + 3)) (slice_index payload (at + 4)) (slice_index payload (at + 5))
read_there payload at =
    let e0 : slice_index (take 188 (drop at payload)) 0 ≡ slice_index payload at = at_place payload at 0 (omega arith) ∙ ap (λ (i : ℕ). slice_index payload i) (omega arith) in
    rw (e0, at_place payload at 3 (omega arith), at_place payload at 4 (omega arith), at_place payload at 5 (omega arith)) refl

flagged : (payload : List ℕ) (at : ℕ) → at + 188 ≤ length payload → flags_at payload at ≡ true → IsRandomAccessAt payload at
flagged payload at within t =
    let last = and_parts _ _ (sym (read_there payload at) ∙ t) in
    let third = and_parts _ _ last.0 in
    let second = and_parts _ _ third.0 in
    record {
      within = within;
      sync = eqb-true _ _ second.0;
      field = eqb-true _ _ second.1;
      some = leb-true _ _ third.1;
      flag = eqb-true _ _ last.1;
    }

is_flagged : (payload : List ℕ) (at : ℕ) → IsRandomAccessAt payload at → flags_at payload at ≡ true
is_flagged payload at r =
    read_there payload at
    ∙ and_from _ _ (and_from _ _ (and_from _ _ (eq-eqb _ _ r.sync) (eq-eqb _ _ r.field)) (le-leb _ _ r.some)) (eq-eqb _ _ r.flag)

-- one TS packet further
step : (k : ℕ) (xs : List ℕ) → drop (188 * suc k) xs ≡ drop (188 * k) (drop 188 xs)
step k xs = let further : 188 * suc k ≡ 188 + 188 * k = omega arith in ap (λ n. drop n xs) further ∙ sym (drop-drop (188 * k) 188 xs)

-- a place among so many TS packets at which one passes the test
record PassesAt (test : List ℕ → Bool) (count : ℕ) (xs : List ℕ) : Type 0 where
  k : ℕ
  within : k < count
  passes : test (take 188 (drop (188 * k) xs)) ≡ true

passes_at : (test : List ℕ → Bool) (count : ℕ) (xs : List ℕ) → list_any test (ts_packets count xs) ≡ true → PassesAt test count xs
passes_at test zero xs e = absurd (true≢false (sym e))
passes_at test (suc count) xs e =
    ⊎_elim (λ t. record { k = 0; within = omega arith; passes = t })
    (λ t. let later = passes_at test count (drop 188 xs) t in
    let lt = later.within in
    record { k = suc later.k; within = omega (arith, lt); passes = ap (λ (ys : List ℕ). test (take 188 ys)) (step later.k xs) ∙ later.passes })
    (or_cases (test (take 188 xs)) (list_any test (ts_packets count (drop 188 xs))) e)

any_passes : (test : List ℕ → Bool) (count k : ℕ) (xs : List ℕ) → k < count → test (take 188 (drop (188 * k) xs)) ≡ true → list_any test (ts_packets count xs) ≡ true
any_passes test zero k xs within e = absurd (omega (arith, within))
any_passes test (suc count) zero xs within e = or_left (test (take 188 xs)) _ e
any_passes test (suc count) (suc k) xs within e =
    or_right (test (take 188 xs)) _ (any_passes test count k (drop 188 xs) (omega (arith, within)) (ap (λ (ys : List ℕ). test (take 188 ys)) (sym (step k xs)) ∙ e))

-- A payload has the flag exactly where a whole TS packet with it stands in it.
pub flags_where : (payload : List ℕ) → IsTrue (has_access payload) ↔ ((k : ℕ) × IsRandomAccessAt payload (188 * k))
unfolding has_access
flags_where payload = (
  λ t. let p = passes_at has_flag (length payload / 188) payload t in
      let lt = p.within in
      (p.k, flagged payload (188 * p.k) (omega (arith, lt)) p.passes),
  λ r. let within = r.1.within in
      any_passes has_flag (length payload / 188) r.0 payload (omega (arith, within)) (is_flagged payload (188 * r.0) r.1),
)
