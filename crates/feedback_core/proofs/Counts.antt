-- How much the messages of a datagram get.
use Rattle.std.proofs.Common.{◌≡◌, ℕ, zero, suc, ◌+◌, ◌-◌, ◌/◌, ◌%◌, ◌^◌, ◌<◌, ◌≤◌, Bool, true, false, List, [], ◌∷◌, length, drop, get_or, Option, Some, None, refl, ap, sym, ◌∙◌, subst, arith, length-append}
use Rattle.std.specs.Prelude.{◌==◌, max, if◌then◌else◌, filter, filter_map, option_to_list}
use Rattle.std.specs.Int.{w16, from_be_bytes, bit_at}
use Rattle.std.specs.Int.RustNames.{count_ones}
use Rattle.std.specs.List.{cons_option}
use Rattle.std.proofs.Math.Nat.{div-div-eq-div-mul, pow-suc}
use Rattle.std.proofs.lemmas.Bool.{cond_both, eqb-true, eqb-false}
use Rattle.std.proofs.lemmas.List.{length-map}
use Rattle.std.proofs.lemmas.Nat.{div_below, ones_le_self}
use lib.Count.{ones_step}
use Rattle.rams_model.specs.declared.Info.{Info}
use Rattle.rams_model.specs.Service.{Message, named, message_of, with_one_rams}
use Rattle.rams_model.specs.Service.Messages.{bye, nack, asks, stops}
use Rattle.rams_model.specs.Formats.{Framed, counted_from, word_numbers, numbers_of, nack_numbers}
use Rattle.wire_packets.proofs.rtcp_feedback.NumberSteps.{all_numbers, word_ends}
use Rattle.feedback_core.specs.{most_of_message, most_of_found, most_notes, most_orders, orders_of, orders_of_found, answered_of}

-- ---- the numbers of a NACK

-- the bits from one on that are set
marks : (k i blp : ℕ) → blp / 2 ^ i < 2 ^ k → length (filter (λ j. bit_at blp (j - 1) == 1) (counted_from (i + 1) k)) ≡ count_ones (blp / 2 ^ i)
marks zero i blp below = omega (arith, ones_le_self (blp / 2 ^ i), below)
marks (suc k) i blp below =
    let n = blp / 2 ^ i in
    let rest = filter (λ j. bit_at blp (j - 1) == 1) (counted_from (i + 1 + 1) k) in
    let half : n / 2 ≡ blp / 2 ^ (i + 1) = div-div-eq-div-mul blp (2 ^ i) 2 ∙ ap (λ (m : ℕ). blp / m) (sym (pow-suc 2 i) ∙ ap (λ (j : ℕ). 2 ^ j) (omega arith)) in
    let less : n / 2 < 2 ^ k = div_below n 2 (2 ^ k) (omega arith) (subst (λ (m : ℕ). n < m) (pow-suc 2 k) below) in
    let tail : length rest ≡ count_ones (n / 2) = marks k (i + 1) blp (subst (λ (m : ℕ). m < 2 ^ k) half less) ∙ ap count_ones (sym half) in
    let at : bit_at blp (i + 1 - 1) ≡ n % 2 = ap (λ (j : ℕ). blp / 2 ^ j % 2) (omega arith) in
    let step : count_ones n ≡ n % 2 + count_ones (n / 2) = ones_step n in
    cond_both (bit_at blp (i + 1 - 1) == 1) ((i + 1) ∷ rest) rest (λ l. length l ≡ count_ones n)
    (λ t. let one = eqb-true (bit_at blp (i + 1 - 1)) 1 t in omega (arith, one, at, step, tail))
    (λ f. let none = eqb-false (bit_at blp (i + 1 - 1)) 1 f in omega (arith, none, at, step, tail))

marks_all : (k blp : ℕ) → blp < 2 ^ k → length (filter (λ j. bit_at blp (j - 1) == 1) (counted_from 1 k)) ≡ count_ones blp
marks_all k blp below =
    let same : blp / 2 ^ 0 ≡ blp = omega arith in marks k 0 blp (subst (λ (n : ℕ). n < 2 ^ k) (sym same) below) ∙ ap count_ones same

count_word : (pid blp : ℕ) → blp < 2 ^ 16 → length (word_numbers pid blp) ≡ 1 + count_ones blp
unfolding word_numbers
count_word pid blp below =
    let bits = filter (λ j. bit_at blp (j - 1) == 1) (counted_from 1 16) in
    let set : length bits ≡ count_ones blp = marks_all 16 blp below in
    omega (arith, set, length-map bits (λ (j : ℕ). (pid + j) % 65536))

-- an entry in front
pub count_entry : (entries : List ℕ) (blp : ℕ) → 4 ≤ length entries → blp ≡ from_be_bytes w16 (get_or entries 2 0 ∷ get_or entries 3 0 ∷ []) → blp < 2 ^ 16
    → length (numbers_of entries) ≡ (1 + count_ones blp) + length (numbers_of (drop 4 entries))
unfolding numbers_of
count_entry (a ∷ b ∷ c ∷ d ∷ rest) blp long is below =
    let word = word_numbers (from_be_bytes w16 (a ∷ b ∷ [])) (from_be_bytes w16 (c ∷ d ∷ [])) in
    let counted : length word ≡ 1 + count_ones blp =
    ap (λ (n : ℕ). length (word_numbers (from_be_bytes w16 (a ∷ b ∷ [])) n)) (sym is) ∙ count_word (from_be_bytes w16 (a ∷ b ∷ [])) blp below in
    length-append word (numbers_of rest) ∙ ap (λ (n : ℕ). n + length (numbers_of rest)) counted
count_entry [] blp long is below = absurd (omega arith)
count_entry (a ∷ []) blp long is below = absurd (omega arith)
count_entry (a ∷ b ∷ []) blp long is below = absurd (omega arith)
count_entry (a ∷ b ∷ c ∷ []) blp long is below = absurd (omega arith)

-- whole entries
pub named_whole : (fci : List ℕ) → length fci % 4 ≡ 0 → named (nack_numbers fci) ≡ numbers_of fci
unfolding numbers_of
named_whole [] whole = refl
named_whole (b ∷ bytes) whole = ap named (all_numbers (b ∷ bytes) (omega arith) whole) ∙ word_ends 0 0 (b ∷ bytes)

-- ---- messages

some_notes : (m : Message) → 0 < most_of_message m
some_notes (bye p) = omega arith
some_notes (nack media sender numbers) = omega arith
some_notes (asks sender request) = omega arith
some_notes (stops stop) = omega arith

-- packets that get no notes are no messages
pub none_asked : (ps : List Framed) → most_notes ps ≡ 0 → answered_of true ps ≡ []
none_asked [] none = refl
none_asked (p ∷ ps) none = by_found (message_of p) none (λ e. none_asked ps e)
  where
    by_found : (o : Option Message) → most_of_found o + most_notes ps ≡ 0 → (most_notes ps ≡ 0 → with_one_rams (filter_map message_of ps) ≡ [])
        → with_one_rams (cons_option o (filter_map message_of ps)) ≡ []
    by_found None e rec = rec (omega (arith, e))
    by_found (Some m) e rec = absurd (omega (arith, some_notes m, e))

order_found : (o : Option Message) → orders_of_found o ≤ 1
order_found None = omega arith
order_found (Some (bye p)) = omega arith
order_found (Some (nack media sender numbers)) = omega arith
order_found (Some (asks sender request)) = omega arith
order_found (Some (stops stop)) = omega arith

-- one order at most
pub one_order : (ps : List Framed) → most_orders ps ≤ 1
one_order [] = omega arith
one_order (p ∷ ps) = let first : orders_of p ≤ 1 = order_found (message_of p) in omega (arith, first, one_order ps)

-- a message that is no RAMS message tells nothing
pub told_more : (rams : Bool) (old new : Option Info) → (rams ≡ false → new ≡ old) → length (option_to_list new) ≤ max (length (option_to_list old)) (if rams then 1 else 0)
told_more true old None same = omega arith
told_more true old (Some info) same = omega arith
told_more false old new same = let is : length (option_to_list new) ≡ length (option_to_list old) = ap (λ (o : Option Info). length (option_to_list o)) (same refl) in omega arith
