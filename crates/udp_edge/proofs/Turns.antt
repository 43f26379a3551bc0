-- The next place of a round is where the code looks for it.
use Rattle.std.proofs.Common.{◌≡◌, ◌≢◌, ℕ, ◌+◌, ◌-◌, ◌/◌, ◌%◌, ◌^◌, ◌<◌, ◌≤◌, sym, ◌∙◌, ap, arith}
use Rattle.std.specs.Int.{bit_at, trailing_zeros, w128}
use Rattle.std.proofs.Math.Nat.{div-div-eq-div-mul, div-le_self}
use Rattle.std.proofs.lemmas.Nat.{pow-add}
use Rattle.std.proofs.lemmas.Nat.Bits.{bit_at-trailing_zeros, bit_at-zero, bit_at_above}
use Rattle.udp_edge.specs.Round.{IsNext}

-- shifted down by k places, a number has its bits k places lower
pub bit_at-shr : (n k i : ℕ) → bit_at (n / 2 ^ k) i ≡ bit_at n (k + i)
bit_at-shr n k i =
    ap (λ x. x % 2) (div-div-eq-div-mul n (2 ^ k) (2 ^ i) ∙ ap (λ x. n / x) (sym (pow-add 2 k i)))

-- the same bit by its place in the whole number
pub bit_at-shr_from : (n k i : ℕ) → k ≤ i → bit_at (n / 2 ^ k) (i - k) ≡ bit_at n i
bit_at-shr_from n k i from =
    let place : k + (i - k) ≡ i = omega arith in
    bit_at-shr n k (i - k) ∙ ap (bit_at n) place

-- a bit that is set stands below the number's width
pub place_of_bit : (n k i : ℕ) → n < 2 ^ k → bit_at n i ≡ 1 → i < k
place_of_bit n k i fits is_set = grind (arith, bit_at_above)

-- a number with a bit is not 0
pub some_bit : (n i : ℕ) → bit_at n i ≡ 1 → n ≢ 0
some_bit n i is_set none = grind (arith, bit_at-zero)

-- no bit that is set stands below the lowest
pub lowest_le : (n i : ℕ) → n < 2 ^ 128 → bit_at n i ≡ 1 → trailing_zeros w128 n ≤ i
lowest_le n i fits is_set =
    let some : n ≢ 0 = some_bit n i is_set in
    let below = (bit_at-trailing_zeros w128 n (omega arith) fits).2 i in
    grind (arith, below)

-- where a place from the turn on is ready, the lowest of these is next
pub next_from_turn : (ready turn : ℕ) → turn < 128 → ready < 2 ^ 128 → ready / 2 ^ turn ≢ 0 → IsNext ready turn (turn + trailing_zeros w128 (ready / 2 ^ turn))
next_from_turn ready turn in_round fits some =
    let fits_above : ready / 2 ^ turn < 2 ^ 128 = omega (arith, div-le_self ready (2 ^ turn)) in
    let lowest = bit_at-trailing_zeros w128 (ready / 2 ^ turn) (omega arith) fits_above in
    let is_ready : bit_at ready (turn + trailing_zeros w128 (ready / 2 ^ turn)) ≡ 1 =
    sym (bit_at-shr ready turn (trailing_zeros w128 (ready / 2 ^ turn))) ∙ lowest.1 in
    let within : turn + trailing_zeros w128 (ready / 2 ^ turn) < 128 = place_of_bit ready 128 _ fits is_ready in
    record {
      within = within;
      is_ready = is_ready;
      nearest = λ other below set.
          let no_later : turn ≤ other → trailing_zeros w128 (ready / 2 ^ turn) ≤ other - turn =
          λ from. lowest_le (ready / 2 ^ turn) (other - turn) fits_above (bit_at-shr_from ready turn other from ∙ set) in
          grind (arith, no_later);
    }

-- where none from the turn on is ready, the lowest of all is next
pub next_round_the_end : (ready turn : ℕ) → turn < 128 → ready < 2 ^ 128 → ready / 2 ^ turn ≡ 0 → ready ≢ 0 → IsNext ready turn (trailing_zeros w128 ready)
next_round_the_end ready turn in_round fits none some =
    let lowest = bit_at-trailing_zeros w128 ready (omega arith) fits in
    let before : (place : ℕ) → bit_at ready place ≡ 1 → turn ≤ place → ⊥ =
    λ place set from. some_bit (ready / 2 ^ turn) (place - turn) (bit_at-shr_from ready turn place from ∙ set) none in
    record {
      within = lowest.0;
      is_ready = lowest.1;
      nearest = λ other below set.
          let first : turn ≤ trailing_zeros w128 ready → ⊥ = before (trailing_zeros w128 ready) lowest.1 in
          let second : turn ≤ other → ⊥ = before other set in
          let no_later : trailing_zeros w128 ready ≤ other = lowest_le ready other fits set in
          grind (arith, first, second, no_later);
    }
