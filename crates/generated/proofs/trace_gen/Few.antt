-- How many events there are at most.
use Rattle.std.proofs.Common.{◌≡◌, ℕ, ◌+◌, ◌*◌, ◌%◌, ◌≤◌, ◌<◌, zero, suc, [], ◌∷◌, ◌++◌, map, length, refl, ap, arith, length-append}
use Rattle.std.specs.List.{flat_map, range_with_len}
use Rattle.std.proofs.lemmas.List.Concat.{flat_map-cons}
use Rattle.rams_model.specs.declared.Event.TheVariants.{Tick}
use Rattle.generated.specs.trace_gen.{packet, feedback, block, made}
use Rattle.generated.proofs.trace_gen.Coming.{by_turn}

turn_is_short : (seed b turn : ℕ) → turn < 4 → length (by_turn seed b turn) ≤ 1
turn_is_short seed b zero small = omega arith
turn_is_short seed b (suc zero) small = omega arith
turn_is_short seed b (suc (suc zero)) small = omega arith
turn_is_short seed b (suc (suc (suc zero))) small = omega arith
turn_is_short seed b (suc (suc (suc (suc turn)))) small = absurd (omega (arith, small))

block_is_short : (seed b : ℕ) → length (block seed b) ≤ 12
block_is_short seed b =
    let packets = map (packet seed b) (range_with_len 0 10) in
    let ten : length packets ≡ 10 = refl in
    let behind = length-append packets (feedback seed b ++ Tick ∷ []) in
    let last = length-append (feedback seed b) (Tick ∷ []) in
    let one : length (Tick ∷ []) ≡ 1 = refl in
    let few : length (feedback seed b) ≤ 1 = turn_is_short seed b (b % 4) (omega arith) in
    omega (arith, ten, behind, last, one, few)

from_is_short : (seed b n : ℕ) → length (flat_map (block seed) (range_with_len b n)) ≤ 12 * n
from_is_short seed b zero = omega arith
from_is_short seed b (suc n) =
    let rest = flat_map (block seed) (range_with_len (b + 1) n) in
    let whole = ap length (flat_map-cons (block seed) b (range_with_len (b + 1) n)) in
    let both = length-append (block seed b) rest in
    omega (arith, whole, both, block_is_short seed b, from_is_short seed (b + 1) n)

-- A block has at most 12 events.
pub few_events : (seed blocks : ℕ) → length (made seed blocks) ≤ 12 * blocks
few_events seed blocks = from_is_short seed 0 blocks
