-- Generated events have few bytes.
use Rattle.std.proofs.Common.{◌≡◌, ℕ, ◌+◌, ◌-◌, ◌*◌, ◌%◌, ◌<◌, zero, suc, All, List, [], ◌∷◌, ◌++◌, map, replicate, refl, sym, subst, arith, length-append}
use Rattle.std.specs.List.{flat_map, range_with_len}
use Rattle.std.proofs.lemmas.List.{length-replicate}
use Rattle.std.proofs.lemmas.List.Concat.{flat_map-cons}
use Rattle.std.proofs.lemmas.List.Elements.{All-nil, All-cons, All-head, All-append, All-drop}
use Rattle.rams_model.specs.declared.{Event.Event, Event.TheVariants.Tick}
use Rattle.rams_model.specs.Formats.{rams_request, rams_stop, words_from}
use Rattle.generated.specs.trace_gen.{Place, packet, request, nack, stop, feedback, block, left, size}
use Rattle.generated.proofs.trace_gen.Texts.{packet_length}
use Rattle.generated.proofs.trace_gen.Coming.{by_turn, turn_is}
use Rattle.generated.specs.generated_run.{IsBrief}

packet_is_brief : (seed b j : ℕ) → IsBrief (packet seed b j)
unfolding packet
packet_is_brief seed b j =
    let zeros = length-replicate {A = ℕ} (size seed b j) 0 in
    let behind = length-append {A = ℕ} (replicate (size seed b j) 0) [] in
    omega (arith, zeros, behind, packet_length (10 * b + j) (size seed b j))

request_is_brief : (seed b : ℕ) → IsBrief (request seed b)
unfolding request rams_request
request_is_brief seed b = omega arith

nack_is_brief : (seed b : ℕ) → IsBrief (nack seed b)
unfolding nack words_from
nack_is_brief seed b = omega arith

stop_is_brief : (seed b : ℕ) → IsBrief (stop seed b)
unfolding stop rams_stop
stop_is_brief seed b = omega arith

one : (event : Event) → IsBrief event → All IsBrief (event ∷ [])
one event brief = All-cons IsBrief event [] brief (All-nil IsBrief)

turn_is_brief : (seed b turn : ℕ) → turn < 4 → All IsBrief (by_turn seed b turn)
turn_is_brief seed b zero small = All-nil IsBrief
turn_is_brief seed b (suc zero) small = one (request seed b) (request_is_brief seed b)
turn_is_brief seed b (suc (suc zero)) small = one (nack seed b) (nack_is_brief seed b)
turn_is_brief seed b (suc (suc (suc zero))) small = one (stop seed b) (stop_is_brief seed b)
turn_is_brief seed b (suc (suc (suc (suc turn)))) small = absurd (omega (arith, small))

packets_are_brief : (seed b j n : ℕ) → All IsBrief (map (packet seed b) (range_with_len j n))
packets_are_brief seed b j zero = All-nil IsBrief
packets_are_brief seed b j (suc n) =
    All-cons IsBrief (packet seed b j) (map (packet seed b) (range_with_len (j + 1) n)) (packet_is_brief seed b j) (packets_are_brief seed b (j + 1) n)

feedback_is_brief : (seed b : ℕ) → All IsBrief (feedback seed b)
feedback_is_brief seed b = subst (All IsBrief) (sym (turn_is seed b (b % 4) refl)) (turn_is_brief seed b (b % 4) (omega arith))

block_is_brief : (seed b : ℕ) → All IsBrief (block seed b)
block_is_brief seed b =
    All-append IsBrief (map (packet seed b) (range_with_len 0 10)) (feedback seed b ++ Tick ∷ []) (packets_are_brief seed b 0 10)
    (All-append IsBrief (feedback seed b) (Tick ∷ []) (feedback_is_brief seed b) (one Tick tt))

blocks_are_brief : (seed b n : ℕ) → All IsBrief (flat_map (block seed) (range_with_len b n))
blocks_are_brief seed b zero = All-nil IsBrief
blocks_are_brief seed b (suc n) =
    let rest = flat_map (block seed) (range_with_len (b + 1) n) in
    subst (All IsBrief) (sym (flat_map-cons (block seed) b (range_with_len (b + 1) n)))
    (All-append IsBrief (block seed b) rest (block_is_brief seed b) (blocks_are_brief seed (b + 1) n))

-- Each event that is left has at most 1,500 bytes; so has the next.
pub next_is_brief : (p : Place) (blocks : ℕ) (event : Event) (rest : List Event) → left p blocks ≡ event ∷ rest → IsBrief event
next_is_brief p blocks event rest next =
    let all = All-drop IsBrief p.events (flat_map (block p.seed) (range_with_len p.block (blocks - p.block))) (blocks_are_brief p.seed p.block (blocks - p.block)) in
    All-head IsBrief event rest (subst (All IsBrief) next all)
