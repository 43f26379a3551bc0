-- The draws of a place, and of the places behind it.
use Rattle.std.proofs.Common.{◌≡◌, ℕ, ◌+◌, ◌*◌, ◌/◌, ◌%◌, ◌<◌, ◌≤◌, ◌==◌, Bool, true, ◌||◌, if◌then◌else◌, ap, sym, ◌∙◌, arith, add-one}
use Rattle.std.proofs.lemmas.Bool.Decides.{nat_tests}
use Rattle.generated.specs.trace_gen.{stepped, state, drawn, draws_before, client, place, draws_at}

pub state_more : (seed n : ℕ) → state seed (n + 1) ≡ stepped (state seed n)
unfolding state
state_more seed n = ap (state seed) (add-one n)

-- one of the packets, or what stands behind the last
pub draws_in : (seed b e : ℕ) → e ≤ 10 → draws_at (place seed b e) ≡ draws_before b + e
draws_in seed b e within = grind (arith, nat_tests)

-- behind one more packet
pub draws_after : (seed b e before after : ℕ) → e < 10 → before ≡ state seed (draws_at (place seed b e)) → after ≡ stepped before
    → after ≡ state seed (draws_at (place seed b (e + 1)))
draws_after seed b e before after within is steps =
    let here = draws_in seed b e (omega (arith, within)) in
    let next : draws_at (place seed b (e + 1)) ≡ draws_at (place seed b e) + 1 = omega (arith, here, draws_in seed b (e + 1) (omega (arith, within))) in
    steps ∙ ap stepped is ∙ sym (state_more seed (draws_at (place seed b e))) ∙ ap (state seed) (sym next)

-- behind a request or a NACK
pub draws_behind : (seed b turn : ℕ) → b % 4 ≡ turn → (turn == 1 || turn == 2) ≡ true → draws_at (place seed b 11) ≡ draws_before b + 11
draws_behind seed b turn is one =
    ap (λ (t : ℕ). draws_before b + 10 + (if t == 1 || t == 2 then 1 else 0)) is
    ∙ ap (λ (t : Bool). draws_before b + 10 + (if t then 1 else 0)) one
    ∙ omega arith

-- behind a stop
pub draws_behind_stop : (seed b : ℕ) → b % 4 ≡ 3 → draws_at (place seed b 11) ≡ draws_before b + 10
draws_behind_stop seed b is =
    ap (λ (t : ℕ). draws_before b + 10 + (if t == 1 || t == 2 then 1 else 0)) is ∙ omega arith

-- the client of a block whose number is 1 modulo 4 is drawn in it
pub client_drawn : (seed b : ℕ) → b % 4 ≡ 1 → client seed b ≡ 1 + drawn seed (draws_before b + 10) % 64
client_drawn seed b is =
    let own : b / 4 * 4 + 1 ≡ b = omega (arith, is) in
    ap (λ (n : ℕ). 1 + drawn seed (draws_before n + 10) % 64) own
