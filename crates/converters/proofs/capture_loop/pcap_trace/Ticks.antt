-- Ticks that are due.
use Rattle.std.proofs.Common.{◌≡◌, ℕ, zero, suc, ◌+◌, ◌-◌, ◌*◌, ◌/◌, ◌<◌, ◌≤◌, max, Some, arith, sym, subst}
use Rattle.std.proofs.Math.Nat.{add-mul, suc-mul}
use Rattle.std.proofs.lemmas.Nat.{le-div}
use Rattle.converters.specs.capture_loop.pcap_trace.{Span, IsCountOf, ticks_between, next_due}

-- a count of whole ticks, and the part of one that is left
record IsWhole (n tick count : ℕ) : Type 0 where
  low : count * tick ≤ n
  high : n < (count + 1) * tick

whole_ticks : (n tick : ℕ) → 1 ≤ tick → IsWhole n tick (n / tick)
whole_ticks n tick h = record { low = omega arith; high = omega arith }

-- so many ticks after so many others
counted : (first m tick a n : ℕ) → first ≤ m → IsWhole (m - first) tick (a + n) → IsCountOf (first + (a + 1) * tick) tick m n
counted first m tick a zero h w = record { reached = λ k. absurd (omega arith); ahead = let high = w.high in omega arith }
counted first m tick a (suc n) h w =
    let one = add-mul a 1 tick in
    let some = add-mul a (suc n) tick in
    let more = add-mul (a + suc n) 1 tick in
    let last = suc-mul n tick in
    let less : suc n - 1 ≡ n = omega arith in record {
      reached = λ k. rw less (let low = w.low in omega arith);
      ahead = let high = w.high in omega arith;
    }

pub due_so : (tick ms : ℕ) (span : Span) → 1 ≤ tick → span.first ≤ span.top
    → IsCountOf (next_due tick span) tick (max span.top ms) (ticks_between (record { tick = tick; seen = Some span }) ms)
due_so tick ms span h k =
    let m = max span.top ms in
    let a = (span.top - span.first) / tick in
    let b = (m - span.first) / tick in
    let fewer : a ≤ b = le-div a (m - span.first) tick (omega arith) (let low = (whole_ticks (span.top - span.first) tick h).low in omega arith) in
    let all : a + (b - a) ≡ b = omega arith in
    counted span.first m tick a (b - a) (omega arith) (subst (λ (n : ℕ). IsWhole (m - span.first) tick n) (sym all) (whole_ticks (m - span.first) tick h))
