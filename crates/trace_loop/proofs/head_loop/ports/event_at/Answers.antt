use Rattle.std.proofs.Common.{rules, ◌≡◌, ℕ, ◌+◌, ◌-◌, ◌*◌, ◌/◌, ◌%◌, ◌<◌, ◌≤◌, List, length, Option, Some, None, Bor, refl, subst, arith}
use Rattle.std.specs.Prelude.{slice_get}
use Rattle.std.specs.Option.{SomeIff, MatchOption}
use Rattle.std.specs.List.{HoldsAt}
use Rattle.std.proofs.lemmas.Option.{slice_get_read, slice_get_past}
use Rattle.trace_loop.proofs.head_loop.AtPorts.{live_is_heard, feedback_is_heard, below_is_none, above_is_none}
use Rattle.trace_loop.proofs.head_loop.ports.event_at.Goals as goal

-- where a number can be taken from another
taken : (o : Option ℕ) (above port live : ℕ) → o ≡ Some above → SomeIff o (live ≤ port) (port - live) → (live ≤ port) × (above ≡ port - live)
taken o above port live is h = subst (λ (x : Option ℕ). SomeIff x (live ≤ port) (port - live)) is h

untaken : (o : Option ℕ) (port live : ℕ) → o ≡ None → SomeIff o (live ≤ port) (port - live) → port < live
untaken o port live is h =
    let no : ¬ (live ≤ port) = subst (λ (x : Option ℕ). SomeIff x (live ≤ port) (port - live)) is h in
    omega (arith, no)

past : (o : Option (Bor ℕ)) (ids : List ℕ) (place : ℕ) → o ≡ None → MatchOption o (length ids ≤ place) (λ x. (place < length ids) × HoldsAt (λ y. x.now ≡ y) ids place) → length ids ≤ place
past o ids place is h = subst (λ (q : Option (Bor ℕ)). MatchOption q (length ids ≤ place) (λ x. (place < length ids) × HoldsAt (λ y. x.now ≡ y) ids place)) is h

even : (above : ℕ) → above % 2 ≡ 0 → above ≡ 2 * (above / 2)
even above e = omega (arith, e)

odd : (above : ℕ) → (above % 2 ≡ 0 → ⊥) → above ≡ 2 * (above / 2) + 1
odd above e = omega (arith, e)

pub returns-in_default-clause-heard : goal.returns-in_default-clause-heard
returns-in_default-clause-heard c = λ channels are.
    below_is_none c.args.live c.args.arrival.from c.args.arrival.port channels c.args.bytes.now (untaken c.checked_sub.result c.args.arrival.port c.args.live c.in_default.is c.checked_sub.ensures)

pub returns-in_default-get-clause-heard : goal.returns-in_default-get-clause-heard
returns-in_default-get-clause-heard c = λ channels are.
    let at = taken c.checked_sub.result c.in-Some.above c.args.arrival.port c.args.live c.in-Some.is c.checked_sub.ensures in
    let end = past c.get.result c.args.ids.now c.from.result c.in_default-get.is c.get.ensures.lookup.3 in
    let low : c.args.live ≤ c.args.arrival.port = at.0 in
    let above : c.in-Some.above ≡ c.args.arrival.port - c.args.live = at.1 in
    let place : c.from.result ≡ c.in-Some.above / 2 = c.from.ensures in
    above_is_none c.args.live c.from.result c.args.arrival.from c.args.arrival.port channels c.args.bytes.now
    (subst (λ (l : List ℕ). slice_get l c.from.result ≡ None) are (slice_get_past c.args.ids.now c.from.result end)) (omega (arith, low, above, place))

pub returns-then-above-eq0-clause-heard : goal.returns-then-above-eq0-clause-heard
returns-then-above-eq0-clause-heard c = λ channels are.
    let at = taken c.checked_sub.result c.in-Some.above c.args.arrival.port c.args.live c.in-Some.is c.checked_sub.ensures in
    let low : c.args.live ≤ c.args.arrival.port = at.0 in
    let above : c.in-Some.above ≡ c.args.arrival.port - c.args.live = at.1 in
    let place : c.from.result ≡ c.in-Some.above / 2 = c.from.ensures in
    let double = even c.in-Some.above c.if-above-eq0.true in
    let there = slice_get_read c.args.ids.now (length c.args.ids.now) c.from.result c.in-Some-get.field-0.now refl (search rules) (search rules) in
    live_is_heard c.args.live c.from.result c.args.arrival.from c.args.arrival.port c.in-Some-get.field-0.now channels c.args.bytes.now
    (subst (λ (l : List ℕ). slice_get l c.from.result ≡ Some c.in-Some-get.field-0.now) are there) (omega (arith, low, above, place, double))

pub returns-then-above-eq0-clause-from : goal.returns-then-above-eq0-clause-from
returns-then-above-eq0-clause-from c =
    let at = taken c.checked_sub.result c.in-Some.above c.args.arrival.port c.args.live c.in-Some.is c.checked_sub.ensures in
    let low : c.args.live ≤ c.args.arrival.port = at.0 in
    let above : c.in-Some.above ≡ c.args.arrival.port - c.args.live = at.1 in
    let place : c.from.result ≡ c.in-Some.above / 2 = c.from.ensures in
    let double = even c.in-Some.above c.if-above-eq0.true in
    (c.from.result, slice_get_read c.args.ids.now (length c.args.ids.now) c.from.result c.in-Some-get.field-0.now refl (search rules) (search rules), omega (arith, low, above, place, double))

pub returns-clause-heard : goal.returns-clause-heard
returns-clause-heard c = λ channels are.
    let at = taken c.checked_sub.result c.in-Some.above c.args.arrival.port c.args.live c.in-Some.is c.checked_sub.ensures in
    let low : c.args.live ≤ c.args.arrival.port = at.0 in
    let above : c.in-Some.above ≡ c.args.arrival.port - c.args.live = at.1 in
    let place : c.from.result ≡ c.in-Some.above / 2 = c.from.ensures in
    let double = odd c.in-Some.above c.if-above-eq0.false in
    let there = slice_get_read c.args.ids.now (length c.args.ids.now) c.from.result c.in-Some-get.field-0.now refl (search rules) (search rules) in
    feedback_is_heard c.args.live c.from.result c.args.arrival.from c.args.arrival.port c.in-Some-get.field-0.now channels c.args.bytes.now
    (subst (λ (l : List ℕ). slice_get l c.from.result ≡ Some c.in-Some-get.field-0.now) are there) (omega (arith, low, above, place, double))

pub returns-clause-from : goal.returns-clause-from
returns-clause-from c =
    let at = taken c.checked_sub.result c.in-Some.above c.args.arrival.port c.args.live c.in-Some.is c.checked_sub.ensures in
    let low : c.args.live ≤ c.args.arrival.port = at.0 in
    let above : c.in-Some.above ≡ c.args.arrival.port - c.args.live = at.1 in
    let place : c.from.result ≡ c.in-Some.above / 2 = c.from.ensures in
    let double = odd c.in-Some.above c.if-above-eq0.false in
    (c.from.result, slice_get_read c.args.ids.now (length c.args.ids.now) c.from.result c.in-Some-get.field-0.now refl (search rules) (search rules), omega (arith, low, above, place, double))
