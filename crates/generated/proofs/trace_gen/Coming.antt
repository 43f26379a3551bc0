-- What is left begins with the event that comes next.
use Rattle.std.proofs.Common.{◌≡◌, ℕ, ◌+◌, ◌-◌, ◌%◌, ◌<◌, ◌≤◌, ◌==◌, ◌≢◌, ◌⊎◌, ⊎_elim, zero, suc, if◌then◌else◌, List, [], ◌∷◌, ◌++◌, map, length, get_or, drop, refl, ap, sym, ◌∙◌, append_assoc, arith, drop-cons, length-append}
use Rattle.std.specs.List.{flat_map, range_with_len}
use Rattle.std.proofs.Math.ListN.{get_or-append}
use Rattle.std.proofs.Math.Seq.{drop-append-add}
use Rattle.std.proofs.lemmas.List.Concat.{flat_map-cons}
use Rattle.std.proofs.lemmas.List.FromFn.{get_or-map-range_with_len}
use Rattle.rams_model.specs.declared.{Event.Event, Event.TheVariants.Tick}
use Rattle.generated.specs.trace_gen.{packet, request, nack, stop, feedback, block, place, left, Place}

-- the events of the blocks from b on
abbrev from : ℕ → ℕ → ℕ → List Event
from seed b blocks = flat_map (block seed) (range_with_len b (blocks - b))

begun : (seed b blocks : ℕ) → b < blocks → from seed b blocks ≡ block seed b ++ from seed (b + 1) blocks
begun seed b blocks more =
    let e : blocks - b ≡ suc (blocks - (b + 1)) = omega arith in
    ap (λ (n : ℕ). flat_map (block seed) (range_with_len b n)) e ∙ flat_map-cons (block seed) b (range_with_len (b + 1) (blocks - (b + 1)))

-- place e of the front of a list
in_front : (xs ys : List Event) (e : ℕ) → e < length xs → drop e (xs ++ ys) ≡ get_or xs e Tick ∷ drop (e + 1) (xs ++ ys)
in_front xs ys e within =
    let long : e < length (xs ++ ys) = omega (arith, length-append xs ys) in
    let next : suc e ≡ e + 1 = omega arith in
    drop-cons (xs ++ ys) e Tick long
    ∙ ap (λ (x : Event). x ∷ drop (suc e) (xs ++ ys)) (get_or-append xs ys Tick e within)
    ∙ ap (λ (n : ℕ). get_or xs e Tick ∷ drop n (xs ++ ys)) next

packet_comes_at : (seed b e blocks : ℕ) → b < blocks → e < 10 → left (place seed b e) blocks ≡ packet seed b e ∷ left (place seed b (e + 1)) blocks
packet_comes_at seed b e blocks more within =
    let packets = map (packet seed b) (range_with_len 0 10) in
    let rest = (feedback seed b ++ Tick ∷ []) ++ from seed (b + 1) blocks in
    let whole = begun seed b blocks more ∙ append_assoc packets (feedback seed b ++ Tick ∷ []) (from seed (b + 1) blocks) in
    ap (drop e) whole
    ∙ in_front packets rest e within
    ∙ ap (λ (x : Event). x ∷ drop (e + 1) (packets ++ rest)) (get_or-map-range_with_len (packet seed b) 0 10 e e Tick within (omega arith))
    ∙ ap (λ (es : List Event). packet seed b e ∷ drop (e + 1) es) (sym whole)

-- what comes behind the packets of a block
behind : (seed b blocks k : ℕ) (es : List Event) → b < blocks → feedback seed b ≡ es → drop (10 + k) (from seed b blocks) ≡ drop k ((es ++ Tick ∷ []) ++ from seed (b + 1) blocks)
behind seed b blocks k es more is =
    let packets = map (packet seed b) (range_with_len 0 10) in
    let after = (feedback seed b ++ Tick ∷ []) ++ from seed (b + 1) blocks in
    let whole = begun seed b blocks more ∙ append_assoc packets (feedback seed b ++ Tick ∷ []) (from seed (b + 1) blocks) in
    ap (drop (10 + k)) whole
    ∙ drop-append-add packets after k
    ∙ ap (λ (fs : List Event). drop k ((fs ++ Tick ∷ []) ++ from seed (b + 1) blocks)) is

-- the feedback of a block, by its number modulo 4
abbrev pub by_turn : ℕ → ℕ → ℕ → List Event
by_turn seed b turn =
    if turn == 1 then request seed b ∷ [] else if turn == 2 then nack seed b ∷ [] else if turn == 3 then stop seed b ∷ [] else []

pub turn_is : (seed b turn : ℕ) → b % 4 ≡ turn → feedback seed b ≡ by_turn seed b turn
turn_is seed b turn is = ap (by_turn seed b) is

request_comes_at : (seed b blocks : ℕ) → b < blocks → b % 4 ≡ 1 → left (place seed b 10) blocks ≡ request seed b ∷ left (place seed b 11) blocks
request_comes_at seed b blocks more is =
    behind seed b blocks 0 (request seed b ∷ []) more (turn_is seed b 1 is)
    ∙ ap (λ (es : List Event). request seed b ∷ es) (sym (behind seed b blocks 1 (request seed b ∷ []) more (turn_is seed b 1 is)))

nack_comes_at : (seed b blocks : ℕ) → b < blocks → b % 4 ≡ 2 → left (place seed b 10) blocks ≡ nack seed b ∷ left (place seed b 11) blocks
nack_comes_at seed b blocks more is =
    behind seed b blocks 0 (nack seed b ∷ []) more (turn_is seed b 2 is)
    ∙ ap (λ (es : List Event). nack seed b ∷ es) (sym (behind seed b blocks 1 (nack seed b ∷ []) more (turn_is seed b 2 is)))

stop_comes_at : (seed b blocks : ℕ) → b < blocks → b % 4 ≡ 3 → left (place seed b 10) blocks ≡ stop seed b ∷ left (place seed b 11) blocks
stop_comes_at seed b blocks more is =
    behind seed b blocks 0 (stop seed b ∷ []) more (turn_is seed b 3 is)
    ∙ ap (λ (es : List Event). stop seed b ∷ es) (sym (behind seed b blocks 1 (stop seed b ∷ []) more (turn_is seed b 3 is)))

-- one event of feedback stands in front of the tick
of_turn : (seed b blocks : ℕ) → b < blocks → (turn : ℕ) → b % 4 ≡ turn → turn ≢ 0 → turn < 4 → left (place seed b 11) blocks ≡ Tick ∷ left (place seed (b + 1) 0) blocks
of_turn seed b blocks more zero is some small = absurd (some refl)
of_turn seed b blocks more (suc zero) is some small = behind seed b blocks 1 (request seed b ∷ []) more (turn_is seed b 1 is)
of_turn seed b blocks more (suc (suc zero)) is some small = behind seed b blocks 1 (nack seed b ∷ []) more (turn_is seed b 2 is)
of_turn seed b blocks more (suc (suc (suc zero))) is some small = behind seed b blocks 1 (stop seed b ∷ []) more (turn_is seed b 3 is)
of_turn seed b blocks more (suc (suc (suc (suc turn)))) is some small = absurd (omega (arith, small))

-- nothing stands behind nothing
abbrev nothing : List Event
nothing = []

drop_nothing : (e : ℕ) → drop e nothing ≡ nothing
drop_nothing zero = refl
drop_nothing (suc e) = refl

none_comes_at : (seed b e blocks : ℕ) → blocks ≤ b → left (place seed b e) blocks ≡ []
none_comes_at seed b e blocks over =
    let none : blocks - b ≡ 0 = omega arith in
    ap (λ (n : ℕ). drop e (flat_map (block seed) (range_with_len b n))) none ∙ drop_nothing e

ten_or_eleven : (e : ℕ) → 10 ≤ e → e ≤ 11 → (e ≡ 10) ⊎ (e ≡ 11)
ten_or_eleven e least most = grind arith

-- ---- at a place

pub none_comes : (p : Place) (blocks : ℕ) → blocks ≤ p.block → left p blocks ≡ []
none_comes p blocks over = none_comes_at p.seed p.block p.events blocks over

pub packet_comes : (p : Place) (blocks : ℕ) → p.block < blocks → p.events < 10
    → left p blocks ≡ packet p.seed p.block p.events ∷ left (place p.seed p.block (p.events + 1)) blocks
packet_comes p blocks more within = packet_comes_at p.seed p.block p.events blocks more within

moved : (p : Place) (blocks e : ℕ) → p.events ≡ e → left p blocks ≡ left (place p.seed p.block e) blocks
moved p blocks e is = ap (λ (n : ℕ). left (place p.seed p.block n) blocks) is

pub request_comes : (p : Place) (blocks : ℕ) → p.block < blocks → p.events ≡ 10 → p.block % 4 ≡ 1
    → left p blocks ≡ request p.seed p.block ∷ left (place p.seed p.block 11) blocks
request_comes p blocks more here is = moved p blocks 10 here ∙ request_comes_at p.seed p.block blocks more is

pub nack_comes : (p : Place) (blocks : ℕ) → p.block < blocks → p.events ≡ 10 → p.block % 4 ≡ 2
    → left p blocks ≡ nack p.seed p.block ∷ left (place p.seed p.block 11) blocks
nack_comes p blocks more here is = moved p blocks 10 here ∙ nack_comes_at p.seed p.block blocks more is

pub stop_comes : (p : Place) (blocks : ℕ) → p.block < blocks → p.events ≡ 10 → p.block % 4 ≡ 3
    → left p blocks ≡ stop p.seed p.block ∷ left (place p.seed p.block 11) blocks
stop_comes p blocks more here is = moved p blocks 10 here ∙ stop_comes_at p.seed p.block blocks more is

-- The tick comes behind the packets where the block has no feedback, and else behind the feedback.
pub tick_comes : (p : Place) (blocks : ℕ) → p.block < blocks → 10 ≤ p.events → p.events ≤ 11 → (p.events ≡ 10 → p.block % 4 ≡ 0) → (p.events ≡ 11 → p.block % 4 ≢ 0)
    → left p blocks ≡ Tick ∷ left (place p.seed (p.block + 1) 0) blocks
tick_comes p blocks more least most whole behind_it =
    ⊎_elim
    (λ (e : p.events ≡ 10). moved p blocks 10 e ∙ behind p.seed p.block blocks 0 [] more (turn_is p.seed p.block 0 (whole e)))
    (λ (e : p.events ≡ 11). moved p blocks 11 e ∙ of_turn p.seed p.block blocks more (p.block % 4) refl (behind_it e) (omega arith))
    (ten_or_eleven p.events least most)
