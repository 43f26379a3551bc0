-- What a client is sent in a tick is within its cap.
use Rattle.std.proofs.Common.{◌≡◌, ℕ, ◌+◌, ◌-◌, ◌≤◌, Bool, true, false, cond, [], ◌∷◌, Option, Some, None, refl, ap, subst, arith, eqb}
use Rattle.std.proofs.lemmas.Bool.{eqb-true}
use Rattle.rams_model.specs.declared.Held.{Held}
use Rattle.rams_model.specs.declared.Note.TheVariants as note
use Rattle.rams_model.specs.Service.{Settings, tick, began, told, noted, History, hold, as_tick_began, Burst, size_of, bursts, open_burst, is_burst_of, is_repair_of, sent_now, budget_of, cap, may_take}
use Rattle.rams_model.specs.Laws.{is_sending_to, sizes_sent}
use Rattle.service_laws.specs.book_laws.{left_of}
use Rattle.rams_model.proofs.Legal.{in_tick, Sends, Repairs, IsLegal}
use Rattle.service_laws.proofs.book_laws.BurstAmounts.{left_falls, left_taken}
use Rattle.service_laws.proofs.book_laws.Shares.{sends_within}

-- the items since the last tick began
unfoldable pub since_tick : History → History
since_tick [] = []
since_tick (began tick ∷ history) = []
since_tick (i ∷ history) = i ∷ since_tick history

first_more : (c : Bool) (a b size sum : ℕ) → a + b ≡ sum → cond c (a + size) a + b ≡ cond c (sum + size) sum
first_more true a b size sum e = omega arith
first_more false a b size sum e = e

second_more : (c : Bool) (a b size sum : ℕ) → a + b ≡ sum → a + cond c (b + size) b ≡ cond c (sum + size) sum
second_more true a b size sum e = omega arith
second_more false a b size sum e = e

-- a client's packets are those of its bursts and repairs
sent_parts : (k : ℕ) (history : History) → in_tick history ≡ true
    → sent_now (is_burst_of k) history + sent_now (is_repair_of k) history ≡ sizes_sent (is_sending_to k) (since_tick history)
unfolding sent_now since_tick
sent_parts k [] t = absurd cc
sent_parts k (began tick ∷ history) t = omega arith
sent_parts k (began heard ∷ history) t = absurd cc
sent_parts k (told client message ∷ history) t = absurd cc
sent_parts k (noted (note.Burst client n q) packet ∷ history) t =
    first_more (eqb client k) (sent_now (is_burst_of k) history) (sent_now (is_repair_of k) history) (size_of packet) (sizes_sent (is_sending_to k) (since_tick history)) (sent_parts k history t)
sent_parts k (noted (note.Repair client n q) packet ∷ history) t =
    second_more (eqb client k) (sent_now (is_burst_of k) history) (sent_now (is_repair_of k) history) (size_of packet) (sizes_sent (is_sending_to k) (since_tick history)) (sent_parts k history t)
sent_parts k (noted note packet ∷ history) t = sent_parts k history t

-- what a burst has left is within the budget as the tick begins
left_within : (s : Settings) (o : Option Burst) → left_of o ≤ budget_of s o
left_within s None = omega arith
left_within s (Some b) = omega arith

-- a packet is sent, where it is the client's
sent_more : (c : Bool) (sent size left now cap : ℕ) → sent + left ≤ cap → now ≤ left → (c ≡ true → now ≡ left - size) → (c ≡ true → sent + size ≤ cap) → cond c (sent + size) sent + now ≤ cap
sent_more true sent size left now cap within falls taken fits = let t = taken refl in let f = fits refl in omega (arith, t, f)
sent_more false sent size left now cap within falls taken fits = omega arith

-- a packet of a run fits what the cap has left
burst_fits : (s : Settings) (k client n number : ℕ) (packet : Option Held) (history : History) → Sends s history client n number packet
    → sizes_sent (is_sending_to k) (since_tick history) + left_of (open_burst s k history) ≤ cap s k history → eqb client k ≡ true
    → sizes_sent (is_sending_to k) (since_tick history) + size_of packet ≤ cap s k history
burst_fits s k client n number packet history sends within t =
    let same = ap (λ (j : ℕ). left_of (open_burst s j history)) (eqb-true client k t) in omega (arith, same, sends_within s history client n number packet sends)

-- and so does a repair
repair_fits : (s : Settings) (k client n number : ℕ) (packet : Option Held) (history : History) → Repairs s history client n number packet
    → sizes_sent (is_sending_to k) (since_tick history) + left_of (open_burst s k history) ≤ cap s k history → eqb client k ≡ true
    → sizes_sent (is_sending_to k) (since_tick history) + size_of packet ≤ cap s k history
repair_fits s k client n number packet history repairs within t =
    let size : size_of packet ≡ repairs.h.wire = ap size_of repairs.packet_is in
    let takes : repairs.h.wire ≤ may_take s (hold s history) k history =
    subst (λ (j : ℕ). repairs.h.wire ≤ may_take s (hold s history) j history) (eqb-true client k t) repairs.fits in
    omega (arith, sent_parts k history repairs.ticking)

-- What a client was sent since the last tick began, with what its burst has left, is at most its cap.
pub within_cap : (s : Settings) (k : ℕ) (history : History) → IsLegal s history
    → sizes_sent (is_sending_to k) (since_tick history) + left_of (open_burst s k history) ≤ cap s k history
unfolding since_tick as_tick_began bursts
within_cap s k [] l = omega arith
within_cap s k (began tick ∷ history) l = omega (arith, left_within s (open_burst s k (began tick ∷ history)))
within_cap s k (began heard ∷ history) l = within_cap s k history l
within_cap s k (told client message ∷ history) l = within_cap s k history l
within_cap s k (noted (note.Burst client n q) packet ∷ history) l =
    let within = within_cap s k history l.1 in
    sent_more (eqb client k) (sizes_sent (is_sending_to k) (since_tick history)) (size_of packet) (left_of (open_burst s k history))
    (left_of (open_burst s k (noted (note.Burst client n q) packet ∷ history))) (cap s k history) within (left_falls s k (note.Burst client n q) packet history)
    (left_taken s k (note.Burst client n q) packet history) (burst_fits s k client n q packet history l.0 within)
within_cap s k (noted (note.Repair client n q) packet ∷ history) l =
    let within = within_cap s k history l.1 in
    sent_more (eqb client k) (sizes_sent (is_sending_to k) (since_tick history)) (size_of packet) (left_of (open_burst s k history))
    (left_of (open_burst s k (noted (note.Repair client n q) packet ∷ history))) (cap s k history) within (left_falls s k (note.Repair client n q) packet history)
    (left_taken s k (note.Repair client n q) packet history) (repair_fits s k client n q packet history l.0 within)
within_cap s k (noted note packet ∷ history) l = omega (arith, left_falls s k note packet history, within_cap s k history l.1)
