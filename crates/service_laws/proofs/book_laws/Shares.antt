-- The runs of a tick are within the channel's budget, and so are its repairs.
use Rattle.std.proofs.Common.{◌≡◌, ℕ, ◌≤◌, true, [], ◌∷◌, Option, refl, ap, arith}
use Rattle.std.specs.List.{sum_by}
use Rattle.std.proofs.lemmas.Bool.{eq-eqb}
use Rattle.rams_model.specs.declared.{Held.Held, Note.Note}
use Rattle.rams_model.specs.declared.Note.TheVariants as note
use Rattle.rams_model.specs.Service.{Settings, tick, began, told, noted, History, opened, size_of, open_burst, most_of, channel_left}
use Rattle.rams_model.specs.Laws.{is_sending}
use Rattle.service_laws.specs.book_laws.{left_of}
use Rattle.rams_model.proofs.Legal.{in_runs, Sends, IsLegal}
use Rattle.service_laws.proofs.book_laws.Sums.{all_sum, less_by, part_of_sum, sum_without}
use Rattle.service_laws.proofs.book_laws.BurstAmounts.{open_among, left_falls, left_taken, left_at_tick}
use Rattle.service_laws.proofs.book_laws.Reserved.{within_share}

-- what a client's burst has left in a sum over clients
abbrev left_at : Settings → History → ℕ → ℕ
left_at s history k = left_of (open_burst s k history)

-- the packet of a run
pub sends_within : (s : Settings) (history : History) (k n number : ℕ) (packet : Option Held) → Sends s history k n number packet → size_of packet ≤ left_of (open_burst s k history)
sends_within s history k n number packet sends =
    let size : size_of packet ≡ sends.h.wire = ap size_of sends.packet_is in omega (arith, size, sends.fits, ap left_of sends.opened.is_open)

-- what the open bursts have left, together
abbrev pub lefts : Settings → History → ℕ
lefts s history = sum_by (left_at s history) (opened history)

-- While runs are noted, the channel has left at least that: a tick begins so, since what is reserved is within the share.
pub covered : (s : Settings) (history : History) → IsLegal s history → in_runs history ≡ true → lefts s history ≤ channel_left s history
unfolding opened channel_left
covered s [] l r = absurd cc
covered s (began tick ∷ history) l r =
    omega (arith, all_sum (left_at s (began tick ∷ history)) (λ k. most_of s (open_burst s k history)) (opened history) (λ j. left_at_tick s j history), within_share s history l)
covered s (began heard ∷ history) l r = absurd cc
covered s (told client message ∷ history) l r = absurd cc
covered s (noted (note.Burst client n q) packet ∷ history) l r =
    let later = noted (note.Burst client n q) packet ∷ history in
    let fits = sends_within s history client n q packet l.0 in
    let less = less_by (left_at s later) (left_at s history) client (size_of packet) (opened history) (λ j. left_falls s j (note.Burst client n q) packet history)
    (omega (arith, fits, left_taken s client (note.Burst client n q) packet history (eq-eqb client client refl)))
    (open_among s client history l.0.opened.burst l.0.opened.is_open) in
    omega (arith, less, covered s history l.1 r)
covered s (noted (note.End client cause) packet ∷ history) l r =
    let f = left_at s (noted (note.End client cause) packet ∷ history) in
    omega (arith, sum_without f client (opened history), all_sum f (left_at s history) (opened history) (λ j. left_falls s j (note.End client cause) packet history), covered s history l.1 r)
covered s (noted note packet ∷ history) l r = absurd cc

-- what is sent fits what the channel has left
pub sending_fits : (s : Settings) (note : Note) (packet : Option Held) (history : History) → IsLegal s (noted note packet ∷ history) → is_sending note ≡ true → size_of packet ≤ channel_left s history
sending_fits s (note.Burst client n q) packet history l is =
    let among = open_among s client history l.0.opened.burst l.0.opened.is_open in
    omega (arith, sends_within s history client n q packet l.0, part_of_sum (left_at s history) client (opened history) among, covered s history l.1 l.0.running)
sending_fits s (note.Repair client n q) packet history l is =
    let size : size_of packet ≡ l.0.h.wire = ap size_of l.0.packet_is in omega (arith, size, l.0.fits_channel)
sending_fits s note packet history l is = absurd cc
