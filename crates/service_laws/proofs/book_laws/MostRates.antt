-- No burst has a rate above the settings' `burst`.
use Rattle.std.proofs.Common.{◌≡◌, ℕ, ◌*◌, ◌≤◌, true, List, [], ◌∷◌, ◌++◌, Option, Some, None, refl, arith, eqb}
use Rattle.std.proofs.lemmas.Bool.{cond_both}
use Rattle.rams_model.specs.declared.{Cause.Cause, Note.Note}
use Rattle.rams_model.specs.declared.Note.TheVariants as note
use Rattle.rams_model.specs.Service.{Settings, tick, began, told, noted, History, sequence, Burst, begun, in_tick, after_note, newest_changed, size_of, bursts, if_open, newest_open, open_burst}
use Rattle.rams_model.specs.Laws.{ticks_begun}
use Rattle.service_laws.specs.book_laws.{gain, gains_in}
use Rattle.rams_model.proofs.Legal.{IsLegal}
use Rattle.service_laws.proofs.book_laws.BurstAmounts.{at_end, at_newest, falls}
use Rattle.rams_model.proofs.Granting.{accept_grants, update_grants}

-- the rate of an open burst
rate_at : Option Burst → ℕ
rate_at None = 0
rate_at (Some b) = b.rate

rate-none : (o : Option Burst) → rate_at None ≤ rate_at o
unfolding rate_at
rate-none o = omega arith

at_rate : (b : Burst) (e : Option Cause) → rate_at (if_open e b) ≤ b.rate
unfolding rate_at
at_rate b None = omega arith
at_rate b (Some cause) = omega arith

updated : (s : Settings) (note : Note) (size rate most : ℕ) → ((b : Burst) → (after_note s note size b).rate ≡ rate) → rate ≤ most → (bs : List Burst)
    → rate_at (newest_open (newest_changed (after_note s note size) bs)) ≤ most
unfolding rate_at
updated s note size rate most is le [] = omega arith
updated s note size rate most is le (b ∷ bs) = let c = after_note s note size b in omega (arith, is b, at_rate c c.ended)

rate_within : (s : Settings) (k : ℕ) (history : History) → IsLegal s history → rate_at (open_burst s k history) ≤ s.channel.burst
unfolding bursts rate_at
rate_within s k [] l = omega arith
rate_within s k (began tick ∷ history) l =
    omega (arith, at_newest rate_at (in_tick s) (λ b. at_end rate_at b (in_tick s b) (omega arith) b.ended) true (bursts s k history), rate_within s k history l)
rate_within s k (began heard ∷ history) l = rate_within s k history l
rate_within s k (told client message ∷ history) l = rate_within s k history l
rate_within s k (noted (note.Accept client first rate join) packet ∷ history) l =
    let g = (accept_grants s history client first rate join l.0).2 in
    cond_both (eqb client k) (begun s first rate join (sequence s k history) ∷ bursts s k history) (bursts s k history) (λ bs. rate_at (newest_open bs) ≤ s.channel.burst)
    (λ t. g.within) (λ f. rate_within s k history l.1)
rate_within s k (noted (note.Update client rate join) packet ∷ history) l =
    let g = update_grants s history client rate join l.0 in
    cond_both (eqb client k) (newest_changed (after_note s (note.Update client rate join) (size_of packet)) (bursts s k history)) (bursts s k history)
    (λ bs. rate_at (newest_open bs) ≤ s.channel.burst)
    (λ t. updated s (note.Update client rate join) (size_of packet) rate s.channel.burst (λ b. refl) g.within (bursts s k history)) (λ f. rate_within s k history l.1)
rate_within s k (noted note packet ∷ history) l = omega (arith, falls s rate_at rate-none k note packet history refl (λ b. omega arith), rate_within s k history l.1)

gain_within : (s : Settings) (o : Option Burst) → rate_at o ≤ s.channel.burst → gain s o ≤ s.channel.burst
unfolding rate_at
gain_within s None le = omega arith
gain_within s (Some b) le = le

pub gains_within : (s : Settings) (k : ℕ) (stretch before : History) → IsLegal s (stretch ++ before) → gains_in s k stretch before ≤ ticks_begun stretch * s.channel.burst
gains_within s k [] before l = omega arith
gains_within s k (began tick ∷ stretch) before l =
    let history = stretch ++ before in omega (arith, gain_within s (open_burst s k history) (rate_within s k history l), gains_within s k stretch before l)
gains_within s k (began heard ∷ stretch) before l = gains_within s k stretch before l
gains_within s k (told client message ∷ stretch) before l = gains_within s k stretch before l
gains_within s k (noted note packet ∷ stretch) before l = gains_within s k stretch before l.1
