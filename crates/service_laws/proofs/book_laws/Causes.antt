-- The cause that an End gives is true.
use Rattle.std.proofs.Common.{◌≡◌, ℕ, ◌+◌, ◌≢◌, true, false, not, List, [], ◌∷◌, ◌++◌, Option, Some, None, refl, ap, sym, ◌∙◌, subst, arith, eqb, ltb}
use Rattle.std.specs.Prelude.{Contains}
use Rattle.std.specs.List.{AllByRecursion as Each}
use Rattle.std.proofs.lemmas.Bool.{and_parts, or_parts, not-true, ltb-true, eqb-false}
use Rattle.std.proofs.lemmas.List.Elements.{All-from_recursion, All-contains, Contains-append_right}
use Rattle.rams_model.specs.declared.{Held.Held, Cause.Cause}
use Rattle.rams_model.specs.declared.Cause.TheVariants as cause
use Rattle.rams_model.specs.declared.Note.TheVariants as note
use Rattle.rams_model.specs.Service.{Settings, bye, noted, History, hold, Burst, next, if_open, newest_open, open_burst, is_lost}
use Rattle.rams_model.specs.Packets.{hi, has_number}
use Rattle.rams_model.specs.Laws.{ticks_begun}
use Rattle.rams_model.proofs.LastAccept.{last_accept}
use Rattle.service_laws.specs.book_laws.{LastAccept}
use Rattle.service_laws.specs.book_laws.Stops.{next_number, IsLost, Leaves, EndsBecause}
use Rattle.rams_model.proofs.Legal.{IsLegal, IsBye, EndsFor, Ends}
use Rattle.service_laws.proofs.book_laws.Answering.{is_answered}
use Rattle.service_laws.proofs.book_laws.Stopping.{stop_stands, accept_of_open, open_since}

-- a number that is not among those that are held
not_held : (n : ℕ) (held : List Held) → has_number n held ≡ false → (h : Held) → Contains held h → h.n ≢ n
not_held n held e h c =
    let none = All-from_recursion (λ (x : Held). x.n ≢ n) held (each_none held e) in
    All-contains (λ (x : Held). x.n ≢ n) held h none c
  where
    each_none : (hs : List Held) → has_number n hs ≡ false → Each (λ x. x.n ≢ n) hs
    each_none [] e = tt
    each_none (x ∷ xs) e = let parts = or_parts (eqb x.n n) (has_number n xs) e in (eqb-false x.n n parts.0, each_none xs parts.1)

-- the last that is held
last_held : (h : Held) (hs : List Held) → (k : Held) × Contains (h ∷ hs) k × (hi (h ∷ hs) ≡ k.n + 1)
unfolding hi
last_held h [] = (h, (0, omega arith, refl), refl)
last_held h (k ∷ hs) = let rest = last_held k hs in (rest.0, Contains-append_right (h ∷ []) (k ∷ hs) rest.0 rest.1, rest.2)

lost_next : (n : ℕ) (held : List Held) → is_lost n held ≡ true → IsLost held n
unfolding hi
lost_next n [] e = let parts = and_parts (not (has_number n [])) (ltb n 0) e in absurd (omega (arith, ltb-true n 0 parts.1))
lost_next n (h ∷ hs) e =
    let parts = and_parts (not (has_number n (h ∷ hs))) (ltb n (hi (h ∷ hs))) e in
    let gone = not_held n (h ∷ hs) (not-true (has_number n (h ∷ hs)) parts.0) in
    let last = last_held h hs in
    let other : last.0.n ≢ n = gone last.0 last.1 in
    record { gone = gone; later = last.0; is_held = last.1; is_later = omega (arith, other, last.2, ltb-true n (hi (h ∷ hs)) parts.1) }

-- how long an open burst has lasted
open_ticks : (s : Settings) (k : ℕ) (history : History) (b : Burst) (a : LastAccept history k) → open_burst s k history ≡ Some b → b.ticks ≡ ticks_begun a.since
open_ticks s k history b a e =
    let is = last_accept s k a.first a.rate a.join a.packet a.since a.before a.last in
    let whole = a.since ++ noted (note.Accept k a.first a.rate a.join) a.packet ∷ a.before in
    let o : open_burst s k whole ≡ Some b = subst (λ (h : History). open_burst s k h ≡ Some b) a.splits e in
    at is.burst is.burst.ended (ap newest_open (sym is.is_newest) ∙ o) ∙ is.is_ticks
  where
    at : (c : Burst) (ended : Option Cause) → if_open ended c ≡ Some b → b.ticks ≡ c.ticks
    at c None q = let this : c ≡ b = cc in ap (λ (x : Burst). x.ticks) (sym this)
    at c (Some why) q = absurd cc

because : (s : Settings) (k : ℕ) (history : History) (b : Burst) (a : LastAccept history k) → open_burst s k history ≡ Some b → IsLegal s history
    → (why : Cause) → EndsFor s history k b why → EndsBecause s history k a.first a.since why
because s k history b a e l cause.Stopped for =
    let o = open_since s k history b a e in
    let at : next b ≡ next_number k a.first a.since = omega (arith, o.first_is, o.count_is) in
    stop_stands k (next_number k a.first a.since) a.since (sym o.stop_is ∙ for ∙ ap (λ (n : ℕ). Some n) at)
because s k history b a e l cause.Lost for =
    let o = open_since s k history b a e in
    let at : next b ≡ next_number k a.first a.since = omega (arith, o.first_is, o.count_is) in
    subst (IsLost (hold s history)) at (lost_next (next b) (hold s history) for.0)
because s k history b a e l cause.Limit for = sym (open_ticks s k history b a e) ∙ for.0
because s k history b a e l cause.Bye for = leaves for.0 for.1 for.2
  where
    leaves : (before : History) (packet : Option Held) → history ≡ noted (note.Bye k) packet ∷ before → Leaves history k
    leaves before packet is =
        let by : IsBye s before k true = (subst (IsLegal s) is l).0 in
        subst (λ (h : History). Leaves h k) (sym is)
        (record {
          message = by.packet;
          asked = is_answered (noted (note.Bye k) packet ∷ before) k (bye by.packet) by.is_answer;
          left = record { packet = packet; later = []; before = before; splits = refl };
        })

pub cause_is_true : (s : Settings) (k : ℕ) (why : Cause) (history : History) → IsLegal s history → Ends s history k why
    → (a : LastAccept history k) × EndsBecause s history k a.first a.since why
cause_is_true s k why history l e =
    let a = accept_of_open s k history e.opened.burst e.opened.is_open in (a, because s k history e.opened.burst a e.opened.is_open l why e.ends)
