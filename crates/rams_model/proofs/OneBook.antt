-- The book of some events is lawful, and the only one of them that is.
use Rattle.std.proofs.Common.{◌≡◌, List, [], ◌∷◌, refl, ap, ap₂, sym, ◌∙◌}
use Rattle.rams_model.specs.declared.event.Event.{Event}
use Rattle.rams_model.specs.Service.{Answered, Settings, Book, IsLawful, events_of, answer, book}

pub same_events : (s : Settings) (events : List Event) → events_of (book s events) ≡ events
unfolding book
same_events s [] = refl
same_events s (event ∷ events) = ap (λ (l : List Event). event ∷ l) (same_events s events)

pub is_lawful : (s : Settings) (events : List Event) → IsLawful s (book s events)
unfolding book
is_lawful s [] = tt
is_lawful s (event ∷ events) = (ap (λ (l : List Event). answer s l event) (sym (same_events s events)), is_lawful s events)

-- a lawful book is the book of its events
own_book : (s : Settings) (other : Book) → IsLawful s other → other ≡ book s (events_of other)
unfolding book
own_book s [] l = refl
own_book s (e ∷ before) l =
    ap₂ (λ (a : Answered) (b : Book). (record { event = e.event; answer = a }) ∷ b) l.0 (own_book s before l.1)

pub only_book : (s : Settings) (events : List Event) (other : Book) → IsLawful s other → events_of other ≡ events → other ≡ book s events
only_book s events other l e = own_book s other l ∙ ap (book s) e
