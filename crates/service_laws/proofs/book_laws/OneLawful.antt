-- A lawful book tells what the history of its events tells.
use Rattle.std.proofs.Common.{◌≡◌, ◌⊎◌, inl, inr, ⊎_elim, List, [], ◌∷◌, ◌++◌, Option, refl, ap, ap₂, sym, ◌∙◌, append_assoc}
use Rattle.std.specs.Prelude.{option_to_list}
use Rattle.std.proofs.lemmas.List.{append-nil}
use Rattle.rams_model.specs.declared.{Order.Order, Event.Event, Held.Held, Note.Note}
use Rattle.rams_model.specs.Service.{Answered, Settings, Heard, heard_of, Item, began, told, noted, History, order_of, newest_notes, newest_orders, Book, after_hearing, history_of, events_of, IsLawful, book}
use Rattle.rams_model.proofs.OneBook.{same_events, is_lawful, only_book}
use Rattle.service_laws.specs.book_laws.{IsMoment, IsTheBook, notes_in, notes_of, orders_of, TellsTheHistory, WasMade}
use Rattle.rams_model.proofs.Induction.{through_event}

pub the_book : (s : Settings) (events : List Event) → IsTheBook s events (book s events)
the_book s events = record { lawful = is_lawful s events; same_events = same_events s events; only = only_book s events }

pub earlier_lawful : (s : Settings) (later earlier : Book) → IsLawful s (later ++ earlier) → IsLawful s earlier
earlier_lawful s [] earlier l = l
earlier_lawful s (e ∷ later) earlier l = earlier_lawful s later earlier l.1

-- the notes and orders since the last event began stand in front of those that come later
notes_first : (history : History) (xs ys : List Note) → newest_notes history (xs ++ ys) ≡ newest_notes history xs ++ ys
unfolding newest_notes
notes_first [] xs ys = refl
notes_first (began heard ∷ history) xs ys = refl
notes_first (told client message ∷ history) xs ys = notes_first history xs ys
notes_first (noted note packet ∷ history) xs ys = notes_first history (note ∷ xs) ys

orders_first : (s : Settings) (history : History) (xs ys : List Order) → newest_orders s history (xs ++ ys) ≡ newest_orders s history xs ++ ys
unfolding newest_orders
orders_first s [] xs ys = refl
orders_first s (began heard ∷ history) xs ys = refl
orders_first s (told client message ∷ history) xs ys = orders_first s history xs ys
orders_first s (noted note packet ∷ history) xs ys =
    let own = option_to_list (order_of s history note packet) in
    ap (newest_orders s history) (sym (append_assoc own xs ys)) ∙ orders_first s history (own ++ xs) ys

-- After some items of an event, the history tells what it told before the event and then those.
record Goes (s : Settings) (before after : History) : Type 0 where
  notes : notes_of after ≡ notes_of before ++ newest_notes after []
  orders : orders_of s after ≡ orders_of s before ++ newest_orders s after []

begins : (s : Settings) (heard : Heard) (history : History) → Goes s history (began heard ∷ history)
unfolding newest_notes newest_orders
begins s heard history = record { notes = sym (append-nil (notes_of history)); orders = sym (append-nil (orders_of s history)) }

told_too : (s : Settings) (before history : History) (i : Item) → Goes s before history → notes_of (i ∷ history) ≡ notes_of history → orders_of s (i ∷ history) ≡ orders_of s history
    → newest_notes (i ∷ history) [] ≡ newest_notes history [] → newest_orders s (i ∷ history) [] ≡ newest_orders s history [] → Goes s before (i ∷ history)
told_too s before history i g a b c d =
    record { notes = a ∙ g.notes ∙ ap (λ (l : List Note). notes_of before ++ l) (sym c); orders = b ∙ g.orders ∙ ap (λ (l : List Order). orders_of s before ++ l) (sym d) }

noted_too : (s : Settings) (before history : History) (note : Note) (packet : Option Held) → Goes s before history → Goes s before (noted note packet ∷ history)
unfolding newest_notes newest_orders
noted_too s before history note packet g =
    let own = option_to_list (order_of s history note packet) in
    record {
      notes =
          ap (λ (l : List Note). l ++ note ∷ []) g.notes
          ∙ append_assoc (notes_of before) (newest_notes history []) (note ∷ [])
          ∙ ap (λ (l : List Note). notes_of before ++ l) (sym (notes_first history [] (note ∷ [])));
      orders =
          ap (λ (l : List Order). l ++ own) g.orders
          ∙ append_assoc (orders_of s before) (newest_orders s history []) own
          ∙ ap (λ (l : List Order). orders_of s before ++ l) (sym (ap (newest_orders s history) (append-nil own) ∙ orders_first s history [] own));
    }

hearing_goes : (s : Settings) (heard : Heard) (history : History) → Goes s history (after_hearing s heard history)
unfolding newest_notes newest_orders
hearing_goes s heard history =
    through_event (Goes s history) (λ k m after g. told_too s history after (told k m) g refl refl refl refl) (λ n packet after g. noted_too s history after n packet g)
    s heard history (begins s heard history)

pub tells : (s : Settings) (entries : Book) → IsLawful s entries → TellsTheHistory s entries
unfolding history_of
tells s [] l = record { notes = refl; orders = refl }
tells s (e ∷ before) l =
    let rest = tells s before l.1 in
    let history = history_of s (events_of before) in
    let goes = hearing_goes s (heard_of s.channel e.event) history in
    record {
      notes = ap₂ (λ (xs : List Note) (ys : List Note). xs ++ ys) rest.notes (ap (λ (a : Answered). a.notes) l.0) ∙ sym goes.notes;
      orders = ap₂ (λ (xs : List Order) (ys : List Order). xs ++ ys) rest.orders (ap (λ (a : Answered). a.orders) l.0) ∙ sym goes.orders;
    }

-- where one more at the end of some notes stands in a list: it is the last, or stands further on
record IsLast (xs ys zs : List Note) (x y : Note) : Type 0 where
  same_front : xs ≡ ys
  same_note : x ≡ y

record StandsEarlier (xs ys : List Note) (y : Note) : Type 0 where
  rest : List Note
  splits : xs ≡ ys ++ y ∷ rest

no_end : (ys zs : List Note) (y : Note) → [] ≡ ys ++ y ∷ zs → ⊥
no_end [] zs y e = cc
no_end (b ∷ ys) zs y e = cc

at_end : (xs ys zs : List Note) (x y : Note) → xs ++ x ∷ [] ≡ ys ++ y ∷ zs → IsLast xs ys zs x y ⊎ StandsEarlier xs ys y
at_end [] [] zs x y e = inl (record { same_front = refl; same_note = cc })
at_end [] (b ∷ ys) zs x y e = absurd (no_end ys zs y cc)
at_end (a ∷ xs) [] zs x y e = let same : a ≡ y = cc in inr (record { rest = xs; splits = ap (λ (n : Note). n ∷ xs) same })
at_end (a ∷ xs) (b ∷ ys) zs x y e =
    let same : a ≡ b = cc in
    let tails : xs ++ x ∷ [] ≡ ys ++ y ∷ zs = cc in
    ⊎_elim
    (λ (l : IsLast xs ys zs x y). inl (record { same_front = ap₂ (λ (n : Note) (ns : List Note). n ∷ ns) same l.same_front; same_note = l.same_note }))
    (λ (w : StandsEarlier xs ys y). inr (record { rest = w.rest; splits = ap₂ (λ (n : Note) (ns : List Note). n ∷ ns) same w.splits }))
    (at_end xs ys zs x y tails)

-- a note of a history stands in it
pub record StandsIn (history : History) (earlier : List Note) (note : Note) : Type 0 where
  pub packet : Option Held
  pub later : History
  pub before : History
  pub splits : history ≡ later ++ noted note packet ∷ before
  pub stood : notes_of before ≡ earlier

further : (i : Item) (history : History) (earlier : List Note) (note : Note) → StandsIn history earlier note → StandsIn (i ∷ history) earlier note
further i history earlier note w =
    record { packet = w.packet; later = i ∷ w.later; before = w.before; splits = ap (λ (h : History). i ∷ h) w.splits; stood = w.stood }

pub stands_in : (history : History) (earlier later : List Note) (note : Note) → notes_of history ≡ earlier ++ note ∷ later → StandsIn history earlier note
stands_in [] earlier later note e = absurd (no_end earlier later note e)
stands_in (began heard ∷ history) earlier later note e = further (began heard) history earlier note (stands_in history earlier later note e)
stands_in (told client message ∷ history) earlier later note e = further (told client message) history earlier note (stands_in history earlier later note e)
stands_in (noted n packet ∷ history) earlier later note e =
    ⊎_elim
    (λ (l : IsLast (notes_of history) earlier later n note).
    record { packet = packet; later = []; before = history; splits = ap (λ (x : Note). noted x packet ∷ history) l.same_note; stood = l.same_front })
    (λ (w : StandsEarlier (notes_of history) earlier note). further (noted n packet) history earlier note (stands_in history earlier w.rest note w.splits))
    (at_end (notes_of history) earlier later n note e)

pub was_made : (s : Settings) (entries : Book) (earlier later : List Note) (note : Note) → IsLawful s entries → notes_in entries ≡ earlier ++ note ∷ later → WasMade s earlier note
was_made s entries earlier later note l e =
    let w = stands_in (history_of s (events_of entries)) earlier later note (sym (tells s entries l).notes ∙ e) in
    record { packet = w.packet; before = w.before; moment = record { events = events_of entries; later = w.later; splits = w.splits }; stood = w.stood }

-- the notes of a history and of what came before it
notes_more : (later before : History) → notes_of (later ++ before) ≡ notes_of before ++ notes_of later
notes_more [] before = sym (append-nil (notes_of before))
notes_more (began heard ∷ later) before = notes_more later before
notes_more (told client message ∷ later) before = notes_more later before
notes_more (noted note packet ∷ later) before =
    ap (λ (l : List Note). l ++ note ∷ []) (notes_more later before) ∙ append_assoc (notes_of before) (notes_of later) (note ∷ [])

pub in_book : (s : Settings) (note : Note) (packet : Option Held) (before : History) (m : IsMoment s (noted note packet ∷ before))
    → notes_in (book s m.events) ≡ notes_of before ++ note ∷ notes_of m.later
in_book s note packet before m =
    (tells s (book s m.events) (is_lawful s m.events)).notes
    ∙ ap (λ (events : List Event). notes_of (history_of s events)) (same_events s m.events)
    ∙ ap notes_of m.splits
    ∙ notes_more m.later (noted note packet ∷ before)
    ∙ append_assoc (notes_of before) (note ∷ []) (notes_of m.later)
