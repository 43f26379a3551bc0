-- What a call tells the caller who shares a channel.
use Rattle.std.specs.Prelude.{◌≡◌, ℕ, List, [], ◌∷◌, ◌++◌, map, length, Result, MatchResult}
use Rattle.rams_model.specs.declared.Event.{Event}
use Rattle.rams_model.specs.Service.{Answered}
use Rattle.channel_book.specs.declared.entry.Entry.{Entry}
use Rattle.channel_book.specs.Histories.{entry, calls_by}

-- The history begins so.
pub record StartsWith (history front : List Entry) : Type 0 where
  pub rest : List Entry
  pub is : history ≡ front ++ rest

-- The history that is seen now goes on from the one seen before, and ends with this call. Of the calls of this list it has this one more.
pub record HasAnswered (list : ℕ) (event : Event) (old : List Entry) (place : ℕ) (a : Answered) (new : List Entry) : Type 0 where
  pub between : List Entry
  pub history : new ≡ (old ++ between) ++ entry list event a ∷ []
  pub place_is : place ≡ length (old ++ between)
  pub own : calls_by list new ≡ calls_by list old ++ entry list event a ∷ []

-- More may be seen, but no call of this list.
pub record HasSeenMore (list : ℕ) (old new : List Entry) : Type 0 where
  pub starts : StartsWith new old
  pub own : calls_by list new ≡ calls_by list old

-- what a call tells, by whether it answered
abbrev pub Tells : {E : Type 0} → ℕ → Event → List Entry → Result (ℕ × Answered) E → List Entry → Type 0
Tells list event old result new = MatchResult result (λ r. HasAnswered list event old r.0 r.1 new) (λ _. HasSeenMore list old new)

-- ---- several calls in one turn

-- The entries are calls of the list, with these events and these answers.
pub record AreCalls (list : ℕ) (events : List Event) (answers : List Answered) (made : List Entry) : Type 0 where
  pub own : calls_by list made ≡ made
  pub events_are : map (λ (e : Entry). e.event) made ≡ events
  pub answers_are : map (λ (e : Entry). e.answer) made ≡ answers

-- The entries go on with a call of the list for each of these events, and with no other.
pub record HasTaken (list : ℕ) (events : List Event) (old : List Entry) (answers : List Answered) (new : List Entry) : Type 0 where
  pub made : List Entry
  pub calls : AreCalls list events answers made
  pub history : new ≡ old ++ made

-- They go on so with a front of these events.
pub record HasTakenFront (list : ℕ) (events : List Event) (old new : List Entry) : Type 0 where
  pub made : List Entry
  pub rest : List Event
  pub front : events ≡ map (λ (e : Entry). e.event) made ++ rest
  pub own : calls_by list made ≡ made
  pub history : new ≡ old ++ made

-- The history that is seen now goes on from the one seen before, and ends with a call for each of these events, side by side from this place on. Of the calls of this list it has these more.
pub record HasAnsweredAll (list : ℕ) (events : List Event) (old : List Entry) (place : ℕ) (answers : List Answered) (new : List Entry) : Type 0 where
  pub between : List Entry
  pub made : List Entry
  pub calls : AreCalls list events answers made
  pub history : new ≡ (old ++ between) ++ made
  pub place_is : place ≡ length (old ++ between)
  pub own : calls_by list new ≡ calls_by list old ++ made

-- More may be seen. Of the calls of this list it has those of a front of these events.
pub record HasAnsweredFront (list : ℕ) (events : List Event) (old new : List Entry) : Type 0 where
  pub made : List Entry
  pub rest : List Event
  pub front : events ≡ map (λ (e : Entry). e.event) made ++ rest
  pub own : calls_by list new ≡ calls_by list old ++ made
  pub starts : StartsWith new old
