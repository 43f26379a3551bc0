-- Several events in one turn.
use Rattle.std.proofs.Common.{◌≡◌, ◌≢◌, ℕ, ◌≤◌, ◌==◌, Bool, true, false, List, [], ◌∷◌, ◌++◌, map, length, refl, sym, ap, ◌∙◌, subst, arith, Some}
use Rattle.std.specs.Prelude.{if◌then◌else◌, Result, Ok, Err, MatchResult}
use Rattle.std.proofs.lemmas.Bool.Decides.{nat_tests}
use Rattle.std.proofs.lemmas.List.{append-nil, length-append, length-map}
use Rattle.rams_model.specs.declared.Event.{Event}
use Rattle.rams_model.specs.Service.{Answered}
use Rattle.channel_book.specs.declared.{entry.Entry.Entry, channel_lock.turns.View.View}
use Rattle.channel_book.specs.{IsLegal, calls_by, Kept, StartsWith, HasTaken, HasTakenFront, HasAnsweredAll, HasAnsweredFront}
use Rattle.channel_book.specs.channel_lock.Steps.{Grew}
use Rattle.channel_book.proofs.channel_lock.Beginnings.{calls_append, starts_more}
use Rattle.channel_book.specs.channel_lock.{times}

calls_le : (list : ℕ) (xs : List Entry) → length (calls_by list xs) ≤ length xs
calls_le list [] = omega arith
calls_le list (x ∷ xs) = go (x.list == list) (calls_le list xs)
  where
    go : (b : Bool) → length (calls_by list xs) ≤ length xs → length (if b then x ∷ calls_by list xs else calls_by list xs) ≤ length (x ∷ xs)
    go true h = omega (arith, h)
    go false h = omega (arith, h)

-- calls of one list aren't calls of another
calls_other : (list other : ℕ) → other ≢ list → (xs : List Entry) → calls_by list xs ≡ xs → calls_by other xs ≡ []
calls_other list other apart [] own = refl
calls_other list other apart (x ∷ xs) own = go (x.list == list) (x.list == other) refl refl own (calls_other list other apart xs)
  where
    differ : x.list ≡ list → x.list ≡ other → ⊥
    differ a b = apart (sym b ∙ a)

    go : (b c : Bool) → (x.list == list) ≡ b → (x.list == other) ≡ c → (if b then x ∷ calls_by list xs else calls_by list xs) ≡ x ∷ xs
        → (calls_by list xs ≡ xs → calls_by other xs ≡ []) → (if c then x ∷ calls_by other xs else calls_by other xs) ≡ []
    go false c is isnt e later = absurd (omega (arith, ap length e, calls_le list xs))
    go true true is isnt e later = absurd (differ (grind (arith, nat_tests)) (grind (arith, nat_tests)))
    go true false is isnt e later = let tails : calls_by list xs ≡ xs = cc in later tails

apart_from : (list other : ℕ) → times other (list ∷ []) ≡ 0 → other ≢ list
apart_from list other none is = absurd (alone other list is none)
  where
    alone : (other list : ℕ) → other ≡ list → times other (list ∷ []) ≡ 0 → ⊥
    alone other list is none = grind (arith, nat_tests)

-- the history grew by some calls of the list
grew_by : (list : ℕ) (v : View) (book : Kept) (made : List Entry) → v.owns ≡ list ∷ [] → v.config ≡ Some book.settings → IsLegal book.settings book.entries → calls_by list made ≡ made
    → book.entries ≡ v.log ++ made → length made ≤ v.size → Grew v book
grew_by list v book made owns settings legal own is few = record {
  settings = settings;
  more = made;
  entries = is;
  count = few;
  legal = legal;
  own = λ other none.
      let apart : other ≢ list = apart_from list other (subst (λ (xs : List ℕ). times other xs ≡ 0) owns none) in
      ap (calls_by other) is ∙ (calls_append other v.log made ∙ (ap (λ (l : List Entry). calls_by other v.log ++ l) (calls_other list other apart made own) ∙ append-nil (calls_by other v.log)));
}

count_all : (made : List Entry) (events : List Event) → map (λ (e : Entry). e.event) made ≡ events → length made ≤ length events
count_all made events is = omega (arith, length-map made (λ (e : Entry). e.event), ap length is)

count_front : (made : List Entry) (events rest : List Event) → events ≡ map (λ (e : Entry). e.event) made ++ rest → length made ≤ length events
count_front made events rest is = omega (arith, length-map made (λ (e : Entry). e.event), length-append (map (λ (e : Entry). e.event) made) rest, ap length is)

module _ (list : ℕ) (v : View) (book : Kept) (events : List Event) (owns : v.owns ≡ list ∷ []) (settings : v.config ≡ Some book.settings) (legal : IsLegal book.settings book.entries)
    (size : v.size ≡ length events) where
  grew_all : (answers : List Answered) → HasTaken list events v.log answers book.entries → Grew v book
  grew_all answers t = grew_by list v book t.made owns settings legal t.calls.own t.history (omega (arith, size, count_all t.made events t.calls.events_are))

  grew_front : HasTakenFront list events v.log book.entries → Grew v book
  grew_front t = grew_by list v book t.made owns settings legal t.own t.history (omega (arith, size, count_front t.made events t.rest t.front))

  pub grew_either : {A E : Type 0} (items : A → List Answered) (log : List Entry) → v.log ≡ log → (r : Result A E)
      → MatchResult r (λ a. HasTaken list events log (items a) book.entries) (λ _. HasTakenFront list events log book.entries) → Grew v book
  grew_either items log is (Ok a) t = grew_all (items a) (subst (λ (l : List Entry). HasTaken list events l (items a) book.entries) (sym is) t)
  grew_either items log is (Err e) t = grew_front (subst (λ (l : List Entry). HasTakenFront list events l book.entries) (sym is) t)

-- the book that is out
abbrev pub first_of : Kept → List (ℕ × Kept) → Kept
first_of book [] = book
first_of book (x ∷ xs) = x.1

-- ---- what the caller is told

module _ (list : ℕ) (events : List Event) (seen log new : List Entry) (st : StartsWith log seen) (same : calls_by list log ≡ calls_by list seen) where
  grown_calls : (made : List Entry) → calls_by list made ≡ made → new ≡ log ++ made → calls_by list new ≡ calls_by list seen ++ made
  grown_calls made own is =
      ap (calls_by list) is ∙ (calls_append list log made ∙ (ap (λ (l : List Entry). l ++ calls_by list made) same ∙ ap (λ (l : List Entry). calls_by list seen ++ l) own))

  pub told_all : (place : ℕ) (answers : List Answered) → place ≡ length log → HasTaken list events log answers new → HasAnsweredAll list events seen place answers new
  told_all place answers at t = record {
    between = st.rest;
    made = t.made;
    calls = t.calls;
    history = t.history ∙ ap (λ (l : List Entry). l ++ t.made) st.is;
    place_is = at ∙ ap length st.is;
    own = grown_calls t.made t.calls.own t.history;
  }

  pub told_front : HasTakenFront list events log new → HasAnsweredFront list events seen new
  told_front t = record {
    made = t.made;
    rest = t.rest;
    front = t.front;
    own = grown_calls t.made t.own t.history;
    starts = subst (λ (l : List Entry). StartsWith l seen) (sym t.history) (starts_more log seen t.made st);
  }
