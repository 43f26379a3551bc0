-- Calls of a list, piece by piece, and their places.
use Rattle.std.proofs.Common.{◌≡◌, ℕ, ◌+◌, ◌≤◌, ◌==◌, Bool, true, false, List, [], ◌∷◌, ◌++◌, map, length, refl, sym, ap, ◌∙◌, subst, arith, append_assoc}
use Rattle.std.specs.Prelude.{if◌then◌else◌, Result, Ok, Err, OnOk, MatchResult}
use Rattle.std.proofs.lemmas.List.{append-nil, length-append, length-map, map-append}
use Rattle.std.proofs.lemmas.List.Elements.{filter-append}
use Rattle.rams_model.specs.declared.Event.{Event}
use Rattle.rams_model.specs.Service.{Settings, Answered}
use Rattle.channel_book.specs.declared.Entry.{Entry}
use Rattle.channel_book.specs.{is_of, calls_by, StartsWith, HasAnsweredAll, HasAnsweredFront}
use Rattle.threads_loop.specs.declared.session_worker.live_writer.writer.Placed.{Placed}
use Rattle.threads_loop.specs.session_worker.live_writer.{places_from, places_by, datagrams_of, HasDrawn, HasWritten, HasWrittenPiece}
use Rattle.channel_book.specs.channel_lock.{numbers}
use Rattle.channel_book.proofs.channel_lock.Numbers.{numbers_snoc}

-- ---- beginnings

starts_over : (new middle old : List Entry) → StartsWith new middle → StartsWith middle old → StartsWith new old
starts_over new middle old outer inner = record {
  rest = inner.rest ++ outer.rest;
  is = outer.is ∙ ap (λ l. l ++ outer.rest) inner.is ∙ append_assoc old inner.rest outer.rest;
}

-- ---- places

module _ (list : ℕ) where
  places_append : (first : ℕ) (xs ys : List Entry) → places_from list first (xs ++ ys) ≡ places_from list first xs ++ places_from list (first + length xs) ys
  places_append first [] ys = ap (λ n. places_from list n ys) (omega arith)
  places_append first (x ∷ xs) ys =
      let n : first + 1 + length xs ≡ first + length (x ∷ xs) = omega arith in
      go (x.list == list) (places_append (first + 1) xs ys ∙ ap (λ k. places_from list (first + 1) xs ++ places_from list k ys) n)
    where
      go : (b : Bool) → places_from list (first + 1) (xs ++ ys) ≡ places_from list (first + 1) xs ++ places_from list (first + length (x ∷ xs)) ys
          → (if b then first ∷ places_from list (first + 1) (xs ++ ys) else places_from list (first + 1) (xs ++ ys))
          ≡ (if b then first ∷ places_from list (first + 1) xs else places_from list (first + 1) xs) ++ places_from list (first + length (x ∷ xs)) ys
      go true shifted = ap (λ l. first ∷ l) shifted
      go false shifted = shifted

  -- where none of the calls is of the list, none has a place
  no_places : (first : ℕ) (xs : List Entry) → calls_by list xs ≡ [] → places_from list first xs ≡ []
  no_places first [] empty = refl
  no_places first (x ∷ xs) empty = go (x.list == list) (λ e. no_places (first + 1) xs e) empty
    where
      go : (b : Bool) → (calls_by list xs ≡ [] → places_from list (first + 1) xs ≡ []) → (if b then x ∷ calls_by list xs else calls_by list xs) ≡ []
          → (if b then first ∷ places_from list (first + 1) xs else places_from list (first + 1) xs) ≡ []
      go true later e = absurd (omega (arith, ap length e))
      go false later e = later e

  calls_le : (xs : List Entry) → length (calls_by list xs) ≤ length xs
  calls_le [] = omega arith
  calls_le (x ∷ xs) = go (x.list == list) (calls_le xs)
    where
      go : (b : Bool) → length (calls_by list xs) ≤ length xs → length (if b then x ∷ calls_by list xs else calls_by list xs) ≤ length (x ∷ xs)
      go true h = omega (arith, h)
      go false h = omega (arith, h)

  -- where all calls are of the list, each has a place
  all_places : (first : ℕ) (xs : List Entry) → calls_by list xs ≡ xs → places_from list first xs ≡ numbers first (length xs)
  all_places first [] own = refl
  all_places first (x ∷ xs) own = go (x.list == list) (all_places (first + 1) xs) own
    where
      go : (b : Bool) → (calls_by list xs ≡ xs → places_from list (first + 1) xs ≡ numbers (first + 1) (length xs)) → (if b then x ∷ calls_by list xs else calls_by list xs) ≡ x ∷ xs
          → (if b then first ∷ places_from list (first + 1) xs else places_from list (first + 1) xs) ≡ numbers first (length (x ∷ xs))
      go true later e = let tails : calls_by list xs ≡ xs = cc in ap (λ (l : List ℕ). first ∷ l) (later tails)
      go false later e = absurd (omega (arith, ap length e, calls_le xs))

zero_more : (n : ℕ) → 0 + n ≡ n
zero_more n = omega arith

no_more : (xs : List Entry) → length xs ≡ 0 → xs ≡ []
no_more [] e = refl
no_more (x ∷ xs) e = absurd (omega (arith, e))

-- the places of the calls of a turn are those behind what was seen
placed_last : (list : ℕ) (events : List Event) (old : List Entry) (place : ℕ) (answers : List Answered) (new : List Entry) → HasAnsweredAll list events old place answers new
    → places_by list new ≡ places_by list old ++ numbers place (length answers)
placed_last list events old place answers new h =
    let calls : calls_by list new ≡ (calls_by list old ++ calls_by list h.between) ++ h.made =
    ap (calls_by list) h.history ∙ filter-append (is_of list) (old ++ h.between) h.made
    ∙ ap (λ (l : List Entry). l ++ calls_by list h.made) (filter-append (is_of list) old h.between)
    ∙ ap (λ (l : List Entry). (calls_by list old ++ calls_by list h.between) ++ l) h.calls.own in
    let none : calls_by list h.between ≡ [] =
    no_more (calls_by list h.between) (omega (arith, ap length (sym calls ∙ h.own), length-append (calls_by list old ++ calls_by list h.between) h.made, length-append (calls_by list old) (calls_by list h.between), length-append (calls_by list old) h.made)) in
    let front : places_by list (old ++ h.between) ≡ places_by list old =
    places_append list 0 old h.between ∙ ap (λ (l : List ℕ). places_by list old ++ l) (no_places list (0 + length old) h.between none) ∙ append-nil (places_by list old) in
    let first : 0 + length (old ++ h.between) ≡ place = zero_more (length (old ++ h.between)) ∙ sym h.place_is in
    let count : length h.made ≡ length answers = sym (length-map h.made (λ (e : Entry). e.answer)) ∙ ap length h.calls.answers_are in
    let last : places_from list (0 + length (old ++ h.between)) h.made ≡ numbers place (length answers) =
    ap (λ (n : ℕ). places_from list n h.made) first ∙ (all_places list place h.made h.calls.own ∙ ap (numbers place) count) in
    ap (places_by list) h.history ∙ places_append list 0 (old ++ h.between) h.made ∙ ap (λ (l : List ℕ). l ++ places_from list (0 + length (old ++ h.between)) h.made) front
    ∙ ap (λ (l : List ℕ). places_by list old ++ l) last

starts_answered : (list : ℕ) (events : List Event) (old : List Entry) (place : ℕ) (answers : List Answered) (new : List Entry) → HasAnsweredAll list events old place answers new → StartsWith new old
starts_answered list events old place answers new h = record {
  rest = h.between ++ h.made;
  is = h.history ∙ append_assoc old h.between h.made;
}

-- ---- what is drawn

pub draws_on : (place : ℕ) (drawn : List (List (List ℕ))) (old all : List Placed) (p : Placed) → HasDrawn place drawn old all → p.place ≡ place + length drawn
    → HasDrawn place (drawn ++ p.datagrams.items ∷ []) old (all ++ p ∷ [])
draws_on place drawn old all p h at = record {
  placed = h.placed ++ p ∷ [];
  items = ap (λ (l : List Placed). l ++ p ∷ []) h.items ∙ append_assoc old h.placed (p ∷ []);
  places_are = map-append (λ (x : Placed). x.place) h.placed (p ∷ []) ∙ ap (λ (l : List ℕ). l ++ p.place ∷ []) h.places_are
      ∙ ap (λ (k : ℕ). numbers place (length drawn) ++ k ∷ []) at
      ∙ sym (numbers_snoc place (length drawn))
      ∙ ap (numbers place) (sym (length-append drawn (p.datagrams.items ∷ [])));
  drawn_are = map-append (λ (x : Placed). x.datagrams.items) h.placed (p ∷ []) ∙ ap (λ (l : List (List (List ℕ))). l ++ p.datagrams.items ∷ []) h.drawn_are;
}

-- ---- a piece

drawn_entries : (s : Settings) (made : List Entry) → map (datagrams_of s) (map (λ (e : Entry). e.answer) made) ≡ map (λ (e : Entry). datagrams_of s e.answer) made
drawn_entries s [] = refl
drawn_entries s (e ∷ made) = ap (λ (l : List (List (List ℕ))). datagrams_of s e.answer ∷ l) (drawn_entries s made)

-- its answers and their datagrams
writes_piece : (list : ℕ) (s : Settings) (events : List Event) (old : List Entry) (place : ℕ) (answers : List Answered) (new : List Entry) (before after : List Placed)
    → HasAnsweredAll list events old place answers new → HasDrawn place (map (datagrams_of s) answers) before after → HasWrittenPiece list s events old before after new
writes_piece list s events old place answers new before after h d = record {
  placed = d.placed;
  items = d.items;
  written = record {
    made = h.made;
    events_are = h.calls.events_are;
    own = h.own;
    starts = starts_answered list events old place answers new h;
    places = placed_last list events old place answers new h
        ∙ ap (λ (l : List ℕ). places_by list old ++ l) (ap (numbers place) (sym (length-map answers (datagrams_of s))) ∙ sym d.places_are);
    drawn = d.drawn_are ∙ (ap (map (datagrams_of s)) (sym h.calls.answers_are) ∙ drawn_entries s h.made);
  };
}

-- its calls were answered, and not all was drawn
answers_front : (list : ℕ) (events : List Event) (old : List Entry) (place : ℕ) (answers : List Answered) (new : List Entry) → HasAnsweredAll list events old place answers new
    → HasAnsweredFront list events old new
answers_front list events old place answers new h = record {
  made = h.made;
  rest = [];
  front = sym (append-nil (map (λ (e : Entry). e.event) h.made) ∙ h.calls.events_are);
  own = h.own;
  starts = starts_answered list events old place answers new h;
}

pub length_answers : (list : ℕ) (events : List Event) (old : List Entry) (place : ℕ) (answers : List Answered) (new : List Entry) → HasAnsweredAll list events old place answers new
    → length answers ≡ length events
length_answers list events old place answers new h =
    omega (arith, ap length h.calls.events_are, ap length h.calls.answers_are, length-map h.made (λ (e : Entry). e.event), length-map h.made (λ (e : Entry). e.answer))

-- what a piece tells, by whether all was drawn
pub piece_told : {A E : Type 0} (list : ℕ) (s : Settings) (events : List Event) (old : List Entry) (place : ℕ) (answers : List Answered) (new : List Entry) (before after : List Placed) (r : Result A E)
    → HasAnsweredAll list events old place answers new → OnOk r (HasDrawn place (map (datagrams_of s) answers) before after)
    → MatchResult r (λ _. HasWrittenPiece list s events old before after new) (λ _. HasAnsweredFront list events old new)
piece_told list s events old place answers new before after (Ok x) h drawn = writes_piece list s events old place answers new before after h drawn
piece_told list s events old place answers new before after (Err e) h drawn = answers_front list events old place answers new h

-- ---- one piece more

pub nothing_written : (list : ℕ) (s : Settings) (old : List Entry) → HasWritten list s [] old [] old
nothing_written list s old = record {
  made = [];
  events_are = refl;
  own = sym (append-nil (calls_by list old));
  starts = record { rest = []; is = sym (append-nil old) };
  places = sym (append-nil (places_by list old));
  drawn = refl;
}

pub writes_on : (list : ℕ) (s : Settings) (events more : List Event) (old : List Entry) (all after : List Placed) (middle new : List Entry) → HasWritten list s events old all middle
    → HasWrittenPiece list s more middle all after new → HasWritten list s (events ++ more) old after new
writes_on list s events more old all after middle new w piece =
    let h = piece.written in
    let p = piece.placed in
    subst (λ (l : List Placed). HasWritten list s (events ++ more) old l new) (sym piece.items) (record {
      made = w.made ++ h.made;
      events_are = map-append (λ (x : Entry). x.event) w.made h.made ∙ ap (λ (l : List Event). l ++ map (λ (x : Entry). x.event) h.made) w.events_are ∙ ap (λ (l : List Event). events ++ l) h.events_are;
      own = h.own ∙ ap (λ (l : List Entry). l ++ h.made) w.own ∙ append_assoc (calls_by list old) w.made h.made;
      starts = starts_over new middle old h.starts w.starts;
      places = h.places ∙ ap (λ (l : List ℕ). l ++ map (λ (x : Placed). x.place) p) w.places
          ∙ append_assoc (places_by list old) (map (λ (x : Placed). x.place) all) (map (λ (x : Placed). x.place) p)
          ∙ ap (λ (l : List ℕ). places_by list old ++ l) (sym (map-append (λ (x : Placed). x.place) all p));
      drawn = map-append (λ (x : Placed). x.datagrams.items) all p ∙ ap (λ (l : List (List (List ℕ))). l ++ map (λ (x : Placed). x.datagrams.items) p) w.drawn
          ∙ ap (λ (l : List (List (List ℕ))). map (λ (x : Entry). datagrams_of s x.answer) w.made ++ l) h.drawn ∙ sym (map-append (λ (x : Entry). datagrams_of s x.answer) w.made h.made);
    })

pub no_front : (list : ℕ) (events : List Event) (old : List Entry) → HasAnsweredFront list events old old
no_front list events old = record {
  made = [];
  rest = events;
  front = refl;
  own = sym (append-nil (calls_by list old));
  starts = record { rest = []; is = sym (append-nil old) };
}

-- the next piece, of which a front was taken
pub tries_on : (list : ℕ) (s : Settings) (events piece later : List Event) (old : List Entry) (all : List Placed) (middle new : List Entry) → HasWritten list s events old all middle
    → HasAnsweredFront list piece middle new → HasAnsweredFront list (events ++ (piece ++ later)) old new
tries_on list s events piece later old all middle new w h =
    let of : Entry → Event = λ (x : Entry). x.event in record {
      made = w.made ++ h.made;
      rest = h.rest ++ later;
      front = ap (λ (l : List Event). l ++ (piece ++ later)) (sym w.events_are) ∙ ap (λ (l : List Event). map of w.made ++ (l ++ later)) h.front
          ∙ ap (λ (l : List Event). map of w.made ++ l) (append_assoc (map of h.made) h.rest later)
          ∙ sym (append_assoc (map of w.made) (map of h.made) (h.rest ++ later))
          ∙ ap (λ (l : List Event). l ++ (h.rest ++ later)) (sym (map-append of w.made h.made));
      own = h.own ∙ ap (λ (l : List Entry). l ++ h.made) w.own ∙ append_assoc (calls_by list old) w.made h.made;
      starts = starts_over new middle old h.starts w.starts;
    }
