-- What a piece more makes of the lines of some bytes.
use Rattle.std.proofs.Common.{◌≡◌, ℕ, ◌+◌, ◌<◌, ◌==◌, ◌⊎◌, inl, inr, Bool, true, false, ◌||◌, List, [], ◌∷◌, ◌++◌, length, take, drop, refl, sym, ap, subst, ◌∙◌, arith, append_assoc, append-nil, length-append, length-take}
use Rattle.std.specs.Prelude.{if◌then◌else◌}
use Rattle.std.proofs.lemmas.Bool.{eqb-true, or_right}
use Rattle.std.specs.List.{list_any}
use Rattle.rams_model.specs.Texts.{whole_lines, into_first}
use Rattle.line_io.specs.{HasNoFeed, IsCutAt}
use Rattle.line_io.proofs.LineFeeds.{whole_lines-cut, whole_lines-kept, HasNoFeed-append}
use Rattle.takeover.specs.standby.{is_feed, rest_of, first_part, overlong, looked_at}

neither : (a b : Bool) → (a || b) ≡ false → (a ≡ false) × (b ≡ false)
neither false false h = (refl, refl)
neither false true h = absurd cc
neither true b h = absurd cc

-- a test of a list that no element passes, or one
pub no_feed : (xs : List ℕ) → list_any is_feed xs ≡ false → HasNoFeed xs
no_feed [] h = tt
no_feed (x ∷ xs) h = let both = neither (x == 10) (list_any is_feed xs) h in (both.0, no_feed xs both.1)

pub none_feeds : (xs : List ℕ) → HasNoFeed xs → list_any is_feed xs ≡ false
none_feeds [] clean = refl
none_feeds (x ∷ xs) clean = rw (clean.0, none_feeds xs clean.1) refl

any_more : (xs more : List ℕ) → list_any is_feed xs ≡ true → list_any is_feed (xs ++ more) ≡ true
any_more [] more h = absurd cc
any_more (x ∷ xs) more h = by (x == 10) h (any_more xs more)
  where
    by : (t : Bool) → (t || list_any is_feed xs) ≡ true → (list_any is_feed xs ≡ true → list_any is_feed (xs ++ more) ≡ true) → (t || list_any is_feed (xs ++ more)) ≡ true
    by true h rest = refl
    by false h rest = rest h

pub any_fed : (xs : List ℕ) → list_any is_feed (xs ++ 10 ∷ []) ≡ true
any_fed [] = refl
any_fed (x ∷ xs) = or_right (x == 10) (list_any is_feed (xs ++ 10 ∷ [])) (any_fed xs)

-- where there is a line feed there is a whole line
pub record Some (lines : List (List ℕ)) : Type 0 where
  pub line : List ℕ
  pub more : List (List ℕ)
  pub is : lines ≡ line ∷ more

pub has_line : (xs : List ℕ) → list_any is_feed xs ≡ true → Some (whole_lines xs)
unfolding whole_lines
has_line [] h = absurd cc
has_line (x ∷ xs) h = by (x == 10) h (has_line xs)
  where
    by : (t : Bool) → (t || list_any is_feed xs) ≡ true → (list_any is_feed xs ≡ true → Some (whole_lines xs)) → Some (if t then [] ∷ whole_lines xs else into_first x (whole_lines xs))
    by true h rest = record { line = []; more = whole_lines xs; is = refl }
    by false h rest = let some = rest h in record { line = x ∷ some.line; more = some.more; is = ap (into_first x) some.is }

-- the lines of more bytes begin with those of the first, and go on with what is behind them
pub split_lines : (xs more : List ℕ) → whole_lines (xs ++ more) ≡ whole_lines xs ++ whole_lines (rest_of xs ++ more)
unfolding whole_lines rest_of
split_lines [] more = refl
split_lines (x ∷ xs) more = by (list_any is_feed (x ∷ xs)) refl (split_lines xs more)
  where
    fed : (t : Bool) → (t || list_any is_feed xs) ≡ true → whole_lines (xs ++ more) ≡ whole_lines xs ++ whole_lines (rest_of xs ++ more)
        → (if t then [] ∷ whole_lines (xs ++ more) else into_first x (whole_lines (xs ++ more))) ≡ (if t then [] ∷ whole_lines xs else into_first x (whole_lines xs)) ++ whole_lines (rest_of xs ++ more)
    fed true h rest = ap (λ (ls : List (List ℕ)). [] ∷ ls) rest
    fed false h rest =
        let some = has_line xs h in
        let others = whole_lines (rest_of xs ++ more) in
        ap (into_first x) rest ∙ subst (λ (ls : List (List ℕ)). into_first x (ls ++ others) ≡ into_first x ls ++ others) (sym some.is) refl

    by : (t : Bool) → list_any is_feed (x ∷ xs) ≡ t → whole_lines (xs ++ more) ≡ whole_lines xs ++ whole_lines (rest_of xs ++ more)
        → whole_lines (x ∷ (xs ++ more)) ≡ whole_lines (x ∷ xs) ++ whole_lines ((if t then rest_of xs else x ∷ xs) ++ more)
    by true h rest = fed (x == 10) h rest
    by false h rest = ap (λ (ls : List (List ℕ)). ls ++ whole_lines (x ∷ (xs ++ more))) (sym (whole_lines-kept [] (x ∷ xs) (no_feed (x ∷ xs) h)))

pub rest_grows : (xs more : List ℕ) → rest_of (xs ++ more) ≡ rest_of (rest_of xs ++ more)
unfolding rest_of
rest_grows [] more = refl
rest_grows (x ∷ xs) more = by (list_any is_feed (x ∷ xs)) refl (rest_grows xs more)
  where
    by : (t : Bool) → list_any is_feed (x ∷ xs) ≡ t → rest_of (xs ++ more) ≡ rest_of (rest_of xs ++ more) → rest_of (x ∷ (xs ++ more)) ≡ rest_of ((if t then rest_of xs else x ∷ xs) ++ more)
    by true h rest = rw (any_more (x ∷ xs) more h) rest
    by false h rest = refl

-- what stands behind the last line feed has none
pub rest_clean : (xs : List ℕ) → HasNoFeed (rest_of xs)
unfolding rest_of
rest_clean [] = tt
rest_clean (x ∷ xs) = by (list_any is_feed (x ∷ xs)) refl (rest_clean xs)
  where
    by : (t : Bool) → list_any is_feed (x ∷ xs) ≡ t → HasNoFeed (rest_of xs) → HasNoFeed (if t then rest_of xs else x ∷ xs)
    by true h rest = rest
    by false h rest = no_feed (x ∷ xs) h

pub rest_whole : (xs : List ℕ) → HasNoFeed xs → rest_of xs ≡ xs
unfolding rest_of
rest_whole [] clean = refl
rest_whole (x ∷ xs) clean = rw (none_feeds (x ∷ xs) clean) refl

rest_none : (line : List ℕ) → HasNoFeed line → rest_of (line ++ 10 ∷ []) ≡ []
unfolding rest_of
rest_none [] clean = refl
rest_none (x ∷ line) clean = rw (any_fed (x ∷ line)) (rest_none line clean.1)

-- the first part of a piece
pub first_none : (xs : List ℕ) → HasNoFeed xs → first_part xs ≡ xs
unfolding first_part
first_none [] clean = refl
first_none (x ∷ xs) clean = rw clean.0 (ap (λ (l : List ℕ). x ∷ l) (first_none xs clean.1))

first_fed : (front rest : List ℕ) → HasNoFeed front → first_part (front ++ 10 ∷ rest) ≡ front ++ 10 ∷ []
unfolding first_part
first_fed [] rest clean = refl
first_fed (x ∷ front) rest clean = rw clean.0 (ap (λ (l : List ℕ). x ∷ l) (first_fed front rest clean.1))

pub first_cut : (xs : List ℕ) (at : ℕ) → IsCutAt xs at → first_part xs ≡ take at xs ++ 10 ∷ []
first_cut xs at cut = ap first_part cut.whole ∙ first_fed (take at xs) (drop (at + 1) xs) cut.front

pub first_length : (xs : List ℕ) (at : ℕ) → IsCutAt xs at → at + 1 ≡ length (first_part xs)
first_length xs at cut =
    let size = ap length (first_cut xs at cut) in
    omega (arith, size, length-append (take at xs) (10 ∷ []), length-take at xs, cut.inside)

-- The rest of a line and its line feed make one whole line more, and leave nothing.
module _ (bytes rest : List ℕ) (clean : HasNoFeed rest) where
  line_clean : HasNoFeed (rest_of bytes ++ rest)
  line_clean = HasNoFeed-append (rest_of bytes) rest (rest_clean bytes) clean

  pub one_line_more : whole_lines (bytes ++ (rest ++ 10 ∷ [])) ≡ whole_lines bytes ++ (rest_of bytes ++ rest) ∷ []
  unfolding whole_lines
  one_line_more =
      split_lines bytes (rest ++ 10 ∷ [])
      ∙ ap (λ (l : List ℕ). whole_lines bytes ++ whole_lines l) (sym (append_assoc (rest_of bytes) rest (10 ∷ [])))
      ∙ ap (λ (ls : List (List ℕ)). whole_lines bytes ++ ls) (whole_lines-cut (rest_of bytes ++ rest) [] line_clean)

  pub nothing_left : rest_of (bytes ++ (rest ++ 10 ∷ [])) ≡ []
  nothing_left =
      rest_grows bytes (rest ++ 10 ∷ []) ∙ ap rest_of (sym (append_assoc (rest_of bytes) rest (10 ∷ []))) ∙ rest_none (rest_of bytes ++ rest) line_clean

  pub one_more_looked_at : looked_at (bytes ++ (rest ++ 10 ∷ [])) ≡ whole_lines bytes ++ (rest_of bytes ++ rest) ∷ []
  one_more_looked_at =
      ap (λ (l : List ℕ). whole_lines (bytes ++ (rest ++ 10 ∷ [])) ++ overlong l) nothing_left ∙ append-nil (whole_lines (bytes ++ (rest ++ 10 ∷ []))) ∙ one_line_more

-- More of a line that isn't whole makes no line.
module _ (bytes piece : List ℕ) (clean : HasNoFeed piece) where
  pub no_line_more : whole_lines (bytes ++ piece) ≡ whole_lines bytes
  no_line_more = whole_lines-kept bytes piece clean

  pub rest_longer : rest_of (bytes ++ piece) ≡ rest_of bytes ++ piece
  rest_longer = rest_grows bytes piece ∙ rest_whole (rest_of bytes ++ piece) (HasNoFeed-append (rest_of bytes) piece (rest_clean bytes) clean)

  pub looked_at_longer : looked_at (bytes ++ piece) ≡ whole_lines bytes ++ overlong (rest_of bytes ++ piece)
  looked_at_longer = ap (λ (ls : List (List ℕ)). ls ++ overlong (rest_of (bytes ++ piece))) no_line_more ∙ ap (λ (l : List ℕ). whole_lines bytes ++ overlong l) rest_longer

-- the first part of a piece has no line feed, or ends with its only one
abbrev pub IsFirst : List ℕ → Type 0
IsFirst first = HasNoFeed first ⊎ ((front : List ℕ) × HasNoFeed front × (first ≡ front ++ 10 ∷ []))

pub first_is : (piece : List ℕ) → IsFirst (first_part piece)
unfolding first_part
first_is [] = inl tt
first_is (b ∷ bytes) = by (b == 10) refl (first_is bytes)
  where
    by : (t : Bool) → (b == 10) ≡ t → IsFirst (first_part bytes) → IsFirst (if t then b ∷ [] else b ∷ first_part bytes)
    by true is rest = let feed = eqb-true b 10 is in inr ([], tt, ap (λ n. n ∷ []) feed)
    by false is (inl clean) = inl (is, clean)
    by false is (inr fed) = inr (b ∷ fed.0, (is, fed.1), ap (λ (l : List ℕ). b ∷ l) fed.2)

-- it stands in front
pub first_front : (piece : List ℕ) → first_part piece ++ drop (length (first_part piece)) piece ≡ piece
unfolding first_part
first_front [] = refl
first_front (b ∷ bytes) = by (b == 10) (first_front bytes)
  where
    by : (t : Bool) → first_part bytes ++ drop (length (first_part bytes)) bytes ≡ bytes
        → (let first : List ℕ = if t then b ∷ [] else b ∷ first_part bytes in first ++ drop (length first) (b ∷ bytes)) ≡ b ∷ bytes
    by true rest = refl
    by false rest = ap (λ (l : List ℕ). b ∷ l) rest

-- and has a byte where the piece has one
pub first_some : (piece : List ℕ) → 0 < length piece → 0 < length (first_part piece)
unfolding first_part
first_some [] some = some
first_some (b ∷ bytes) some = by (b == 10)
  where
    by : (t : Bool) → 0 < length (if t then b ∷ [] else b ∷ first_part bytes)
    by true = omega arith
    by false = omega arith
