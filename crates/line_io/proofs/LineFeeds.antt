-- Line feeds among bytes, and the lines that they end.
use Rattle.std.proofs.Common.{◌≡◌, ℕ, zero, suc, ◌+◌, ◌<◌, ◌≤◌, ◌==◌, Bool, true, false, List, [], ◌∷◌, ◌++◌, length, get_or, take, drop, refl, sym, ap, subst, ◌∙◌, arith, take-append-drop, take-add, drop-drop, get_or-take, length-take, length-drop}
use Rattle.std.proofs.lemmas.Bool.{eqb-true, eq-eqb}
use Rattle.std.specs.Prelude.{if◌then◌else◌}
use Rattle.std.proofs.lemmas.List.{drop_more}
use Rattle.rams_model.specs.Texts.{lines_of, whole_lines, lines_read, onto_first, into_first}
use Rattle.memchr.specs.Find.{is_byte, Nowhere, NoneBefore, Passes}
use Rattle.line_io.specs.{HasNoFeed, IsCutAt}

false_from_not_true : (b : Bool) → (b ≡ true → ⊥) → b ≡ false
false_from_not_true true none = absurd (none refl)
false_from_not_true false none = refl

HasNoFeed-from_places : (xs : List ℕ) → ((k : ℕ) → k < length xs → (get_or xs k 0 == 10) ≡ true → ⊥) → HasNoFeed xs
HasNoFeed-from_places [] none = tt
HasNoFeed-from_places (x ∷ xs) none =
    (false_from_not_true (x == 10) (none 0 (omega arith)), HasNoFeed-from_places xs (λ k inside. none (suc k) (omega arith)))

pub HasNoFeed-append : (xs ys : List ℕ) → HasNoFeed xs → HasNoFeed ys → HasNoFeed (xs ++ ys)
HasNoFeed-append [] ys front back = back
HasNoFeed-append (x ∷ xs) ys front back = (front.0, HasNoFeed-append xs ys front.1 back)

-- a search that finds no feed
pub HasNoFeed-searched : (xs : List ℕ) (seen : ℕ) → HasNoFeed (take seen xs)
    → Nowhere (Passes (is_byte 10) (drop seen xs)) 0 (length (drop seen xs)) → HasNoFeed xs
HasNoFeed-searched xs seen front none =
    subst HasNoFeed (take-append-drop seen xs)
    (HasNoFeed-append (take seen xs) (drop seen xs) front (HasNoFeed-from_places (drop seen xs) (λ k inside. none k (omega arith) inside)))

-- a search that finds a feed
pub IsCutAt-searched : (xs : List ℕ) (seen at : ℕ) → seen ≤ length xs → HasNoFeed (take seen xs)
    → NoneBefore (Passes (is_byte 10) (drop seen xs)) 0 (length (drop seen xs)) at → Passes (is_byte 10) (drop seen xs) at → IsCutAt xs (seen + at)
IsCutAt-searched xs seen at within front none here =
    let fresh = drop seen xs in
    let inside : at < length fresh = none.high in
    let clean : HasNoFeed (take at fresh) =
    HasNoFeed-from_places (take at fresh) (λ k low passes.
    let below : k < at = omega (arith, length-take at fresh) in
    none.before k (omega arith) below (subst (λ (b : ℕ). (b == 10) ≡ true) (get_or-take at fresh k 0 below) passes)) in
    let feed : get_or fresh at 0 ≡ 10 = eqb-true (get_or fresh at 0) 10 here in
    let next : seen + (at + 1) ≡ seen + at + 1 = omega arith in
    let back : drop (seen + at) xs ≡ 10 ∷ drop (seen + at + 1) xs =
    sym (drop-drop at seen xs) ∙ drop_more fresh at 0 inside ∙ ap (λ (b : ℕ). b ∷ drop (at + 1) fresh) feed
    ∙ ap (λ (bs : List ℕ). 10 ∷ bs) (drop-drop (at + 1) seen xs ∙ ap (λ n. drop n xs) next) in
    record {
      inside = omega (arith, length-drop seen xs);
      front = subst HasNoFeed (sym (take-add seen at xs)) (HasNoFeed-append (take seen xs) (take at fresh) front clean);
      whole = sym (take-append-drop (seen + at) xs) ∙ ap (λ (bs : List ℕ). take (seen + at) xs ++ bs) back;
    }

-- a feed among bytes that have none
pub HasNoFeed-contains : (xs : List ℕ) (k : ℕ) → HasNoFeed xs → k < length xs → get_or xs k 10 ≡ 10 → ⊥
HasNoFeed-contains [] k clean inside is = omega arith
HasNoFeed-contains (x ∷ xs) zero clean inside is = let feed = eq-eqb x 10 is in let other = clean.0 in cc
HasNoFeed-contains (x ∷ xs) (suc k) clean inside is = HasNoFeed-contains xs k clean.1 (omega arith) is

-- the first feed ends the first line
pub lines_of-cut : (front rest : List ℕ) → HasNoFeed front → lines_of (front ++ 10 ∷ rest) ≡ front ∷ lines_of rest
unfolding lines_of
lines_of-cut [] rest clean = refl
lines_of-cut (b ∷ front) rest clean = rw (clean.0, lines_of-cut front rest clean.1) refl

pub whole_lines-cut : (front rest : List ℕ) → HasNoFeed front → whole_lines (front ++ 10 ∷ rest) ≡ front ∷ whole_lines rest
unfolding whole_lines
whole_lines-cut [] rest clean = refl
whole_lines-cut (b ∷ front) rest clean = rw (clean.0, whole_lines-cut front rest clean.1) refl

pub lines_read-cut : (front rest left : List ℕ) → HasNoFeed front → lines_read (front ++ 10 ∷ rest) left ≡ front ∷ lines_read rest left
lines_read-cut front rest [] clean = lines_of-cut front rest clean
lines_read-cut front rest (b ∷ left) clean = whole_lines-cut front rest clean

-- bytes with no feed are no whole line
pub whole_lines-none : (xs : List ℕ) → HasNoFeed xs → whole_lines xs ≡ []
unfolding whole_lines
whole_lines-none [] clean = refl
whole_lines-none (b ∷ xs) clean = rw (clean.0, whole_lines-none xs clean.1) refl

-- nor do they make one behind others
pub whole_lines-kept : (xs kept : List ℕ) → HasNoFeed kept → whole_lines (xs ++ kept) ≡ whole_lines xs
unfolding whole_lines
whole_lines-kept [] kept clean = whole_lines-none kept clean
whole_lines-kept (b ∷ xs) kept clean = ap (λ (t : List (List ℕ)). if b == 10 then [] ∷ t else into_first b t) (whole_lines-kept xs kept clean)

-- bytes with no feed are one line
pub lines_of-all : (xs : List ℕ) → HasNoFeed xs → 0 < length xs → lines_of xs ≡ xs ∷ []
unfolding lines_of
lines_of-all [] clean some = absurd (omega arith)
lines_of-all (b ∷ []) clean some = rw clean.0 refl
lines_of-all (b ∷ c ∷ xs) clean some = rw (clean.0, lines_of-all (c ∷ xs) clean.1 (omega arith)) refl

-- the first of some pieces begins with this front
pub record Begins (front : List ℕ) (pieces : List (List ℕ)) : Type 0 where
  pub more : List ℕ
  pub rest : List (List ℕ)
  pub whole : pieces ≡ (front ++ more) ∷ rest

onto_first-begins : (b : ℕ) (pieces : List (List ℕ)) → Begins (b ∷ []) (onto_first b pieces)
onto_first-begins b [] = record { more = []; rest = []; whole = refl }
onto_first-begins b (piece ∷ pieces) = record { more = piece; rest = pieces; whole = refl }

onto_first-longer : (b : ℕ) (front : List ℕ) (pieces : List (List ℕ)) → Begins front pieces → Begins (b ∷ front) (onto_first b pieces)
onto_first-longer b front pieces begins = record { more = begins.more; rest = begins.rest; whole = ap (onto_first b) begins.whole }

-- the first line goes on as long as there is no feed
pub lines_of-begins : (front rest : List ℕ) → HasNoFeed front → 0 < length front → Begins front (lines_of (front ++ rest))
unfolding lines_of
lines_of-begins [] rest clean some = absurd (omega arith)
lines_of-begins (b ∷ []) rest clean some = rw clean.0 (onto_first-begins b (lines_of rest))
lines_of-begins (b ∷ c ∷ front) rest clean some =
    rw clean.0 (onto_first-longer b (c ∷ front) (lines_of ((c ∷ front) ++ rest)) (lines_of-begins (c ∷ front) rest clean.1 (omega arith)))
