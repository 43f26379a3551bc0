-- The next line of what is kept and what the source has left.
use Rattle.std.proofs.Common.{◌≡◌, ℕ, ◌+◌, ◌<◌, ◌≤◌, List, [], ◌∷◌, ◌++◌, length, take, drop, Option, Some, None, refl, sym, ap, ◌∙◌, arith, append_assoc, append-nil, length-take, length-append, take-append-drop, inl, inr, Result, Ok, Err, OnErr}
use Rattle.std.proofs.lemmas.List.{take-append-le}
use Rattle.std.specs.Io.KnownBytes.{Keeps, Consumes, IsAtEnd, prepend_known}
use Rattle.rams_model.specs.Texts.{lines_of}
pub use Rattle.rams_model.proofs.ListFacts.{on_failure}
use Rattle.line_io.specs.declared.reader.Next.TheVariants.{Line, Long, End}
use Rattle.line_io.specs.{HasNoFeed, IsCutAt, IsCutOff, TakesNext}
use Rattle.line_io.proofs.LineFeeds.{lines_of-cut, lines_of-all, lines_of-begins}

in_front_of_feed : (kept : List ℕ) (at : ℕ) (xs ys : List ℕ) → IsCutAt kept at → kept ++ ys ≡ xs → xs ≡ take at kept ++ (10 ∷ (drop (at + 1) kept ++ ys))
in_front_of_feed kept at xs ys cut all =
    sym all ∙ ap (λ (t : List ℕ). t ++ ys) cut.whole ∙ append_assoc (take at kept) (10 ∷ drop (at + 1) kept) ys

first_line : (kept : List ℕ) (at : ℕ) (xs ys : List ℕ) → IsCutAt kept at → kept ++ ys ≡ xs → lines_of xs ≡ take at kept ∷ lines_of (drop (at + 1) kept ++ ys)
first_line kept at xs ys cut all =
    ap lines_of (in_front_of_feed kept at xs ys cut all) ∙ lines_of-cut (take at kept) (drop (at + 1) kept ++ ys) cut.front

cut_off_by_feed : (kept : List ℕ) (at : ℕ) (xs ys : List ℕ) → IsCutAt kept at → kept ++ ys ≡ xs → IsCutOff xs (drop (at + 1) kept ++ ys) (take at kept)
cut_off_by_feed kept at xs ys cut all = record { clean = cut.front; whole = inl (in_front_of_feed kept at xs ys cut all) }

-- a line that its feed ends
pub TakesNext-cut : (kept now line : List ℕ) (at : ℕ) → IsCutAt kept at → at ≤ 4096 → line ≡ take at kept → now ≡ drop (at + 1) kept
    → (a b : Option (List ℕ)) → Keeps a (prepend_known kept b) → TakesNext a (prepend_known now b) line Line
TakesNext-cut kept now line at cut small is rest None b same = tt
TakesNext-cut kept now line at cut small is rest (Some xs) None same = absurd same
TakesNext-cut kept now line at cut small is rest (Some xs) (Some ys) same =
    rw (is, rest) (first_line kept at xs ys cut same, omega (arith, length-take at kept), cut_off_by_feed kept at xs ys cut same)

-- a line that its feed ends too late
pub TakesNext-cut_late : (kept now line : List ℕ) (at : ℕ) → IsCutAt kept at → 4096 < at → line ≡ take 4097 kept
    → (a b : Option (List ℕ)) → Keeps a (prepend_known kept b) → TakesNext a (prepend_known now b) line Long
TakesNext-cut_late kept now line at cut large is None b same = tt
TakesNext-cut_late kept now line at cut large is (Some xs) None same = absurd same
TakesNext-cut_late kept now line at cut large is (Some xs) (Some ys) same =
    let size = length-take at kept in
    let inside = cut.inside in
    let long : 4096 < length (take at kept) = omega arith in
    let front : take 4097 kept ≡ take 4097 (take at kept) =
    ap (take 4097) (sym (take-append-drop at kept)) ∙ take-append-le 4097 (take at kept) (drop at kept) (omega arith) in
    (take at kept, lines_of (drop (at + 1) kept ++ ys), first_line kept at xs ys cut same, long, is ∙ front)

-- a line with no feed so far that is too long
pub TakesNext-long : (kept now line : List ℕ) → HasNoFeed kept → 4096 < length kept → line ≡ take 4097 kept
    → (a b : Option (List ℕ)) → Keeps a (prepend_known kept b) → TakesNext a (prepend_known now b) line Long
TakesNext-long kept now line clean large is None b same = tt
TakesNext-long kept now line clean large is (Some xs) None same = absurd same
TakesNext-long kept now line clean large is (Some xs) (Some ys) same =
    let begins = lines_of-begins kept ys clean (omega arith) in
    let long : 4096 < length (kept ++ begins.more) = omega (arith, length-append kept begins.more) in
    (kept ++ begins.more, begins.rest, ap lines_of (sym same) ∙ begins.whole, long, is ∙ sym (take-append-le 4097 kept begins.more (omega arith)))

-- the last line lacks its feed
pub TakesNext-last : (kept now line : List ℕ) → HasNoFeed kept → 0 < length kept → length kept ≤ 4096 → line ≡ kept → now ≡ []
    → (a b : Option (List ℕ)) → Keeps a (prepend_known kept b) → IsAtEnd b → TakesNext a (prepend_known now b) line Line
unfolding lines_of
TakesNext-last kept now line clean some small is none None b same end = tt
TakesNext-last kept now line clean some small is none (Some xs) None same end = absurd same
TakesNext-last kept now line clean some small is none (Some xs) (Some ys) same end =
    let whole : xs ≡ kept = sym same ∙ ap (λ (t : List ℕ). kept ++ t) end ∙ append-nil kept in
    rw (is, none, end, whole) (lines_of-all kept clean some, small, record { clean = clean; whole = inr (refl, refl) })

-- nothing is left
pub TakesNext-end : (kept line : List ℕ) → kept ≡ []
    → (a b : Option (List ℕ)) → Keeps a (prepend_known kept b) → IsAtEnd b → TakesNext a (prepend_known kept b) line End
unfolding lines_of
TakesNext-end kept line none None b same end = tt
TakesNext-end kept line none (Some xs) None same end = absurd same
TakesNext-end kept line none (Some xs) (Some ys) same end =
    ap lines_of (sym same ∙ ap (λ (t : List ℕ). t ++ ys) none ∙ end)

-- what is kept and what is left together stay, where what is kept grows by what was taken
pub Keeps-taken : (kept now more : List ℕ) (a b : Option (List ℕ)) → now ≡ kept ++ more → Consumes a b more → Keeps (prepend_known kept a) (prepend_known now b)
Keeps-taken kept now more None b grown taken = tt
Keeps-taken kept now more (Some xs) None grown taken = absurd taken
Keeps-taken kept now more (Some xs) (Some ys) grown taken =
    ap (λ (t : List ℕ). t ++ ys) grown ∙ append_assoc kept more ys ∙ ap (λ (t : List ℕ). kept ++ t) (sym taken)

-- the same, where nothing was taken
pub Keeps-kept : (kept now : List ℕ) (a b : Option (List ℕ)) → now ≡ kept → Keeps a b → Keeps (prepend_known kept a) (prepend_known now b)
Keeps-kept kept now None b is same = tt
Keeps-kept kept now (Some xs) None is same = absurd same
Keeps-kept kept now (Some xs) (Some ys) is same = rw (is, same) refl
