-- What is left behind a head, and where the source fails in front of its end.
use Rattle.std.proofs.Common.{◌≡◌, ℕ, ◌+◌, ◌<◌, ◌≤◌, List, [], ◌∷◌, ◌++◌, length, drop, Option, None, Some, inl, inr, codes, refl, sym, ap, ◌∙◌, subst, arith, length-append, append_assoc, append-nil}
use Rattle.std.specs.List.{flat_map}
use Rattle.std.specs.Io.KnownBytes.{Keeps, prepend_known}
use Rattle.std.proofs.Math.Seq.{drop-append_seam}
use Rattle.std.proofs.lemmas.List.{drop_all}
use Rattle.line_io.specs.{HasNoFeed}
use Rattle.line_io.proofs.LineFeeds.{lines_of-begins}
use Rattle.rams_model.specs.declared.LineFault.TheVariants.{Order}
use Rattle.rams_model.specs.Texts.{Reached, lines_of}
use Rattle.server_hub.specs.Seen.{Seen}
use Rattle.server_hub.specs.Served.{Served}
use Rattle.trace_loop.specs.trace_book.trace_serving.{Stage, Outcome, Turn, goes_on, ends, done, refused, turn, after_turn, text_from, taken_with, taken_from}
use Rattle.trace_loop.specs.trace_book.{run}
use Rattle.trace_loop.specs.{IfBothTold}
use Rattle.trace_loop.specs.declared.head_loop.head.HeadLine.TheVariants.{Ends}
use Rattle.trace_loop.specs.head_loop.{head_text, behind_head, with_feed, EndsAt, IsCutBefore}
use Rattle.trace_loop.proofs.head_loop.Cutting.{ended_by}
use Rattle.trace_loop.proofs.head_loop.HeadLines.{IsReading, TakesLine}

-- behind a text that stands in front of some bytes are these, where its length is dropped
behind_it : (text end ys zs xs : List ℕ) → xs ≡ text ++ ys → ys ≡ end ++ zs → drop (length (text ++ end)) xs ≡ zs
behind_it text end ys zs xs all is =
    ap (drop (length (text ++ end))) (all ∙ ap (λ (l : List ℕ). text ++ l) is ∙ sym (append_assoc text end zs)) ∙ drop-append_seam (text ++ end) zs

-- nothing is behind a text that lacks its last byte
behind_short : (text end : List ℕ) (xs : List ℕ) → xs ≡ text ++ end → length end ≤ 4 → drop (length (text ++ codes "end\n")) xs ≡ []
behind_short text end xs all short =
    drop_all (length (text ++ codes "end\n")) xs (omega (arith, ap length all, length-append text end, length-append text (codes "end\n")))

some_left : (ys : List ℕ) (b : ℕ) (rest : List ℕ) → ys ≡ [] → ys ≡ b ∷ rest → ⊥
some_left ys b rest none is = let no : [] ≡ b ∷ rest = sym none ∙ is in cc

ends_behind : (hub later_hub : Option Seen) (ids later_ids : List ℕ) (reached : Reached) (text texts : List ℕ) (number : ℕ) (xs ys zs : List ℕ) (r : IsReading hub ids reached text number xs ys)
    → EndsAt r.stage number ys later_hub later_ids text texts zs → zs ≡ behind_head xs
ends_behind hub later_hub ids later_ids reached text texts number xs ys zs r e =
    let head : text ≡ head_text xs = sym (r.text_is ∙ ap (λ (ls : List (List ℕ)). text ++ flat_map with_feed ls) e.takes ∙ append-nil text) in
    let left : zs ≡ drop (length (text ++ codes "end\n")) xs =
    elim r.whole as (λ _. zs ≡ drop (length (text ++ codes "end\n")) xs) [
      | inl all ↦ by_end all
      | inr none ↦ absurd (elim e.cut.whole as (λ _. ⊥) [ inl fed ↦ some_left ys _ _ none fed | inr last ↦ some_left ys _ _ none last.0 ])
    ] in
    left ∙ ap (λ (t : List ℕ). drop (length (t ++ codes "end\n")) xs) head
  where
    by_end : xs ≡ text ++ ys → zs ≡ drop (length (text ++ codes "end\n")) xs
    by_end all = elim e.cut.whole as (λ _. zs ≡ drop (length (text ++ codes "end\n")) xs) [
      | inl fed ↦ sym (behind_it text (codes "end\n") ys zs xs all fed)
      | inr last ↦ last.1 ∙ sym (behind_short text (codes "end") xs (all ∙ ap (λ (l : List ℕ). text ++ l) last.0) (omega arith))
    ]

pub reading_leaves : (left leaves later : Option (List ℕ)) (hub later_hub : Option Seen) (ids later_ids : List ℕ) (reached later_reached : Reached) (text texts : List ℕ) (number : ℕ)
    → IfBothTold left leaves (IsReading hub ids reached text number) → TakesLine hub ids reached later_hub later_ids later_reached text texts Ends leaves later
    → IfBothTold left later (λ xs zs. zs ≡ behind_head xs)
reading_leaves None leaves later hub later_hub ids later_ids reached later_reached text texts number r takes = tt
reading_leaves (Some xs) None later hub later_hub ids later_ids reached later_reached text texts number r takes = absurd r
reading_leaves (Some xs) (Some ys) None hub later_hub ids later_ids reached later_reached text texts number r takes = absurd (takes r.stage number r.opened)
reading_leaves (Some xs) (Some ys) (Some zs) hub later_hub ids later_ids reached later_reached text texts number r takes =
    ends_behind hub later_hub ids later_ids reached text texts number xs ys zs r (takes r.stage number r.opened)

-- Bytes without a line feed are fewer than the lines up to `end` that they are a front of.
module _ (stage : Stage (List Served)) (number : ℕ) (kept : List ℕ) where
  abbrev IsShortOf : List (List ℕ) → Type 0
  IsShortOf lines = text_from run stage number lines ≡ done 0 → length kept < length (flat_map with_feed (taken_from run stage number lines) ++ codes "end\n")

  by_turn : (more : List ℕ) (rest : List (List ℕ)) (was : Turn (List Served)) → turn run stage number (kept ++ more) ≡ was
      → after_turn was (λ later. text_from run later (number + 1) rest) ≡ done 0
      → length kept < length (flat_map with_feed (taken_with (kept ++ more) was (λ later. taken_from run later (number + 1) rest)) ++ codes "end\n")
  by_turn more rest (goes_on later text) is e =
      let lines = flat_map with_feed (taken_from run later (number + 1) rest) in
      let first = with_feed (kept ++ more) in
      omega (arith, length-append (first ++ lines) (codes "end\n"), length-append first lines, length-append (kept ++ more) (codes "\n"), length-append kept more)
  by_turn more rest (ends o) is e =
      let line : kept ++ more ≡ codes "end" = ended_by stage number (kept ++ more) (is ∙ ap ends e) in
      omega (arith, ap length line, length-append kept more)

  first_short : (more : List ℕ) (rest : List (List ℕ)) → IsShortOf ((kept ++ more) ∷ rest)
  unfolding text_from taken_from
  first_short more rest e = by_turn more rest (turn run stage number (kept ++ more)) refl e

  kept_short : (left : List ℕ) → HasNoFeed kept → IsShortOf (lines_of (kept ++ left))
  kept_short left clean = by kept refl
    where
      by : (k : List ℕ) → kept ≡ k → IsShortOf (lines_of (kept ++ left))
      by [] none = λ e. omega (arith, ap length none, length-append (flat_map with_feed (taken_from run stage number (lines_of (kept ++ left)))) (codes "end\n"))
      by (b ∷ k) some =
          let begins = lines_of-begins kept left clean (omega (arith, ap length some)) in
          subst IsShortOf (sym begins.whole) (first_short begins.more begins.rest)

never_ended : (stage : Stage (List Served)) (number : ℕ) (ys : List ℕ) → ys ≡ [] → text_from run stage number (lines_of ys) ≡ done 0 → ⊥
unfolding text_from lines_of
never_ended stage number ys none e =
    let missing : refused number Order ≡ done 0 = subst (λ (l : List ℕ). text_from run stage number (lines_of l) ≡ done 0) none e in
    let same = ap (λ (o : Outcome). o.status) missing in
    cc

cut_before : (hub : Option Seen) (ids : List ℕ) (reached : Reached) (text : List ℕ) (number : ℕ) (xs ys kept left : List ℕ) → IsReading hub ids reached text number xs ys → HasNoFeed kept → kept ++ left ≡ ys → IsCutBefore xs left
cut_before hub ids reached text number xs ys kept left r clean same =
    elim r.whole as (λ _. IsCutBefore xs left) [
      | inl all ↦ (
        text ++ kept,
        all ∙ ap (λ (l : List ℕ). text ++ l) (sym same) ∙ sym (append_assoc text kept left),
        λ e. by_length (kept_short r.stage number kept left clean (ap (λ (l : List ℕ). text_from run r.stage number (lines_of l)) same ∙ (sym r.ends ∙ e))),
      )
      | inr none ↦ (xs, by_none (left_none kept left (same ∙ none)), λ e. absurd (never_ended r.stage number ys none (sym r.ends ∙ e)))
    ]
  where
    by_length : length kept < length (flat_map with_feed (taken_from run r.stage number (lines_of (kept ++ left))) ++ codes "end\n") → length (text ++ kept) < length (head_text xs ++ codes "end\n")
    by_length h =
        let rest = flat_map with_feed (taken_from run r.stage number (lines_of ys)) in
        let few = subst (λ (l : List ℕ). length kept < length (flat_map with_feed (taken_from run r.stage number (lines_of l)) ++ codes "end\n")) same h in
        let whole = ap length r.text_is in
        omega (arith, few, whole, length-append text rest, length-append rest (codes "end\n"), length-append (head_text xs) (codes "end\n"), length-append text kept)

    left_none : (k l : List ℕ) → k ++ l ≡ [] → l ≡ []
    left_none [] l e = e
    left_none (b ∷ k) l e = cc

    by_none : left ≡ [] → xs ≡ xs ++ left
    by_none none = sym (ap (λ (l : List ℕ). xs ++ l) none ∙ append-nil xs)

-- the source fails
pub reading_cut : (left leaves later : Option (List ℕ)) (kept : List ℕ) (hub : Option Seen) (ids : List ℕ) (reached : Reached) (text : List ℕ) (number : ℕ)
    → IfBothTold left leaves (IsReading hub ids reached text number) → HasNoFeed kept → Keeps leaves (prepend_known kept later) → IfBothTold left later IsCutBefore
reading_cut None leaves later kept hub ids reached text number r clean same = tt
reading_cut (Some xs) None later kept hub ids reached text number r clean same = absurd r
reading_cut (Some xs) (Some ys) None kept hub ids reached text number r clean same = absurd same
reading_cut (Some xs) (Some ys) (Some left) kept hub ids reached text number r clean same = cut_before hub ids reached text number xs ys kept left r clean same
