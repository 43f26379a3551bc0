-- How far a trace was read, and what went to the sink of the lines that were read.
use Rattle.std.proofs.Common.{◌≡◌, ℕ, ◌+◌, List, [], ◌∷◌, ◌++◌, Option, None, Some, Result, Ok, Err, refl, sym, ap, ◌∙◌, subst, arith, append_assoc, append-nil, inl, inr}
use Rattle.std.specs.Prelude.{◌≤◌, ◌⊎◌}
use Rattle.ram_io.specs.{Rose}
use Rattle.std.specs.Io.KnownBytes.{Appends, Keeps, prepend_known}
use Rattle.line_io.specs.{HasNoFeed}
use Rattle.line_io.specs.Passes.{Passes}
use Rattle.line_io.proofs.LineFeeds.{lines_read-cut, whole_lines-kept}
use Rattle.line_io.proofs.Passing.{Passes-none, Passes-put, Passes-then}
use Rattle.rams_model.specs.declared.Status.{Status}
use Rattle.rams_model.specs.Texts.{lines_of, lines_read, whole_lines}
use Rattle.trace_loop.specs.trace_book.trace_serving.{Serving, Stage, Turn, opening, goes_on, turn, text_after, lines_text}
use Rattle.trace_loop.specs.declared.stop.Stop.{Stop}
use Rattle.trace_loop.specs.{IsWriteStop, EndsAs, IfBothTold, GoesOnAfter, HasLinesText, HasReadText}
use Rattle.trace_loop.specs.declared.stop.Stop.TheVariants.{Memory, Read, Write, Wire}

-- all of a text has gone
pub passes_whole : (a b : Option (List ℕ)) (text : List ℕ) → Passes a b text [] → Appends a b text
passes_whole a b text p =
    let same : p.front ≡ text = sym (p.whole ∙ append-nil p.front) in
    subst (Appends a b) same p.sink

-- either stays so
pub either : {P Q A B : Type 0} → P ⊎ Q → (P → A) → (Q → B) → A ⊎ B
either (inl p) f g = inl (f p)
either (inr q) f g = inr (g q)

-- a count that rose has risen since it was no greater
pub rose_since : (begun before now : ℕ) → begun ≤ before → Rose before now → Rose begun now
rose_since begun before now less rose = omega (arith, less, rose)

no_bytes_left : (zs left : List ℕ) → [] ≡ zs ++ left → (zs ≡ []) × (left ≡ [])
no_bytes_left [] left e = (refl, sym e)
no_bytes_left (z ∷ zs) left e = cc

-- where the sink may have stopped a call, the source didn't
pub not_by_source : (before now : ℕ) (result : Result Status Stop) (was stop : Stop) → result ≡ Err was → was ≡ stop → IsWriteStop before now stop → result ≡ Err Read → ⊥
not_by_source before now result was Memory is same stops e = cc
not_by_source before now result was Read is same stops e = stops
not_by_source before now result was Write is same stops e = cc
not_by_source before now result was Wire is same stops e = stops

-- a run that the source ended was ended so before its close
pub ended_by_source : (before now : ℕ) (ended result : Result Status Stop) → EndsAs before now ended result → result ≡ Err Read → ended ≡ Err Read
ended_by_source before now (Ok status) (Ok s) ends e = cc
ended_by_source before now (Ok status) (Err Memory) ends e = cc
ended_by_source before now (Ok status) (Err Read) ends e = absurd ends
ended_by_source before now (Ok status) (Err Write) ends e = cc
ended_by_source before now (Ok status) (Err Wire) ends e = absurd ends
ended_by_source before now (Err stop) result ends e = sym ends ∙ e

module _ {State Event : Type 0} (s : Serving State Event) where
  -- What was read of a trace and is written: ys is what isn't read yet. However much of it is read too, the text of the lines is what is said and the text of the lines from the stage on.
  pub record HasRead (a b : Option (List ℕ)) (begun waiting : List ℕ) (stage : Stage State) (number : ℕ) (xs ys : List ℕ) : Type 0 where
    pub taken : List ℕ
    pub whole : xs ≡ taken ++ ys
    pub said : List ℕ
    pub passes : Passes a b (begun ++ said) waiting
    pub text : (zs left : List ℕ) → ys ≡ zs ++ left → lines_text s (opening s) 1 (lines_read (taken ++ zs) left) ≡ said ++ lines_text s stage number (lines_read zs left)

  pub reading_begins : (a b : Option (List ℕ)) (begun waiting xs : List ℕ) → a ≡ b → begun ≡ waiting → HasRead a b begun waiting (opening s) 1 xs xs
  reading_begins a b begun waiting xs same waits =
      let none : Passes a b begun begun = subst (λ (o : Option (List ℕ)). Passes a o begun begun) same (Passes-none a begun) in
      record {
        taken = [];
        whole = refl;
        said = [];
        passes = subst (λ (l : List ℕ). Passes a b (begun ++ []) l) waits (subst (λ (l : List ℕ). Passes a b l begun) (sym (append-nil begun)) none);
        text = λ zs left e. refl;
      }

  -- the text of a line and of the lines behind it
  line_text : (stage later : Stage State) (number : ℕ) (line said : List ℕ) (lines : List (List ℕ)) → turn s stage number line ≡ goes_on later said
      → lines_text s stage number (line ∷ lines) ≡ said ++ lines_text s later (number + 1) lines
  unfolding lines_text
  line_text stage later number line said lines does = ap (λ (was : Turn State). text_after was (λ next. lines_text s next (number + 1) lines)) does

  module _ (a b c : Option (List ℕ)) (begun waiting waits : List ℕ) (stage : Stage State) (number : ℕ) (xs ys : List ℕ) (at : Stage State → Type 0) (piece rest : List ℕ) where
    -- the text of what is read, with one line more
    text_goes_on : (r : HasRead a b begun waiting stage number xs ys) (g : GoesOnAfter s stage number ys at piece rest) (zs more left : List ℕ)
        → ys ≡ zs ++ left → lines_read zs left ≡ g.line ∷ lines_read more left
        → lines_text s (opening s) 1 (lines_read (r.taken ++ zs) left) ≡ (r.said ++ piece) ++ lines_text s g.later (number + 1) (lines_read more left)
    text_goes_on r g zs more left e lines =
        r.text zs left e ∙ ap (λ (t : List (List ℕ)). r.said ++ lines_text s stage number t) lines
        ∙ ap (λ (t : List ℕ). r.said ++ t) (line_text stage g.later number g.line piece (lines_read more left) g.does)
        ∙ sym (append_assoc r.said piece (lines_text s g.later (number + 1) (lines_read more left)))

    -- one line is read and answered
    pub reading_goes_on : HasRead a b begun waiting stage number xs ys → (g : GoesOnAfter s stage number ys at piece rest) → Passes b c (waiting ++ piece) waits
        → HasRead a c begun waits g.later (number + 1) xs rest
    reading_goes_on r g p =
        elim g.cut.whole as (λ _. HasRead a c begun waits g.later (number + 1) xs rest) [
          | inl fed ↦ by_feed fed
          | inr last ↦ at_end last.0 last.1
        ]
      where
        passes : Passes a c (begun ++ (r.said ++ piece)) waits
        passes = subst (λ (l : List ℕ). Passes a c l waits) (append_assoc begun r.said piece) (Passes-put a b c (begun ++ r.said) waiting piece waits r.passes p)

        by_feed : ys ≡ g.line ++ 10 ∷ rest → HasRead a c begun waits g.later (number + 1) xs rest
        by_feed fed =
            let bytes = g.line ++ 10 ∷ [] in
            let joined = λ (zs : List ℕ). append_assoc r.taken bytes zs ∙ ap (λ (t : List ℕ). r.taken ++ t) (append_assoc g.line (10 ∷ []) zs) in
            record {
              taken = r.taken ++ bytes;
              whole = r.whole ∙ ap (λ (t : List ℕ). r.taken ++ t) fed ∙ sym (joined rest);
              said = r.said ++ piece;
              passes = passes;
              text = λ zs left e.
                  ap (λ (t : List ℕ). lines_text s (opening s) 1 (lines_read t left)) (joined zs)
                  ∙ text_goes_on r g (g.line ++ 10 ∷ zs) zs left
                  (fed ∙ ap (λ (t : List ℕ). g.line ++ 10 ∷ t) e ∙ sym (append_assoc g.line (10 ∷ zs) left))
                  (lines_read-cut g.line zs left g.cut.clean);
            }

        at_end : ys ≡ g.line → rest ≡ [] → HasRead a c begun waits g.later (number + 1) xs rest
        at_end all none =
            let joined : r.taken ++ g.line ≡ (r.taken ++ g.line) ++ rest = sym (append-nil (r.taken ++ g.line)) ∙ ap (λ (t : List ℕ). (r.taken ++ g.line) ++ t) (sym none) in
            record {
              taken = r.taken ++ g.line;
              whole = r.whole ∙ ap (λ (t : List ℕ). r.taken ++ t) all ∙ joined;
              said = r.said ++ piece;
              passes = passes;
              text = λ zs left e. at_end_text all none zs left (no_bytes_left zs left (sym none ∙ e));
            }
          where
            at_end_text : ys ≡ g.line → rest ≡ [] → (zs left : List ℕ) → (zs ≡ []) × (left ≡ [])
                → lines_text s (opening s) 1 (lines_read ((r.taken ++ g.line) ++ zs) left) ≡ (r.said ++ piece) ++ lines_text s g.later (number + 1) (lines_read zs left)
            at_end_text all none zs left nothing =
                rw (nothing.0, nothing.1)
                (ap (λ (t : List ℕ). lines_text s (opening s) 1 (lines_of t)) (append-nil (r.taken ++ g.line))
                ∙ text_goes_on r g g.line [] [] (all ∙ sym (append-nil g.line)) (ap lines_of (sym all) ∙ g.lines ∙ ap (λ (t : List ℕ). g.line ∷ lines_of t) none))

  module _ (a b : Option (List ℕ)) (begun waiting : List ℕ) (stage : Stage State) (number : ℕ) (xs : List ℕ) where
    -- what was said is the text of these lines
    said_is : (ys : List ℕ) (r : HasRead a b begun waiting stage number xs ys) (lines : List (List ℕ)) → lines_text s (opening s) 1 lines ≡ r.said ++ []
        → Passes a b (begun ++ lines_text s (opening s) 1 lines) waiting
    said_is ys r lines e = subst (λ (t : List ℕ). Passes a b (begun ++ t) waiting) (sym (e ∙ append-nil r.said)) r.passes

    -- the lines with a line feed have been read
    read_whole : (y : ℕ) (ys : List ℕ) (r : HasRead a b begun waiting stage number xs (y ∷ ys)) → lines_text s (opening s) 1 (whole_lines r.taken) ≡ r.said ++ []
    unfolding whole_lines lines_text
    read_whole y ys r = ap (λ (t : List ℕ). lines_text s (opening s) 1 (whole_lines t)) (sym (append-nil r.taken)) ∙ r.text [] (y ∷ ys) refl

    -- all has been read
    read_all : (r : HasRead a b begun waiting stage number xs []) → lines_text s (opening s) 1 (lines_of (r.taken ++ [])) ≡ r.said ++ []
    unfolding lines_of lines_text
    read_all r = r.text [] [] refl

    -- nothing more is read, and what is kept is no whole line
    has_lines_text : (kept left : List ℕ) → HasNoFeed kept → HasRead a b begun waiting stage number xs (kept ++ left) → HasLinesText s a b begun waiting xs left
    has_lines_text [] [] clean r =
        (r.taken ++ [], r.whole ∙ sym (append-nil (r.taken ++ [])), lines_of (r.taken ++ []), inr (refl, refl), said_is [] r _ (read_all r))
    has_lines_text [] (l ∷ left) clean r =
        (r.taken, r.whole, whole_lines r.taken, inl refl, said_is (l ∷ left) r _ (read_whole l left r))
    has_lines_text (k ∷ kept) left clean r =
        let same = whole_lines-kept r.taken (k ∷ kept) clean in
        (r.taken ++ k ∷ kept, r.whole ∙ sym (append_assoc r.taken (k ∷ kept) left), whole_lines r.taken, inl (sym same), said_is (k ∷ (kept ++ left)) r _ (read_whole k (kept ++ left) r))

    pub reading_stops : (ys kept : List ℕ) (left : Option (List ℕ)) → HasNoFeed kept → HasRead a b begun waiting stage number xs ys
        → Keeps (Some ys) (prepend_known kept left) → IfBothTold (Some xs) left (HasLinesText s a b begun waiting)
    reading_stops ys kept None clean r same = absurd same
    reading_stops ys kept (Some left) clean r same = has_lines_text kept left clean (subst (HasRead a b begun waiting stage number xs) (sym same) r)

  -- what waited goes too, behind the first line
  pub lines_then_all : (a c d e : Option (List ℕ)) (begun waits : List ℕ) (left leaves : Option (List ℕ)) → begun ≡ [] → Passes a c s.first_line []
      → IfBothTold left leaves (HasLinesText s c d begun waits) → Passes d e waits [] → IfBothTold left leaves (HasReadText s a e)
  lines_then_all a c d e begun waits None leaves none first h p = tt
  lines_then_all a c d e begun waits (Some xs) None none first h p = absurd h
  lines_then_all a c d e begun waits (Some xs) (Some ys) none first h p =
      let text = lines_text s (opening s) 1 h.2 in
      let q = subst (λ (l : List ℕ). Passes c d (l ++ text) waits) none h.4 in
      let written : Passes a d (s.first_line ++ text) waits = Passes-put a c d s.first_line [] text waits first q in
      (h.0, h.1, h.2, h.3, passes_whole a e (s.first_line ++ text) (Passes-then a d e (s.first_line ++ text) waits [] written p))
