-- The parts of a text: its first line, what its lines are answered with, and what waits at the end.
use Rattle.std.proofs.Common.{◌≡◌, ℕ, ◌+◌, List, [], ◌++◌, length, Option, None, Some, Result, Ok, Err, IfOk, IfErr, OnOk, refl, sym, subst, length-append}
use Rattle.std.specs.Io.KnownBytes.{Appends}
use Rattle.line_io.specs.Passes.{Passes}
use Rattle.line_io.proofs.Passing.{Passes-none, Passes-then, Passes-put, Passes-more}
use Rattle.rams_model.specs.declared.Status.{Status}
use Rattle.trace_loop.specs.trace_book.trace_serving.{Serving, served_text}
use Rattle.trace_loop.specs.declared.stop.Stop.{Stop}
use Rattle.trace_loop.specs.{StopsIn, EndsAs, IfTold, Ends}
use Rattle.trace_loop.specs.declared.stop.Stop.TheVariants.{Memory, Read, Write, Wire}
use Rattle.trace_loop.proofs.Reading.{passes_whole}
use Rattle.trace_loop.proofs.Running.{outcome}

-- where it holds of all bytes
pub told_all : (o : Option (List ℕ)) (Q : List ℕ → Type 0) → ((xs : List ℕ) → Q xs) → IfTold o Q
told_all None Q gives = tt
told_all (Some xs) Q gives = gives xs

module _ {State Event : Type 0} (s : Serving State Event) where
  -- a text of which nothing went
  pub none_of : (a : Option (List ℕ)) (left : Option (List ℕ)) → IfTold left (λ xs. (rest : List ℕ) × Passes a a (served_text s xs).text rest)
  none_of a left = told_all left _ (λ xs. ((served_text s xs).text, Passes-none a (served_text s xs).text))

  -- a part of the first line
  pub part_of_first : (a b : Option (List ℕ)) (waiting : List ℕ) (left : Option (List ℕ)) → waiting ≡ [] → ((rest : List ℕ) × Passes a b (waiting ++ s.first_line) rest)
      → IfTold left (λ xs. (rest : List ℕ) × Passes a b (served_text s xs).text rest)
  unfolding served_text
  part_of_first a b waiting left none p =
      let q = subst (λ (l : List ℕ). Passes a b (l ++ s.first_line) p.0) none p.1 in
      told_all left _ (λ xs. (p.0 ++ (outcome s xs).text, Passes-more a b s.first_line p.0 (outcome s xs).text q))

  pub part_of_front : (a b : Option (List ℕ)) (left : Option (List ℕ)) → ((rest : List ℕ) × Passes a b s.first_line rest) → IfTold left (λ xs. (rest : List ℕ) × Passes a b (served_text s xs).text rest)
  unfolding served_text
  part_of_front a b left p = told_all left _ (λ xs. (p.0 ++ (outcome s xs).text, Passes-more a b s.first_line p.0 (outcome s xs).text p.1))

  -- the first line goes, piece by piece
  pub first_goes : (a b c : Option (List ℕ)) (waiting waits rest : List ℕ) → waiting ≡ [] → Passes a b (waiting ++ s.first_line) waits → Passes b c waits rest → Passes a c s.first_line rest
  first_goes a b c waiting waits rest none p q = Passes-then a b c s.first_line waits rest (subst (λ (l : List ℕ). Passes a b (l ++ s.first_line) waits) none p) q

  module _ (a c d e : Option (List ℕ)) (left : Option (List ℕ)) (begun waits : List ℕ) (ended : Result Status Stop) (none : begun ≡ []) (first : Passes a c s.first_line [])
      (text : IfOk ended (λ status. IfTold left (λ xs. Ends c d begun waits (outcome s xs) status))) where
    -- the lines behind the first line
    joined : (d : Option (List ℕ)) (text rest : List ℕ) → Passes c d (begun ++ text) rest → Passes a d (s.first_line ++ text) rest
    joined d text rest p = Passes-put a c d s.first_line [] text rest first (subst (λ (l : List ℕ). Passes c d (l ++ text) rest) none p)

    -- where all has gone
    pub has_whole_text : (result : Result Status Stop) (before now : ℕ) → EndsAs before now ended result → OnOk result (Passes d e waits [])
        → IfOk result (λ status. IfTold left (λ xs. (status ≡ (served_text s xs).status) × Appends a e (served_text s xs).text))
    unfolding served_text
    has_whole_text result before now ends all = by_cases ended result text ends all
      where
        whole : (status : Status) (xs : List ℕ) → Ends c d begun waits (outcome s xs) status → Passes d e waits [] → (status ≡ (served_text s xs).status) × Appends a e (served_text s xs).text
        whole status xs t all = (t.0, passes_whole a e (s.first_line ++ (outcome s xs).text) (Passes-then a d e _ waits [] (joined d (outcome s xs).text waits t.1) all))

        told : (left : Option (List ℕ)) (status : Status) → IfTold left (λ xs. Ends c d begun waits (outcome s xs) status) → Passes d e waits [] → IfTold left (λ xs. (status ≡ (served_text s xs).status) × Appends a e (served_text s xs).text)
        told None status t all = tt
        told (Some xs) status t all = whole status xs t all

        by_cases : (ended result : Result Status Stop) → IfOk ended (λ status. IfTold left (λ xs. Ends c d begun waits (outcome s xs) status)) → EndsAs before now ended result → OnOk result (Passes d e waits [])
            → IfOk result (λ status. IfTold left (λ xs. (status ≡ (served_text s xs).status) × Appends a e (served_text s xs).text))
        by_cases ended (Err stop) t ends all = tt
        by_cases (Ok old) (Ok status) t ends all = told left status (subst (λ (x : Status). IfTold left (λ xs. Ends c d begun waits (outcome s xs) x)) (sym ends) t) all
        by_cases (Err stop) (Ok status) t ends all = cc

    -- whatever has gone
    pub has_front : IfErr ended (λ stop. IfTold left (λ xs. StopsIn c d (begun ++ (outcome s xs).text) waits stop)) → (ended ≡ Err Write → e ≡ d) → ((rest : List ℕ) × Passes d e waits rest)
        → IfTold left (λ xs. (rest : List ℕ) × Passes a e (served_text s xs).text rest)
    unfolding served_text
    has_front front untouched prefix = by_left left text front
      where
        ending_in : (xs rest : List ℕ) → Passes a e (s.first_line ++ (outcome s xs).text) rest → (rest : List ℕ) × Passes a e (served_text s xs).text rest
        ending_in xs rest p = (rest, p)

        by_cases : (xs : List ℕ) (was : Result Status Stop) → was ≡ ended → IfOk was (λ status. Ends c d begun waits (outcome s xs) status) → IfErr was (StopsIn c d (begun ++ (outcome s xs).text) waits)
            → (rest : List ℕ) × Passes a e (served_text s xs).text rest
        by_cases xs (Ok status) same t f = ending_in xs prefix.0 (Passes-then a d e _ waits prefix.0 (joined d (outcome s xs).text waits t.1) prefix.1)
        by_cases xs (Err Memory) same t f =
            ending_in xs (prefix.0 ++ f.0) (Passes-then a d e _ _ _ (joined d (outcome s xs).text _ f.1) (Passes-more d e waits prefix.0 f.0 prefix.1))
        by_cases xs (Err Read) same t f =
            ending_in xs (prefix.0 ++ f.0) (Passes-then a d e _ _ _ (joined d (outcome s xs).text _ f.1) (Passes-more d e waits prefix.0 f.0 prefix.1))
        by_cases xs (Err Wire) same t f =
            ending_in xs (prefix.0 ++ f.0) (Passes-then a d e _ _ _ (joined d (outcome s xs).text _ f.1) (Passes-more d e waits prefix.0 f.0 prefix.1))
        by_cases xs (Err Write) same t f =
            ending_in xs f.0 (joined e (outcome s xs).text f.0 (subst (λ (x : Option (List ℕ)). Passes c x (begun ++ (outcome s xs).text) f.0) (sym (untouched (sym same))) f.1))

        by_left : (left : Option (List ℕ)) → IfOk ended (λ status. IfTold left (λ xs. Ends c d begun waits (outcome s xs) status)) → IfErr ended (λ stop. IfTold left (λ xs. StopsIn c d (begun ++ (outcome s xs).text) waits stop))
            → IfTold left (λ xs. (rest : List ℕ) × Passes a e (served_text s xs).text rest)
        by_left None t f = tt
        by_left (Some xs) t f = by_cases xs ended refl t f

  -- the room that the whole text takes
  pub room_of : (xs : List ℕ) → length (served_text s xs).text ≡ length s.first_line + length (outcome s xs).text
  unfolding served_text
  room_of xs = length-append s.first_line (outcome s xs).text
