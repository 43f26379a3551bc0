-- What stands behind the end of a journal isn't followed.
use Rattle.std.proofs.Common.{◌≡◌, ℕ, ◌+◌, ◌<◌, Bool, true, false, List, [], ◌∷◌, ◌++◌, length, Option, None, Some, ◌⊎◌, inl, inr, refl, sym, ap, subst, ◌∙◌, arith, append_assoc, append-nil, length-append, ltb}
use Rattle.std.specs.List.{list_any}
use Rattle.std.proofs.lemmas.Bool.{lt-ltb, ltb-true}
use Rattle.rams_model.specs.declared.LineFault.TheVariants.{Form}
use Rattle.rams_model.specs.Texts.{into_first, whole_lines}
use Rattle.line_io.specs.{HasNoFeed}
use Rattle.line_io.proofs.LineFeeds.{HasNoFeed-append, whole_lines-none}
use Rattle.server_hub.specs.Served.{Served}
use Rattle.trace_loop.specs.trace_book.trace_serving.{Stage, Turn, Outcome, goes_on, ends, refused, opening, turn, stage_after, stage_from, taken_from, taken_with}
use Rattle.trace_loop.specs.trace_book.{run}
use Rattle.trace_loop.proofs.LongLines.{long_refused}
use Rattle.takeover.specs.standby.{Seen, HasRead, Halted, Stands, end_after, end_from, end_of, is_feed, lines_followed, looked_at, overlong, rest_of, stage_of, StaysEnded}
use Rattle.takeover.proofs.standby.Pieces.{has_line, no_feed, no_line_more, one_line_more, one_more_looked_at, rest_clean, rest_grows, rest_whole, split_lines}
use Rattle.takeover.proofs.standby.Reading.{end_append, end_front, stage_append}

-- Lines that end a journal end it alike, whatever stands behind them.
record Same (stage : Stage (List Served)) (number : ℕ) (xs ys : List (List ℕ)) (o : Outcome) : Type 0 where
  end : end_from stage number (xs ++ ys) ≡ Some o
  reaches : stage_from run stage number (xs ++ ys) ≡ stage_from run stage number xs
  takes : taken_from run stage number (xs ++ ys) ≡ taken_from run stage number xs

record SameAfter (stage : Stage (List Served)) (number : ℕ) (x : List ℕ) (was : Turn (List Served)) (xs ys : List (List ℕ)) (o : Outcome) : Type 0 where
  end : end_after was (λ later. end_from later (number + 1) (xs ++ ys)) ≡ Some o
  reaches : stage_after stage was (λ later. stage_from run later (number + 1) (xs ++ ys)) ≡ stage_after stage was (λ later. stage_from run later (number + 1) xs)
  takes : taken_with x was (λ later. taken_from run later (number + 1) (xs ++ ys)) ≡ taken_with x was (λ later. taken_from run later (number + 1) xs)

same_behind : (xs ys : List (List ℕ)) (stage : Stage (List Served)) (number : ℕ) (o : Outcome) → end_from stage number xs ≡ Some o → Same stage number xs ys o
unfolding end_from stage_from taken_from
same_behind [] ys stage number o end = absurd cc
same_behind (x ∷ xs) ys stage number o end =
    let s = by (turn run stage number x) end (λ later. same_behind xs ys later (number + 1) o) in record { end = s.end; reaches = s.reaches; takes = s.takes }
  where
    by : (was : Turn (List Served)) → end_after was (λ later. end_from later (number + 1) xs) ≡ Some o → ((later : Stage (List Served)) → end_from later (number + 1) xs ≡ Some o → Same later (number + 1) xs ys o)
        → SameAfter stage number x was xs ys o
    by (goes_on later text) end rest = let s = rest later end in record { end = s.end; reaches = s.reaches; takes = ap (λ (ls : List (List ℕ)). x ∷ ls) s.takes }
    by (ends p) end rest = record { end = end; reaches = refl; takes = refl }

-- lines of which none ends the journal are all followed
taken_append : (xs ys : List (List ℕ)) (stage : Stage (List Served)) (number count : ℕ) → count ≡ number + length xs → end_from stage number xs ≡ None
    → taken_from run stage number (xs ++ ys) ≡ xs ++ taken_from run (stage_from run stage number xs) count ys
unfolding end_from stage_from taken_from
taken_append [] ys stage number count is none = ap (λ n. taken_from run stage n ys) (let same : number ≡ count = omega (arith, is) in same)
taken_append (x ∷ xs) ys stage number count is none = by (turn run stage number x) none (λ later. taken_append xs ys later (number + 1) count (omega (arith, is)))
  where
    by : (was : Turn (List Served)) → end_after was (λ later. end_from later (number + 1) xs) ≡ None
        → ((later : Stage (List Served)) → end_from later (number + 1) xs ≡ None → taken_from run later (number + 1) (xs ++ ys) ≡ xs ++ taken_from run (stage_from run later (number + 1) xs) count ys)
        → taken_with x was (λ later. taken_from run later (number + 1) (xs ++ ys)) ≡ x ∷ (xs ++ taken_from run (stage_after stage was (λ later. stage_from run later (number + 1) xs)) count ys)
    by (goes_on later text) none rest = ap (λ (ls : List (List ℕ)). x ∷ ls) (rest later none)
    by (ends o) none rest = absurd cc

taken_all : (xs : List (List ℕ)) (stage : Stage (List Served)) (number : ℕ) → end_from stage number xs ≡ None → taken_from run stage number xs ≡ xs
unfolding taken_from
taken_all xs stage number none =
    ap (taken_from run stage number) (sym (append-nil xs)) ∙ taken_append xs [] stage number (number + length xs) refl none ∙ append-nil xs

-- a line that is too long ends the journal there
long_ends : (stage : Stage (List Served)) (count : ℕ) (x : List ℕ) (ys : List (List ℕ)) → 4096 < length x → end_from stage count (x ∷ ys) ≡ Some (refused count Form)
unfolding end_from
long_ends stage count x ys long = ap (λ (was : Turn (List Served)). end_after was (λ later. end_from later (count + 1) ys)) (long_refused run stage count x long)

long_reaches : (stage : Stage (List Served)) (count : ℕ) (x : List ℕ) (ys : List (List ℕ)) → 4096 < length x → stage_from run stage count (x ∷ ys) ≡ stage
unfolding stage_from
long_reaches stage count x ys long = ap (λ (was : Turn (List Served)). stage_after stage was (λ later. stage_from run later (count + 1) ys)) (long_refused run stage count x long)

long_takes : (stage : Stage (List Served)) (count : ℕ) (x : List ℕ) (ys : List (List ℕ)) → 4096 < length x → taken_from run stage count (x ∷ ys) ≡ []
unfolding taken_from
long_takes stage count x ys long = ap (λ (was : Turn (List Served)). taken_with x was (λ later. taken_from run later (count + 1) ys)) (long_refused run stage count x long)

-- no line goes on to where it is
nothing_reached : (stage : Stage (List Served)) (count : ℕ) → stage_from run stage count [] ≡ stage
unfolding stage_from
nothing_reached stage count = refl

nothing_taken : (stage : Stage (List Served)) (count : ℕ) → taken_from run stage count [] ≡ []
unfolding taken_from
nothing_taken stage count = refl

no_lines : whole_lines [] ≡ []
unfolding whole_lines
no_lines = refl

-- the first line of what begins without a line feed
first_longer : (rest more line : List ℕ) (lines : List (List ℕ)) → HasNoFeed rest → whole_lines more ≡ line ∷ lines → whole_lines (rest ++ more) ≡ (rest ++ line) ∷ lines
unfolding whole_lines
first_longer [] more line lines clean is = is
first_longer (b ∷ rest) more line lines clean is = rw clean.0 (ap (into_first b) (first_longer rest more line lines clean.1 is))

-- What is looked at of bytes that begin with a line that is too long: that line comes first, and it alone where it isn't whole.
record IsLong (rest : List ℕ) : Type 0 where
  first : List ℕ
  others : List (List ℕ)
  long : 4096 < length first
  lines : (whole_lines rest ≡ []) ⊎ (whole_lines rest ≡ first ∷ others)
  looked : looked_at rest ≡ first ∷ (others ++ overlong (rest_of rest)) ⊎ (looked_at rest ≡ first ∷ [])

stays_long : (rest more : List ℕ) → HasNoFeed rest → 4096 < length rest → IsLong (rest ++ more)
stays_long rest more clean long = by (list_any is_feed more) refl
  where
    by : (t : Bool) → list_any is_feed more ≡ t → IsLong (rest ++ more)
    by true is =
        let some = has_line more is in
        let whole = first_longer rest more some.line some.more clean some.is in
        record {
          first = rest ++ some.line;
          others = some.more;
          long = omega (arith, long, length-append rest some.line);
          lines = inr whole;
          looked = inl (ap (λ (ls : List (List ℕ)). ls ++ overlong (rest_of (rest ++ more))) whole);
        }
    by false is =
        let none = HasNoFeed-append rest more clean (no_feed more is) in
        let size : 4096 < length (rest ++ more) = omega (arith, long, length-append rest more) in
        record {
          first = rest ++ more;
          others = [];
          long = size;
          lines = inl (whole_lines-none (rest ++ more) none);
          looked = inr (ap (λ (ls : List (List ℕ)). ls ++ overlong (rest_of (rest ++ more))) (whole_lines-none (rest ++ more) none) ∙ ap overlong (rest_whole (rest ++ more) none) ∙ rw (lt-ltb 4096 (length (rest ++ more)) size) refl);
        }

module _ (bytes more : List ℕ) (o : Outcome) (end : end_of bytes ≡ Some o) where
  lines : List (List ℕ)
  lines = whole_lines bytes

  -- a whole line ended it
  ended_whole : (p : Outcome) → end_from (opening run) 1 (whole_lines bytes) ≡ Some p → StaysEnded bytes more o
  ended_whole p is =
      let behind = whole_lines (rest_of bytes ++ more) in
      let split = split_lines bytes more in
      let s = same_behind (whole_lines bytes) behind (opening run) 1 p is in
      let first : end_of bytes ≡ Some p = (same_behind (whole_lines bytes) (overlong (rest_of bytes)) (opening run) 1 p is).end in
      let same : Some p ≡ Some o = sym first ∙ end in
      record {
        end =
            ap (λ (ls : List (List ℕ)). end_from (opening run) 1 (ls ++ overlong (rest_of (bytes ++ more)))) split
            ∙ ap (end_from (opening run) 1) (append_assoc (whole_lines bytes) behind (overlong (rest_of (bytes ++ more))))
            ∙ (same_behind (whole_lines bytes) (behind ++ overlong (rest_of (bytes ++ more))) (opening run) 1 p is).end ∙ same;
        reaches = ap (stage_from run (opening run) 1) split ∙ s.reaches;
        takes = ap (taken_from run (opening run) 1) split ∙ s.takes;
      }

  -- a line that is too long did
  ended_long : end_from (opening run) 1 (whole_lines bytes) ≡ None → 4096 < length (rest_of bytes) → StaysEnded bytes more o
  ended_long none long =
      let count = 1 + length (whole_lines bytes) in
      let stage = stage_of bytes in
      let is = stays_long (rest_of bytes) more (rest_clean bytes) long in
      let behind = whole_lines (rest_of bytes ++ more) in
      let split = split_lines bytes more in
      let first : end_of bytes ≡ Some (refused count Form) =
      end_append (whole_lines bytes) (overlong (rest_of bytes)) (opening run) 1 count refl none ∙ ap (end_from stage count) (over long) ∙ long_ends stage count (rest_of bytes) [] long in
      let same : Some (refused count Form) ≡ Some o = sym first ∙ end in
      let looked : looked_at (bytes ++ more) ≡ whole_lines bytes ++ looked_at (rest_of bytes ++ more) =
      ap (λ (ls : List (List ℕ)). ls ++ overlong (rest_of (bytes ++ more))) split ∙ append_assoc (whole_lines bytes) behind (overlong (rest_of (bytes ++ more)))
      ∙ ap (λ (l : List ℕ). whole_lines bytes ++ (behind ++ overlong l)) (rest_grows bytes more) in
      record {
        end =
            ap (end_from (opening run) 1) looked ∙ end_append (whole_lines bytes) (looked_at (rest_of bytes ++ more)) (opening run) 1 count refl none
            ∙ ends_there stage count is.first is.others (looked_at (rest_of bytes ++ more)) (overlong (rest_of (rest_of bytes ++ more))) is.long is.looked ∙ same;
        reaches =
            ap (stage_from run (opening run) 1) split ∙ stage_append (whole_lines bytes) behind (opening run) 1 count refl none ∙ reaches_there stage count is.first is.others behind is.long is.lines;
        takes =
            ap (taken_from run (opening run) 1) split ∙ taken_append (whole_lines bytes) behind (opening run) 1 count refl none
            ∙ ap (λ (ls : List (List ℕ)). whole_lines bytes ++ ls) (takes_there stage count is.first is.others behind is.long is.lines) ∙ append-nil (whole_lines bytes)
            ∙ sym (taken_all (whole_lines bytes) (opening run) 1 none);
      }
    where
      over : 4096 < length (rest_of bytes) → overlong (rest_of bytes) ≡ rest_of bytes ∷ []
      over h = rw (lt-ltb 4096 (length (rest_of bytes)) h) refl

      ends_there : (stage : Stage (List Served)) (count : ℕ) (x : List ℕ) (xs all last : List (List ℕ)) → 4096 < length x → (all ≡ x ∷ (xs ++ last)) ⊎ (all ≡ x ∷ []) → end_from stage count all ≡ Some (refused count Form)
      ends_there stage count x xs all last long (inl is) = ap (end_from stage count) is ∙ long_ends stage count x (xs ++ last) long
      ends_there stage count x xs all last long (inr is) = ap (end_from stage count) is ∙ long_ends stage count x [] long

      reaches_there : (stage : Stage (List Served)) (count : ℕ) (x : List ℕ) (xs all : List (List ℕ)) → 4096 < length x → (all ≡ []) ⊎ (all ≡ x ∷ xs) → stage_from run stage count all ≡ stage
      reaches_there stage count x xs all long (inl is) = ap (stage_from run stage count) is ∙ nothing_reached stage count
      reaches_there stage count x xs all long (inr is) = ap (stage_from run stage count) is ∙ long_reaches stage count x xs long

      takes_there : (stage : Stage (List Served)) (count : ℕ) (x : List ℕ) (xs all : List (List ℕ)) → 4096 < length x → (all ≡ []) ⊎ (all ≡ x ∷ xs) → taken_from run stage count all ≡ []
      takes_there stage count x xs all long (inl is) = ap (taken_from run stage count) is ∙ nothing_taken stage count
      takes_there stage count x xs all long (inr is) = ap (taken_from run stage count) is ∙ long_takes stage count x xs long

  pub stays_ended : StaysEnded bytes more o
  stays_ended = by (end_from (opening run) 1 (whole_lines bytes)) refl
    where
      short : end_from (opening run) 1 (whole_lines bytes) ≡ None → (t : Bool) → ltb 4096 (length (rest_of bytes)) ≡ t → StaysEnded bytes more o
      short none true is = ended_long none (ltb-true 4096 (length (rest_of bytes)) is)
      short none false is =
          let alone : looked_at bytes ≡ whole_lines bytes = rw is (append-nil (whole_lines bytes)) in
          let no : Some o ≡ None = sym end ∙ ap (end_from (opening run) 1) alone ∙ none in absurd cc

      by : (p : Option Outcome) → end_from (opening run) 1 (whole_lines bytes) ≡ p → StaysEnded bytes more o
      by (Some p) is = ended_whole p is
      by None is = short is (ltb 4096 (length (rest_of bytes))) refl

-- so a standby has read it with all that stands behind it
pub read_still : (v : Seen) (bytes more : List ℕ) (o : Outcome) → HasRead v bytes → end_of bytes ≡ Some o → HasRead v (bytes ++ more)
read_still v bytes more o r end =
    let s = stays_ended bytes more o end in
    record {
      stands = subst (Stands v.hub v.ids v.events v.reached) (sym s.reaches) r.stands;
      halted = subst (Halted v.ended v.fault) (end ∙ sym s.end) r.halted;
      going = λ none. absurd (never (sym s.end ∙ none));
    }
  where
    never : Some o ≡ None → ⊥
    never e = cc

module _ (bytes : List ℕ) (none : end_of bytes ≡ None) where
  all_go_on : end_from (opening run) 1 (whole_lines bytes) ≡ None
  all_go_on = end_front (whole_lines bytes) (overlong (rest_of bytes)) (opening run) 1 none

  -- where nothing ended it all whole lines are followed
  pub all_followed : lines_followed bytes ≡ whole_lines bytes
  all_followed = taken_all (whole_lines bytes) (opening run) 1 all_go_on

  -- and stand in front of what is followed then
  pub followed_more : (more : List ℕ) → (others : List (List ℕ)) × (lines_followed (bytes ++ more) ≡ whole_lines bytes ++ others)
  followed_more more = (
    taken_from run (stage_of bytes) (1 + length (whole_lines bytes)) (whole_lines (rest_of bytes ++ more)),
    ap (taken_from run (opening run) 1) (split_lines bytes more) ∙ taken_append (whole_lines bytes) (whole_lines (rest_of bytes ++ more)) (opening run) 1 (1 + length (whole_lines bytes)) refl all_go_on,
  )

-- a line that ends a journal isn't followed
taken_none : (stage : Stage (List Served)) (count : ℕ) (x : List ℕ) (o : Outcome) → end_from stage count (x ∷ []) ≡ Some o → taken_from run stage count (x ∷ []) ≡ []
unfolding end_from taken_from
taken_none stage count x o end = by (turn run stage count x) end
  where
    by : (was : Turn (List Served)) → end_after was (λ later. end_from later (count + 1) []) ≡ Some o → taken_with x was (λ later. taken_from run later (count + 1) []) ≡ []
    by (goes_on later text) end = absurd cc
    by (ends p) end = refl

pub line_unfollowed : (bytes rest : List ℕ) (o : Outcome) → end_of bytes ≡ None → HasNoFeed rest → end_of (bytes ++ (rest ++ 10 ∷ [])) ≡ Some o → lines_followed (bytes ++ (rest ++ 10 ∷ [])) ≡ whole_lines bytes
line_unfollowed bytes rest o none clean end =
    let count = 1 + length (whole_lines bytes) in
    let line = rest_of bytes ++ rest in
    let on = all_go_on bytes none in
    let ends_so : end_from (stage_of bytes) count (line ∷ []) ≡ Some o =
    sym (ap (end_from (opening run) 1) (one_more_looked_at bytes rest clean) ∙ end_append (whole_lines bytes) (line ∷ []) (opening run) 1 count refl on) ∙ end in
    ap (taken_from run (opening run) 1) (one_line_more bytes rest clean) ∙ taken_append (whole_lines bytes) (line ∷ []) (opening run) 1 count refl on
    ∙ ap (λ (ls : List (List ℕ)). whole_lines bytes ++ ls) (taken_none (stage_of bytes) count line o ends_so) ∙ append-nil (whole_lines bytes)

pub part_unfollowed : (bytes piece : List ℕ) → end_of bytes ≡ None → HasNoFeed piece → lines_followed (bytes ++ piece) ≡ whole_lines bytes
part_unfollowed bytes piece none clean = ap (taken_from run (opening run) 1) (no_line_more bytes piece clean) ∙ all_followed bytes none
