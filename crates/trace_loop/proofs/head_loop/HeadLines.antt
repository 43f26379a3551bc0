-- How the lines of a head are read, one after another.
use Rattle.std.proofs.Common.{◌≡◌, ℕ, ◌+◌, ◌<◌, List, [], ◌∷◌, ◌++◌, length, take, true, Option, None, Some, Result, Ok, Err, inl, inr, codes, refl, sym, ap, ◌∙◌, subst, arith, length-take, append_assoc, append-nil}
use Rattle.std.specs.List.{flat_map}
use Rattle.std.specs.Prelude.{◌⊎◌}
use Rattle.line_io.specs.{IsCutOff, TakesNext}
use Rattle.line_io.specs.declared.Next.TheVariants.{Line, Long, End}
use Rattle.rams_model.specs.declared.{LineFault.LineFault, LineFault.TheVariants.Form, LineFault.TheVariants.Order, Mode.TheVariants.Serve}
use Rattle.rams_model.specs.declared.Status.TheVariants.{Done, BadTrace}
use Rattle.rams_model.specs.Texts.{TraceLine, Head, Reached, judged, lines_of, may_come, end_line, tick_of}
use Rattle.server_hub.specs.Seen.{Seen}
use Rattle.server_hub.specs.Served.{Served}
use Rattle.trace_loop.specs.trace_book.trace_serving.{Stage, Outcome, Turn, goes_on, ends, done, refused, turn, after_line, after_judging, after_turn, text_from, stage_after, stage_from, taken_with, taken_from, brought}
use Rattle.trace_loop.specs.trace_book.{run}
use Rattle.trace_loop.specs.journal_book.{Leads, line as leads_on, nothing, starting}
use Rattle.trace_loop.specs.declared.head_loop.head.HeadLine.{HeadLine}
use Rattle.trace_loop.specs.declared.head_loop.head.HeadLine.TheVariants.{GoesOn, Ends, Refused}
use Rattle.trace_loop.specs.head_loop.{head_end, head_stage, head_text, with_feed, HubServes, HasOpened, HasOpenedBy, Took, Grows, StandsAfter, GoesOnAfter, EndsAt, IsFirstLine, IsHeadOf}
use Rattle.trace_loop.proofs.LongLines.{long_refused}
use Rattle.trace_loop.proofs.head_loop.Cutting.{ended_by, same_end}
use Rattle.trace_loop.specs.{IfTold, IfBothTold}

-- the turn of a line that was judged
pub judged_turn : (stage : Stage (List Served)) (number : ℕ) (bytes : List ℕ) (read : TraceLine) (later now : Reached) (hub : Option Seen) (ids : List ℕ) (did : HeadLine) → judged stage.reached bytes ≡ Ok (read, later)
    → Took stage (after_line run stage later read (brought run read)) hub ids now number did → Took stage (turn run stage number bytes) hub ids now number did
unfolding turn
judged_turn stage number bytes read later now hub ids did h took =
    subst (λ (o : Result (TraceLine × Reached) LineFault). Took stage (after_judging run stage number o) hub ids now number did) (sym h) took

pub refused_turn : (stage : Stage (List Served)) (number : ℕ) (bytes : List ℕ) (fault : LineFault) → judged stage.reached bytes ≡ Err fault → turn run stage number bytes ≡ ends (refused number fault)
unfolding turn
refused_turn stage number bytes fault h = ap (after_judging run stage number) h

-- whatever the turn was, something stands there
pub took_stands : (stage : Stage (List Served)) (was : Turn (List Served)) (hub : Option Seen) (ids : List ℕ) (reached : Reached) (number : ℕ) (did : HeadLine) → Took stage was hub ids reached number did → StandsAfter did hub ids reached
took_stands stage was hub ids reached number GoesOn took = (took.0, took.2)
took_stands stage was hub ids reached number Ends took = (stage, took.1, took.2)
took_stands stage was hub ids reached number (Refused fault) took = tt

-- a line that is refused neither goes on nor is the end
never_goes_on : (o : Outcome) (stage : Stage (List Served)) → ends o ≡ goes_on stage [] → ⊥
never_goes_on o stage e = cc

never_done : (o p : Outcome) → o.status ≡ BadTrace → p.status ≡ Done → ◌≡◌ {A = Turn (List Served)} (ends o) (ends p) → ⊥
never_done o p bad done e = differ (sym bad ∙ ap (λ (x : Outcome). x.status) (same_end o p e) ∙ done)
  where
    differ : BadTrace ≡ Done → ⊥
    differ h = cc

module _ (stage : Stage (List Served)) (number : ℕ) (xs : List ℕ) (hub : Option Seen) (ids : List ℕ) (reached : Reached) (text texts ys : List ℕ) where
  -- the first line of xs is this one
  one_line : (line : List ℕ) (did : HeadLine) → lines_of xs ≡ line ∷ lines_of ys → IsCutOff xs ys line → Took stage (turn run stage number line) hub ids reached number did → Grows did text texts line
      → IsFirstLine stage number xs hub ids reached text texts did ys
  unfolding text_from stage_from taken_from
  one_line line GoesOn e cut took grows = record { line = line; cut = cut; lines = e; later = took.0; does = took.1; opened = took.2; text_is = grows }
  one_line line Ends e cut took grows = record {
    cut = subst (IsCutOff xs ys) (ended_by stage number line took.0) cut;
    end = ap (text_from run stage number) e ∙ ap (λ (was : Turn (List Served)). after_turn was (λ later. text_from run later (number + 1) (lines_of ys))) took.0;
    reaches = ap (stage_from run stage number) e ∙ ap (λ (was : Turn (List Served)). stage_after stage was (λ later. stage_from run later (number + 1) (lines_of ys))) took.0;
    takes = ap (taken_from run stage number) e ∙ ap (λ (was : Turn (List Served)). taken_with line was (λ later. taken_from run later (number + 1) (lines_of ys))) took.0;
    opened = took.1;
    may = took.2;
    text_is = grows;
  }
  one_line line (Refused fault) e cut took grows =
      ap (text_from run stage number) e ∙ ap (λ (was : Turn (List Served)). after_turn was (λ later. text_from run later (number + 1) (lines_of ys))) took

  -- the first line of xs is too long, and this is the front of it
  long_line : (first line : List ℕ) (rest : List (List ℕ)) (did : HeadLine) → lines_of xs ≡ first ∷ rest → 4096 < length first → line ≡ take 4097 first
      → Took stage (turn run stage number line) hub ids reached number did → IsFirstLine stage number xs hub ids reached text texts did ys
  unfolding text_from
  long_line first line rest did e long front took = by did took
    where
      short : turn run stage number line ≡ ends (refused number Form)
      short = ap (turn run stage number) front ∙ long_refused run stage number (take 4097 first) (omega (arith, length-take 4097 first, long))

      by : (d : HeadLine) → Took stage (turn run stage number line) hub ids reached number d → IsFirstLine stage number xs hub ids reached text texts d ys
      by GoesOn took = absurd (never_goes_on (refused number Form) took.0 (sym short ∙ took.1))
      by Ends took = absurd (never_done (refused number Form) (done 0) refl refl (sym short ∙ took.0))
      by (Refused fault) took =
          let outcome = same_end (refused number Form) (refused number fault) (sym short ∙ took) in
          ap (text_from run stage number) e ∙ ap (λ (was : Turn (List Served)). after_turn was (λ later. text_from run later (number + 1) rest)) (long_refused run stage number first long) ∙ outcome

no_line : (stage : Stage (List Served)) (number : ℕ) (xs : List ℕ) → lines_of xs ≡ [] → text_from run stage number (lines_of xs) ≡ refused number Order
unfolding text_from
no_line stage number xs e = ap (text_from run stage number) e

-- the same, where what is left is told
pub line_is_told : (left leaves : Option (List ℕ)) (line : List ℕ) (stage : Stage (List Served)) (number : ℕ) (hub : Option Seen) (ids : List ℕ) (reached : Reached) (text texts : List ℕ) (did : HeadLine) → TakesNext left leaves line Line
    → Took stage (turn run stage number line) hub ids reached number did → Grows did text texts line → IfBothTold left leaves (λ xs ys. IsFirstLine stage number xs hub ids reached text texts did ys)
line_is_told None leaves line stage number hub ids reached text texts did next took grows = tt
line_is_told (Some xs) None line stage number hub ids reached text texts did next took grows = next
line_is_told (Some xs) (Some ys) line stage number hub ids reached text texts did next took grows =
    one_line stage number xs hub ids reached text texts ys line did next.0 next.2 took grows

pub long_is_told : (left leaves : Option (List ℕ)) (line : List ℕ) (stage : Stage (List Served)) (number : ℕ) (hub : Option Seen) (ids : List ℕ) (reached : Reached) (text texts : List ℕ) (did : HeadLine) → TakesNext left leaves line Long
    → Took stage (turn run stage number line) hub ids reached number did → IfBothTold left leaves (λ xs ys. IsFirstLine stage number xs hub ids reached text texts did ys)
long_is_told None leaves line stage number hub ids reached text texts did next took = tt
long_is_told (Some xs) None line stage number hub ids reached text texts did next took = next
long_is_told (Some xs) (Some ys) line stage number hub ids reached text texts did next took =
    long_line stage number xs hub ids reached text texts ys next.0 line next.1 did next.2 next.3 next.4 took

pub end_is_told : (left leaves : Option (List ℕ)) (line : List ℕ) (stage : Stage (List Served)) (number : ℕ) → TakesNext left leaves line End
    → IfBothTold left leaves (λ xs ys. text_from run stage number (lines_of xs) ≡ refused number Order)
end_is_told None leaves line stage number next = tt
end_is_told (Some xs) None line stage number next = next
end_is_told (Some xs) (Some ys) line stage number next = no_line stage number xs next

-- What holds before a line of a head: the lines so far lead to a stage, from which the rest of it goes on.
pub record IsReading (hub : Option Seen) (ids : List ℕ) (reached : Reached) (text : List ℕ) (number : ℕ) (xs ys : List ℕ) : Type 0 where
  pub stage : Stage (List Served)
  pub opened : HasOpenedBy hub ids reached stage
  pub leads : Leads text stage
  -- the lines so far and the rest are all, but for a line feed that the last one may lack
  pub whole : (xs ≡ text ++ ys) ⊎ (ys ≡ [])
  pub ends : head_end xs ≡ text_from run stage number (lines_of ys)
  pub reaches : head_stage xs ≡ stage_from run stage number (lines_of ys)
  pub text_is : head_text xs ≡ text ++ flat_map with_feed (taken_from run stage number (lines_of ys))

pub reading_begins : (o : Option (List ℕ)) (hub : Option Seen) (ids : List ℕ) (reached : Reached) (text : List ℕ) → text ≡ [] → HasOpenedBy hub ids reached (starting Serve)
    → IfBothTold o o (IsReading hub ids reached text 1)
reading_begins None hub ids reached text empty opened = tt
reading_begins (Some xs) hub ids reached text empty opened =
    subst (λ (t : List ℕ). IsReading hub ids reached t 1 xs xs) (sym empty) (record { stage = starting Serve; opened = opened; leads = nothing; whole = inl refl; ends = refl; reaches = refl; text_is = refl })

no_line_left : (ys zs line : List ℕ) → ys ≡ [] → lines_of ys ≡ line ∷ lines_of zs → ⊥
unfolding lines_of
no_line_left ys zs line none e =
    let nothing : lines_of [] ≡ line ∷ lines_of zs = subst (λ (l : List ℕ). lines_of l ≡ line ∷ lines_of zs) none e in
    cc

-- the lines so far, with one more
one_longer : (text texts line xs ys zs : List ℕ) → xs ≡ text ++ ys → IsCutOff ys zs line → texts ≡ text ++ with_feed line → (xs ≡ texts ++ zs) ⊎ (zs ≡ [])
one_longer text texts line xs ys zs all cut grows =
    elim cut.whole as (λ _. (xs ≡ texts ++ zs) ⊎ (zs ≡ [])) [
      | inl fed ↦ inl (all ∙ ap (λ (l : List ℕ). text ++ l) (fed ∙ sym (append_assoc line (codes "\n") zs)) ∙ sym (append_assoc text (with_feed line) zs) ∙ ap (λ (t : List ℕ). t ++ zs) (sym grows))
      | inr last ↦ inr last.1
    ]

-- A line goes on.
goes_past : (hub later_hub : Option Seen) (ids later_ids : List ℕ) (reached later_reached : Reached) (text texts : List ℕ) (number : ℕ) (xs ys zs : List ℕ) (r : IsReading hub ids reached text number xs ys)
    → GoesOnAfter r.stage number ys later_hub later_ids later_reached text texts zs → IsReading later_hub later_ids later_reached texts (number + 1) xs zs
unfolding text_from stage_from taken_from
goes_past hub later_hub ids later_ids reached later_reached text texts number xs ys zs r g =
    let more = taken_from run g.later (number + 1) (lines_of zs) in
    record {
      stage = g.later;
      opened = g.opened;
      leads = subst (λ (t : List ℕ). Leads t g.later) (sym g.text_is) (leads_on text r.stage g.later number g.line [] r.leads g.cut.clean g.does);
      whole = elim r.whole as (λ _. (xs ≡ texts ++ zs) ⊎ (zs ≡ [])) [
        | inl all ↦ one_longer text texts g.line xs ys zs all g.cut g.text_is
        | inr none ↦ absurd (no_line_left ys zs g.line none g.lines)
      ];
      ends = r.ends ∙ ap (text_from run r.stage number) g.lines ∙ ap (λ (was : Turn (List Served)). after_turn was (λ later. text_from run later (number + 1) (lines_of zs))) g.does;
      reaches = r.reaches ∙ ap (stage_from run r.stage number) g.lines ∙ ap (λ (was : Turn (List Served)). stage_after r.stage was (λ later. stage_from run later (number + 1) (lines_of zs))) g.does;
      text_is =
          r.text_is
          ∙ ap (λ (ls : List (List ℕ)). text ++ flat_map with_feed ls) (ap (taken_from run r.stage number) g.lines ∙ ap (λ (was : Turn (List Served)). taken_with g.line was (λ later. taken_from run later (number + 1) (lines_of zs))) g.does)
          ∙ sym (append_assoc text (with_feed g.line) (flat_map with_feed more))
          ∙ ap (λ (t : List ℕ). t ++ flat_map with_feed more) (sym g.text_is);
    }

-- the next line, at whatever stage
abbrev pub TakesLine : Option Seen → List ℕ → Reached → Option Seen → List ℕ → Reached → List ℕ → List ℕ → HeadLine → Option (List ℕ) → Option (List ℕ) → Type 0
TakesLine hub ids reached later_hub later_ids later_reached text texts did left leaves =
    (stage : Stage (List Served)) (number : ℕ) → HasOpenedBy hub ids reached stage → IfBothTold left leaves (λ xs ys. IsFirstLine stage number xs later_hub later_ids later_reached text texts did ys)

pub reading_goes_on : (left leaves later : Option (List ℕ)) (hub later_hub : Option Seen) (ids later_ids : List ℕ) (reached later_reached : Reached) (text texts : List ℕ) (number : ℕ)
    → IfBothTold left leaves (IsReading hub ids reached text number) → TakesLine hub ids reached later_hub later_ids later_reached text texts GoesOn leaves later
    → IfBothTold left later (IsReading later_hub later_ids later_reached texts (number + 1))
reading_goes_on None leaves later hub later_hub ids later_ids reached later_reached text texts number r takes = tt
reading_goes_on (Some xs) None later hub later_hub ids later_ids reached later_reached text texts number r takes = absurd r
reading_goes_on (Some xs) (Some ys) None hub later_hub ids later_ids reached later_reached text texts number r takes = absurd (takes r.stage number r.opened)
reading_goes_on (Some xs) (Some ys) (Some zs) hub later_hub ids later_ids reached later_reached text texts number r takes =
    goes_past hub later_hub ids later_ids reached later_reached text texts number xs ys zs r (takes r.stage number r.opened)

-- What a head is that was read whole.
pub record IsWhole (hub : Option Seen) (ids text : List ℕ) (xs : List ℕ) : Type 0 where
  pub end : head_end xs ≡ done 0
  pub text_is : text ≡ head_text xs
  pub leads : Leads text (head_stage xs)
  pub may : may_come (head_stage xs).reached end_line ≡ true
  pub opened : HasOpened hub ids (head_stage xs)

pub reading_ends : (left leaves later : Option (List ℕ)) (hub later_hub : Option Seen) (ids later_ids : List ℕ) (reached later_reached : Reached) (text texts : List ℕ) (number : ℕ)
    → IfBothTold left leaves (IsReading hub ids reached text number) → TakesLine hub ids reached later_hub later_ids later_reached text texts Ends leaves later
    → IfTold left (IsWhole later_hub later_ids texts)
reading_ends None leaves later hub later_hub ids later_ids reached later_reached text texts number r takes = tt
reading_ends (Some xs) None later hub later_hub ids later_ids reached later_reached text texts number r takes = absurd r
reading_ends (Some xs) (Some ys) None hub later_hub ids later_ids reached later_reached text texts number r takes = absurd (takes r.stage number r.opened)
reading_ends (Some xs) (Some ys) (Some zs) hub later_hub ids later_ids reached later_reached text texts number r takes =
    let e : EndsAt r.stage number ys later_hub later_ids text texts zs = takes r.stage number r.opened in
    let stage : r.stage ≡ head_stage xs = sym (r.reaches ∙ e.reaches) in
    record {
      end = r.ends ∙ e.end;
      text_is = e.text_is ∙ sym (r.text_is ∙ ap (λ (ls : List (List ℕ)). text ++ flat_map with_feed ls) e.takes ∙ append-nil text);
      leads = subst (λ (s : Stage (List Served)). Leads texts s) stage (subst (λ (t : List ℕ). Leads t r.stage) (sym e.text_is) r.leads);
      may = subst (λ (s : Stage (List Served)). may_come s.reached end_line ≡ true) stage e.may;
      opened = subst (λ (s : Stage (List Served)). HasOpened later_hub later_ids s) stage e.opened;
    }

pub reading_refuses : (left leaves later : Option (List ℕ)) (hub later_hub : Option Seen) (ids later_ids : List ℕ) (reached later_reached : Reached) (text texts : List ℕ) (number : ℕ) (fault : LineFault)
    → IfBothTold left leaves (IsReading hub ids reached text number) → TakesLine hub ids reached later_hub later_ids later_reached text texts (Refused fault) leaves later
    → IfTold left (λ xs. head_end xs ≡ refused number fault)
reading_refuses None leaves later hub later_hub ids later_ids reached later_reached text texts number fault r takes = tt
reading_refuses (Some xs) None later hub later_hub ids later_ids reached later_reached text texts number fault r takes = absurd r
reading_refuses (Some xs) (Some ys) None hub later_hub ids later_ids reached later_reached text texts number fault r takes = absurd (takes r.stage number r.opened)
reading_refuses (Some xs) (Some ys) (Some zs) hub later_hub ids later_ids reached later_reached text texts number fault r takes = r.ends ∙ takes r.stage number r.opened

-- what is told stays told
pub reading_told : (left leaves later : Option (List ℕ)) (hub later_hub : Option Seen) (ids later_ids : List ℕ) (reached later_reached : Reached) (text texts : List ℕ) (number : ℕ) (did : HeadLine)
    → IfBothTold left leaves (IsReading hub ids reached text number) → TakesLine hub ids reached later_hub later_ids later_reached text texts did leaves later
    → IfBothTold left later (λ xs zs. Unit {0})
reading_told None leaves later hub later_hub ids later_ids reached later_reached text texts number did r takes = tt
reading_told (Some xs) None later hub later_hub ids later_ids reached later_reached text texts number did r takes = absurd r
reading_told (Some xs) (Some ys) None hub later_hub ids later_ids reached later_reached text texts number did r takes = absurd (takes r.stage number r.opened)
reading_told (Some xs) (Some ys) (Some zs) hub later_hub ids later_ids reached later_reached text texts number did r takes = tt

-- a head that was read whole
pub head_is : (xs ids text numbered kept : List ℕ) (hub : Option Seen) (v : Seen) → Some v ≡ hub → numbered ≡ ids → kept ≡ text → IsWhole hub ids text xs → IsHeadOf xs v numbered kept
head_is xs ids text numbered kept hub v is ids_are text_are w = by (head_stage xs).reached.head refl (subst (λ (o : Option Seen). HubServes o (head_stage xs).reached.head (head_stage xs).state) (sym is) w.opened.served)
  where
    by : (h : Option Head) → (head_stage xs).reached.head ≡ h → HubServes (Some v) h (head_stage xs).state → IsHeadOf xs v numbered kept
    by None e serves = absurd serves
    by (Some head) e serves = record {
      end = w.end;
      text_is = text_are ∙ w.text_is;
      opens = record { stage = head_stage xs; leads = subst (λ (t : List ℕ). Leads t (head_stage xs)) (sym text_are) w.leads; ends = w.may; opened = refl };
      stands = serves.stands;
      tick = serves.tick ∙ ap tick_of (sym e);
      ids_are = ids_are ∙ w.opened.ids_are;
    }
