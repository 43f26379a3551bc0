-- How the lines of a trace for a pool are read, one after another.
use Rattle.std.proofs.Common.{◌≡◌, ℕ, ◌+◌, ◌<◌, List, [], ◌∷◌, ◌++◌, length, take, reverse, Option, None, Some, Ok, refl, sym, ap, ◌∙◌, subst, arith, length-take, append_assoc, append-nil}
use Rattle.std.specs.Prelude.{filter_map}
use Rattle.std.specs.List.{cons_option}
use Rattle.std.specs.Io.KnownBytes.{prepend_known}
use Rattle.std.proofs.lemmas.List.{reverse-append, reverse-reverse}
use Rattle.line_io.specs.{TakesNext}
use Rattle.line_io.specs.declared.Next.TheVariants.{Line, Long}
use Rattle.rams_model.specs.declared.{LineFault.LineFault, LineFault.TheVariants.Form, Status.Status, Status.TheVariants.Done}
use Rattle.rams_model.specs.Texts.{TraceLine, Reached, judged, lines_of}
use Rattle.server_hub.specs.declared.HubEvent.{HubEvent}
use Rattle.server_hub.specs.Served.{Served}
use Rattle.trace_loop.specs.trace_book.trace_serving.{Stage, Outcome, Turn, ends, opening, done, refused, too_long, turn, after_line, brought, text_from, served_text, stage_from, last_stage, taken_from}
use Rattle.trace_loop.specs.trace_book.{run, trace_text, taken, event_at, came as came_in}
use Rattle.trace_loop.specs.{IfTold, IfBothTold}
use Rattle.trace_loop.proofs.EndedTurns.{same_end, never_goes_on, never_done, never_long, long_refused, text_ends, stage_stays, takes_none, text_goes_on, stage_goes_on, takes_line}
use Rattle.pool.specs.declared.pool_loop.dealing.Dealt.{Dealt}
use Rattle.trace_loop.specs.declared.whole_trace.Does.{Does}
use Rattle.trace_loop.specs.declared.whole_trace.Does.TheVariants.{GoesOn, Ends, Refused, TooLong}
use Rattle.pool.specs.pool_loop.{pool, came_with, HasDealt, HasDealtBy, Took, StandsAfter, GoesOnAfter, EndsAt, IsFirstLine, IsReadOf}
use Rattle.pool.proofs.pool_loop.Turns.{GoesOnTo, turn_so, run_goes_on, run_ends, brings_so}

-- the turn of a line that was judged
pub judged_turn : (d : Dealt) (came : List HubEvent) (stage : Stage (List Served)) (number : ℕ) (bytes : List ℕ) (read : TraceLine) (later : Reached) (does : Does) → judged stage.reached bytes ≡ Ok (read, later)
    → Took d came (brought run read) stage (after_line pool stage later read (brought pool read)) number does → Took d came (event_at bytes) stage (turn pool stage number bytes) number does
judged_turn d came stage number bytes read later does j took =
    subst (λ (was : Turn (List Served)). Took d came (event_at bytes) stage was number does) (sym (turn_so stage number bytes read later j))
    (subst (λ (o : Option HubEvent). Took d came o stage (after_line pool stage later read (brought pool read)) number does) (sym (brings_so stage.reached later bytes read j)) took)

-- whatever the turn was, something stands there
pub took_stands : (d : Dealt) (came : List HubEvent) (event : Option HubEvent) (stage : Stage (List Served)) (was : Turn (List Served)) (number : ℕ) (does : Does) → Took d came event stage was number does → StandsAfter does d
took_stands d came event stage was number GoesOn took = (came_with event came, took.0, took.2)
took_stands d came event stage was number Ends took = (came, stage, took.1, took.2)
took_stands d came event stage was number (Refused fault) took = tt
took_stands d came event stage was number TooLong took = tt

module _ (new : Dealt) (came : List HubEvent) (stage : Stage (List Served)) (number : ℕ) (xs ys : List ℕ) where
  -- the first line of xs is this one
  one_line : (line : List ℕ) (does : Does) → lines_of xs ≡ line ∷ lines_of ys → Took new came (event_at line) stage (turn pool stage number line) number does → IsFirstLine new came stage number xs does ys
  one_line line GoesOn e took = record { line = line; lines = e; later = took.0; does = took.1; dealt = took.2 }
  one_line line Ends e took = record { line = line; later = lines_of ys; lines = e; does = took.0; dealt = took.1; may = took.2 }
  one_line line (Refused fault) e took = text_ends pool stage number (lines_of xs) line (lines_of ys) (refused number fault) e took
  one_line line TooLong e took = text_ends pool stage number (lines_of xs) line (lines_of ys) too_long e took

  -- the first line of xs is too long, and this is the front of it
  long_line : (first line : List ℕ) (rest : List (List ℕ)) (does : Does) → lines_of xs ≡ first ∷ rest → 4096 < length first → line ≡ take 4097 first
      → Took new came (event_at line) stage (turn pool stage number line) number does → IsFirstLine new came stage number xs does ys
  long_line first line rest does e long front took = by does took
    where
      short : turn pool stage number line ≡ ends (refused number Form)
      short = ap (turn pool stage number) front ∙ long_refused pool stage number (take 4097 first) (omega (arith, length-take 4097 first, long))

      by : (d : Does) → Took new came (event_at line) stage (turn pool stage number line) number d → IsFirstLine new came stage number xs d ys
      by GoesOn took = absurd (never_goes_on (refused number Form) took.0 [] (sym short ∙ took.1))
      by Ends took = absurd (never_done (refused number Form) (done stage.events) refl refl (sym short ∙ took.0))
      by TooLong took = absurd (never_long (refused number Form) too_long refl refl (sym short ∙ took))
      by (Refused fault) took =
          let outcome = same_end (refused number Form) (refused number fault) (sym short ∙ took) in
          text_ends pool stage number (lines_of xs) first rest (refused number Form) e (long_refused pool stage number first long) ∙ outcome

-- the same, where what is left is told
pub line_is_told : (new : Dealt) (left leaves : Option (List ℕ)) (line : List ℕ) (came : List HubEvent) (stage : Stage (List Served)) (number : ℕ) (does : Does) → TakesNext left leaves line Line
    → Took new came (event_at line) stage (turn pool stage number line) number does → IfBothTold left leaves (λ xs ys. IsFirstLine new came stage number xs does ys)
line_is_told new None leaves line came stage number does next took = tt
line_is_told new (Some xs) None line came stage number does next took = next
line_is_told new (Some xs) (Some ys) line came stage number does next took = one_line new came stage number xs ys line does next.0 took

pub long_is_told : (new : Dealt) (left leaves : Option (List ℕ)) (line : List ℕ) (came : List HubEvent) (stage : Stage (List Served)) (number : ℕ) (does : Does) → TakesNext left leaves line Long
    → Took new came (event_at line) stage (turn pool stage number line) number does → IfBothTold left leaves (λ xs ys. IsFirstLine new came stage number xs does ys)
long_is_told new None leaves line came stage number does next took = tt
long_is_told new (Some xs) None line came stage number does next took = next
long_is_told new (Some xs) (Some ys) line came stage number does next took = long_line new came stage number xs ys next.0 line next.1 does next.2 next.3 next.4 took

-- ---- line by line

-- What holds before a line: those so far lead to a stage, from which the rest of the trace goes on, for a pool and for `run`.
pub record IsReading (d : Dealt) (number : ℕ) (xs ys : List ℕ) : Type 0 where
  pub came : List HubEvent
  pub stage : Stage (List Served)
  pub dealt : HasDealtBy d came stage
  pub ends_so : text_from pool (opening pool) 1 (lines_of xs) ≡ text_from pool stage number (lines_of ys)
  pub runs : (text_from run (opening run) 1 (lines_of xs)).status ≡ (text_from run stage number (lines_of ys)).status
  pub reaches : last_stage run xs ≡ stage_from run stage number (lines_of ys)
  pub brings : filter_map event_at (taken xs) ≡ reverse came ++ filter_map event_at (taken_from run stage number (lines_of ys))

pub reading_begins : (o : Option (List ℕ)) (kept : List ℕ) (d : Dealt) → kept ≡ [] → HasDealtBy d [] (opening pool) → IfBothTold o (prepend_known kept o) (IsReading d 1)
reading_begins None kept d empty_now dealt = tt
reading_begins (Some xs) kept d empty_now dealt =
    subst (λ (k : List ℕ). IsReading d 1 xs (k ++ xs)) (sym empty_now)
    (record {
      came = [];
      stage = opening pool;
      dealt = dealt;
      ends_so = refl;
      runs = refl;
      reaches = refl;
      brings = refl;
    })

-- an event more, at the front of what came and in front of what is still to come
one_brought : (o : Option HubEvent) (came later : List HubEvent) → reverse came ++ cons_option o later ≡ reverse (came_with o came) ++ later
one_brought None came later = refl
one_brought (Some e) came later = sym (append_assoc (reverse came) (e ∷ []) later) ∙ ap (λ (l : List HubEvent). l ++ later) (sym (reverse-append (e ∷ []) came))

-- A line goes on.
module _ (old new : Dealt) (number : ℕ) (xs ys zs : List ℕ) (r : IsReading old number xs ys) (g : GoesOnAfter new r.came r.stage number ys zs) where
  on : GoesOnTo (turn run r.stage number g.line) g.later
  on = run_goes_on r.stage number g.line g.later g.does

  goes_past : IsReading new (number + 1) xs zs
  goes_past = record {
    came = came_with (event_at g.line) r.came;
    stage = g.later;
    dealt = g.dealt;
    ends_so = r.ends_so ∙ text_goes_on pool r.stage g.later number (lines_of ys) g.line [] (lines_of zs) g.lines g.does;
    runs = r.runs ∙ ap (λ (o : Outcome). o.status) (text_goes_on run r.stage g.later number (lines_of ys) g.line on.0 (lines_of zs) g.lines on.1);
    reaches = r.reaches ∙ stage_goes_on run r.stage g.later number (lines_of ys) g.line on.0 (lines_of zs) g.lines on.1;
    brings =
        r.brings
        ∙ ap (λ (ls : List (List ℕ)). reverse r.came ++ filter_map event_at ls)
        (takes_line run r.stage g.later number (lines_of ys) g.line on.0 (lines_of zs) g.lines on.1)
        ∙ one_brought (event_at g.line) r.came (filter_map event_at (taken_from run g.later (number + 1) (lines_of zs)));
  }

-- the next line, at whatever stage
abbrev pub TakesLine : Dealt → Dealt → Does → Option (List ℕ) → Option (List ℕ) → Type 0
TakesLine old new does left leaves = (came : List HubEvent) (stage : Stage (List Served)) (number : ℕ) → HasDealtBy old came stage → IfBothTold left leaves (λ xs ys. IsFirstLine new came stage number xs does ys)

pub reading_goes_on : (left leaves later : Option (List ℕ)) (old new : Dealt) (number : ℕ) → IfBothTold left leaves (IsReading old number) → TakesLine old new GoesOn leaves later
    → IfBothTold left later (IsReading new (number + 1))
reading_goes_on None leaves later old new number r takes = tt
reading_goes_on (Some xs) None later old new number r takes = absurd r
reading_goes_on (Some xs) (Some ys) None old new number r takes = absurd (takes r.came r.stage number r.dealt)
reading_goes_on (Some xs) (Some ys) (Some zs) old new number r takes = goes_past old new number xs ys zs r (takes r.came r.stage number r.dealt)

-- nothing is written before the first line
read_text : (xs : List ℕ) (o : Outcome) → text_from pool (opening pool) 1 (lines_of xs) ≡ o → served_text pool xs ≡ o
unfolding served_text
read_text xs o e = e

run_status : (xs : List ℕ) (s : Status) → (text_from run (opening run) 1 (lines_of xs)).status ≡ s → (trace_text xs).status ≡ s
unfolding served_text
run_status xs s e = e

-- A line is `end`.
module _ (old new : Dealt) (number : ℕ) (xs ys : List ℕ) (r : IsReading old number xs ys) (e : EndsAt new r.came r.stage number ys) where
  ended : turn run r.stage number e.line ≡ ends (done r.stage.events)
  ended = run_ends r.stage number e.line r.stage.events e.does

  is_end : text_from pool r.stage number (lines_of ys) ≡ done r.stage.events
  is_end = text_ends pool r.stage number (lines_of ys) e.line e.later (done r.stage.events) e.lines e.does

  runs_so : (text_from run r.stage number (lines_of ys)).status ≡ Done
  runs_so = ap (λ (o : Outcome). o.status) (text_ends run r.stage number (lines_of ys) e.line e.later (done r.stage.events) e.lines ended)

  stays : stage_from run r.stage number (lines_of ys) ≡ r.stage
  stays = stage_stays run r.stage number (lines_of ys) e.line e.later (done r.stage.events) e.lines ended

  none_left : taken_from run r.stage number (lines_of ys) ≡ []
  none_left = takes_none run r.stage number (lines_of ys) e.line e.later (done r.stage.events) e.lines ended

  all_came : came_in xs ≡ r.came
  all_came = ap reverse (r.brings ∙ ap (λ (ls : List (List ℕ)). reverse r.came ++ filter_map event_at ls) none_left ∙ append-nil (reverse r.came)) ∙ reverse-reverse r.came

  whole_read : IsReadOf xs new
  whole_read = record {
    end = ap (λ (o : Outcome). o.status) (read_text xs (done r.stage.events) (r.ends_so ∙ is_end));
    ends = run_status xs Done (r.runs ∙ runs_so);
    dealt = subst (λ (came : List HubEvent). HasDealt new came (last_stage run xs)) (sym all_came) (subst (HasDealt new r.came) (sym (r.reaches ∙ stays)) e.dealt);
  }

pub reading_ends : (left leaves later : Option (List ℕ)) (old new : Dealt) (number : ℕ) → IfBothTold left leaves (IsReading old number) → TakesLine old new Ends leaves later → IfTold left (λ xs. IsReadOf xs new)
reading_ends None leaves later old new number r takes = tt
reading_ends (Some xs) None later old new number r takes = absurd r
reading_ends (Some xs) (Some ys) None old new number r takes = absurd (takes r.came r.stage number r.dealt)
reading_ends (Some xs) (Some ys) (Some zs) old new number r takes = whole_read old new number xs ys r (takes r.came r.stage number r.dealt)

pub reading_refuses : (left leaves later : Option (List ℕ)) (old new : Dealt) (number : ℕ) (fault : LineFault) → IfBothTold left leaves (IsReading old number) → TakesLine old new (Refused fault) leaves later
    → IfTold left (λ xs. served_text pool xs ≡ refused number fault)
reading_refuses None leaves later old new number fault r takes = tt
reading_refuses (Some xs) None later old new number fault r takes = absurd r
reading_refuses (Some xs) (Some ys) None old new number fault r takes = absurd (takes r.came r.stage number r.dealt)
reading_refuses (Some xs) (Some ys) (Some zs) old new number fault r takes = read_text xs (refused number fault) (r.ends_so ∙ takes r.came r.stage number r.dealt)

pub reading_breaks : (left leaves later : Option (List ℕ)) (old new : Dealt) (number : ℕ) → IfBothTold left leaves (IsReading old number) → TakesLine old new TooLong leaves later
    → IfTold left (λ xs. served_text pool xs ≡ too_long)
reading_breaks None leaves later old new number r takes = tt
reading_breaks (Some xs) None later old new number r takes = absurd r
reading_breaks (Some xs) (Some ys) None old new number r takes = absurd (takes r.came r.stage number r.dealt)
reading_breaks (Some xs) (Some ys) (Some zs) old new number r takes = read_text xs too_long (r.ends_so ∙ takes r.came r.stage number r.dealt)
