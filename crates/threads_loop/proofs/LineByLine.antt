-- How the lines of a trace for threads are read, one after another.
use Rattle.std.proofs.Common.{◌≡◌, ℕ, ◌+◌, ◌<◌, List, [], ◌∷◌, ◌++◌, length, take, true, Option, None, Some, is_some, Result, Ok, refl, sym, ap, ◌∙◌, subst, arith, length-take, append_assoc, append-nil, inl, inr}
use Rattle.std.specs.Prelude.{◌⊎◌, option_and_then}
use Rattle.std.specs.Io.KnownBytes.{prepend_known}
use Rattle.std.specs.List.{flat_map}
use Rattle.std.proofs.lemmas.Bool.{and_parts}
use Rattle.line_io.specs.{HasNoFeed, TakesNext}
use Rattle.line_io.specs.declared.Next.TheVariants.{Line, Long}
use Rattle.rams_model.specs.declared.{LineFault.LineFault, LineFault.TheVariants.Form, Mode.TheVariants.Serve}
use Rattle.rams_model.specs.Texts.{TraceLine, Reached, judged, lines_of, may_come, end_line}
use Rattle.server_hub.specs.declared.HubEvent.{HubEvent}
use Rattle.server_hub.specs.Served.{Served}
use Rattle.trace_loop.specs.trace_book.trace_serving.{Stage, Outcome, Turn, goes_on, ends, opening, done, refused, too_long, turn, after_line, after_judging, text_from, served_text, stage_from, last_stage, taken_from, brought, event_at}
use Rattle.trace_loop.specs.trace_book.{run, new_channels}
use Rattle.trace_loop.specs.journal_book.{Leads, line as leads_on, nothing, starting}
use Rattle.trace_loop.specs.{IfTold, IfBothTold}
use Rattle.trace_loop.proofs.EndedTurns.{same_end, never_goes_on, never_done, never_long, long_refused, text_ends, stage_stays, takes_none, text_goes_on, stage_goes_on, takes_line}
use Rattle.threads_loop.specs.declared.dealing.Dealt.{Dealt}
use Rattle.trace_loop.specs.declared.whole_trace.Does.{Does}
use Rattle.trace_loop.specs.declared.whole_trace.Does.TheVariants.{GoesOn, Ends, Refused, TooLong}
use Rattle.trace_loop.specs.head_loop.{with_feed}
use Rattle.threads_loop.specs.{threads, part_of, head_part, head_lines, HasDealt, HasDealtBy, Took, Grows, StandsAfter, GoesOnAfter, EndsAt, IsFirstLine, IsReadOf}
use Rattle.threads_loop.proofs.Accepted.{taken_so}
use Rattle.threads_loop.proofs.Heads.{head_of, head_step}
use Rattle.threads_loop.proofs.Taking.{is_known}

-- the turn of a line that was judged
pub judged_turn : (d : Dealt) (stage : Stage (List Served)) (number : ℕ) (bytes : List ℕ) (read : TraceLine) (later : Reached) (does : Does) → judged stage.reached bytes ≡ Ok (read, later)
    → Took d stage (after_line threads stage later read (brought threads read)) number does → Took d stage (turn threads stage number bytes) number does
unfolding turn
judged_turn d stage number bytes read later does h took =
    subst (λ (o : Result (TraceLine × Reached) LineFault). Took d stage (after_judging threads stage number o) number does) (sym h) took

-- the event that the bytes of a line bring is that of the line
pub brings_so : (r later : Reached) (bytes : List ℕ) (read : TraceLine) → judged r bytes ≡ Ok (read, later) → event_at threads bytes ≡ brought threads read
brings_so r later bytes read j = ap (option_and_then (brought threads)) (taken_so r bytes read later j).reads

-- whatever the turn was, something stands there
pub took_stands : (d : Dealt) (stage : Stage (List Served)) (was : Turn (List Served)) (number : ℕ) (does : Does) → Took d stage was number does → StandsAfter does d
took_stands d stage was number GoesOn took = (took.0, took.2)
took_stands d stage was number Ends took = (stage, took.1, took.2)
took_stands d stage was number (Refused fault) took = tt
took_stands d stage was number TooLong took = tt

module _ (old new : Dealt) (stage : Stage (List Served)) (number : ℕ) (xs ys : List ℕ) where
  -- the first line of xs is this one
  one_line : (line : List ℕ) (does : Does) → lines_of xs ≡ line ∷ lines_of ys → HasNoFeed line → Took new stage (turn threads stage number line) number does
      → Grows does old.head.items new.head.items line (event_at threads line) → IsFirstLine old new stage number xs does ys
  one_line line GoesOn e clean took grows = record { line = line; clean = clean; lines = e; later = took.0; does = took.1; dealt = took.2; head_is = grows }
  one_line line Ends e clean took grows = record {
    end = text_ends threads stage number (lines_of xs) line (lines_of ys) (done stage.events) e took.0;
    reaches = stage_stays threads stage number (lines_of xs) line (lines_of ys) (done stage.events) e took.0;
    takes = takes_none threads stage number (lines_of xs) line (lines_of ys) (done stage.events) e took.0;
    dealt = took.1;
    may = took.2;
    head_is = grows;
  }
  one_line line (Refused fault) e clean took grows = text_ends threads stage number (lines_of xs) line (lines_of ys) (refused number fault) e took
  one_line line TooLong e clean took grows = text_ends threads stage number (lines_of xs) line (lines_of ys) too_long e took

  -- the first line of xs is too long, and this is the front of it
  long_line : (first line : List ℕ) (rest : List (List ℕ)) (does : Does) → lines_of xs ≡ first ∷ rest → 4096 < length first → line ≡ take 4097 first
      → Took new stage (turn threads stage number line) number does → IsFirstLine old new stage number xs does ys
  long_line first line rest does e long front took = by does took
    where
      short : turn threads stage number line ≡ ends (refused number Form)
      short = ap (turn threads stage number) front ∙ long_refused threads stage number (take 4097 first) (omega (arith, length-take 4097 first, long))

      by : (d : Does) → Took new stage (turn threads stage number line) number d → IsFirstLine old new stage number xs d ys
      by GoesOn took = absurd (never_goes_on (refused number Form) took.0 [] (sym short ∙ took.1))
      by Ends took = absurd (never_done (refused number Form) (done stage.events) refl refl (sym short ∙ took.0))
      by TooLong took = absurd (never_long (refused number Form) too_long refl refl (sym short ∙ took))
      by (Refused fault) took =
          let outcome = same_end (refused number Form) (refused number fault) (sym short ∙ took) in
          text_ends threads stage number (lines_of xs) first rest (refused number Form) e (long_refused threads stage number first long) ∙ outcome

-- the same, where what is left is told
pub line_is_told : (old new : Dealt) (left leaves : Option (List ℕ)) (line : List ℕ) (stage : Stage (List Served)) (number : ℕ) (does : Does) → TakesNext left leaves line Line
    → Took new stage (turn threads stage number line) number does → Grows does old.head.items new.head.items line (event_at threads line) → IfBothTold left leaves (λ xs ys. IsFirstLine old new stage number xs does ys)
line_is_told old new None leaves line stage number does next took grows = tt
line_is_told old new (Some xs) None line stage number does next took grows = next
line_is_told old new (Some xs) (Some ys) line stage number does next took grows = one_line old new stage number xs ys line does next.0 next.2.clean took grows

pub long_is_told : (old new : Dealt) (left leaves : Option (List ℕ)) (line : List ℕ) (stage : Stage (List Served)) (number : ℕ) (does : Does) → TakesNext left leaves line Long
    → Took new stage (turn threads stage number line) number does → IfBothTold left leaves (λ xs ys. IsFirstLine old new stage number xs does ys)
long_is_told old new None leaves line stage number does next took = tt
long_is_told old new (Some xs) None line stage number does next took = next
long_is_told old new (Some xs) (Some ys) line stage number does next took = long_line old new stage number xs ys next.0 line next.1 does next.2 next.3 next.4 took

-- ---- line by line

-- What holds before a line: those so far lead to a stage, from which the rest of the trace goes on.
pub record IsReading (workers : ℕ) (d : Dealt) (number : ℕ) (xs ys : List ℕ) : Type 0 where
  pub stage : Stage (List Served)
  pub dealt : HasDealtBy d stage
  pub workers_are : d.workers ≡ workers
  pub leads : Leads d.head.items (head_of stage)
  pub ends : text_from threads (opening threads) 1 (lines_of xs) ≡ text_from threads stage number (lines_of ys)
  pub reaches : last_stage threads xs ≡ stage_from threads stage number (lines_of ys)
  pub head_is : head_lines xs ≡ d.head.items ++ flat_map head_part (taken_from threads stage number (lines_of ys))

pub reading_begins : (o : Option (List ℕ)) (kept : List ℕ) (d : Dealt) → kept ≡ [] → d.head.items ≡ [] → HasDealtBy d (opening threads) → IfBothTold o (prepend_known kept o) (IsReading d.workers d 1)
reading_begins None kept d empty_now bare dealt = tt
reading_begins (Some xs) kept d empty_now bare dealt =
    subst (λ (k : List ℕ). IsReading d.workers d 1 xs (k ++ xs)) (sym empty_now)
    (record {
      stage = opening threads;
      dealt = dealt;
      workers_are = refl;
      leads = subst (λ (t : List ℕ). Leads t (starting Serve)) (sym bare) nothing;
      ends = refl;
      reaches = refl;
      head_is = ap (λ (t : List ℕ). t ++ head_lines xs) (sym bare);
    })

-- the head with one line more
leads_past : (old new : Dealt) (stage : Stage (List Served)) (number : ℕ) (xs ys : List ℕ) → HasDealt old stage → Leads old.head.items (head_of stage) → (g : GoesOnAfter old new stage number xs ys) → Leads new.head.items (head_of g.later)
leads_past old new stage number xs ys h leads g = by (head_step stage g.later number g.line h.mode g.does)
  where
    by : ((event_at threads g.line ≡ None) × ((n : ℕ) → turn run (head_of stage) n g.line ≡ goes_on (head_of g.later) []))
        ⊎ ((e : HubEvent) × (event_at threads g.line ≡ Some e) × (head_of g.later ≡ head_of stage)) → Leads new.head.items (head_of g.later)
    by (inl (silent, does)) =
        let text : new.head.items ≡ old.head.items ++ with_feed g.line = g.head_is ∙ ap (λ o. old.head.items ++ part_of o g.line) silent in
        subst (λ (t : List ℕ). Leads t (head_of g.later)) (sym text) (leads_on old.head.items (head_of stage) (head_of g.later) number g.line [] leads g.clean (does number))
    by (inr (e, brings, same)) =
        let text : new.head.items ≡ old.head.items = g.head_is ∙ ap (λ o. old.head.items ++ part_of o g.line) brings ∙ append-nil old.head.items in
        subst (λ (t : List ℕ). Leads t (head_of g.later)) (sym text) (subst (λ (s : Stage (List Served)). Leads old.head.items s) (sym same) leads)

-- A line goes on.
goes_past : (workers : ℕ) (old new : Dealt) (number : ℕ) (xs ys zs : List ℕ) → new.workers ≡ old.workers → (r : IsReading workers old number xs ys) → GoesOnAfter old new r.stage number ys zs → IsReading workers new (number + 1) xs zs
goes_past workers old new number xs ys zs same r g =
    let more = taken_from threads g.later (number + 1) (lines_of zs) in
    record {
      stage = g.later;
      dealt = g.dealt;
      workers_are = same ∙ r.workers_are;
      leads = leads_past old new r.stage number ys zs r.dealt.1 r.leads g;
      ends = r.ends ∙ text_goes_on threads r.stage g.later number (lines_of ys) g.line [] (lines_of zs) g.lines g.does;
      reaches = r.reaches ∙ stage_goes_on threads r.stage g.later number (lines_of ys) g.line [] (lines_of zs) g.lines g.does;
      head_is =
          r.head_is
          ∙ ap (λ (ls : List (List ℕ)). old.head.items ++ flat_map head_part ls)
          (takes_line threads r.stage g.later number (lines_of ys) g.line [] (lines_of zs) g.lines g.does)
          ∙ sym (append_assoc old.head.items (head_part g.line) (flat_map head_part more))
          ∙ ap (λ (t : List ℕ). t ++ flat_map head_part more) (sym g.head_is);
    }

-- the next line, at whatever stage
abbrev pub TakesLine : Dealt → Dealt → Does → Option (List ℕ) → Option (List ℕ) → Type 0
TakesLine old new does left leaves = (stage : Stage (List Served)) (number : ℕ) → HasDealtBy old stage → IfBothTold left leaves (λ xs ys. IsFirstLine old new stage number xs does ys)

pub reading_goes_on : (workers : ℕ) (left leaves later : Option (List ℕ)) (old new : Dealt) (number : ℕ) → new.workers ≡ old.workers → IfBothTold left leaves (IsReading workers old number) → TakesLine old new GoesOn leaves later
    → IfBothTold left later (IsReading workers new (number + 1))
reading_goes_on workers None leaves later old new number same r takes = tt
reading_goes_on workers (Some xs) None later old new number same r takes = absurd r
reading_goes_on workers (Some xs) (Some ys) None old new number same r takes = absurd (takes r.stage number r.dealt)
reading_goes_on workers (Some xs) (Some ys) (Some zs) old new number same r takes = goes_past workers old new number xs ys zs same r (takes r.stage number r.dealt)

-- nothing is written before the first line
read_text : (xs : List ℕ) (o : Outcome) → text_from threads (opening threads) 1 (lines_of xs) ≡ o → served_text threads xs ≡ o
unfolding served_text
read_text xs o e = e

pub reading_ends : (workers : ℕ) (left leaves later : Option (List ℕ)) (old new : Dealt) (number : ℕ) → new.workers ≡ old.workers → IfBothTold left leaves (IsReading workers old number) → TakesLine old new Ends leaves later
    → IfTold left (λ xs. IsReadOf workers xs new)
reading_ends workers None leaves later old new number same r takes = tt
reading_ends workers (Some xs) None later old new number same r takes = absurd r
reading_ends workers (Some xs) (Some ys) None old new number same r takes = absurd (takes r.stage number r.dealt)
reading_ends workers (Some xs) (Some ys) (Some zs) old new number same r takes =
    let e : EndsAt old new r.stage number ys = takes r.stage number r.dealt in
    let stage : r.stage ≡ last_stage threads xs = sym (r.reaches ∙ e.reaches) in
    record {
      end = read_text xs (done (last_stage threads xs).events) (r.ends ∙ e.end ∙ ap (λ (s : Stage (List Served)). done s.events) stage);
      dealt = subst (λ (s : Stage (List Served)). HasDealt new s) stage e.dealt;
      workers_are = same ∙ r.workers_are;
      head_is = e.head_is ∙ sym (r.head_is ∙ ap (λ (ls : List (List ℕ)). old.head.items ++ flat_map head_part ls) e.takes ∙ append-nil old.head.items);
      opens = record {
        stage = head_of r.stage;
        leads = subst (λ (t : List ℕ). Leads t (head_of r.stage)) (sym e.head_is) r.leads;
        ends = e.may;
        opened = ap (λ (s : Stage (List Served)). new_channels s.state) stage;
      };
    }

pub reading_refuses : (workers : ℕ) (left leaves later : Option (List ℕ)) (old new : Dealt) (number : ℕ) (fault : LineFault) → IfBothTold left leaves (IsReading workers old number) → TakesLine old new (Refused fault) leaves later
    → IfTold left (λ xs. served_text threads xs ≡ refused number fault)
reading_refuses workers None leaves later old new number fault r takes = tt
reading_refuses workers (Some xs) None later old new number fault r takes = absurd r
reading_refuses workers (Some xs) (Some ys) None old new number fault r takes = absurd (takes r.stage number r.dealt)
reading_refuses workers (Some xs) (Some ys) (Some zs) old new number fault r takes = read_text xs (refused number fault) (r.ends ∙ takes r.stage number r.dealt)

pub reading_breaks : (workers : ℕ) (left leaves later : Option (List ℕ)) (old new : Dealt) (number : ℕ) → IfBothTold left leaves (IsReading workers old number) → TakesLine old new TooLong leaves later
    → IfTold left (λ xs. served_text threads xs ≡ too_long)
reading_breaks workers None leaves later old new number r takes = tt
reading_breaks workers (Some xs) None later old new number r takes = absurd r
reading_breaks workers (Some xs) (Some ys) None old new number r takes = absurd (takes r.stage number r.dealt)
reading_breaks workers (Some xs) (Some ys) (Some zs) old new number r takes = read_text xs too_long (r.ends ∙ takes r.stage number r.dealt)

-- behind `end` the channel is known
pub ends_known : (d : Dealt) (stage : Stage (List Served)) → HasDealt d stage → may_come stage.reached end_line ≡ true → is_some d.config ≡ true
ends_known d stage h may =
    let known = is_known d stage h (and_parts _ _ (and_parts _ _ may).0).1 in ap is_some known.1
