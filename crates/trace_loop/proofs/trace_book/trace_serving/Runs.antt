-- How the lines of a trace go on, and what ends them.
use Rattle.std.proofs.Common.{◌≡◌, ℕ, ◌+◌, List, [], ◌∷◌, ◌++◌, length, Option, Some, None, refl, ap, sym, ◌∙◌, subst, arith, append_assoc}
use Rattle.std.specs.Prelude.{Result, Ok, Err, filter_map, option_and_then, option_to_list}
use Rattle.std.specs.List.{cons_option}
use mathlib.Core.List.{reverse_aux}
use Rattle.std.proofs.lemmas.List.{append-nil}
use Rattle.rams_model.specs.declared.{Channel.Channel, LineFault.LineFault, LineFault.TheVariants.Order}
use Rattle.rams_model.specs.Service.{Settings}
use Rattle.rams_model.specs.Texts.{lines_of, TraceLine, line_of, Head, Reached, judged}
use Rattle.trace_loop.specs.trace_book.trace_serving.{Serving, Stage, Turn, goes_on, ends, Outcome, ended, opening, turn, brought, after_line, after_judging, refused, after_text, after_turn, text_from, served_text, stage_after, stage_from, last_stage, IsStage, KeepsStage, StagesAreKept, taken_with, taken_from, event_at, head_of_line, head_at, channel_of_line, channel_at, EndsWith, is_missing, is_refused, IsServedSo}
use Rattle.trace_loop.proofs.trace_book.trace_serving.Judged.{judged_so}
use Rattle.trace_loop.proofs.trace_book.trace_serving.Steps.{channels_in, onto, Stands, says, Step, Steps, steps, opening_stage, opening_stands}

onto_first : {Event : Type 0} (brings : Option Event) (events past : List Event) → reverse_aux events (onto brings past) ≡ reverse_aux (cons_option brings events) past
onto_first {Event} None events past = refl
onto_first {Event} (Some e) events past = refl

one_first : {A : Type 0} (o : Option A) (xs ys : List A) → (xs ++ option_to_list o) ++ ys ≡ xs ++ cons_option o ys
one_first {A} None xs ys = ap (λ (l : List A). l ++ ys) (append-nil xs)
one_first {A} (Some x) xs ys = append_assoc xs (x ∷ []) ys

module _ {State Event : Type 0} (s : Serving State Event) where
  -- How the lines from a stage on go: to this stage, by these lines, with this outcome.
  pub record Goes (stage : Stage State) (all : List Settings) (number : ℕ) (lines : List (List ℕ)) (past : List Event) (text : List ℕ) (end : Stage State) (by : List (List ℕ)) (o : Outcome) : Type 0 where
    pub left : List (List ℕ)
    pub last : Outcome
    pub more : List ℕ
    pub place : ℕ
    pub now : List Settings
    pub kept : IsStage s end now
    pub splits : lines ≡ by ++ left
    pub place_is : place ≡ number + length by
    pub why : EndsWith s end place left last
    pub stands : Stands s end now (reverse_aux (filter_map (event_at s) by) past) (text ++ more)
    pub told : o ≡ ended last.status (more ++ last.text)
    pub opened : channels_in now ≡ channels_in all ++ filter_map channel_at by
    pub headed : option_to_list end.reached.head ≡ option_to_list stage.reached.head ++ filter_map head_at by

  -- the line of this number ends them
  stops : (stage : Stage State) (all : List Settings) (number : ℕ) (lines : List (List ℕ)) (past : List Event) (text : List ℕ) (o : Outcome) → IsStage s stage all → Stands s stage all past text
      → EndsWith s stage number lines o → Goes stage all number lines past text stage [] o
  stops stage all number lines past text o i h why = record {
    left = lines;
    last = o;
    more = [];
    place = number;
    now = all;
    kept = i;
    splits = refl;
    place_is = omega arith;
    why = why;
    stands = subst (Stands s stage all past) (sym (append-nil text)) h;
    told = refl;
    opened = sym (append-nil (channels_in all));
    headed = sym (append-nil (option_to_list stage.reached.head));
  }

  -- a line goes on, and the rest goes so
  goes_past : (stage next : Stage State) (all : List Settings) (number : ℕ) (bytes : List ℕ) (lines : List (List ℕ)) (line : TraceLine) (more : List ℕ) (past : List Event) (text : List ℕ) (end : Stage State) (by : List (List ℕ)) (o : Outcome)
      → line_of bytes ≡ Some line → (step : Step s stage all (says s line) next more) → Goes next step.now (number + 1) lines (onto (brought s line) past) (text ++ more) end by o
      → Goes stage all number (bytes ∷ lines) past text end (bytes ∷ by) (after_text more o)
  goes_past stage next all number bytes lines line more past text end by o reads step g =
      let brings : event_at s bytes ≡ brought s line = ap (option_and_then (brought s)) reads in
      let opens : channel_at bytes ≡ channel_of_line line = ap (option_and_then channel_of_line) reads in
      let heads : head_at bytes ≡ head_of_line line = ap (option_and_then head_of_line) reads in
      record {
        left = g.left;
        last = g.last;
        more = more ++ g.more;
        place = g.place;
        now = g.now;
        kept = g.kept;
        splits = ap (λ (l : List (List ℕ)). bytes ∷ l) g.splits;
        place_is = omega (arith, g.place_is);
        why = g.why;
        stands =
            subst (Stands s end g.now (reverse_aux (filter_map (event_at s) (bytes ∷ by)) past)) (append_assoc text more g.more)
            (subst (λ (l : List Event). Stands s end g.now l ((text ++ more) ++ g.more))
            (onto_first (brought s line) (filter_map (event_at s) by) past ∙ ap (λ (e : Option Event). reverse_aux (cons_option e (filter_map (event_at s) by)) past) (sym brings)) g.stands);
        told = ap (after_text more) g.told ∙ ap (ended g.last.status) (sym (append_assoc more g.more g.last.text));
        opened =
            g.opened ∙ ap (λ (l : List Channel). l ++ filter_map channel_at by) step.opened ∙ one_first (channel_of_line line) (channels_in all) (filter_map channel_at by)
            ∙ ap (λ (x : Option Channel). channels_in all ++ cons_option x (filter_map channel_at by)) (sym opens);
        headed =
            g.headed ∙ ap (λ (l : List Head). l ++ filter_map head_at by) step.headed ∙ one_first (head_of_line line) (option_to_list stage.reached.head) (filter_map head_at by)
            ∙ ap (λ (x : Option Head). option_to_list stage.reached.head ++ cons_option x (filter_map head_at by)) (sym heads);
      }

  -- how the rest of a trace goes from any stage
  abbrev GoesOn : ℕ → List (List ℕ) → Type 0
  GoesOn number lines =
      (stage : Stage State) (all : List Settings) (past : List Event) (text : List ℕ) → IsStage s stage all → Stands s stage all past text
      → Goes stage all number lines past text (stage_from s stage number lines) (taken_from s stage number lines) (text_from s stage number lines)

  -- A line, with what is behind it.
  module _ (stage : Stage State) (all : List Settings) (number : ℕ) (bytes : List ℕ) (lines : List (List ℕ)) (past : List Event) (text : List ℕ) (i : IsStage s stage all) (h : Stands s stage all past text) (rest : GoesOn (number + 1) lines) where
    abbrev GoesBy : Turn State → Type 0
    GoesBy t =
        Goes stage all number (bytes ∷ lines) past text (stage_after stage t (λ later. stage_from s later (number + 1) lines)) (taken_with bytes t (λ later. taken_from s later (number + 1) lines))
        (after_turn t (λ later. text_from s later (number + 1) lines))

    by_step : (line : TraceLine) (reached : Reached) → judged stage.reached bytes ≡ Ok (line, reached) → line_of bytes ≡ Some line → (t : Turn State) → Steps s stage all line t → GoesBy t
    by_step line reached j reads (goes_on next more) step =
        goes_past stage next all number bytes lines line more past text _ _ _ reads step
        (rest next step.now (onto (brought s line) past) (text ++ more) step.kept (step.stands past text h))
    by_step line reached j reads (ends o) why = stops stage all number (bytes ∷ lines) past text o i h (why bytes lines number reached j)

    by_judging : (r : Result (TraceLine × Reached) LineFault) → judged stage.reached bytes ≡ r → GoesBy (after_judging s stage number r)
    by_judging (Err fault) j = stops stage all number (bytes ∷ lines) past text (refused number fault) i h (is_refused bytes lines fault j)
    by_judging (Ok read) j =
        let is = judged_so stage.reached bytes read.0 read.1 j in
        by_step read.0 read.1 j is.reads (after_line s stage read.1 read.0 (brought s read.0)) (steps s stage all i read.0 read.1 is.accepts)

  goes : (number : ℕ) (lines : List (List ℕ)) → GoesOn number lines
  unfolding stage_from taken_from text_from turn
  goes number [] = λ stage all past text i h. stops stage all number [] past text (refused number Order) i h is_missing
  goes number (bytes ∷ lines) = λ stage all past text i h. by_judging stage all number bytes lines past text i h (goes (number + 1) lines) (judged stage.reached bytes) refl

  -- a whole trace
  pub is_served_so : (trace : List ℕ) → IsServedSo s trace
  unfolding served_text
  is_served_so trace =
      let g = goes 1 (lines_of trace) (opening s) [] [] [] (opening_stage s) (opening_stands s) in
      record {
        all = g.now;
        opened = g.opened;
        head = sym g.headed;
        stand = g.kept.stand;
        after = g.stands.after;
        count = g.stands.count;
        few = g.kept.few;
        left = g.left;
        last = g.last;
        splits = g.splits;
        why = subst (λ (n : ℕ). EndsWith s (last_stage s trace) n g.left g.last) (g.place_is ∙ omega arith) g.why;
        text =
            ap (after_text s.first_line) g.told
            ∙ ap (λ (l : List ℕ). ended g.last.status (s.first_line ++ (l ++ g.last.text))) g.stands.told;
      }

  -- a turn that goes on keeps a stage
  module _ (stage : Stage State) (all : List Settings) (i : IsStage s stage all) where
    abbrev KeptBy : Turn State → Type 0
    KeptBy (goes_on later text) = KeepsStage s stage later all
    KeptBy (ends o) = Unit {0}

    kept_step : (line : TraceLine) (t : Turn State) → Steps s stage all line t → KeptBy t
    kept_step line (goes_on later text) step =
        record { opens = step.opens; brings = brought s line; state = step.state; kept = subst (IsStage s later) step.is_now step.kept }
    kept_step line (ends o) why = tt

    kept_judging : (number : ℕ) (bytes : List ℕ) (r : Result (TraceLine × Reached) LineFault) → judged stage.reached bytes ≡ r → KeptBy (after_judging s stage number r)
    kept_judging number bytes (Err fault) j = tt
    kept_judging number bytes (Ok read) j =
        let is = judged_so stage.reached bytes read.0 read.1 j in
        kept_step read.0 (after_line s stage read.1 read.0 (brought s read.0)) (steps s stage all i read.0 read.1 is.accepts)

  pub stages_kept : StagesAreKept s
  unfolding turn
  stages_kept stage later all number bytes text i e = subst (KeptBy stage all i) e (kept_judging stage all i number bytes (judged stage.reached bytes) refl)
