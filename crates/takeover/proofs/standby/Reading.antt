-- How a standby reads on.
use Rattle.std.proofs.Common.{◌≡◌, ℕ, ◌+◌, ◌<◌, ◌≤◌, Bool, true, false, List, [], ◌∷◌, ◌++◌, length, Option, None, Some, Result, Ok, Err, refl, sym, ap, subst, ◌∙◌, arith, append-nil, length-append}
use Rattle.std.specs.Prelude.{IfErr, OnErr, OnOk}
use Rattle.std.proofs.lemmas.Bool.{lt-ltb, le-ltb}
use Rattle.rams_model.specs.declared.LineFault.TheVariants.{Form}
use Rattle.rams_model.specs.Texts.{Reached, whole_lines}
use Rattle.line_io.specs.{HasNoFeed}
use Rattle.server_hub.specs.Seen as hubs
use Rattle.server_hub.specs.Served.{Served}
use Rattle.trace_loop.specs.trace_book.trace_serving.{Stage, Turn, Outcome, goes_on, ends, done, refused, too_long, opening, turn, stage_after, stage_from}
use Rattle.trace_loop.specs.trace_book.{run}
use Rattle.trace_loop.proofs.LongLines.{long_refused}
use Rattle.takeover.specs.declared.{standby.fault.FeedFault.FeedFault, standby.fault.Step.Step}
use Rattle.takeover.specs.declared.standby.fault.Step.TheVariants.{GoesOn, Ends}
use Rattle.takeover.specs.declared.standby.fault.FeedFault.TheVariants.{Line, TooLong, NoMemory}
use Rattle.takeover.specs.standby.{rest_of, overlong, end_after, end_from, end_of, stage_of, Stands, count_of, Took, Halting, IsSame, Seen, Halted, HasRead, Fails, Takes, is_end}
use Rattle.takeover.proofs.standby.Pieces.{one_line_more, nothing_left, one_more_looked_at, no_line_more, rest_longer, looked_at_longer}

-- lines of which none ends the journal, and more lines behind them
pub end_front : (xs ys : List (List ℕ)) (stage : Stage (List Served)) (number : ℕ) → end_from stage number (xs ++ ys) ≡ None → end_from stage number xs ≡ None
unfolding end_from
end_front [] ys stage number none = refl
end_front (x ∷ xs) ys stage number none = by (turn run stage number x) none (λ later. end_front xs ys later (number + 1))
  where
    by : (was : Turn (List Served)) → end_after was (λ later. end_from later (number + 1) (xs ++ ys)) ≡ None
        → ((later : Stage (List Served)) → end_from later (number + 1) (xs ++ ys) ≡ None → end_from later (number + 1) xs ≡ None) → end_after was (λ later. end_from later (number + 1) xs) ≡ None
    by (goes_on later text) none rest = rest later none
    by (ends o) none rest = absurd cc

pub end_append : (xs ys : List (List ℕ)) (stage : Stage (List Served)) (number count : ℕ) → count ≡ number + length xs → end_from stage number xs ≡ None
    → end_from stage number (xs ++ ys) ≡ end_from (stage_from run stage number xs) count ys
unfolding end_from stage_from
end_append [] ys stage number count is none = ap (λ n. end_from stage n ys) (let same : number ≡ count = omega (arith, is) in same)
end_append (x ∷ xs) ys stage number count is none = by (turn run stage number x) none (λ later. end_append xs ys later (number + 1) count (omega (arith, is)))
  where
    by : (was : Turn (List Served)) → end_after was (λ later. end_from later (number + 1) xs) ≡ None
        → ((later : Stage (List Served)) → end_from later (number + 1) xs ≡ None → end_from later (number + 1) (xs ++ ys) ≡ end_from (stage_from run later (number + 1) xs) count ys)
        → end_after was (λ later. end_from later (number + 1) (xs ++ ys)) ≡ end_from (stage_after stage was (λ later. stage_from run later (number + 1) xs)) count ys
    by (goes_on later text) none rest = rest later none
    by (ends o) none rest = absurd cc

pub stage_append : (xs ys : List (List ℕ)) (stage : Stage (List Served)) (number count : ℕ) → count ≡ number + length xs → end_from stage number xs ≡ None
    → stage_from run stage number (xs ++ ys) ≡ stage_from run (stage_from run stage number xs) count ys
unfolding end_from stage_from
stage_append [] ys stage number count is none = ap (λ n. stage_from run stage n ys) (let same : number ≡ count = omega (arith, is) in same)
stage_append (x ∷ xs) ys stage number count is none = by (turn run stage number x) none (λ later. stage_append xs ys later (number + 1) count (omega (arith, is)))
  where
    by : (was : Turn (List Served)) → end_after was (λ later. end_from later (number + 1) xs) ≡ None
        → ((later : Stage (List Served)) → end_from later (number + 1) xs ≡ None → stage_from run later (number + 1) (xs ++ ys) ≡ stage_from run (stage_from run later (number + 1) xs) count ys)
        → stage_after stage was (λ later. stage_from run later (number + 1) (xs ++ ys)) ≡ stage_from run (stage_after stage was (λ later. stage_from run later (number + 1) xs)) count ys
    by (goes_on later text) none rest = rest later none
    by (ends o) none rest = absurd cc

-- nothing has ended the journal of a standby that has neither end nor fault
pub none_yet : (ended : Bool) (fault : Option FeedFault) (end : Option Outcome) → Halted ended fault end → ended ≡ false → fault ≡ None → end ≡ None
none_yet false None end h e f = h
none_yet true None end h e f = absurd cc
none_yet ended (Some x) end h e f = absurd cc

-- what is so where nothing was read
pub nothing_read : (hub : Option hubs.Seen) (ids : List ℕ) (events : ℕ) (reached : Reached) → Stands hub ids events reached (opening run) → count_of hub ids events ≡ 0
    → HasRead (record { hub = hub; ids = ids; events = events; reached = reached; part = []; ended = false; fault = None }) []
unfolding stage_from end_from whole_lines rest_of
nothing_read hub ids events reached stands count = record { stands = stands; halted = refl; going = λ none. record { part = refl; count = count } }

module _ (v : Seen) (bytes : List ℕ) (r : HasRead v bytes) (none : end_of bytes ≡ None) where
  abbrev pub stage : Stage (List Served)
  stage = stage_of bytes

  -- the number of the next line
  abbrev pub number : ℕ
  number = count_of v.hub v.ids v.events + 1

  number_is : number ≡ 1 + length (whole_lines bytes)
  number_is = let g = (r.going none).count in omega (arith, g)

  lines_go_on : end_from (opening run) 1 (whole_lines bytes) ≡ None
  lines_go_on = end_front (whole_lines bytes) (overlong (rest_of bytes)) (opening run) 1 none

  -- one line more
  end_next : (line : List ℕ) → end_from (opening run) 1 (whole_lines bytes ++ line ∷ []) ≡ end_after (turn run stage number line) (λ later. None)
  unfolding end_from
  end_next line = end_append (whole_lines bytes) (line ∷ []) (opening run) 1 number number_is lines_go_on

  stage_next : (line : List ℕ) → stage_from run (opening run) 1 (whole_lines bytes ++ line ∷ []) ≡ stage_after stage (turn run stage number line) (λ later. later)
  unfolding stage_from
  stage_next line = stage_append (whole_lines bytes) (line ∷ []) (opening run) 1 number number_is lines_go_on

  module _ (rest : List ℕ) (clean : HasNoFeed rest) where
    abbrev pub more : List ℕ
    more = bytes ++ (rest ++ 10 ∷ [])

    abbrev pub line : List ℕ
    line = rest_of bytes ++ rest

    end_more : end_of more ≡ end_after (turn run stage number line) (λ later. None)
    end_more = ap (end_from (opening run) 1) (one_more_looked_at bytes rest clean) ∙ end_next line

    stage_more : stage_of more ≡ stage_after stage (turn run stage number line) (λ later. later)
    stage_more = ap (stage_from run (opening run) 1) (one_line_more bytes rest clean) ∙ stage_next line

    -- the line goes on
    pub goes : (hub : Option hubs.Seen) (ids : List ℕ) (events : ℕ) (reached : Reached) (later : Stage (List Served)) (text part : List ℕ)
        → turn run stage number line ≡ goes_on later text → Stands hub ids events reached later → count_of hub ids events ≡ count_of v.hub v.ids v.events + 1 → part ≡ []
        → HasRead (record { hub = hub; ids = ids; events = events; reached = reached; part = part; ended = false; fault = None }) more
    goes hub ids events reached later text part was stands count empty =
        let there : stage_of more ≡ later = stage_more ∙ ap (λ (t : Turn (List Served)). stage_after stage t (λ later. later)) was in
        record {
          stands = subst (Stands hub ids events reached) (sym there) stands;
          halted = end_more ∙ ap (λ (t : Turn (List Served)). end_after t (λ later. None)) was;
          going = λ still. record {
            part = empty ∙ sym (nothing_left bytes rest clean);
            count = count ∙ number_is ∙ sym lines_more;
          };
        }
      where
        lines_more : length (whole_lines more) ≡ 1 + length (whole_lines bytes)
        lines_more = let size = ap length (one_line_more bytes rest clean) in omega (arith, size, length-append (whole_lines bytes) (line ∷ []))

    -- it ends the journal
    pub halts : (part : List ℕ) (ended : Bool) (fault : Option FeedFault) (o : Outcome) → turn run stage number line ≡ ends o → Halted ended fault (Some o)
        → HasRead (record { hub = v.hub; ids = v.ids; events = v.events; reached = v.reached; part = part; ended = ended; fault = fault }) more
    halts part ended fault o was halted =
        let there : stage_of more ≡ stage = stage_more ∙ ap (λ (t : Turn (List Served)). stage_after stage t (λ later. later)) was in
        let end : end_of more ≡ Some o = end_more ∙ ap (λ (t : Turn (List Served)). end_after t (λ later. None)) was in
        record {
          stands = subst (Stands v.hub v.ids v.events v.reached) (sym there) r.stands;
          halted = subst (Halted ended fault) (sym end) halted;
          going = λ still. absurd (never o (sym end ∙ still));
        }
      where
        never : (x : Outcome) → Some x ≡ None → ⊥
        never x e = cc

    -- the same line, as it is kept
    line_is : v.part ++ rest ≡ line
    line_is = ap (λ (p : List ℕ). p ++ rest) (r.going none).part

    pub line_fails : (fault : FeedFault) (at : Stage (List Served) → Type 0) (new : Seen) → Took (Err fault) (turn run stage number (v.part ++ rest)) at number → new ≡ v → Fails fault v new more
    line_fails NoMemory at new took same = same
    line_fails (Line n fault) at new took same =
        let was = ap (turn run stage number) (sym line_is) ∙ took.1 in
        subst (λ (x : Seen). HasRead (record x { fault = Some (Line n fault) }) more) (sym same)
        (halts v.part v.ended (Some (Line n fault)) (refused number fault) was (ap (λ k. Some (refused k fault)) (sym took.0)))
    line_fails TooLong at new took same =
        let was = ap (turn run stage number) (sym line_is) ∙ took in
        subst (λ (x : Seen). HasRead (record x { fault = Some TooLong }) more) (sym same) (halts v.part v.ended (Some TooLong) too_long was refl)

    pub line_taken : (step : Step) (hub : Option hubs.Seen) (ids : List ℕ) (events : ℕ) (reached : Reached) (part : List ℕ) (ended : Bool) (fault : Option FeedFault)
        → Took (Ok step) (turn run stage number (v.part ++ rest)) (Stands hub ids events reached) number → Halting (Ok step) (IsSame v.hub hub v.ids ids v.events events v.reached reached)
        → (◌≡◌ {A = Result Step FeedFault} (Ok step) (Ok GoesOn) → count_of hub ids events ≡ count_of v.hub v.ids v.events + 1) → part ≡ [] → ended ≡ is_end step → fault ≡ None
        → HasRead (record { hub = hub; ids = ids; events = events; reached = reached; part = part; ended = ended; fault = fault }) more
    line_taken GoesOn hub ids events reached part ended fault took same count empty end none_is =
        let was = ap (turn run stage number) (sym line_is) ∙ took.2 in
        rw (end, none_is) (goes hub ids events reached took.0 took.1 part was took.3 (count refl) empty)
    line_taken Ends hub ids events reached part ended fault took same count empty end none_is =
        let was = ap (turn run stage number) (sym line_is) ∙ took.1 in
        rw (end, none_is, same.hub_is, same.ids_are, same.events_are, same.lines_are) (halts part true None (done took.0) was (took.0, refl))

  module _ (piece : List ℕ) (clean : HasNoFeed piece) where
    -- more of a line that isn't whole
    pub longer : (part : List ℕ) → part ≡ rest_of bytes ++ piece → length (rest_of bytes ++ piece) ≤ 4096
        → HasRead (record { hub = v.hub; ids = v.ids; events = v.events; reached = v.reached; part = part; ended = false; fault = None }) (bytes ++ piece)
    longer part is short =
        let lines = no_line_more bytes piece clean in
        let there : stage_of (bytes ++ piece) ≡ stage = ap (stage_from run (opening run) 1) lines in
        record {
          stands = subst (Stands v.hub v.ids v.events v.reached) (sym there) r.stands;
          halted = ap (end_from (opening run) 1) (looked_at_longer bytes piece clean ∙ none_longer) ∙ lines_go_on;
          going = λ still. record { part = is ∙ sym (rest_longer bytes piece clean); count = (r.going none).count ∙ sym (ap length lines) };
        }
      where
        none_longer : whole_lines bytes ++ overlong (rest_of bytes ++ piece) ≡ whole_lines bytes
        none_longer = rw (le-ltb 4096 (length (rest_of bytes ++ piece)) short) (append-nil (whole_lines bytes))

    -- too much of it
    pub too_much : (part : List ℕ) (ended : Bool) → 4096 < length (rest_of bytes ++ piece)
        → HasRead (record { hub = v.hub; ids = v.ids; events = v.events; reached = v.reached; part = part; ended = ended; fault = Some (Line number Form) }) (bytes ++ piece)
    too_much part ended long =
        let line = rest_of bytes ++ piece in
        let there : stage_of (bytes ++ piece) ≡ stage = ap (stage_from run (opening run) 1) (no_line_more bytes piece clean) in
        let end : end_of (bytes ++ piece) ≡ Some (refused number Form) =
        ap (end_from (opening run) 1) (looked_at_longer bytes piece clean ∙ one_longer) ∙ end_next line
        ∙ ap (λ (t : Turn (List Served)). end_after t (λ later. None)) (long_refused run stage number line long) in
        record {
          stands = subst (Stands v.hub v.ids v.events v.reached) (sym there) r.stands;
          halted = end;
          going = λ still. absurd (never (refused number Form) (sym end ∙ still));
        }
      where
        one_longer : whole_lines bytes ++ overlong (rest_of bytes ++ piece) ≡ whole_lines bytes ++ (rest_of bytes ++ piece) ∷ []
        one_longer = rw (lt-ltb 4096 (length (rest_of bytes ++ piece)) long) refl

        never : (x : Outcome) → Some x ≡ None → ⊥
        never x e = cc

    -- more of a line is kept, or it is too much
    pub extends : (o : Result (Unit {0}) FeedFault) (part : List ℕ) (ended : Bool) (fault : Option FeedFault) → OnOk o (part ≡ v.part ++ piece) → OnOk o (length v.part + length piece ≤ 4096)
        → OnErr o (4096 < length v.part + length piece) → IfErr o (λ f. f ≡ Line number Form) → ended ≡ false → fault ≡ None
        → Takes o v (record { hub = v.hub; ids = v.ids; events = v.events; reached = v.reached; part = part; ended = ended; fault = fault }) (bytes ++ piece)
    extends (Ok u) part ended fault is short long form end none_is =
        let kept = (r.going none).part in
        let size = ap length kept in
        let fits : length (rest_of bytes ++ piece) ≤ 4096 = omega (arith, short, size, length-append (rest_of bytes) piece) in
        (rw (end, none_is) (longer part (is ∙ ap (λ (p : List ℕ). p ++ piece) kept) fits), none_is)
    extends (Err f) part ended fault is short long form end none_is =
        let size = ap length (r.going none).part in
        let over : 4096 < length (rest_of bytes ++ piece) = omega (arith, long, size, length-append (rest_of bytes) piece) in
        subst (λ (g : FeedFault). Fails g v (record { hub = v.hub; ids = v.ids; events = v.events; reached = v.reached; part = part; ended = ended; fault = fault }) (bytes ++ piece)) (sym form)
        (too_much part ended over)

-- the same of a standby that is the same
pub fails_at : (fault : FeedFault) (v w new : Seen) (bytes : List ℕ) → v ≡ w → Fails fault v new bytes → Fails fault w new bytes
fails_at fault v w new bytes same fails = subst (λ (x : Seen). Fails fault x new bytes) same fails

pub takes_at : (o : Result (Unit {0}) FeedFault) (v w new : Seen) (bytes : List ℕ) → v ≡ w → Takes o v new bytes → Takes o w new bytes
takes_at o v w new bytes same takes = subst (λ (x : Seen). Takes o x new bytes) same takes

-- what a standby keeps, part by part
pub seen_same : (hub hub_old : Option hubs.Seen) (ids ids_old : List ℕ) (events events_old : ℕ) (reached reached_old : Reached) (part part_old : List ℕ) (ended : Bool) (fault : Option FeedFault)
    → IsSame hub_old hub ids_old ids events_old events reached_old reached → part ≡ part_old
    → ◌≡◌ {A = Seen} (record { hub = hub; ids = ids; events = events; reached = reached; part = part; ended = ended; fault = fault })
    (record { hub = hub_old; ids = ids_old; events = events_old; reached = reached_old; part = part_old; ended = ended; fault = fault })
seen_same hub hub_old ids ids_old events events_old reached reached_old part part_old ended fault same stays =
    rw (same.hub_is, same.ids_are, same.events_are, same.lines_are, stays) refl
