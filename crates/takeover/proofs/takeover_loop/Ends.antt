-- How the reading of a journal ends.
use Rattle.std.proofs.Common.{◌≡◌, ℕ, ◌+◌, nat_lt, ltb, Bool, true, false, not, ◌&&◌, List, [], ◌∷◌, ◌++◌, length, Option, None, Some, Result, Ok, Err, refl, sym, ap, subst, ◌∙◌}
use Rattle.std.proofs.lemmas.Bool.{and_parts, cond_both, ltb-true}
use Rattle.rams_model.specs.declared.{LineFault.LineFault, LineFault.TheVariants.Form, Status.TheVariants.Done}
use Rattle.rams_model.specs.Texts.{bytes_in, TraceLine, head_line, channel_line, live_line, feedback_line, tick_line, end_line, tune_line, give_line, mcast_line, ask_line, drop_line, Reached, has_channel, judged, may_come, whole_lines}
use Rattle.server_hub.specs.declared.HubEvent.{HubEvent}
use Rattle.server_hub.specs.declared.HubEvent.TheVariants.{Live, Feedback, Tick}
use Rattle.server_hub.specs.Served.{Served}
use Rattle.trace_loop.specs.trace_book.trace_serving.{Stage, Outcome, Turn, goes_on, ends, refused, too_long, opening, turn, after_line, after_judging, counted, brought, stage_after, stage_from}
use Rattle.trace_loop.proofs.trace_book.trace_serving.Judged.{judged_so}
use Rattle.trace_loop.specs.trace_book.{run, most_events}
use Rattle.trace_loop.proofs.LongLines.{long_refused}
use Rattle.trace_loop.proofs.head_loop.Cutting.{same_end}
use Rattle.takeover.specs.standby.{end_after, end_from, end_of, lines_followed, overlong, rest_of, stage_of}
use Rattle.takeover.specs.takeover_loop.{end_or, opened_by, reading_end}

no_more : (o : Outcome) (later : Stage (List Served)) (text : List ℕ) → ◌≡◌ {A = Turn (List Served)} (goes_on later text) (ends o) → ⊥
no_more o later text e = cc

too_long_differs : (o : Outcome) → too_long ≡ o → o.status ≡ Done → ⊥
too_long_differs o same well = let status = ap (λ (x : Outcome). x.status) same ∙ well in absurd cc

refused_differs : (o : Outcome) (number : ℕ) (fault : LineFault) → refused number fault ≡ o → o.status ≡ Done → ⊥
refused_differs o number fault same well = let status = ap (λ (x : Outcome). x.status) same ∙ well in absurd cc

-- an event goes on, or is one too many
never_counted : (stage : Stage (List Served)) (reached : Reached) (e : HubEvent) (o : Outcome) → o.status ≡ Done → counted run stage reached e ≡ ends o → ⊥
never_counted stage reached e o well =
    cond_both (nat_lt stage.events most_events) _ _ (λ (t : Turn (List Served)). t ≡ ends o → ⊥) (λ t h. no_more o _ _ h) (λ f h. too_long_differs o (same_end too_long o h) well)

-- a line that ends a journal well is `end`
ends_well : (stage : Stage (List Served)) (reached : Reached) (read : TraceLine) (o : Outcome) → o.status ≡ Done → after_line run stage reached read (brought run read) ≡ ends o → read ≡ end_line
ends_well stage reached (head_line version tick link) o well e = absurd (no_more o _ _ e)
ends_well stage reached (channel_line version c) o well e = absurd (no_more o _ _ e)
ends_well stage reached (live_line id hex) o well e = absurd (never_counted stage reached (Live id (bytes_in hex)) o well e)
ends_well stage reached (feedback_line id client hex) o well e = absurd (never_counted stage reached (Feedback id client (bytes_in hex)) o well e)
ends_well stage reached tick_line o well e = absurd (never_counted stage reached Tick o well e)
ends_well stage reached end_line o well e = refl
ends_well stage reached (tune_line id client ssrc) o well e = absurd (no_more o _ _ e)
ends_well stage reached (give_line number) o well e = absurd (no_more o _ _ e)
ends_well stage reached (mcast_line id client m) o well e = absurd (no_more o _ _ e)
ends_well stage reached (ask_line id client) o well e = absurd (no_more o _ _ e)
ends_well stage reached (drop_line id client) o well e = absurd (no_more o _ _ e)

-- which may come only where a channel stands
end_has_channel : (stage : Stage (List Served)) (number : ℕ) (bytes : List ℕ) (o : Outcome) → turn run stage number bytes ≡ ends o → o.status ≡ Done → has_channel stage.reached ≡ true
unfolding turn
end_has_channel stage number bytes o was well = by (judged stage.reached bytes) refl was
  where
    channel : may_come stage.reached end_line ≡ true → has_channel stage.reached ≡ true
    channel may = let both = and_parts (not stage.reached.ended && has_channel stage.reached) true may in (and_parts (not stage.reached.ended) (has_channel stage.reached) both.0).1

    by : (r : Result (TraceLine × Reached) LineFault) → judged stage.reached bytes ≡ r → after_judging run stage number r ≡ ends o → has_channel stage.reached ≡ true
    by (Err fault) is e = absurd (refused_differs o number fault (same_end (refused number fault) o e) well)
    by (Ok read) is e = channel (subst (λ (l : TraceLine). may_come stage.reached l ≡ true) (ends_well stage read.1 read.0 o well e) (judged_so stage.reached bytes read.0 read.1 is).accepts.may)

none_ends : (o : Outcome) → None ≡ Some o → ⊥
none_ends o e = cc

some_ends : (o p : Outcome) → Some p ≡ Some o → p ≡ o
some_ends o p e = cc

-- so it is where a journal ends well
lines_have_channel : (xs ys : List (List ℕ)) (stage : Stage (List Served)) (number : ℕ) (o : Outcome)
    → ((later : Stage (List Served)) (n : ℕ) → end_from later n ys ≡ Some o → ⊥) → end_from stage number (xs ++ ys) ≡ Some o → o.status ≡ Done → has_channel (stage_from run stage number xs).reached ≡ true
unfolding end_from stage_from
lines_have_channel [] ys stage number o others end well = absurd (others stage number end)
lines_have_channel (x ∷ xs) ys stage number o others end well = by (turn run stage number x) refl end (λ later e. lines_have_channel xs ys later (number + 1) o others e well)
  where
    by : (was : Turn (List Served)) → turn run stage number x ≡ was → end_after was (λ later. end_from later (number + 1) (xs ++ ys)) ≡ Some o
        → ((later : Stage (List Served)) → end_from later (number + 1) (xs ++ ys) ≡ Some o → has_channel (stage_from run later (number + 1) xs).reached ≡ true)
        → has_channel (stage_after stage was (λ later. stage_from run later (number + 1) xs)).reached ≡ true
    by (goes_on later text) is end rest = rest later end
    by (ends p) is end rest = end_has_channel stage number x o (is ∙ ap ends (some_ends o p end)) well

overlong_never : (line : List ℕ) (o : Outcome) → o.status ≡ Done → (stage : Stage (List Served)) (number : ℕ) → end_from stage number (overlong line) ≡ Some o → ⊥
unfolding end_from
overlong_never line o well stage number = by (ltb 4096 (length line)) refl
  where
    by : (t : Bool) → ltb 4096 (length line) ≡ t → end_from stage number (overlong line) ≡ Some o → ⊥
    by true is end =
        let long = ltb-true 4096 (length line) is in
        let one : overlong line ≡ line ∷ [] = rw is refl in
        let was : end_after (turn run stage number line) (λ later. None) ≡ Some o = sym (ap (end_from stage number) one) ∙ end in
        let refuses : Some (refused number Form) ≡ Some o = sym (ap (λ (t : Turn (List Served)). end_after t (λ later. None)) (long_refused run stage number line long)) ∙ was in
        refused_differs o number Form (some_ends o (refused number Form) refuses) well
    by false is end =
        let none : overlong line ≡ [] = rw is refl in
        none_ends o (sym (ap (end_from stage number) none) ∙ end)

pub ended_has_channel : (bytes : List ℕ) (o : Outcome) → end_of bytes ≡ Some o → o.status ≡ Done → has_channel (stage_of bytes).reached ≡ true
ended_has_channel bytes o end well = lines_have_channel (whole_lines bytes) (overlong (rest_of bytes)) (opening run) 1 o (λ later n e. overlong_never (rest_of bytes) o well later n e) end well

-- the reading ends well only where a channel is there
pub done_has_channel : (bytes : List ℕ) → (reading_end bytes).status ≡ Done → has_channel (stage_of bytes).reached ≡ true
done_has_channel bytes = by (end_of bytes) refl
  where
    unended : (t : Bool) → (opened_by t (length (lines_followed bytes) + 1)).status ≡ Done → t ≡ true
    unended true h = refl
    unended false h = absurd cc

    by : (p : Option Outcome) → end_of bytes ≡ p → (end_or p (opened_by (has_channel (stage_of bytes).reached) (length (lines_followed bytes) + 1))).status ≡ Done → has_channel (stage_of bytes).reached ≡ true
    by None is h = unended (has_channel (stage_of bytes).reached) h
    by (Some o) is h = ended_has_channel bytes o is h
