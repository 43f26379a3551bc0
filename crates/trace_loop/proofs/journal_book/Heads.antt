-- How a head grows by a line that a server takes, and how it ends.
use Rattle.std.proofs.Common.{◌≡◌, ◌≢◌, ℕ, List, [], ◌++◌, Some, codes, true, refl, sym, ap, subst, ◌∙◌}
use Rattle.rams_model.specs.Texts.{TraceLine, head_line, channel_line, live_line, feedback_line, tick_line, end_line, tune_line, give_line, mcast_line, ask_line, drop_line, line_of, line_at, ranged, line_in_range, line_text, Reached}
use Rattle.trace_text.proofs.Spelling.{read_is_spelled}
use Rattle.server_hub.specs.Served.{Served}
use Rattle.trace_loop.specs.trace_book.trace_serving.{Stage, goes_on, turn, after_line, after_judging, eventless}
use Rattle.trace_loop.specs.trace_book.{run}
use Rattle.trace_loop.proofs.trace_book.trace_serving.Judged.{judged_so}
use Rattle.trace_loop.specs.journal_book.{Leads, line, stage_behind, HeadsGrow, HeadsEnd}
use Rattle.trace_loop.proofs.journal_book.Modes.{head_line_is}
use Rattle.trace_loop.proofs.journal_book.Replays.{head_passes}

-- a line that isn't `end` goes on
goes_behind : (stage : Stage (List Served)) (reached : Reached) (read : TraceLine) → read ≢ end_line → eventless run stage reached read ≡ goes_on (stage_behind stage read reached) []
goes_behind stage reached (head_line version tick link) other = refl
goes_behind stage reached (channel_line version c) other = refl
goes_behind stage reached (live_line id hex) other = refl
goes_behind stage reached (feedback_line id client hex) other = refl
goes_behind stage reached tick_line other = refl
goes_behind stage reached end_line other = absurd (other refl)
goes_behind stage reached (tune_line id client ssrc) other = refl
goes_behind stage reached (give_line number) other = refl
goes_behind stage reached (mcast_line id client n) other = refl
goes_behind stage reached (ask_line id client) other = refl
goes_behind stage reached (drop_line id client) other = refl

-- bytes that are read as a line in range are its text
pub text_is : (bytes : List ℕ) (read : TraceLine) → line_of bytes ≡ Some read → line_in_range read ≡ true → line_text read ≡ bytes
unfolding line_at
text_is bytes read reads in_range = (read_is_spelled bytes read (ap ranged reads ∙ rw in_range refl)).1

pub heads_grow : HeadsGrow
unfolding turn
heads_grow head bytes stage read reached leads clean j other =
    let is = judged_so stage.reached bytes read reached j in
    let silent = (head_line_is stage.reached bytes read reached (head_passes 0 head stage leads).mode j).silent in
    let step : turn run stage 0 bytes ≡ goes_on (stage_behind stage read reached) [] =
    ap (after_judging run stage 0) j ∙ (ap (after_line run stage reached read) silent ∙ goes_behind stage reached read other) in
    subst (λ (bs : List ℕ). Leads (head ++ (bs ++ codes "\n")) (stage_behind stage read reached)) (sym (text_is bytes read is.reads is.accepts.in_range))
    (line head stage (stage_behind stage read reached) 0 bytes [] leads clean step)

pub heads_end : HeadsEnd
heads_end head bytes stage reached leads j =
    let is = judged_so stage.reached bytes end_line reached j in
    record { stage = stage; leads = leads; ends = is.accepts.may; opened = refl }
