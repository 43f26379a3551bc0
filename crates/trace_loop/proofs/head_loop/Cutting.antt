-- The line that ends a head, and what stands in front of it.
use Rattle.std.proofs.Common.{◌≡◌, ℕ, nat_lt, List, Some, Result, Ok, Err, codes, refl, sym, ap, ◌∙◌}
use Rattle.std.proofs.lemmas.Bool.{cond_both}
use Rattle.rams_model.specs.declared.LineFault.{LineFault}
use Rattle.rams_model.specs.Texts.{bytes_in, TraceLine, head_line, channel_line, live_line, feedback_line, tick_line, end_line, tune_line, give_line, mcast_line, ask_line, drop_line, line_of, line_at, ranged, line_text, Reached, judged}
use Rattle.trace_text.proofs.Spelling.{read_is_spelled}
use Rattle.server_hub.specs.declared.HubEvent.{HubEvent}
use Rattle.server_hub.specs.declared.HubEvent.TheVariants.{Live, Feedback, Tick}
use Rattle.server_hub.specs.Served.{Served}
use Rattle.trace_loop.specs.trace_book.trace_serving.{Stage, Outcome, Turn, ends, done, refused, too_long, turn, after_line, after_judging, counted, brought}
use Rattle.trace_loop.proofs.trace_book.trace_serving.Judged.{judged_so}
use Rattle.trace_loop.specs.trace_book.{run, most_events}

pub same_end : (o p : Outcome) → ◌≡◌ {A = Turn (List Served)} (ends o) (ends p) → o ≡ p
same_end o p e = cc

-- an event goes on, or is one too many
never_counted : (stage : Stage (List Served)) (reached : Reached) (e : HubEvent) (n : ℕ) → counted run stage reached e ≡ ends (done n) → ⊥
never_counted stage reached e n =
    cond_both (nat_lt stage.events most_events) _ _ (λ (t : Turn (List Served)). t ≡ ends (done n) → ⊥) (λ t h. absurd cc)
    (λ f h. let same = ap (λ (o : Outcome). o.status) (same_end too_long (done n) h) in absurd cc)

-- a line that ends a trace well is `end`
ends_well : (stage : Stage (List Served)) (reached : Reached) (read : TraceLine) (n : ℕ) → after_line run stage reached read (brought run read) ≡ ends (done n) → read ≡ end_line
ends_well stage reached (head_line version tick link) n e = absurd cc
ends_well stage reached (channel_line version c) n e = absurd cc
ends_well stage reached (live_line id hex) n e = absurd (never_counted stage reached (Live id (bytes_in hex)) n e)
ends_well stage reached (feedback_line id client hex) n e = absurd (never_counted stage reached (Feedback id client (bytes_in hex)) n e)
ends_well stage reached tick_line n e = absurd (never_counted stage reached Tick n e)
ends_well stage reached end_line n e = refl
ends_well stage reached (tune_line id client ssrc) n e = absurd cc
ends_well stage reached (give_line number) n e = absurd cc
ends_well stage reached (mcast_line id client m) n e = absurd cc
ends_well stage reached (ask_line id client) n e = absurd cc
ends_well stage reached (drop_line id client) n e = absurd cc

-- bytes that are read as `end` are that word
end_is : (bytes : List ℕ) (read : TraceLine) → line_of bytes ≡ Some read → read ≡ end_line → bytes ≡ codes "end"
unfolding line_at line_text
end_is bytes read reads is = sym (read_is_spelled bytes end_line (ap ranged (reads ∙ ap Some is))).1

pub ended_by : (stage : Stage (List Served)) (number : ℕ) (bytes : List ℕ) → turn run stage number bytes ≡ ends (done 0) → bytes ≡ codes "end"
unfolding turn
ended_by stage number bytes = by (judged stage.reached bytes) refl
  where
    by : (r : Result (TraceLine × Reached) LineFault) → judged stage.reached bytes ≡ r → after_judging run stage number r ≡ ends (done 0) → bytes ≡ codes "end"
    by (Err fault) is e = let same = ap (λ (o : Outcome). o.status) (same_end (refused number fault) (done 0) e) in absurd cc
    by (Ok read) is e = end_is bytes read.0 (judged_so stage.reached bytes read.0 read.1 is).reads (ends_well stage read.1 read.0 0 e)
