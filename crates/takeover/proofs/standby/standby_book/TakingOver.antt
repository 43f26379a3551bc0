-- What is taken over is one journal with what comes behind it.
use Rattle.std.proofs.Common.{◌≡◌, ℕ, ◌+◌, ◌≤◌, true, false, List, [], ◌++◌, length, codes, refl, sym, ap, subst, ◌∙◌, arith, append_assoc, length-append, ltb}
use Rattle.std.specs.Prelude.{All}
use Rattle.std.proofs.lemmas.List.Concat.{flat_map-append}
use Rattle.std.proofs.lemmas.List.Elements.{All-append}
use Rattle.rams_model.specs.Texts.{Reached, end_line, has_channel, may_come, whole_lines}
use Rattle.server_hub.specs.declared.HubEvent.{HubEvent}
use Rattle.server_hub.specs.Served.{Served}
use Rattle.trace_loop.specs.trace_book.trace_serving.{opening}
use Rattle.trace_loop.specs.trace_book.{run, most_events, trace_text}
use Rattle.trace_loop.specs.journal_book.{HasLine, IsJournal, JournalsGrow, JournalsReplay, Opens, behind, event_line, event_lines, journal_of, replayed, sent_for}
use Rattle.takeover.specs.standby.{followed, lines_followed, stage_of}
use Rattle.takeover.proofs.standby.Followed.{lines_clean}
use Rattle.takeover.specs.standby.standby_book.{followed_text, IsTakenOver}
use Rattle.takeover.proofs.standby.standby_book.Following.{AsJournal, journal_begins, journal_follows}
use Rattle.serve_loop.proofs.Rooms.{sent_append}

module _ (grow : JournalsGrow) (replay : JournalsReplay) (bytes : List ℕ) (has : has_channel (stage_of bytes).reached ≡ true) where
  a : AsJournal (lines_followed bytes) (stage_of bytes)
  a = journal_follows grow (whole_lines bytes) [] (opening run) 1 (lines_clean bytes) journal_begins

  events_are : followed bytes ≡ a.events
  events_are = a.brings

  may_end : may_come a.opened.reached end_line ≡ true
  may_end =
      let channels : has_channel a.opened.reached ≡ true = ap (λ (r : Reached). ltb 0 (length r.channels)) a.reached ∙ has in
      let unended : a.opened.reached.ended ≡ false = ap (λ (r : Reached). r.ended) a.reached in
      rw (unended, channels) refl

  opens : Opens a.head a.opened.state
  opens = record { stage = a.opened; leads = a.leads; ends = may_end; opened = refl }

  journal_is : (later : List HubEvent) → All HasLine later → length (followed bytes) + length later ≤ most_events → IsJournal a.head a.opened.state (followed bytes ++ later)
  journal_is later spelled few =
      let size = length-append (followed bytes) later in
      record {
        opens = opens;
        lines = All-append HasLine (followed bytes) later (subst (All HasLine) (sym events_are) a.spelled) spelled;
        few = omega (arith, size, few);
      }

  text_is : followed_text bytes ≡ a.head ++ event_lines (followed bytes)
  text_is = a.text ∙ ap (λ (es : List HubEvent). a.head ++ event_lines es) (sym events_are)

  whole_is : (later : List HubEvent) → journal_of a.head (followed bytes ++ later) ≡ followed_text bytes ++ (event_lines later ++ codes "end\n")
  unfolding journal_of
  whole_is later =
      ap (λ (t : List ℕ). a.head ++ (t ++ codes "end\n")) (flat_map-append event_line (followed bytes) later)
      ∙ ap (λ (t : List ℕ). a.head ++ t) (append_assoc (event_lines (followed bytes)) (event_lines later) (codes "end\n"))
      ∙ sym (append_assoc a.head (event_lines (followed bytes)) (event_lines later ++ codes "end\n")) ∙ ap (λ (t : List ℕ). t ++ (event_lines later ++ codes "end\n")) (sym text_is)

  state_is : (stage_of bytes).state ≡ behind (followed bytes) a.opened.state
  state_is = a.state ∙ ap (λ (es : List HubEvent). behind es a.opened.state) (sym events_are)

  pub taken_over : IsTakenOver bytes
  taken_over = record {
    head = a.head;
    channels = a.opened.state;
    opens = opens;
    text = text_is;
    state = state_is;
    count = a.count ∙ ap length (sym events_are);
    journal = λ later spelled few. (journal_is later spelled few, whole_is later);
    replays = λ live later spelled few.
        ap (replayed live) (sym (whole_is later)) ∙ (replay live a.head a.opened.state (followed bytes ++ later) (journal_is later spelled few)).1
        ∙ sent_append (live + 1) a.opened.state (followed bytes) later
        ∙ ap (λ (cs : List Served). sent_for (live + 1) a.opened.state (followed bytes) ++ sent_for (live + 1) cs later) (sym state_is);
    runs = λ later spelled few.
        ap (λ (t : List ℕ). (trace_text t).status) (sym (whole_is later)) ∙ (replay 0 a.head a.opened.state (followed bytes ++ later) (journal_is later spelled few)).0;
  }
