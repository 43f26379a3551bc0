-- What is written at a takeover is one journal.
use Rattle.std.proofs.Common.{◌≡◌, ℕ, ◌+◌, ◌≤◌, ltb, Bool, true, false, List, [], ◌∷◌, ◌++◌, length, codes, Option, Some, refl, sym, ap, subst, ◌∙◌, arith}
use Rattle.std.specs.Prelude.{All, if◌then◌else◌, ◌==◌}
use Rattle.std.proofs.lemmas.Bool.{ltb-false}
use Rattle.rams_model.specs.declared.Status.{Status}
use Rattle.rams_model.specs.declared.Status.TheVariants.{Done, NoMemory, Words, ReadFault, WriteFault, BadTrace, WireFault, TooLong, BadCapture, BadSdp}
use Rattle.rams_model.specs.Service.{Settings}
use Rattle.ram_io.specs.declared.{Incoming.Incoming, Incoming.TheVariants.Nothing, Incoming.TheVariants.Datagram}
use Rattle.ram_io.specs.{Outgoing}
use Rattle.server_hub.specs.declared.{HubEvent.HubEvent, HubEvent.TheVariants.Live, HubEvent.TheVariants.Feedback}
use Rattle.server_hub.specs.Served.{Served}
use Rattle.server_hub.specs.{id_of}
use Rattle.trace_loop.specs.trace_book.trace_serving.{Outcome, Stage, after_text, ended, opening, stage_from}
use Rattle.trace_loop.proofs.trace_book.trace_serving.Runs.{is_served_so}
use Rattle.trace_loop.specs.trace_book.{most_events, run, trace_text}
use Rattle.trace_loop.specs.trace_book.Stages.{settings_of}
use Rattle.trace_loop.specs.journal_book.{CanArrive, HasLine, Opens, TurnsMakeJournals, behind, due_after, event_lines, events_of_turns, heard, heard_from, most_turns, replayed, sent_for, ServerTurn}
use Rattle.serve_loop.specs.{Given, datagrams_by}
use Rattle.serve_loop.proofs.Telling.{settled_behind}
use Rattle.takeover.specs.standby.{followed, stage_of, whole_text}
use Rattle.takeover.proofs.standby.Followed.{text_lines}
use Rattle.takeover.specs.standby.standby_book.{JournalsAreTakenOver, followed_text}
use Rattle.takeover.specs.takeover_loop.{MakesOneJournal, behind_by, done_events, events_left, given_events, last_line, reading_end, taken_datagrams, taken_text, turns_end}
use Rattle.takeover.proofs.takeover_loop.Ends.{done_has_channel}
use Rattle.takeover.proofs.takeover_loop.Within.{all_within}

-- the status of the whole is that of the reading, where it isn't Done
behind_done : (s : Status) (o turns : Outcome) → o.status ≡ s → (behind_by s o turns).status ≡ Done → s ≡ Done
behind_done Done o turns is h = refl
behind_done NoMemory o turns is h = sym is ∙ h
behind_done Words o turns is h = sym is ∙ h
behind_done ReadFault o turns is h = sym is ∙ h
behind_done WriteFault o turns is h = sym is ∙ h
behind_done BadTrace o turns is h = sym is ∙ h
behind_done WireFault o turns is h = sym is ∙ h
behind_done TooLong o turns is h = sym is ∙ h
behind_done BadCapture o turns is h = sym is ∙ h
behind_done BadSdp o turns is h = sym is ∙ h

pub reading_done : (g : Given) → (taken_text g).status ≡ Done → (reading_end g.source).status ≡ Done
reading_done g h = behind_done (reading_end g.source).status (reading_end g.source) (after_text (event_lines (done_events g)) (turns_end g)) refl h

-- where the channels are taken over
pub text_behind : (g : Given) → (reading_end g.source).status ≡ Done → taken_text g ≡ after_text (followed_text g.source) (after_text (event_lines (done_events g)) (turns_end g))
text_behind g h = ap (λ (s : Status). after_text (followed_text g.source) (behind_by s (reading_end g.source) (after_text (event_lines (done_events g)) (turns_end g)))) h

pub sent_behind : (g : Given) → (reading_end g.source).status ≡ Done → taken_datagrams g ≡ sent_for (g.live + 1) (stage_of g.source).state (done_events g)
sent_behind g h = ap (λ (s : Status). datagrams_by s (sent_for (g.live + 1) (stage_of g.source).state (done_events g))) h

last_done : (over : Bool) → (last_line over).status ≡ Done → over ≡ false
last_done true h = absurd cc
last_done false h = refl

-- where it ends with `end`, all events of the turns are done
within_all : (g : Given) → (taken_text g).status ≡ Done → ltb (events_left g) (length (given_events g)) ≡ false
within_all g h =
    let behind = ap (λ (o : Outcome). o.status) (text_behind g (reading_done g h)) in
    last_done (ltb (events_left g) (length (given_events g))) (sym behind ∙ h)

-- What is heard depends on the settings of the channels alone.
same_heard : (live sender port : ℕ) (bytes : List ℕ) (xs ys : List Served) → settings_of xs ≡ settings_of ys → heard_from live xs sender port bytes ≡ heard_from live ys sender port bytes
same_heard live sender port bytes [] [] same = refl
same_heard live sender port bytes [] (y ∷ ys) same = absurd cc
same_heard live sender port bytes (x ∷ xs) [] same = absurd cc
same_heard live sender port bytes (x ∷ xs) (y ∷ ys) same =
    let first : x.settings ≡ y.settings = cc same in
    let rest : settings_of xs ≡ settings_of ys = cc same in
    ap (λ (s : Settings). if port == live then Some (Live s.channel.id bytes) else if port == live + 1 then Some (Feedback s.channel.id sender bytes) else heard_from (live + 2) xs sender port bytes) first
    ∙ ap (λ (o : Option HubEvent). if port == live then Some (Live (id_of y) bytes) else if port == live + 1 then Some (Feedback (id_of y) sender bytes) else o) (same_heard (live + 2) sender port bytes xs ys rest)

same_arrival : (live : ℕ) (a : Incoming) (xs ys : List Served) → settings_of xs ≡ settings_of ys → heard live xs a ≡ heard live ys a
same_arrival live Nothing xs ys same = refl
same_arrival live (Datagram sender port bytes) xs ys same = same_heard live sender port bytes xs ys same

same_turns : (live tick due : ℕ) (turns : List ServerTurn) (xs ys : List Served) → settings_of xs ≡ settings_of ys → events_of_turns live tick xs due turns ≡ events_of_turns live tick ys due turns
unfolding events_of_turns
same_turns live tick due [] xs ys same = refl
same_turns live tick due (t ∷ turns) xs ys same =
    rw (same_arrival live t.arrival xs ys same, same_turns live tick (due_after tick due t.moment) turns xs ys same) refl

-- what comes in the turns has lines
pub given_have_lines : TurnsMakeJournals → (g : Given) (head : List ℕ) (channels : List Served) → Opens head channels → (stage_of g.source).state ≡ behind (followed g.source) channels → All CanArrive g.arrivals → g.turns ≤ most_turns
    → All HasLine (given_events g)
given_have_lines turns g head channels opens state arrive few =
    let same : settings_of (stage_of g.source).state ≡ settings_of channels = ap settings_of state ∙ settled_behind (followed g.source) channels in
    subst (All HasLine) (sym (same_turns g.live _ _ _ (stage_of g.source).state channels same)) (turns g.live _ g.turns head channels g.arrivals g.moments opens arrive few).lines

-- no more events are followed than a journal may have
pub few_followed : (bytes : List ℕ) → (stage_of bytes).events ≤ most_events
few_followed bytes = subst (λ (st : Stage (List Served)). st.events ≤ most_events) (ap (stage_from run (opening run) 1) (text_lines bytes)) (is_served_so run (whole_text bytes)).few

pub one_journal : JournalsAreTakenOver → TurnsMakeJournals → (g : Given) → (taken_text g).status ≡ Done → All CanArrive g.arrivals → g.turns ≤ most_turns → MakesOneJournal g
one_journal over turns g well arrive few =
    let reads = reading_done g well in
    let t = over g.source (done_has_channel g.source reads) in
    let lines = given_have_lines turns g t.head t.channels t.opens t.state arrive few in
    let within = ltb-false (events_left g) (length (given_events g)) (within_all g well) in
    let count = t.count in
    let most = few_followed g.source in
    let fits : length (followed g.source) + length (given_events g) ≤ most_events = omega (arith, within, count, most) in
    let done : done_events g ≡ given_events g = all_within (events_left g) (given_events g) within in
    let j = t.journal (given_events g) lines fits in
    let end : turns_end g ≡ ended Done (codes "end\n") = ap last_line (within_all g well) in
    let text : (taken_text g).text ≡ followed_text g.source ++ (event_lines (given_events g) ++ codes "end\n") =
    ap (λ (o : Outcome). o.text) (text_behind g reads) ∙ ap (λ (es : List HubEvent). followed_text g.source ++ (event_lines es ++ (turns_end g).text)) done
    ∙ ap (λ (o : Outcome). followed_text g.source ++ (event_lines (given_events g) ++ o.text)) end in
    record {
      head = t.head;
      channels = t.channels;
      journal = j.0;
      text = text ∙ sym j.1;
      state = t.state;
      runs = ap (λ (x : List ℕ). (trace_text x).status) text ∙ t.runs (given_events g) lines fits;
      replays =
          ap (replayed g.live) text ∙ t.replays g.live (given_events g) lines fits
          ∙ ap (λ (es : List HubEvent). sent_for (g.live + 1) t.channels (followed g.source) ++ sent_for (g.live + 1) (stage_of g.source).state es) (sym done)
          ∙ ap (λ (d : List Outgoing). sent_for (g.live + 1) t.channels (followed g.source) ++ d) (sym (sent_behind g reads));
    }
