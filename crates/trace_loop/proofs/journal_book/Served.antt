-- What a whole journal is, and a front of it.
use Rattle.std.proofs.Common.{◌≡◌, ℕ, ◌+◌, List, [], ◌∷◌, ◌++◌, length, codes, refl, sym, ap, subst, ◌∙◌, arith, append_assoc, append-nil, ◌<◌, length-append}
use Rattle.std.proofs.lemmas.List.Elements.{All-append, All-cons, All-nil, recursion_from_All}
use Rattle.std.proofs.lemmas.List.Concat.{flat_map-append}
use Rattle.rams_model.specs.declared.Status.TheVariants.{Done}
use Rattle.rams_model.specs.Texts.{lines_of, whole_lines}
use Rattle.ram_io.specs.{Outgoing}
use Rattle.server_hub.specs.declared.HubEvent.{HubEvent}
use Rattle.server_hub.specs.Served.{Served}
use Rattle.server_hub.specs.{after_event}
use Rattle.trace_loop.specs.trace_book.trace_serving.{Stage, Outcome, ended, done, opening, after_text, text_from, served_text, last_stage}
use Rattle.trace_loop.specs.trace_book.{run, most_events, first_line, trace_text, served_by}
use Rattle.trace_loop.specs.journal_book.{event_line, event_lines, journal_of, behind, HasLine, datagrams_of, sent_for, replayed_from, replayed, text_for, IsJournal, JournalsReplay, RunsWriteJournals, JournalsAreServed, FrontsReplay, GrowsBy, ServedSo, FrontSo, HeadSo}
use Rattle.trace_loop.proofs.journal_book.Modes.{stage_of_run}
use Rattle.trace_loop.proofs.journal_book.Replays.{Passes, pass_on, head_passes, IsReady, events_pass, end_passes}

-- A journal.
module _ (head : List ℕ) (channels : List Served) (events : List HubEvent) (is : IsJournal head channels events) where
  -- the head and the events lead to a stage where `end` may come
  record Front (port : ℕ) : Type 0 where
    to : Stage (List Served)
    ready : IsReady to
    channels_are : to.state ≡ behind events channels
    count : to.events ≡ length events
    passes : Passes port (opening run) 1 (head ++ event_lines events) to (sent_for port channels events) (text_for 0 channels events)

  front : (port : ℕ) → Front port
  front port =
      let stage = is.opens.stage in
      let first = head_passes port head stage is.opens.leads in
      let none = first.events in
      let few = is.few in
      let ready : IsReady (stage_of_run stage) = record { mode = refl; may = is.opens.ends } in
      let rest = events_pass port (stage_of_run stage) first.passes.next events ready (recursion_from_All HasLine events is.lines) (omega (arith, none, few)) in
      let count = rest.count in
      record {
        to = rest.to;
        ready = rest.ready;
        channels_are = rest.channels ∙ ap (behind events) is.opens.opened;
        count = omega (arith, none, count);
        passes =
            subst (λ n. Passes port (opening run) 1 (head ++ event_lines events) rest.to (sent_for port channels events) (text_for n channels events)) none
            (subst (λ (cs : List Served). Passes port (opening run) 1 (head ++ event_lines events) rest.to (sent_for port cs events) (text_for stage.events cs events)) is.opens.opened
            (pass_on port (opening run) (stage_of_run stage) rest.to 1 head (event_lines events) [] (sent_for port stage.state events) [] (text_for stage.events stage.state events) first.passes rest.passes));
      }

  behind_front : (rest : List ℕ) → (head ++ event_lines events) ++ rest ≡ head ++ (event_lines events ++ rest)
  behind_front rest = append_assoc head (event_lines events) rest

  pub front_replays : (live : ℕ) (rest : List ℕ) → (more : List Outgoing) × (replayed live (head ++ (event_lines events ++ rest)) ≡ sent_for (live + 1) channels events ++ more)
  front_replays live rest =
      let f = front (live + 1) in
      (replayed_from (live + 1) f.to f.passes.next (whole_lines rest), ap (replayed live) (sym (behind_front rest)) ∙ f.passes.replays rest)

  pub journal_written : trace_text (journal_of head events) ≡ ended Done (first_line ++ (text_for 0 channels events ++ (done (length events)).text))
  unfolding journal_of served_text
  journal_written =
      let f = front 0 in
      let e = end_passes 0 f.to f.passes.next f.ready in
      let split = sym (behind_front (codes "end\n")) in
      ap (λ (bs : List ℕ). after_text first_line (text_from run (opening run) 1 (lines_of bs))) split ∙ ap (after_text first_line) (f.passes.outcome (codes "end\n"))
      ∙ ap (λ (o : Outcome). after_text first_line (after_text (text_for 0 channels events) o)) (e.outcome ∙ ap done f.count)

  pub journal_replays : (live : ℕ) → ((trace_text (journal_of head events)).status ≡ Done) × (replayed live (journal_of head events) ≡ sent_for (live + 1) channels events)
  unfolding journal_of
  journal_replays live =
      let f = front (live + 1) in
      let e = end_passes (live + 1) f.to f.passes.next f.ready in (
        ap (λ (o : Outcome). o.status) journal_written,
        ap (replayed live) (sym (behind_front (codes "end\n"))) ∙ f.passes.replays (codes "end\n") ∙ ap (λ (os : List Outgoing). sent_for (live + 1) channels events ++ os) e.replays
            ∙ append-nil (sent_for (live + 1) channels events),
      )

  pub journal_serves : (served_by (journal_of head events) ≡ behind events channels) × ((last_stage run (journal_of head events)).events ≡ length events)
  unfolding journal_of
  journal_serves =
      let f = front 0 in
      let e = end_passes 0 f.to f.passes.next f.ready in
      let last : last_stage run (head ++ (event_lines events ++ codes "end\n")) ≡ f.to = ap (last_stage run) (sym (behind_front (codes "end\n"))) ∙ f.passes.stage (codes "end\n") ∙ e.stays in
      (ap (λ (s : Stage (List Served)). s.state) last ∙ f.channels_are, ap (λ (s : Stage (List Served)). s.events) last ∙ f.count)

pub journals_replay : JournalsReplay
journals_replay live head channels events is = journal_replays head channels events is live

pub runs_write_journals : RunsWriteJournals
runs_write_journals head channels events is = journal_written head channels events is

pub journals_are_served : JournalsAreServed
journals_are_served head channels events is = journal_serves head channels events is

pub fronts_replay : FrontsReplay
fronts_replay live head rest channels events is = front_replays head channels events is live rest

-- one more event
one_line : (events : List HubEvent) (event : HubEvent) → event_lines (events ++ event ∷ []) ≡ event_lines events ++ event_line event
one_line events event = flat_map-append event_line events (event ∷ []) ∙ ap (λ (bs : List ℕ). event_lines events ++ bs) (append-nil (event_line event))

one_sent : (port : ℕ) (events : List HubEvent) (event : HubEvent) (channels : List Served) → sent_for port channels (events ++ event ∷ []) ≡ sent_for port channels events ++ datagrams_of port event (behind events channels)
unfolding sent_for behind
one_sent port [] event channels = append-nil (datagrams_of port event channels)
one_sent port (e ∷ events) event channels =
    ap (λ (os : List Outgoing). datagrams_of port e channels ++ os) (one_sent port events event (after_event e channels))
    ∙ sym (append_assoc (datagrams_of port e channels) (sent_for port (after_event e channels) events) (datagrams_of port event (behind events (after_event e channels))))

pub one_behind : (events : List HubEvent) (event : HubEvent) (channels : List Served) → behind (events ++ event ∷ []) channels ≡ after_event event (behind events channels)
unfolding behind
one_behind [] event channels = refl
one_behind (e ∷ events) event channels = one_behind events event (after_event e channels)

one_event : (head : List ℕ) (event : HubEvent) (channels : List Served) (events : List HubEvent) → IsJournal head channels events → HasLine event → length events < most_events → IsJournal head channels (events ++ event ∷ [])
one_event head event channels events is has few = record {
  opens = is.opens;
  lines = All-append HasLine events (event ∷ []) is.lines (All-cons HasLine event [] has (All-nil HasLine));
  few = omega (arith, few, length-append events (event ∷ []));
}

pub journal_grows : (event : HubEvent) (port : ℕ) (channels : List Served) (events : List HubEvent) → GrowsBy event port channels events
journal_grows event port channels events =
    record { journal = λ head. one_event head event channels events; lines = one_line events event; sent = one_sent port events event channels; channels_are = one_behind events event channels }

-- what the sink and the wire hold
pub served_so : ServedSo
served_so live head held now channels events went sent is journal datagrams =
    let replay = journal_replays head channels events is live in
    record { journal = journal; datagrams = datagrams ∙ ap (λ (os : List Outgoing). went ++ os) (sym replay.1); done = replay.0 }

pub front_so : FrontSo
unfolding journal_of
front_so live head held now part rest channels past next went sent goes stays is splits journal first datagrams =
    let replay = front_replays head channels past is live part in
    record {
      front = head ++ (event_lines past ++ part);
      rest = rest;
      goes = goes;
      stays = stays ++ replay.0;
      splits =
          ap (λ (bs : List ℕ). head ++ (bs ++ codes "end\n")) (flat_map-append event_line past next)
          ∙ ap (λ (bs : List ℕ). head ++ bs) (append_assoc (event_lines past) (event_lines next) (codes "end\n") ∙ ap (λ (bs : List ℕ). event_lines past ++ bs) splits
          ∙ sym (append_assoc (event_lines past) part rest))
          ∙ sym (append_assoc head (event_lines past ++ part) rest);
      journal = journal;
      replays = replay.1 ∙ ap (λ (os : List Outgoing). os ++ replay.0) first ∙ append_assoc goes stays replay.0;
      datagrams = datagrams;
    }

pub head_so : HeadSo
unfolding journal_of
head_so live head held now part rest events went sent splits journal datagrams =
    record {
      front = part;
      rest = rest ++ (event_lines events ++ codes "end\n");
      goes = [];
      stays = replayed live part;
      splits = ap (λ (bs : List ℕ). bs ++ (event_lines events ++ codes "end\n")) splits ∙ append_assoc part rest (event_lines events ++ codes "end\n");
      journal = journal;
      replays = refl;
      datagrams = datagrams ∙ sym (append-nil went);
    }
