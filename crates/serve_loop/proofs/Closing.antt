-- How a server begins its turns, and how it ends.
use Rattle.std.proofs.Common.{◌≡◌, ℕ, ◌+◌, List, [], ◌++◌, length, codes, Option, Some, Result, Ok, Err, IfErr, refl, sym, ap, subst, ◌∙◌, drop, arith, append_assoc, append-nil, length-append}
use Rattle.std.specs.Prelude.{All, IfOk, OnOk}
use Rattle.std.proofs.Math.Seq.{take-append_seam}
use Rattle.std.specs.Io.KnownBytes.{Appends}
use Rattle.std.proofs.KnownBytes.{Appends-trans}
use Rattle.std.proofs.lemmas.List.Elements.{All-take}
use Rattle.line_io.specs.Passes.{Passes}
use Rattle.line_io.proofs.Passing.{Passes-none, Passes-then}
use Rattle.rams_model.specs.declared.{Status.Status, Status.TheVariants.Done}
use Rattle.rams_model.specs.Texts.{tick_of}
use Rattle.ram_io.specs.declared.Incoming.{Incoming}
use Rattle.server_hub.specs.{StandsFor}
use Rattle.server_hub.specs.Seen.{Seen}
use Rattle.ram_io.specs.{Outgoing}
use Rattle.server_hub.specs.declared.HubEvent.{HubEvent}
use Rattle.server_hub.specs.Served.{Served}
use Rattle.trace_loop.specs.trace_book.trace_serving.{Outcome, done, ended}
use Rattle.trace_loop.specs.trace_book.{trace_text}
use Rattle.trace_loop.specs.journal_book.{HasLine, IsJournal, event_lines, events_of, journal_of, replayed, sent_for, behind, FrontsReplay, HeadsOpenNewChannels, JournalsReplay, RunsWriteJournals}
use Rattle.trace_loop.specs.declared.Stop.{Stop}
use Rattle.trace_loop.specs.declared.Stop.TheVariants.{Memory, Read, Write, Wire}
use Rattle.trace_loop.proofs.Reading.{passes_whole}
use Rattle.trace_loop.proofs.journal_book.EventLines.{lines_append}
use Rattle.serve_loop.specs.{Begun, Broken, Ending, EndsAs, Given, GoOut, HasEnded, HasRoom, HasStopped, IsBetween, IsHeadOf, OnlyMemoryStops, Room, Serving, Stopping, StopsIn, WaitsIn, datagrams_by, given_events, given_journal, head_end, head_stage, head_text, sent_by, served_datagrams, served_text, text_by}
use Rattle.serve_loop.proofs.GoingOut.{GoOut-none}
use Rattle.serve_loop.proofs.Rooms.{quiet_room, wire_none}
use Rattle.serve_loop.proofs.Steps.{waits_more}

-- a line behind nothing
pub alone : (a b : Option (List ℕ)) (waits text rest : List ℕ) → waits ≡ [] → Passes a b (waits ++ text) rest → Passes a b text rest
alone a b waits text rest none p = subst (λ (l : List ℕ). Passes a b (l ++ text) rest) none p

abbrev pub end_text : List ℕ
end_text = codes "end\n"

module _ (b : Begun) (events : List HubEvent) (a : Option (List ℕ)) (waits : List ℕ) (sent : Option (List Outgoing)) (s : Serving b events a waits sent) where
  -- the lines of all events
  all_lines : event_lines events ≡ event_lines s.past ++ (s.part ++ waits)
  all_lines = ap event_lines s.splits ∙ lines_append s.past s.quiet ∙ ap (λ (l : List ℕ). event_lines s.past ++ l) s.lines

  -- the journal is what has gone, what waits, and `end`
  journal_whole : journal_of b.head events ≡ (b.head ++ (event_lines s.past ++ s.part)) ++ (waits ++ end_text)
  unfolding journal_of
  journal_whole =
      ap (λ (l : List ℕ). b.head ++ (l ++ end_text)) (all_lines ∙ sym (append_assoc (event_lines s.past) s.part waits))
      ∙ ap (λ (l : List ℕ). b.head ++ l) (append_assoc (event_lines s.past ++ s.part) waits end_text)
      ∙ sym (append_assoc b.head (event_lines s.past ++ s.part) (waits ++ end_text))

  -- `end` is put, or a part of it
  stops_at_end : (c : Option (List ℕ)) (left rest : List ℕ) (stop : Stop) (p : Passes a c (waits ++ end_text) rest) → WaitsIn left rest stop → Stopping b events c left sent stop
  stops_at_end c left rest stop p w = record {
    past = s.past;
    next = s.quiet;
    part = s.part ++ p.front;
    rest = rest;
    goes = sent_by b s.past;
    stays = [];
    splits = s.splits;
    lines =
        ap (λ (l : List ℕ). l ++ end_text) s.lines ∙ append_assoc s.part waits end_text ∙ ap (λ (l : List ℕ). s.part ++ l) p.whole ∙ sym (append_assoc s.part p.front rest);
    sink =
        subst (Appends b.held c) (append_assoc b.head (event_lines s.past ++ s.part) p.front ∙ ap (λ (l : List ℕ). b.head ++ l) (append_assoc (event_lines s.past) s.part p.front))
        (Appends-trans b.held a c (b.head ++ (event_lines s.past ++ s.part)) p.front s.sink p.sink);
    datagrams = sym (append-nil (sent_by b s.past));
    wire = s.wire;
    waiting = w;
  }

  -- `end` is put, behind the lines
  pub end_goes : (c : Option (List ℕ)) (left : List ℕ) → Passes a c (waits ++ end_text) left → Ending b events c left sent
  end_goes c left p = record {
    text = record {
      front = (b.head ++ (event_lines s.past ++ s.part)) ++ p.front;
      sink = Appends-trans b.held a c (b.head ++ (event_lines s.past ++ s.part)) p.front s.sink p.sink;
      whole = journal_whole ∙ ap (λ (l : List ℕ). (b.head ++ (event_lines s.past ++ s.part)) ++ l) p.whole ∙ sym (append_assoc (b.head ++ (event_lines s.past ++ s.part)) p.front left);
    };
    wire = subst (GoOut b.went sent) (sym s.quietly) s.wire;
    stopping = stops_at_end c left left Memory p ([], sym (append-nil left));
  }

  -- `end` isn't put, or a part of it
  pub end_breaks : (c : Option (List ℕ)) (left : List ℕ) (stop : Stop) → StopsIn a c (waits ++ end_text) left stop → Stopping b events c left sent stop
  end_breaks c left Memory q = stops_at_end c left (left ++ q.0) Memory q.1 (q.0, refl)
  end_breaks c left Read q = stops_at_end c left (left ++ q.0) Read q.1 (q.0, refl)
  end_breaks c left Write q = stops_at_end c left q.0 Write q.1 tt
  end_breaks c left Wire q = stops_at_end c left (left ++ q.0) Wire q.1 (q.0, refl)

-- the turns stop
pub turns_stop : (b : Begun) (events : List HubEvent) (a : Option (List ℕ)) (waits : List ℕ) (sent : Option (List Outgoing)) (stop : Stop) → Broken b events a waits sent stop → Stopping b events a waits sent stop
turns_stop b events a waits sent stop k = record {
  past = k.past;
  next = k.next;
  part = k.part;
  rest = k.rest ++ end_text;
  goes = k.goes;
  stays = k.stays;
  splits = k.splits;
  lines = ap (λ (l : List ℕ). l ++ end_text) k.lines ∙ append_assoc k.part k.rest end_text;
  sink = k.sink;
  datagrams = k.datagrams;
  wire = k.wire;
  waiting = waits_more waits k.rest end_text stop k.waiting;
}

-- What the sink and the wire hold in the end, whatever stopped the turns.
pub record HasGone (b : Begun) (events : List HubEvent) (holds : Option (List ℕ)) (sent : Option (List Outgoing)) : Type 0 where
  pub past : List HubEvent
  pub next : List HubEvent
  pub part : List ℕ
  pub rest : List ℕ
  pub goes : List Outgoing
  pub stays : List Outgoing
  pub splits : events ≡ past ++ next
  pub lines : event_lines next ++ end_text ≡ part ++ rest
  pub sink : Appends b.held holds (b.head ++ (event_lines past ++ part))
  pub datagrams : sent_by b past ≡ goes ++ stays
  pub wire : GoOut b.went sent goes

module _ (b : Begun) (events : List HubEvent) (a : Option (List ℕ)) (waits : List ℕ) (sent : Option (List Outgoing)) (stop : Stop) (s : Stopping b events a waits sent stop) where
  -- nothing more goes
  pub gone_at : HasGone b events a sent
  gone_at = record { past = s.past; next = s.next; part = s.part; rest = s.rest; goes = s.goes; stays = s.stays; splits = s.splits; lines = s.lines; sink = s.sink; datagrams = s.datagrams; wire = s.wire }

  -- a front of what waits goes
  gone_more : (more : List ℕ) → s.rest ≡ waits ++ more → (c : Option (List ℕ)) (left : List ℕ) (p : Passes a c waits left) → HasGone b events c sent
  gone_more more is c left p = record {
    past = s.past;
    next = s.next;
    part = s.part ++ p.front;
    rest = left ++ more;
    goes = s.goes;
    stays = s.stays;
    splits = s.splits;
    lines =
        s.lines ∙ ap (λ (l : List ℕ). s.part ++ l) (is ∙ ap (λ (l : List ℕ). l ++ more) p.whole ∙ append_assoc p.front left more) ∙ sym (append_assoc s.part p.front (left ++ more));
    sink =
        subst (Appends b.held c) (append_assoc b.head (event_lines s.past ++ s.part) p.front ∙ ap (λ (l : List ℕ). b.head ++ l) (append_assoc (event_lines s.past) s.part p.front))
        (Appends-trans b.held a c (b.head ++ (event_lines s.past ++ s.part)) p.front s.sink p.sink);
    datagrams = s.datagrams;
    wire = s.wire;
  }

-- the close of a server that was stopped: where its sink stopped it nothing more goes
pub gone_closed : (b : Begun) (events : List HubEvent) (a c : Option (List ℕ)) (waits left : List ℕ) (sent : Option (List Outgoing)) (stop : Stop) → Stopping b events a waits sent stop → (stop ≡ Write → c ≡ a) → Passes a c waits left → HasGone b events c sent
gone_closed b events a c waits left sent Memory s same p = gone_more b events a waits sent Memory s s.waiting.0 s.waiting.1 c left p
gone_closed b events a c waits left sent Read s same p = gone_more b events a waits sent Read s s.waiting.0 s.waiting.1 c left p
gone_closed b events a c waits left sent Write s same p = subst (λ (o : Option (List ℕ)). HasGone b events o sent) (sym (same refl)) (gone_at b events a waits sent Write s)
gone_closed b events a c waits left sent Wire s same p = gone_more b events a waits sent Wire s s.waiting.0 s.waiting.1 c left p

-- What the head and the turns come to.
pub served_is : (g : Given) → head_end g.source ≡ done 0 → (served_text g ≡ ended Done (given_journal g)) × (served_datagrams g ≡ sent_for (g.live + 1) (head_stage g.source).state (given_events g))
served_is g e =
    (ap (λ (o : Outcome). text_by o.status o (given_journal g)) e, ap (λ (o : Outcome). datagrams_by o.status (sent_for (g.live + 1) (head_stage g.source).state (given_events g))) e)

first_lines : (past next : List HubEvent) → All HasLine (past ++ next) → All HasLine past
first_lines past next all = subst (All HasLine) (take-append_seam past next) (All-take HasLine (length past) (past ++ next) all)

-- What is held in the end is a front of the text, and what was sent a front of the datagrams of its whole lines.
pub gone_front : FrontsReplay → (g : Given) (b : Begun) (events : List HubEvent) (holds : Option (List ℕ)) (sent : Option (List Outgoing)) → IsJournal b.head b.channels events → g.live ≡ b.live → (served_text g).text ≡ journal_of b.head events
    → HasGone b events holds sent → HasStopped g b.held holds b.went sent
unfolding journal_of
gone_front replays g b events holds sent is live text h =
    let few = is.few in
    let count = ap length h.splits ∙ length-append h.past h.next in
    let journal : IsJournal b.head b.channels h.past = record { opens = is.opens; lines = first_lines h.past h.next (subst (All HasLine) h.splits is.lines); few = omega (arith, few, count) } in
    let replay = replays g.live b.head h.part b.channels h.past journal in
    let same : sent_for (g.live + 1) b.channels h.past ≡ h.goes ++ h.stays = ap (λ n. sent_for (n + 1) b.channels h.past) live ∙ h.datagrams in
    record {
      front = b.head ++ (event_lines h.past ++ h.part);
      rest = h.rest;
      goes = h.goes;
      stays = h.stays ++ replay.0;
      splits =
          text ∙ ap (λ (es : List HubEvent). b.head ++ (event_lines es ++ end_text)) h.splits ∙ ap (λ (l : List ℕ). b.head ++ (l ++ end_text)) (lines_append h.past h.next)
          ∙ ap (λ (l : List ℕ). b.head ++ l)
          (append_assoc (event_lines h.past) (event_lines h.next) end_text ∙ ap (λ (l : List ℕ). event_lines h.past ++ l) h.lines ∙ sym (append_assoc (event_lines h.past) h.part h.rest))
          ∙ sym (append_assoc b.head (event_lines h.past ++ h.part) h.rest);
      text = h.sink;
      replays = replay.1 ∙ ap (λ (l : List Outgoing). l ++ replay.0) same ∙ append_assoc h.goes h.stays replay.0;
      datagrams = h.wire;
    }

-- A front of the text went, and nothing was sent.
pub front_alone : (g : Given) (a c : Option (List ℕ)) (went : Option (List Outgoing)) (text rest more : List ℕ) → (served_text g).text ≡ text ++ more → Passes a c text rest → HasStopped g a c went went
front_alone g a c went text rest more is p = record {
  front = p.front;
  rest = rest ++ more;
  goes = [];
  stays = replayed g.live p.front;
  splits = is ∙ ap (λ (l : List ℕ). l ++ more) p.whole ∙ append_assoc p.front rest more;
  text = p.sink;
  replays = refl;
  datagrams = GoOut-none went;
}

pub nothing_alone : (g : Given) (a : Option (List ℕ)) (went : Option (List Outgoing)) → HasStopped g a a went went
nothing_alone g a went = front_alone g a a went [] [] (served_text g).text refl (Passes-none a [])

-- all of the text of a head went, and nothing waits
pub serving_begins : (live : ℕ) (head : List ℕ) (channels : List Served) (a c : Option (List ℕ)) (waits : List ℕ) (went : Option (List Outgoing)) → Passes a c head [] → waits ≡ []
    → Serving (record { live = live; head = head; channels = channels; held = a; went = went }) [] c waits went
unfolding sent_for
serving_begins live head channels a c waits went p none = record {
  past = [];
  quiet = [];
  part = [];
  splits = refl;
  lines = sym none;
  sink = subst (Appends a c) (sym (append-nil head)) (passes_whole a c head p);
  wire = GoOut-none went;
  quietly = refl;
}

-- the events of the turns, by what is given
pub events_given : (g : Given) (port turns tick : ℕ) → g.live ≡ port → g.turns ≡ turns → tick ≡ tick_of (head_stage g.source).reached.head → events_of port tick (head_stage g.source).state turns g.arrivals g.moments ≡ given_events g
events_given g port turns tick live count ticks =
    ap (λ p. events_of p tick (head_stage g.source).state turns g.arrivals g.moments) (sym live)
    ∙ ap (λ t. events_of g.live t (head_stage g.source).state turns g.arrivals g.moments) ticks
    ∙ ap (λ n. events_of g.live (tick_of (head_stage g.source).reached.head) (head_stage g.source).state n g.arrivals g.moments) (sym count)

-- a server behind its head
abbrev pub begun_with : Given → ℕ → List ℕ → Option (List ℕ) → Option (List Outgoing) → Begun
begun_with g port text held went = record { live = port; head = text; channels = (head_stage g.source).state; held = held; went = went }

pub between_begins : HeadsOpenNewChannels → (g : Given) (port : ℕ) (hub now : Seen) (ids are text : List ℕ) (live : ℕ) (a c : Option (List ℕ)) (waits : List ℕ) (went : Option (List Outgoing)) → IsHeadOf g.source hub ids text
    → now ≡ hub → are ≡ ids → live ≡ port → Passes a c text [] → waits ≡ [] → IsBetween (begun_with g port text a went) [] live are now c waits went
unfolding behind
between_begins new g port hub now ids are text live a c waits went head same_hub same_ids same_port p none = record {
  live_is = same_port;
  ids_are = same_ids ∙ head.ids_are;
  apart = (new text (head_stage g.source).state head.opens).apart;
  stands = subst (λ (v : Seen). StandsFor v (head_stage g.source).state) (sym same_hub) head.stands;
  serving = serving_begins port text (head_stage g.source).state a c waits went p none;
}

-- how the close of the turns ends them
pub ended_so : (r : Result (Unit {0}) Stop) (result : Result Status Stop) (before now : ℕ) (E P : Type 0) (Q : Status → Type 0) → EndsAs before now r result → OnOk r E → OnOk result P
    → (E → P → (status : Status) → status ≡ Done → Q status) → IfOk result Q
ended_so r (Err stop) before now E P Q ends e p f = tt
ended_so (Ok u) (Ok status) before now E P Q ends e p f = f e p status ends
ended_so (Err stop) (Ok status) before now E P Q ends e p f = cc

pub gone_so : (b : Begun) (events : List HubEvent) (a c : Option (List ℕ)) (waits rest : List ℕ) (sent : Option (List Outgoing)) (left : Type 0) (r : Result (Unit {0}) Stop)
    → OnOk r (Ending b events a waits sent × left) → IfErr r (Stopping b events a waits sent) → (r ≡ Err Write → c ≡ a) → Passes a c waits rest → HasGone b events c sent
gone_so b events a c waits rest sent left (Ok u) e s same p = gone_closed b events a c waits rest sent Memory e.0.stopping (λ q. absurd (never q)) p
  where
    never : Memory ≡ Write → ⊥
    never q = cc
gone_so b events a c waits rest sent left (Err stop) e s same p = gone_closed b events a c waits rest sent stop s (λ q. same (ap Err q)) p

pub closed_room : (r : Result (Unit {0}) Stop) (result : Result Status Stop) (before now : ℕ) (sink later : ℕ → Type 0) (wire : ℕ → ℕ → Type 0) (waits : List ℕ) (more : Room) → EndsAs before now r result
    → OnlyMemoryStops r (HasRoom sink wire waits [] more) → (OnlyMemoryStops r (sink (length waits + more.text)) → OnlyMemoryStops result (later more.text)) → OnlyMemoryStops result (HasRoom later wire [] [] more)
closed_room (Ok u) (Ok status) before now sink later wire waits more ends h goes =
    quiet_room later wire [] more (subst later (let zero : more.text ≡ length {A = ℕ} [] + more.text = omega arith in zero) (goes h.text_fits)) (wire_none wire [] more.bytes more.datagrams refl h.datagrams_fit)
closed_room (Ok u) (Err stop) before now sink later wire waits more ends h goes = goes h.text_fits
closed_room (Err stop) (Ok status) before now sink later wire waits more ends h goes = cc
closed_room (Err stop) (Err other) before now sink later wire waits more ends h goes = goes h

-- the text of a server whose head is whole
pub text_is_journal : (g : Given) (hub : Seen) (ids text : List ℕ) → IsHeadOf g.source hub ids text → (served_text g).text ≡ journal_of text (given_events g)
text_is_journal g hub ids text head = ap (λ (o : Outcome). o.text) (served_is g head.end).0 ∙ ap (λ (t : List ℕ). journal_of t (given_events g)) (sym head.text_is)

pub text_begins : (g : Given) (hub : Seen) (ids text : List ℕ) → IsHeadOf g.source hub ids text → (served_text g).text ≡ text ++ (event_lines (given_events g) ++ end_text)
unfolding journal_of
text_begins g hub ids text head = text_is_journal g hub ids text head

-- a server whose turns are over
pub has_ended : JournalsReplay → RunsWriteJournals → (g : Given) (port : ℕ) (hub : Seen) (ids text : List ℕ) (events : List HubEvent) (a c d : Option (List ℕ)) (waits : List ℕ) (went sent : Option (List Outgoing))
    (left : Option (List Incoming)) (status : Status) → IsHeadOf g.source hub ids text → g.live ≡ port → events ≡ given_events g → IsJournal text (head_stage g.source).state events
    → Ending (begun_with g port text a went) events c waits sent → Passes c d waits [] → left ≡ Some (drop g.turns g.arrivals) → status ≡ Done → HasEnded g a d went sent left status
has_ended replays runs g port hub ids text events a c d waits went sent left status head live are journal e p arrivals done_is =
    let is = served_is g head.end in
    let whole = text_is_journal g hub ids text head in
    let text_was : journal_of text events ≡ (served_text g).text = ap (λ (es : List HubEvent). journal_of text es) are ∙ sym whole in
    let sent_was : sent_for (port + 1) (head_stage g.source).state events ≡ served_datagrams g =
    ap (λ (es : List HubEvent). sent_for (port + 1) (head_stage g.source).state es) are ∙ ap (λ n. sent_for (n + 1) (head_stage g.source).state (given_events g)) (sym live) ∙ sym is.1 in
    let given : IsJournal (head_text g.source) (head_stage g.source).state (given_events g) =
    subst (λ (t : List ℕ). IsJournal t (head_stage g.source).state (given_events g)) head.text_is (subst (λ (es : List HubEvent). IsJournal text (head_stage g.source).state es) are journal) in
    record {
      status_is = done_is ∙ sym (ap (λ (o : Outcome). o.status) is.0);
      text = subst (Appends a d) text_was (passes_whole a d (journal_of text events) (Passes-then a c d (journal_of text events) waits [] e.text p));
      datagrams = subst (GoOut went sent) sent_was e.wire;
      arrivals = λ q. arrivals;
      journal = λ q. given;
      replays = λ q. ap (replayed g.live) (ap (λ (o : Outcome). o.text) is.0) ∙ (replays g.live (head_text g.source) (head_stage g.source).state (given_events g) given).1 ∙ sym is.1;
      runs = λ q. ap trace_text (ap (λ (o : Outcome). o.text) is.0) ∙ runs (head_text g.source) (head_stage g.source).state (given_events g) given;
    }

-- the room for a head, and for what follows it
pub room_begins : (sink : ℕ → Type 0) (waits text lines : List ℕ) (more : ℕ) → waits ≡ [] → sink (length (text ++ lines) + more) → sink (length waits + length text + (length lines + more))
room_begins sink waits text lines more none h =
    let all = length-append text lines in
    let zero = ap length none in
    let size : length (text ++ lines) + more ≡ length waits + length text + (length lines + more) = omega (arith, all, zero) in
    subst sink size h
