-- How the turns end behind a journal that was taken over.
use Rattle.std.proofs.Common.{◌≡◌, ℕ, ◌+◌, List, [], ◌++◌, length, Bool, true, false, not, Option, Some, Result, Ok, Err, IfErr, take, inl, inr, refl, sym, ap, subst, ◌∙◌, drop, arith, append_assoc, append-nil, length-append}
use Rattle.std.specs.Prelude.{◌≢◌, AllPairs, IfOk, OnOk, nat_lt}
use Rattle.std.proofs.lemmas.Bool.{le-ltb, lt-ltb}
use Rattle.std.specs.Io.KnownBytes.{Appends}
use Rattle.std.proofs.KnownBytes.{Appends-trans}
use Rattle.line_io.specs.Passes.{Passes}
use Rattle.line_io.proofs.Passing.{Passes-all, Passes-then}
use Rattle.rams_model.specs.declared.{Status.Status, Status.TheVariants.Done, Status.TheVariants.TooLong}
use Rattle.ram_io.specs.declared.Incoming.{Incoming}
use Rattle.ram_io.specs.{Outgoing}
use Rattle.server_hub.specs.declared.HubEvent.{HubEvent}
use Rattle.server_hub.specs.Seen.{Seen}
use Rattle.server_hub.specs.{StandsFor, ids_of}
use Rattle.rams_model.specs.Service.{Settings}
use Rattle.rams_model.specs.Texts.{tick_of}
use Rattle.trace_loop.specs.trace_book.trace_serving.{Outcome, after_text}
use Rattle.trace_loop.specs.trace_book.Stages.{settings_of}
use Rattle.trace_loop.specs.journal_book.{HeadsOpenNewChannels, behind, event_lines, events_of}
use Rattle.trace_loop.specs.declared.Stop.{Stop}
use Rattle.trace_loop.specs.declared.Stop.TheVariants.{Memory, Read, Write, Wire}
use Rattle.trace_loop.proofs.Reading.{passes_whole}
use Rattle.trace_loop.proofs.journal_book.EventLines.{lines_append}
use Rattle.serve_loop.specs.{Begun, Broken, Given, GoOut, HasRoom, IsBetween, OnlyMemoryStops, Room, Serving, StopsIn, WaitsIn, sent_by}
use Rattle.serve_loop.proofs.Closing.{serving_begins}
use Rattle.serve_loop.proofs.GoingOut.{GoOut-none}
use Rattle.serve_loop.proofs.Telling.{settled_behind}
use Rattle.serve_loop.proofs.Rooms.{quiet_room, wire_none}
use Rattle.serve_loop.proofs.Steps.{waits_more}
use Rattle.takeover.specs.standby.{followed, stage_of}
use Rattle.takeover.specs.standby.standby_book.{JournalsAreTakenOver, followed_text}
use Rattle.takeover.specs.takeover_loop.{Ending, EndsAs, HasEnded, HasStopped, IsTaken, IsWithin, Stopping, done_events, events_left, given_events, last_line, reading_end, taken_datagrams, taken_text, turns_end}
use Rattle.takeover.proofs.takeover_loop.OneJournal.{sent_behind, text_behind}

module _ (b : Begun) (events : List HubEvent) (last : List ℕ) (a : Option (List ℕ)) (waits : List ℕ) (sent : Option (List Outgoing)) (s : Serving b events a waits sent) where
  -- the lines of all events
  all_lines : event_lines events ≡ event_lines s.past ++ (s.part ++ waits)
  all_lines = ap event_lines s.splits ∙ lines_append s.past s.quiet ∙ ap (λ (l : List ℕ). event_lines s.past ++ l) s.lines

  -- the text is what has gone, what waits, and the last line
  text_whole : b.head ++ (event_lines events ++ last) ≡ (b.head ++ (event_lines s.past ++ s.part)) ++ (waits ++ last)
  text_whole =
      ap (λ (l : List ℕ). b.head ++ (l ++ last)) (all_lines ∙ sym (append_assoc (event_lines s.past) s.part waits))
      ∙ ap (λ (l : List ℕ). b.head ++ l) (append_assoc (event_lines s.past ++ s.part) waits last)
      ∙ sym (append_assoc b.head (event_lines s.past ++ s.part) (waits ++ last))

  -- the last line is put, or a part of it
  stops_at_last : (c : Option (List ℕ)) (left rest : List ℕ) (stop : Stop) (p : Passes a c (waits ++ last) rest) → WaitsIn left rest stop → Stopping b events last c left sent stop
  stops_at_last c left rest stop p w = record {
    past = s.past;
    next = s.quiet;
    part = s.part ++ p.front;
    rest = rest;
    goes = sent_by b s.past;
    stays = [];
    splits = s.splits;
    lines =
        ap (λ (l : List ℕ). l ++ last) s.lines ∙ append_assoc s.part waits last ∙ ap (λ (l : List ℕ). s.part ++ l) p.whole ∙ sym (append_assoc s.part p.front rest);
    sink =
        subst (Appends b.held c) (append_assoc b.head (event_lines s.past ++ s.part) p.front ∙ ap (λ (l : List ℕ). b.head ++ l) (append_assoc (event_lines s.past) s.part p.front))
        (Appends-trans b.held a c (b.head ++ (event_lines s.past ++ s.part)) p.front s.sink p.sink);
    datagrams = sym (append-nil (sent_by b s.past));
    wire = s.wire;
    waiting = w;
  }

  pub last_goes : (c : Option (List ℕ)) (left : List ℕ) → Passes a c (waits ++ last) left → Ending b events last c left sent
  last_goes c left p = record {
    text = record {
      front = (b.head ++ (event_lines s.past ++ s.part)) ++ p.front;
      sink = Appends-trans b.held a c (b.head ++ (event_lines s.past ++ s.part)) p.front s.sink p.sink;
      whole = text_whole ∙ ap (λ (l : List ℕ). (b.head ++ (event_lines s.past ++ s.part)) ++ l) p.whole ∙ sym (append_assoc (b.head ++ (event_lines s.past ++ s.part)) p.front left);
    };
    wire = subst (GoOut b.went sent) (sym s.quietly) s.wire;
    stopping = stops_at_last c left left Memory p ([], sym (append-nil left));
  }

  pub last_breaks : (c : Option (List ℕ)) (left : List ℕ) (stop : Stop) → StopsIn a c (waits ++ last) left stop → Stopping b events last c left sent stop
  last_breaks c left Memory q = stops_at_last c left (left ++ q.0) Memory q.1 (q.0, refl)
  last_breaks c left Read q = stops_at_last c left (left ++ q.0) Read q.1 (q.0, refl)
  last_breaks c left Write q = stops_at_last c left q.0 Write q.1 tt
  last_breaks c left Wire q = stops_at_last c left (left ++ q.0) Wire q.1 (q.0, refl)

-- the turns stop
pub turns_stop : (b : Begun) (events : List HubEvent) (last : List ℕ) (a : Option (List ℕ)) (waits : List ℕ) (sent : Option (List Outgoing)) (stop : Stop) → Broken b events a waits sent stop → Stopping b events last a waits sent stop
turns_stop b events last a waits sent stop k = record {
  past = k.past;
  next = k.next;
  part = k.part;
  rest = k.rest ++ last;
  goes = k.goes;
  stays = k.stays;
  splits = k.splits;
  lines = ap (λ (l : List ℕ). l ++ last) k.lines ∙ append_assoc k.part k.rest last;
  sink = k.sink;
  datagrams = k.datagrams;
  wire = k.wire;
  waiting = waits_more waits k.rest last stop k.waiting;
}

-- What the sink and the wire hold in the end, whatever stopped the turns.
pub record HasGone (b : Begun) (events : List HubEvent) (last : List ℕ) (holds : Option (List ℕ)) (sent : Option (List Outgoing)) : Type 0 where
  pub past : List HubEvent
  pub next : List HubEvent
  pub part : List ℕ
  pub rest : List ℕ
  pub goes : List Outgoing
  pub stays : List Outgoing
  pub splits : events ≡ past ++ next
  pub lines : event_lines next ++ last ≡ part ++ rest
  pub sink : Appends b.held holds (b.head ++ (event_lines past ++ part))
  pub datagrams : sent_by b past ≡ goes ++ stays
  pub wire : GoOut b.went sent goes

module _ (b : Begun) (events : List HubEvent) (last : List ℕ) (a : Option (List ℕ)) (waits : List ℕ) (sent : Option (List Outgoing)) (stop : Stop) (s : Stopping b events last a waits sent stop) where
  -- nothing more goes
  pub gone_at : HasGone b events last a sent
  gone_at = record { past = s.past; next = s.next; part = s.part; rest = s.rest; goes = s.goes; stays = s.stays; splits = s.splits; lines = s.lines; sink = s.sink; datagrams = s.datagrams; wire = s.wire }

  -- a front of what waits goes
  gone_more : (more : List ℕ) → s.rest ≡ waits ++ more → (c : Option (List ℕ)) (left : List ℕ) (p : Passes a c waits left) → HasGone b events last c sent
  gone_more more is c left p = record {
    past = s.past;
    next = s.next;
    part = s.part ++ p.front;
    rest = left ++ more;
    goes = s.goes;
    stays = s.stays;
    splits = s.splits;
    lines =
        s.lines ∙ ap (λ (l : List ℕ). s.part ++ l) (is ∙ ap (λ (l : List ℕ). l ++ more) p.whole ∙ append_assoc p.front left more) ∙ sym (append_assoc s.part p.front (left ++ more));
    sink =
        subst (Appends b.held c) (append_assoc b.head (event_lines s.past ++ s.part) p.front ∙ ap (λ (l : List ℕ). b.head ++ l) (append_assoc (event_lines s.past) s.part p.front))
        (Appends-trans b.held a c (b.head ++ (event_lines s.past ++ s.part)) p.front s.sink p.sink);
    datagrams = s.datagrams;
    wire = s.wire;
  }

-- the close of turns that were stopped: where the sink stopped them nothing more goes
pub gone_closed : (b : Begun) (events : List HubEvent) (last : List ℕ) (a c : Option (List ℕ)) (waits left : List ℕ) (sent : Option (List Outgoing)) (stop : Stop) → Stopping b events last a waits sent stop → (stop ≡ Write → c ≡ a) → Passes a c waits left → HasGone b events last c sent
gone_closed b events last a c waits left sent Memory s same p = gone_more b events last a waits sent Memory s s.waiting.0 s.waiting.1 c left p
gone_closed b events last a c waits left sent Read s same p = gone_more b events last a waits sent Read s s.waiting.0 s.waiting.1 c left p
gone_closed b events last a c waits left sent Write s same p = subst (λ (o : Option (List ℕ)). HasGone b events last o sent) (sym (same refl)) (gone_at b events last a waits sent Write s)
gone_closed b events last a c waits left sent Wire s same p = gone_more b events last a waits sent Wire s s.waiting.0 s.waiting.1 c left p

pub gone_so : (b : Begun) (events : List HubEvent) (last : List ℕ) (a c : Option (List ℕ)) (waits rest : List ℕ) (sent : Option (List Outgoing)) (r : Result Status Stop)
    → OnOk r (Ending b events last a waits sent) → IfErr r (Stopping b events last a waits sent) → (r ≡ Err Write → c ≡ a) → Passes a c waits rest → HasGone b events last c sent
gone_so b events last a c waits rest sent (Ok status) e s same p = gone_closed b events last a c waits rest sent Memory e.stopping (λ q. absurd (never q)) p
  where
    never : Memory ≡ Write → ⊥
    never q = cc
gone_so b events last a c waits rest sent (Err stop) e s same p = gone_closed b events last a c waits rest sent stop s (λ q. same (ap Err q)) p

-- how the close of the turns ends them
pub ended_so : (r result : Result Status Stop) (before now : ℕ) (E P : Type 0) (F Q : Status → Type 0) → EndsAs before now r result → OnOk r E → IfOk r F → OnOk result P
    → ((status : Status) → E → P → F status → r ≡ Ok status → Q status) → IfOk result Q
ended_so r (Err stop) before now E P F Q ends e p q f = tt
ended_so (Ok was) (Ok status) before now E P F Q ends e p q f = subst Q (sym ends) (f was e q p refl)
ended_so (Err stop) (Ok status) before now E P F Q ends e p q f = cc

pub closed_room : (r result : Result Status Stop) (before now : ℕ) (sink later : ℕ → Type 0) (wire : ℕ → ℕ → Type 0) (waits : List ℕ) (more : Room) → EndsAs before now r result
    → OnlyMemoryStops r (HasRoom sink wire waits [] more) → (OnlyMemoryStops r (sink (length waits + more.text)) → OnlyMemoryStops result (later more.text)) → OnlyMemoryStops result (HasRoom later wire [] [] more)
closed_room (Ok was) (Ok status) before now sink later wire waits more ends h goes =
    quiet_room later wire [] more (subst later (let zero : more.text ≡ length {A = ℕ} [] + more.text = omega arith in zero) (goes h.text_fits)) (wire_none wire [] more.bytes more.datagrams refl h.datagrams_fit)
closed_room (Ok was) (Err stop) before now sink later wire waits more ends h goes = goes h.text_fits
closed_room (Err stop) (Ok status) before now sink later wire waits more ends h goes = cc
closed_room (Err stop) (Err other) before now sink later wire waits more ends h goes = goes h

-- a server that goes on behind a journal
abbrev pub begun_on : Given → Option (List ℕ) → Option (List Outgoing) → Begun
begun_on g held went = record { live = g.live; head = followed_text g.source; channels = (stage_of g.source).state; held = held; went = went }

-- what is held in the end is a front of the text
pub gone_front : (g : Given) (last : List ℕ) (held holds : Option (List ℕ)) (went sent : Option (List Outgoing)) → (taken_text g).text ≡ followed_text g.source ++ (event_lines (done_events g) ++ last)
    → HasGone (begun_on g held went) (done_events g) last holds sent → HasStopped g held holds went sent
gone_front g last held holds went sent is h =
    let head = followed_text g.source in
    record {
      front = head ++ (event_lines h.past ++ h.part);
      rest = h.rest;
      goes = h.goes;
      splits =
          is ∙ ap (λ (es : List HubEvent). head ++ (event_lines es ++ last)) h.splits ∙ ap (λ (l : List ℕ). head ++ (l ++ last)) (lines_append h.past h.next)
          ∙ ap (λ (l : List ℕ). head ++ l)
          (append_assoc (event_lines h.past) (event_lines h.next) last ∙ ap (λ (l : List ℕ). event_lines h.past ++ l) h.lines ∙ sym (append_assoc (event_lines h.past) h.part h.rest))
          ∙ sym (append_assoc head (event_lines h.past ++ h.part) h.rest);
      text = h.sink;
      datagrams = h.wire;
      behind = inr (record { past = h.past; next = h.next; part = h.part; stays = h.stays; splits = h.splits; text = refl; datagrams = h.datagrams });
    }

-- the turns by what is given
module _ (g : Given) (n : ℕ) (es : List HubEvent) (left_is : n ≡ events_left g) (are : es ≡ given_events g) where
  pub by_given : (P : List HubEvent → Outcome → Type 0) → P (take n es) (last_line (nat_lt n (length es))) → P (done_events g) (turns_end g)
  by_given P p =
      subst (λ k. P (take k (given_events g)) (last_line (nat_lt k (length (given_events g))))) left_is (subst (λ (l : List HubEvent). P (take n l) (last_line (nat_lt n (length l)))) are p)

  pub for_given : (P : List HubEvent → Outcome → Type 0) → P (done_events g) (turns_end g) → P (take n es) (last_line (nat_lt n (length es)))
  for_given P p =
      subst (λ (l : List HubEvent). P (take n l) (last_line (nat_lt n (length l)))) (sym are) (subst (λ k. P (take k (given_events g)) (last_line (nat_lt k (length (given_events g))))) (sym left_is) p)

-- a takeover whose turns are over
pub has_ended : (g : Given) (held c d : Option (List ℕ)) (waits : List ℕ) (went sent : Option (List Outgoing)) (left : Option (List Incoming)) (status : Status) → (reading_end g.source).status ≡ Done
    → Ending (begun_on g held went) (done_events g) (turns_end g).text c waits sent → Passes c d waits [] → (status ≡ Done → left ≡ Some (drop g.turns g.arrivals)) → status ≡ (turns_end g).status → HasEnded g held d went sent left status
has_ended g held c d waits went sent left status reads e p arrivals is =
    let text = text_behind g reads in
    let whole = followed_text g.source ++ (event_lines (done_events g) ++ (turns_end g).text) in
    record {
      status_is = is ∙ sym (ap (λ (o : Outcome). o.status) text);
      text = subst (Appends held d) (sym (ap (λ (o : Outcome). o.text) text)) (passes_whole held d whole (Passes-then held c d whole waits [] e.text p));
      datagrams = subst (GoOut went sent) (sym (sent_behind g reads)) e.wire;
      arrivals = arrivals;
    }

-- a takeover of which nothing is served
pub refused_ended : (g : Given) (o : Outcome) (held c d : Option (List ℕ)) (went : Option (List Outgoing)) (left : Option (List Incoming)) (status : Status) → taken_text g ≡ after_text (followed_text g.source) o → taken_datagrams g ≡ []
    → Appends held c (followed_text g.source) → Appends c d o.text → (status ≡ Done → ⊥) → status ≡ o.status → HasEnded g held d went went left status
refused_ended g o held c d went left status text none first second never is = record {
  status_is = is ∙ sym (ap (λ (x : Outcome). x.status) text);
  text = subst (Appends held d) (sym (ap (λ (x : Outcome). x.text) text)) (Appends-trans held c d (followed_text g.source) o.text first second);
  datagrams = subst (GoOut went went) (sym none) (GoOut-none went);
  arrivals = λ q. absurd (never q);
}

-- a front of the text went, and nothing was sent
pub stopped_alone : (g : Given) (held c : Option (List ℕ)) (went : Option (List Outgoing)) (text rest more : List ℕ) → (taken_text g).text ≡ text ++ more → Passes held c text rest → HasStopped g held c went went
stopped_alone g held c went text rest more is p = record {
  front = p.front;
  rest = rest ++ more;
  goes = [];
  splits = is ∙ ap (λ (l : List ℕ). l ++ more) p.whole ∙ append_assoc p.front rest more;
  text = p.sink;
  datagrams = GoOut-none went;
  behind = inl refl;
}

-- what holds before the first turn
pub between_begins : JournalsAreTakenOver → HeadsOpenNewChannels → (g : Given) (port left : ℕ) (hub now : Seen) (ids are : List ℕ) (live : ℕ) (held c : Option (List ℕ)) (waits : List ℕ) (went : Option (List Outgoing)) → IsTaken g.source hub ids left → g.live ≡ port
    → now ≡ hub → are ≡ ids → live ≡ port → Appends held c (followed_text g.source) → waits ≡ [] → IsBetween (begun_on g held went) [] live are now c waits went
unfolding behind
between_begins over new g port left hub now ids are live held c waits went taken live_is same_hub same_ids same_port text none =
    let t = over g.source taken.channel in
    let settings : settings_of (stage_of g.source).state ≡ settings_of t.channels = ap settings_of t.state ∙ settled_behind (followed g.source) t.channels in
    record {
      live_is = same_port ∙ sym live_is;
      ids_are = same_ids ∙ taken.ids_are;
      apart = subst (λ (l : List Settings). AllPairs (λ x y. x ≢ y) (ids_of l)) (sym settings) (new t.head t.channels t.opens).apart;
      stands = subst (λ (v : Seen). StandsFor v (stage_of g.source).state) (sym same_hub) taken.stands;
      serving = serving_begins g.live (followed_text g.source) (stage_of g.source).state held c waits went (Passes-all held c (followed_text g.source) text) none;
    }

-- what may come tells the last line
pub within_is : (events : List HubEvent) (left : ℕ) (within : Bool) → IsWithin events left within → not within ≡ nat_lt left (length events)
within_is events left true h = sym (le-ltb left (length events) h)
within_is events left false h = sym (lt-ltb left (length events) h)

pub within_done : (within : Bool) (r : Result Status Stop) → r ≡ Ok Done → IfOk r (λ status. status ≡ (last_line (not within)).status) → within ≡ true
within_done true r is h = refl
within_done false r is h = let status : Done ≡ TooLong = subst (λ (x : Result Status Stop). IfOk x (λ status. status ≡ TooLong)) is h in absurd cc

-- the room for the lines of events, beside that for the last line
pub last_room : (sink : ℕ → Type 0) (wire : ℕ → ℕ → Type 0) (waits lines last : List ℕ) (datagrams : List Outgoing) (more : Room) → HasRoom sink wire (waits ++ (lines ++ last)) datagrams more
    → HasRoom sink wire (waits ++ lines) datagrams (record { text = length last + more.text; bytes = more.bytes; datagrams = more.datagrams })
last_room sink wire waits lines last datagrams more h =
    let all = length-append waits (lines ++ last) in
    let both = length-append lines last in
    let first = length-append waits lines in
    let size : length (waits ++ (lines ++ last)) + more.text ≡ length (waits ++ lines) + (length last + more.text) = omega (arith, all, both, first) in
    record { text_fits = subst sink size h.text_fits; datagrams_fit = h.datagrams_fit }

pub put_last_room : (sink : ℕ → Type 0) (waits last : List ℕ) (room : ℕ) → sink (length waits + (length last + room)) → sink (length waits + length last + room)
put_last_room sink waits last room h =
    let size : length waits + (length last + room) ≡ length waits + length last + room = omega arith in
    subst sink size h

-- the events of the turns, by what is given
pub given_by : (g : Given) (tick turns : ℕ) → tick ≡ tick_of (stage_of g.source).reached.head → g.turns ≡ turns → events_of g.live tick (stage_of g.source).state turns g.arrivals g.moments ≡ given_events g
given_by g tick turns ticks count =
    ap (λ t. events_of g.live t (stage_of g.source).state turns g.arrivals g.moments) ticks
    ∙ ap (λ n. events_of g.live (tick_of (stage_of g.source).reached.head) (stage_of g.source).state n g.arrivals g.moments) (sym count)
