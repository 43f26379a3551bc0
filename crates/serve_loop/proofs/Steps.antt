-- One more event of a server.
use Rattle.std.proofs.Common.{◌≡◌, ◌≢◌, ℕ, ◌+◌, Bool, true, false, not, List, [], ◌∷◌, ◌++◌, length, Option, None, Some, Result, Ok, Err, IfErr, OnOk, refl, sym, ap, subst, ◌∙◌, append_assoc, append-nil}
use Rattle.std.specs.Prelude.{◌||◌, ◌==◌, AllPairs}
use Rattle.std.specs.List.{list_any}
use Rattle.std.specs.Io.KnownBytes.{Appends}
use Rattle.std.proofs.KnownBytes.{Appends-trans}
use Rattle.std.proofs.lemmas.Bool.{eqb-true}
use Rattle.line_io.specs.Passes.{Passes}
use Rattle.line_io.proofs.Passing.{Passes-then}
use Rattle.rams_model.specs.declared.Order.{Order}
use Rattle.rams_model.specs.Service.{Answered, Settings}
use Rattle.ram_io.specs.{Outgoing}
use Rattle.server_hub.specs.declared.{At.At, HubAnswer.HubAnswer, HubEvent.HubEvent}
use Rattle.server_hub.specs.{StandsFor, settings_of, ids_of, after_event, Told, told, told_to, answers_said}
use Rattle.server_hub.specs.Seen.{Seen}
use Rattle.server_hub.proofs.Finding.{with_id}
use Rattle.trace_loop.specs.trace_book.Stages.{settings_of as settings_all}
use Rattle.trace_loop.specs.journal_book.{behind, datagrams_of, event_line, event_lines}
use Rattle.trace_loop.proofs.journal_book.Served.{journal_grows}
use Rattle.trace_loop.specs.declared.Stop.{Stop}
use Rattle.trace_loop.specs.declared.Stop.TheVariants.{Memory, Read, Write, Wire}
use Rattle.serve_loop.specs.{Begun, Ready, Serving, Broken, WaitsIn, sent_by, AnswersFrom, Sends, StopsIn, GoOut, order_datagrams, settled_datagrams, said_datagrams}
use Rattle.serve_loop.proofs.GoingOut.{GoOut-then}
use Rattle.trace_loop.proofs.head_loop.Channels.{settings_stand}
use Rattle.trace_loop.proofs.Writing.{unwritten}
use Rattle.trace_loop.proofs.journal_book.EventLines.{lines_append}
use Rattle.serve_loop.proofs.Telling.{settled_behind, said_is_sent}

-- a text goes on until the call stops
pub StopsIn-then : (a c d : Option (List ℕ)) (text mid left : List ℕ) (stop : Stop) → Passes a c text mid → StopsIn c d mid left stop → StopsIn a d text left stop
StopsIn-then a c d text mid left Memory p q = (q.0, Passes-then a c d text mid (left ++ q.0) p q.1)
StopsIn-then a c d text mid left Read p q = (q.0, Passes-then a c d text mid (left ++ q.0) p q.1)
StopsIn-then a c d text mid left Write p q = (q.0, Passes-then a c d text mid q.0 p q.1)
StopsIn-then a c d text mid left Wire p q = (q.0, Passes-then a c d text mid (left ++ q.0) p q.1)

none_waits : (stop : Stop) → WaitsIn [] [] stop
none_waits Memory = ([], refl)
none_waits Read = ([], refl)
none_waits Write = tt
none_waits Wire = ([], refl)

module _ (b : Begun) (events : List HubEvent) (e : HubEvent) (a : Option (List ℕ)) (waits : List ℕ) (sent : Option (List Outgoing)) (s : Serving b events a waits sent) where
  splits_more : events ++ e ∷ [] ≡ s.past ++ (s.quiet ++ e ∷ [])
  splits_more = ap (λ (l : List HubEvent). l ++ e ∷ []) s.splits ∙ append_assoc s.past s.quiet (e ∷ [])

  -- what went to the sink of the lines of the events for which nothing was sent, and of this one's
  front_goes : (c : Option (List ℕ)) (rest : List ℕ) (p : Passes a c (waits ++ event_line e) rest) → Appends b.held c (b.head ++ (event_lines s.past ++ (s.part ++ p.front)))
  front_goes c rest p =
      let same : (b.head ++ (event_lines s.past ++ s.part)) ++ p.front ≡ b.head ++ (event_lines s.past ++ (s.part ++ p.front)) =
      append_assoc b.head (event_lines s.past ++ s.part) p.front ∙ ap (λ (l : List ℕ). b.head ++ l) (append_assoc (event_lines s.past) s.part p.front) in
      subst (Appends b.held c) same (Appends-trans b.held a c (b.head ++ (event_lines s.past ++ s.part)) p.front s.sink p.sink)

  lines_go : (c : Option (List ℕ)) (rest : List ℕ) (p : Passes a c (waits ++ event_line e) rest) → event_lines (s.quiet ++ e ∷ []) ≡ (s.part ++ p.front) ++ rest
  lines_go c rest p =
      (journal_grows e 0 [] s.quiet).lines
      ∙ ap (λ (l : List ℕ). l ++ event_line e) s.lines
      ∙ append_assoc s.part waits (event_line e)
      ∙ ap (λ (l : List ℕ). s.part ++ l) p.whole
      ∙ sym (append_assoc s.part p.front rest)

  -- its line is written, and nothing is sent for it
  pub quiet_goes_on : (c : Option (List ℕ)) (left : List ℕ) → Passes a c (waits ++ event_line e) left → datagrams_of (b.live + 1) e (behind events b.channels) ≡ [] → Serving b (events ++ e ∷ []) c left sent
  quiet_goes_on c left p none = record {
    past = s.past;
    quiet = s.quiet ++ e ∷ [];
    part = s.part ++ p.front;
    splits = splits_more;
    lines = lines_go c left p;
    sink = front_goes c left p;
    wire = s.wire;
    quietly = (journal_grows e (b.live + 1) b.channels events).sent ∙ (ap (λ (l : List Outgoing). sent_by b events ++ l) none ∙ (append-nil (sent_by b events) ∙ s.quietly));
  }

  breaks_at : (c : Option (List ℕ)) (left rest : List ℕ) (stop : Stop) (p : Passes a c (waits ++ event_line e) rest) → WaitsIn left rest stop → Broken b (events ++ e ∷ []) c left sent stop
  breaks_at c left rest stop p w = record {
    past = s.past;
    next = s.quiet ++ e ∷ [];
    part = s.part ++ p.front;
    rest = rest;
    goes = sent_by b s.past;
    stays = [];
    splits = splits_more;
    lines = lines_go c rest p;
    sink = front_goes c rest p;
    datagrams = sym (append-nil (sent_by b s.past));
    wire = s.wire;
    waiting = w;
  }

  -- the call stops before its line is written
  pub line_breaks : (c : Option (List ℕ)) (left : List ℕ) (stop : Stop) → StopsIn a c (waits ++ event_line e) left stop → Broken b (events ++ e ∷ []) c left sent stop
  line_breaks c left Memory q = breaks_at c left (left ++ q.0) Memory q.1 (q.0, refl)
  line_breaks c left Read q = breaks_at c left (left ++ q.0) Read q.1 (q.0, refl)
  line_breaks c left Write q = breaks_at c left q.0 Write q.1 tt
  line_breaks c left Wire q = breaks_at c left (left ++ q.0) Wire q.1 (q.0, refl)

  -- all lines went to the sink
  lines_gone : (c : Option (List ℕ)) → Passes a c (waits ++ event_line e) [] → Appends b.held c (b.head ++ (event_lines (events ++ e ∷ []) ++ []))
  lines_gone c p =
      let all : event_lines s.past ++ (s.part ++ p.front) ≡ event_lines (events ++ e ∷ []) ++ [] =
      ap (λ (l : List ℕ). event_lines s.past ++ l) (sym (append-nil (s.part ++ p.front)) ∙ sym (lines_go c [] p))
      ∙ (sym (lines_append s.past (s.quiet ++ e ∷ [])) ∙ (ap event_lines (sym splits_more) ∙ sym (append-nil (event_lines (events ++ e ∷ []))))) in
      subst (λ (l : List ℕ). Appends b.held c (b.head ++ l)) all (front_goes c [] p)

  datagrams_go : (d : Option (List Outgoing)) (rest : List Outgoing) (q : Sends sent d (datagrams_of (b.live + 1) e (behind events b.channels)) rest) → sent_by b (events ++ e ∷ []) ≡ (sent_by b s.past ++ q.front) ++ rest
  datagrams_go d rest q =
      (journal_grows e (b.live + 1) b.channels events).sent
      ∙ (ap (λ (l : List Outgoing). sent_by b events ++ l) q.whole
      ∙ (ap (λ (l : List Outgoing). l ++ (q.front ++ rest)) s.quietly ∙ sym (append_assoc (sent_by b s.past) q.front rest)))

  -- its datagrams were sent, behind all lines
  pub sent_goes_on : (c : Option (List ℕ)) (d : Option (List Outgoing)) → Passes a c (waits ++ event_line e) [] → Sends sent d (datagrams_of (b.live + 1) e (behind events b.channels)) [] → Serving b (events ++ e ∷ []) c [] d
  sent_goes_on c d p q = record {
    past = events ++ e ∷ [];
    quiet = [];
    part = [];
    splits = sym (append-nil (events ++ e ∷ []));
    lines = refl;
    sink = lines_gone c p;
    wire = subst (λ (l : List Outgoing). GoOut b.went d l) (sym (datagrams_go d [] q ∙ append-nil (sent_by b s.past ++ q.front))) (GoOut-then b.went sent d (sent_by b s.past) q.front s.wire q.wire);
    quietly = refl;
  }

  -- a front of its datagrams was sent
  pub sending_breaks : (c : Option (List ℕ)) (d : Option (List Outgoing)) (rest : List Outgoing) (stop : Stop) → Passes a c (waits ++ event_line e) []
      → Sends sent d (datagrams_of (b.live + 1) e (behind events b.channels)) rest → Broken b (events ++ e ∷ []) c [] d stop
  sending_breaks c d rest stop p q = record {
    past = events ++ e ∷ [];
    next = [];
    part = [];
    rest = [];
    goes = sent_by b s.past ++ q.front;
    stays = rest;
    splits = sym (append-nil (events ++ e ∷ []));
    lines = refl;
    sink = lines_gone c p;
    datagrams = datagrams_go d rest q;
    wire = GoOut-then b.went sent d (sent_by b s.past) q.front s.wire q.wire;
    waiting = none_waits stop;
  }

-- an answer without an order has no datagram
unordered : (port : ℕ) (a : Answered) (o : Option Settings) → length a.orders ≡ 0 → settled_datagrams port a o ≡ []
unordered port a None e = refl
unordered port a (Some s) e = by a.orders e
  where
    by : (orders : List Order) → length orders ≡ 0 → order_datagrams s port orders ≡ []
    by [] e = refl
    by (o ∷ orders) e = absurd cc

pub none_ordered : (port : ℕ) (all : List Settings) (answers : List At) → list_any (λ at. not (length at.answer.orders == 0)) answers ≡ false → said_datagrams port all answers ≡ []
unfolding said_datagrams
none_ordered port all [] e = refl
none_ordered port all (at ∷ answers) e =
    let first : (length at.answer.orders == 0) ≡ true = by (length at.answer.orders == 0) (list_any (λ x. not (length x.answer.orders == 0)) answers) e in
    let rest : list_any (λ x. not (length x.answer.orders == 0)) answers ≡ false = others (length at.answer.orders == 0) (list_any (λ x. not (length x.answer.orders == 0)) answers) e in
    ap (λ (l : List Outgoing). l ++ said_datagrams (port + 2) all answers) (unordered port at.answer (with_id at.id all) (eqb-true (length at.answer.orders) 0 first))
    ∙ none_ordered (port + 2) all answers rest
  where
    by : (x y : Bool) → (not x || y) ≡ false → x ≡ true
    by true y e = refl
    by false y e = absurd cc

    others : (x y : Bool) → (not x || y) ≡ false → y ≡ false
    others true y e = e
    others false y e = absurd cc

-- what holds of each error
pub each_error : {T : Type 0} (r : Result T Stop) (P : Stop → Type 0) → ((stop : Stop) → P stop) → IfErr r P
each_error (Ok t) P f = tt
each_error (Err stop) P f = f stop

pub where_ok : {T : Type 0} (r : Result T Stop) (P Q : Type 0) → (P → Q) → OnOk r P → OnOk r Q
where_ok (Ok t) P Q f p = f p
where_ok (Err stop) P Q f p = tt

-- what the channels say is what is sent for the event
pub heard_sends : (b : Begun) (events : List HubEvent) (h : HubEvent) (v w : Seen) (a : HubAnswer) (first : ℕ) (holds : Option (List ℕ)) (waits : List ℕ) (sent : Option (List Outgoing))
    → Ready b events v holds waits sent h first → told a ≡ told_to h (behind events b.channels) → settings_of w ≡ settings_of v
    → said_datagrams first (settings_of w) (answers_said (told a)) ≡ datagrams_of (b.live + 1) h (behind events b.channels)
heard_sends b events h v w a first holds waits sent r says keeps =
    let channels = behind events b.channels in
    let all : settings_of w ≡ settings_all channels = keeps ∙ settings_stand v channels r.stands in
    let same = settled_behind events b.channels in
    ap (λ (t : Told). said_datagrams first (settings_of w) (answers_said t)) says
    ∙ said_is_sent b.live first (settings_of w) h channels all
    (subst (λ (l : List Settings). AllPairs (λ x y. x ≢ y) (ids_of l)) (sym same) r.apart)
    (subst (λ (l : List Settings). AnswersFrom b.live (ids_of l) h first) (sym same) r.from)

pub heard_stands : (b : Begun) (events : List HubEvent) (h : HubEvent) (w : Seen) → StandsFor w (after_event h (behind events b.channels)) → StandsFor w (behind (events ++ h ∷ []) b.channels)
heard_stands b events h w stands = subst (StandsFor w) (sym (journal_grows h 0 b.channels events).channels_are) stands

-- More events behind those during which a server stopped.
pub waits_more : (waits rest more : List ℕ) (stop : Stop) → WaitsIn waits rest stop → WaitsIn waits (rest ++ more) stop
waits_more waits rest more Memory w = (w.0 ++ more, ap (λ (l : List ℕ). l ++ more) w.1 ∙ append_assoc waits w.0 more)
waits_more waits rest more Read w = (w.0 ++ more, ap (λ (l : List ℕ). l ++ more) w.1 ∙ append_assoc waits w.0 more)
waits_more waits rest more Write w = tt
waits_more waits rest more Wire w = (w.0 ++ more, ap (λ (l : List ℕ). l ++ more) w.1 ∙ append_assoc waits w.0 more)

pub broken_more : (b : Begun) (events more : List HubEvent) (a : Option (List ℕ)) (waits : List ℕ) (sent : Option (List Outgoing)) (stop : Stop) → Broken b events a waits sent stop → Broken b (events ++ more) a waits sent stop
broken_more b events more a waits sent stop k = record {
  past = k.past;
  next = k.next ++ more;
  part = k.part;
  rest = k.rest ++ event_lines more;
  goes = k.goes;
  stays = k.stays;
  splits = ap (λ (l : List HubEvent). l ++ more) k.splits ∙ append_assoc k.past k.next more;
  lines = lines_append k.next more ∙ (ap (λ (l : List ℕ). l ++ event_lines more) k.lines ∙ append_assoc k.part k.rest (event_lines more));
  sink = k.sink;
  datagrams = k.datagrams;
  wire = k.wire;
  waiting = waits_more waits k.rest (event_lines more) stop k.waiting;
}

-- What waits goes to the sink, with no further event.
module _ (b : Begun) (events : List HubEvent) (a : Option (List ℕ)) (waits : List ℕ) (sent : Option (List Outgoing)) (s : Serving b events a waits sent) where
  more_goes : (c : Option (List ℕ)) (rest : List ℕ) (p : Passes a c waits rest) → Appends b.held c (b.head ++ (event_lines s.past ++ (s.part ++ p.front)))
  more_goes c rest p =
      let same : (b.head ++ (event_lines s.past ++ s.part)) ++ p.front ≡ b.head ++ (event_lines s.past ++ (s.part ++ p.front)) =
      append_assoc b.head (event_lines s.past ++ s.part) p.front ∙ ap (λ (l : List ℕ). b.head ++ l) (append_assoc (event_lines s.past) s.part p.front) in
      subst (Appends b.held c) same (Appends-trans b.held a c (b.head ++ (event_lines s.past ++ s.part)) p.front s.sink p.sink)

  more_lines : (c : Option (List ℕ)) (rest : List ℕ) (p : Passes a c waits rest) → event_lines s.quiet ≡ (s.part ++ p.front) ++ rest
  more_lines c rest p = s.lines ∙ (ap (λ (l : List ℕ). s.part ++ l) p.whole ∙ sym (append_assoc s.part p.front rest))

  pub flushed : (c : Option (List ℕ)) → Passes a c waits [] → Serving b events c [] sent
  flushed c p = record {
    past = s.past;
    quiet = s.quiet;
    part = s.part ++ p.front;
    splits = s.splits;
    lines = more_lines c [] p;
    sink = more_goes c [] p;
    wire = s.wire;
    quietly = s.quietly;
  }

  stops_at : (c : Option (List ℕ)) (left rest : List ℕ) (stop : Stop) (p : Passes a c waits rest) → WaitsIn left rest stop → Broken b events c left sent stop
  stops_at c left rest stop p w = record {
    past = s.past;
    next = s.quiet;
    part = s.part ++ p.front;
    rest = rest;
    goes = sent_by b s.past;
    stays = [];
    splits = s.splits;
    lines = more_lines c rest p;
    sink = more_goes c rest p;
    datagrams = sym (append-nil (sent_by b s.past));
    wire = s.wire;
    waiting = w;
  }

  pub flushing_breaks : (c : Option (List ℕ)) (left : List ℕ) (stop : Stop) → StopsIn a c waits left stop → Broken b events c left sent stop
  flushing_breaks c left Memory q = stops_at c left (left ++ q.0) Memory q.1 (q.0, refl)
  flushing_breaks c left Read q = stops_at c left (left ++ q.0) Read q.1 (q.0, refl)
  flushing_breaks c left Write q = stops_at c left q.0 Write q.1 tt
  flushing_breaks c left Wire q = stops_at c left (left ++ q.0) Wire q.1 (q.0, refl)

  -- nothing more is done
  pub serving_breaks : (stop : Stop) → Broken b events a waits sent stop
  serving_breaks stop = flushing_breaks a waits stop (subst (λ (l : List ℕ). StopsIn a a l waits stop) (append-nil waits) (unwritten a waits [] stop))
