-- Each law of every lawful book, at the moments of a channel.
use Rattle.std.proofs.Common.{◌≡◌, ℕ, List, [], ◌∷◌, ◌++◌, ⊎_elim, ap, sym, ◌∙◌, subst}
use Rattle.std.specs.Prelude.{All, Ok}
use Rattle.rams_model.specs.declared.{Event.Event, Event.TheVariants.Tick, Note.TheVariants.Repair}
use Rattle.rams_model.specs.Service.{checked, tick, began, noted, History, Book, history_of, events_of, IsLawful}
use Rattle.service_laws.specs.book_laws.{LastAccept, is_tick_start, BeginsWithATick, notes_of}
use Rattle.service_laws.proofs.book_laws.OneLawful.{stands_in}
use Rattle.rams_model.specs.Laws.{NoneIs}
use Rattle.server_hub.specs.Served.{Served}
use Rattle.trace_loop.specs.trace_book.{WasSo, HasOneBook, RetransmitsTheSource, SendsInOrder, TellsWhereBurstsBegin, TellsWhatCame, RespectsItsStop, TellsBurstsTruly, SendsWhatIsAsked, IsWithinBudgets, IsWithinBudgetsOverTicks, KeepsBudgets, RefusesTruly, AnswersByTheTable, KeepsJoinTimes, TellsItsClients, ServesEachTick, GivesUpTruly, IsOfBytes, KeepsPromises}
use Rattle.trace_loop.proofs.trace_book.Bytes.{have_bytes, have_part, bytes_of}
use Rattle.trace_loop.proofs.trace_book.Lawful.{idle_least}
use Rattle.trace_loop.proofs.trace_book.Moments.{moment, earlier}
use Rattle.trace_loop.proofs.trace_book.Repairs.{repair_waits, repair_held}
use Rattle.trace_loop.proofs.trace_book.laws.channels_keep_their_promises.Goals as goal

-- A channel, and the laws.
module _ (c : goal.After-clients_are_since) (ch : Served) (lawful : checked ch.settings ≡ Ok ch.settings) where
  one_book : HasOneBook ch
  one_book =
      let one = c.exactly_one_book.ensures.one ch.settings ch.events in
      let tells = c.books_tell_the_history.ensures.tells ch.settings one.0 one.1.lawful in
      record {
        book = one.0;
        is_its = one.1;
        tells = tells;
        made = λ earlier later n e.
            let notes = ap (λ (events : List Event). notes_of (history_of ch.settings events)) (sym one.1.same_events) ∙ sym tells.notes ∙ e in
            let w = stands_in (history_of ch.settings ch.events) earlier later n notes in
            record { packet = w.packet; before = w.before; was = record { later = w.later; splits = w.splits }; stood = w.stood };
      }

  datagrams : RetransmitsTheSource ch.settings one_book.book
  datagrams =
      let lawful = one_book.is_its.lawful in
      let law = c.each_datagram_is_the_retransmission_of_a_source_packet.ensures in
      let part = λ (later earlier : Book) (e : one_book.book ≡ later ++ earlier).
      c.exactly_one_book.ensures.earlier ch.settings later earlier (subst (IsLawful ch.settings) e lawful) in
      record {
        came = λ later earlier e splits. law.came ch.settings e earlier (part later (e ∷ earlier) splits);
        once = λ later earlier e splits. law.ordered ch.settings e earlier (part later (e ∷ earlier) splits);
      }

  in_order : (history : History) (client : ℕ) → WasSo ch history → (a : LastAccept history client) → SendsInOrder ch.settings history client a
  in_order history client was a =
      let m = moment ch history was in
      let consecutive = c.first_sendings_are_consecutive.ensures.consecutive ch.settings history m client a in
      record {
        begins = c.a_burst_begins_at_an_eligible_access_point.ensures ch.settings history m client a;
        numbers = consecutive.0;
        packets = consecutive.1;
        named = c.the_first_sending_has_the_number_that_the_accept_named.ensures.named ch.settings history m client a;
      }

  firsts : TellsWhereBurstsBegin ch
  firsts = record {
    known = λ later events client e. c.an_open_bursts_client_is_known.ensures.known ch.settings events client (idle_least ch.settings lawful);
    stays = λ client n sequence packet before was. c.an_open_bursts_client_is_known.ensures.stays ch.settings client n sequence packet before (idle_least ch.settings lawful) (moment ch _ was);
    first = λ client n sequence packet before was. c.the_first_number_is_the_bursts.ensures ch.settings client n sequence packet before (idle_least ch.settings lawful) (moment ch _ was);
  }

  came : All IsOfBytes ch.events → TellsWhatCame ch one_book.book
  came bytes = record {
    packets = λ later earlier e live splits is.
        c.each_live_note_is_right.ensures ch.settings e earlier live (c.exactly_one_book.ensures.earlier ch.settings later (e ∷ earlier) (subst (IsLawful ch.settings) splits one_book.is_its.lawful))
        (have_part later (e ∷ earlier) (subst (λ (b : Book). All IsOfBytes (events_of b)) splits (subst (All IsOfBytes) (sym one_book.is_its.same_events) bytes))) is;
    datagrams = λ later events client datagram e. c.each_datagram_is_answered_whole.ensures ch.settings events client datagram (bytes_of later events client datagram (subst (All IsOfBytes) e bytes));
  }

  stopped : (history : History) (client : ℕ) → WasSo ch history → (a : LastAccept history client) → RespectsItsStop ch.settings history client a
  stopped history client was a =
      let m = moment ch history was in
      record {
        below = c.the_stop_is_respected.ensures.below ch.settings history m client a;
        whole = c.the_stop_is_respected.ensures.whole ch.settings history m client a;
        ends = (c.each_burst_ends_or_is_open.ensures.ends ch.settings history m client a).0;
        never_both = (c.each_burst_ends_or_is_open.ensures.ends ch.settings history m client a).1;
        over = c.each_burst_ends_or_is_open.ensures.over ch.settings history m client a;
      }

  told_truly : TellsBurstsTruly ch
  told_truly = record {
    stops = λ client stop packet before was. c.a_stop_is_what_was_named.ensures ch.settings client stop packet before (moment ch _ was);
    ends = λ client why packet before was. c.each_burst_ends_or_is_open.ensures.causes ch.settings client why packet before (moment ch _ was);
    apart = λ client first rate join packet before was. c.each_burst_ends_or_is_open.ensures.apart ch.settings client first rate join packet before (moment ch _ was);
  }

  asked : SendsWhatIsAsked ch
  asked = record {
    bursts = λ client n sequence packet before was. c.first_sendings_are_consecutive.ensures.asked ch.settings client n sequence packet before (moment ch _ was);
    repairs = λ client n sequence packet before was.
        let counts = c.what_is_counted_stands_once.ensures ch.settings before (moment ch before (earlier ch (noted (Repair client n sequence) packet) before was)) in
        (c.clients_are_since.ensures.pending client n before).0 ((counts.repairs client n).0 (repair_waits ch.settings client n sequence packet before (moment ch _ was)));
    no_repair_first = λ client n sequence packet before b was.
        c.the_first_sending_has_the_number_that_the_accept_named.ensures.repairs ch.settings client n sequence packet before b (moment ch _ was);
    held = λ client n sequence packet before was.
        ⊎_elim (λ b. (c.first_sendings_are_consecutive.ensures.held ch.settings client n sequence packet [] before (moment ch _ b)).0)
        (λ r. repair_held ch.settings client n sequence packet before (moment ch _ r)) was;
    ticks = λ heard now before was. c.channels_stay_within_their_budgets.ensures.ticks ch.settings heard now before (moment ch _ was);
  }

  in_a_tick : (now before : History) → WasSo ch (now ++ (began tick ∷ before)) → NoneIs is_tick_start now → IsWithinBudgets ch.settings now before
  in_a_tick now before was none =
      let m = moment ch _ was in
      record {
        clients = λ k. c.clients_stay_within_their_budgets.ensures.budget ch.settings k now before m none;
        rates = λ k b. (c.clients_stay_within_their_budgets.ensures.most ch.settings k now before m none).0 b;
        channel = c.channels_stay_within_their_budgets.ensures.budget ch.settings now before m none;
        most = c.channels_stay_within_their_budgets.ensures.most ch.settings now before m none;
      }

  over_ticks : (stretch before : History) → WasSo ch (stretch ++ before) → BeginsWithATick stretch → IsWithinBudgetsOverTicks ch.settings stretch before
  over_ticks stretch before was begins =
      let m = moment ch _ was in
      let law = c.budgets_are_kept_over_ticks.ensures in
      record {
        clients = λ k. law.clients ch.settings k stretch before m begins;
        rates = λ k rate is_open. law.rates ch.settings k rate stretch before m begins is_open;
        most = λ k. law.most ch.settings k stretch before m begins;
        channel = law.channels ch.settings stretch before m begins;
      }

  budgets : KeepsBudgets ch
  budgets = record {
    in_a_tick = in_a_tick;
    over_ticks = over_ticks;
    bursts_fit = λ history was. (c.reserves_fit_the_share.ensures.fit ch.settings history (moment ch history was)).0;
    reserve_is_left = λ history k was. (c.reserves_fit_the_share.ensures.fit ch.settings history (moment ch history was)).1 k;
    runs_first = λ client n sequence packet now before was. c.runs_are_covered.ensures.first ch.settings client n sequence packet now before (moment ch _ was);
    covered = λ k b now before was. c.runs_are_covered.ensures.each ch.settings k b now before (moment ch _ was);
  }

  refused : RefusesTruly ch
  refused = record {
    refusals = λ k code packet before was. c.refusals_are_true.ensures ch.settings k code packet before (moment ch _ was);
    numbers = λ n line packet before is was. c.nacks_are_answered_by_the_table.ensures.answers ch.settings n line packet before is (moment ch _ was);
    foreign = λ k packet before was. c.nacks_are_answered_by_the_table.ensures.foreign ch.settings k packet before (moment ch _ was);
  }

  answered : AnswersByTheTable ch
  answered =
      let law = c.requests_are_answered_by_the_table.ensures in
      record {
        requests = λ k sender request before was. law.exactly ch.settings ch.events k sender request was.later before was.splits;
        accepts = λ k first rate join packet before was. law.accepts ch.settings k first rate join packet before (moment ch _ was);
        updates = λ k rate join packet before was. law.updates ch.settings k rate join packet before (moment ch _ was);
        agains = λ k packet before was. law.agains ch.settings k packet before (moment ch _ was);
        nacks = λ k media sender numbers before was. c.nacks_are_answered_by_the_table.ensures.order ch.settings ch.events k media sender numbers was.later before was.splits;
        stops = λ k stop before was. c.stops_and_byes_are_answered_exactly.ensures.stops ch.settings ch.events k stop was.later before was.splits;
        byes = λ k p before was. c.stops_and_byes_are_answered_exactly.ensures.byes ch.settings ch.events k p was.later before was.splits;
      }

  joined : KeepsJoinTimes ch
  joined = record {
    never_lost = λ history k was. c.quiet_bursts_keep_their_join_times.ensures.lost ch.settings history k (moment ch history was);
    caught_up = λ later events k e accept b. c.quiet_bursts_keep_their_join_times.ensures.caught_up ch.settings events k accept b;
  }

  tells_so : TellsItsClients ch one_book.book
  tells_so = record {
    notes = λ n packet before was. c.each_note_tells_its_client_so.ensures.told ch.settings n packet before (moment ch _ was);
    orders = λ o has. c.each_note_tells_its_client_so.ensures.each ch.settings one_book.book o one_book.is_its.lawful has;
  }

  each_tick : (later events : List Event) → ch.events ≡ later ++ (Tick ∷ events) → ServesEachTick ch events
  each_tick later events e = record {
    waits = c.each_waiting_repair_did_not_fit.ensures.waits ch.settings events;
    runs = c.each_run_went_on.ensures ch.settings events;
    clients = c.a_tick_serves_in_order.ensures.bursts ch.settings events;
    repairs = c.a_tick_serves_in_order.ensures.repairs ch.settings events;
  }

  gives_up : GivesUpTruly ch
  gives_up = record {
    gone = λ client n packet before was. c.each_waiting_repair_did_not_fit.ensures.gone ch.settings client n packet before (moment ch _ was);
    sooner = λ k packet before was. c.a_client_is_forgotten_in_time.ensures.sooner ch.settings k packet before (idle_least ch.settings lawful) (moment ch _ was);
    later = λ after events k stretch rest e. c.a_client_is_forgotten_in_time.ensures.later ch.settings k events stretch rest (idle_least ch.settings lawful);
  }

  promises : All IsOfBytes ch.events → KeepsPromises ch
  promises bytes = record {
    settings = lawful;
    book = one_book;
    bytes = bytes;
    datagrams = datagrams;
    accepted = λ history client was. c.first_sendings_are_consecutive.ensures.accepted history client;
    bursts = in_order;
    firsts = firsts;
    stops = stopped;
    ends = told_truly;
    asked = asked;
    budgets = budgets;
    refusals = refused;
    answers = answered;
    counts = λ history was. c.what_is_counted_stands_once.ensures ch.settings history (moment ch history was);
    join_times = joined;
    held = λ history was.
        c.each_packet_came.ensures.held ch.settings history (record { events = ch.events; later = was.later; splits = was.splits }) (have_bytes ch.events bytes);
    came = came bytes;
    tells = tells_so;
    ticks = each_tick;
    given_up = gives_up;
  }

pub returns : goal.returns
returns c ch lawful bytes = promises c ch lawful bytes
