use Rattle.std.proofs.Common.{ℕ, ◌+◌, List, [], ◌++◌, length, drop, Some, Result, sym, ap, subst, ◌∙◌}
use Rattle.std.proofs.lemmas.Result.{err_from_is_err_and}
use Rattle.line_io.specs.Passes.{Passes}
use Rattle.line_io.proofs.Passing.{Passes-then}
use Rattle.rams_model.specs.declared.Status.{Status}
use Rattle.ram_io.specs.{Outgoing}
use Rattle.server_hub.specs.declared.HubEvent.{HubEvent}
use Rattle.server_hub.specs.Seen.{Seen}
use Rattle.trace_loop.specs.journal_book.{event_lines, events_of, journal_of, sent_for}
use Rattle.trace_loop.specs.declared.Stop.{Stop}
use Rattle.trace_loop.proofs.Stopping.{stops_front}
use Rattle.serve_loop.specs.{HasEnded, HasRoom, OnlyMemoryStops, given_events, head_stage, served_text}
use Rattle.serve_loop.proofs.Closing.{begun_with, between_begins, closed_room, end_text, ended_so, events_given, front_alone, gone_front, gone_so, has_ended, room_begins, served_is, text_begins, text_is_journal, alone}
use Rattle.serve_loop.proofs.Steps.{each_error}
use Rattle.serve_loop.proofs.serving.serve_turns.Goals as goal

pub returns-in_err-put-clause-stopped : goal.returns-in_err-put-clause-stopped
returns-in_err-put-clause-stopped g c = λ given is head.
    let a = g.K.Sink.held c.args.sink.now in
    let text = c.args.opened.text.items in
    let q = stops_front a (g.K.Sink.held c.put.new.sink) _ c.put.new.gather _ c.in_err-put.ensures.front in
    let part = alone a (g.K.Sink.held c.put.new.sink) c.in_ok-journal.journal c.deref.result.now q.0 c.in_ok-journal.ensures q.1 in
    let whole = subst (λ (t : List ℕ). Passes a (g.K.Sink.held c.put.new.sink) t q.0) c.deref.ensures.value part in
    each_error c.from_residual-in_err-put.result _
    (λ stop. front_alone given a (g.K.Sink.held c.put.new.sink) (g.W.Wire.sent c.args.wire.now) text q.0 (event_lines (given_events given) ++ end_text) (text_begins given c.args.opened.hub c.args.opened.ids.items text head) whole)

pub returns-in_err-put-clause-steady : goal.returns-in_err-put-clause-steady
returns-in_err-put-clause-steady g c = λ given more is head h.
    let text = c.args.opened.text.items in
    let lines = event_lines (given_events given) ++ end_text in
    let fits = subst (λ (t : List ℕ). g.K.Sink.is_steady c.args.sink.now (length t + more.text)) (text_begins given c.args.opened.hub c.args.opened.ids.items text head) h.text_fits in
    let room = room_begins (g.K.Sink.is_steady c.args.sink.now) c.in_ok-journal.journal text lines more.text c.in_ok-journal.ensures fits in
    let stop = c.in_err-put.ensures.steady (length lines + more.text) (subst (λ (t : List ℕ). g.K.Sink.is_steady c.args.sink.now (length c.in_ok-journal.journal + length t + (length lines + more.text))) (sym c.deref.ensures.value) room) in
    let p = err_from_is_err_and c.from_residual-in_err-put.result c.from_residual-in_err-put.ensures.1 in
    subst (λ (r : Result Status Stop). OnlyMemoryStops r (HasRoom (g.K.Sink.is_steady c.put.new.sink) (g.W.Wire.is_steady c.args.wire.now) [] [] more)) (sym p.1) (p.2 ∙ stop)

pub returns-in_err-flush-clause-stopped : goal.returns-in_err-flush-clause-stopped
returns-in_err-flush-clause-stopped g c = λ given is head.
    let a = g.K.Sink.held c.args.sink.now in
    let text = c.args.opened.text.items in
    let put = alone a (g.K.Sink.held c.put.new.sink) c.in_ok-journal.journal c.deref.result.now c.put.new.gather c.in_ok-journal.ensures c.in_ok-put.ensures.all in
    let front = c.flush.ensures.prefix in
    let whole = subst (λ (t : List ℕ). Passes a (g.K.Sink.held c.flush.new.sink) t front.0) c.deref.ensures.value (Passes-then a (g.K.Sink.held c.put.new.sink) (g.K.Sink.held c.flush.new.sink) c.deref.result.now c.put.new.gather front.0 put front.1) in
    each_error c.from_residual-in_err-flush.result _
    (λ stop. front_alone given a (g.K.Sink.held c.flush.new.sink) (g.W.Wire.sent c.args.wire.now) text front.0 (event_lines (given_events given) ++ end_text) (text_begins given c.args.opened.hub c.args.opened.ids.items text head) whole)

pub returns-in_err-flush-clause-steady : goal.returns-in_err-flush-clause-steady
returns-in_err-flush-clause-steady g c = λ given more is head h.
    let text = c.args.opened.text.items in
    let lines = event_lines (given_events given) ++ end_text in
    let fits = subst (λ (t : List ℕ). g.K.Sink.is_steady c.args.sink.now (length t + more.text)) (text_begins given c.args.opened.hub c.args.opened.ids.items text head) h.text_fits in
    let room = room_begins (g.K.Sink.is_steady c.args.sink.now) c.in_ok-journal.journal text lines more.text c.in_ok-journal.ensures fits in
    let put = c.in_ok-put.ensures.steady (length lines + more.text) (subst (λ (t : List ℕ). g.K.Sink.is_steady c.args.sink.now (length c.in_ok-journal.journal + length t + (length lines + more.text))) (sym c.deref.ensures.value) room) in
    let stop = c.in_err-flush.ensures.steady (length lines + more.text) put in
    let p = err_from_is_err_and c.from_residual-in_err-flush.result c.from_residual-in_err-flush.ensures.1 in
    subst (λ (r : Result Status Stop). OnlyMemoryStops r (HasRoom (g.K.Sink.is_steady c.flush.new.sink) (g.W.Wire.is_steady c.args.wire.now) [] [] more)) (sym p.1) (p.2 ∙ stop)

pub returns-clause-ended : goal.returns-clause-ended
returns-clause-ended g c = λ given is head.
    let a = g.K.Sink.held c.args.sink.now in
    let text = c.args.opened.text.items in
    let ids = c.args.opened.ids.items in
    let hub = c.args.opened.hub in
    let s = c.new_server-server.result in
    let put = alone a (g.K.Sink.held c.put.new.sink) c.in_ok-journal.journal c.deref.result.now c.put.new.gather c.in_ok-journal.ensures c.in_ok-put.ensures.all in
    let gone = subst (λ (t : List ℕ). Passes a (g.K.Sink.held c.flush.new.sink) t []) c.deref.ensures.value
    (Passes-then a (g.K.Sink.held c.put.new.sink) (g.K.Sink.held c.flush.new.sink) c.deref.result.now c.put.new.gather [] put c.in_ok-flush.ensures.all) in
    let between = between_begins c.heads_open_new_channels.ensures.new given c.args.port hub s.hub ids s.ids.items text s.live a (g.K.Sink.held c.flush.new.sink) s.journal (g.W.Wire.sent c.args.wire.now) head
    c.new_server-server.ensures.hub c.new_server-server.ensures.ids c.new_server-server.ensures.live gone (c.new_server-server.ensures.journal ∙ c.in_ok-flush.ensures.empty) in
    let b = begun_with given c.args.port text a (g.W.Wire.sent c.args.wire.now) in
    let ending = c.take_all-ended.ensures.ending b given.arrivals given.moments between is.arrivals_are is.moments_are in
    let tick = ap (λ (v : Seen). v.tick) c.new_server-server.ensures.hub ∙ head.tick in
    let events = events_of c.args.port s.hub.tick (head_stage given.source).state c.args.turns given.arrivals given.moments in
    let are = events_given given c.args.port c.args.turns s.hub.tick is.live_is is.turns_are tick in
    let journal = c.turns_make_journals.ensures.journal c.args.port s.hub.tick c.args.turns text (head_stage given.source).state given.arrivals given.moments head.opens is.can_arrive c.requires.turns in
    ended_so c.take_all-ended.result c.close.result _ _ _ _ (HasEnded given a (g.K.Sink.held c.close.new.sink) (g.W.Wire.sent c.args.wire.now) (g.W.Wire.sent c.take_all-ended.new.wire) (g.W.Wire.arrivals c.take_all-ended.new.wire))
    c.close.ensures.ends ending c.close.ensures.all
    (λ e p status done.
    has_ended c.journals_replay.ensures.replay c.runs_of_journals.ensures.text given c.args.port hub ids text events a (g.K.Sink.held c.take_all-ended.new.sink) (g.K.Sink.held c.close.new.sink) c.take_all-ended.new.server.journal
    (g.W.Wire.sent c.args.wire.now) (g.W.Wire.sent c.take_all-ended.new.wire) (g.W.Wire.arrivals c.take_all-ended.new.wire) status head is.live_is are journal e.0 p (e.1 ∙ ap (λ n. Some (drop n given.arrivals)) (sym is.turns_are)) done)

pub returns-clause-stopped : goal.returns-clause-stopped
returns-clause-stopped g c = λ given is head.
    let a = g.K.Sink.held c.args.sink.now in
    let text = c.args.opened.text.items in
    let ids = c.args.opened.ids.items in
    let hub = c.args.opened.hub in
    let s = c.new_server-server.result in
    let put = alone a (g.K.Sink.held c.put.new.sink) c.in_ok-journal.journal c.deref.result.now c.put.new.gather c.in_ok-journal.ensures c.in_ok-put.ensures.all in
    let gone = subst (λ (t : List ℕ). Passes a (g.K.Sink.held c.flush.new.sink) t []) c.deref.ensures.value
    (Passes-then a (g.K.Sink.held c.put.new.sink) (g.K.Sink.held c.flush.new.sink) c.deref.result.now c.put.new.gather [] put c.in_ok-flush.ensures.all) in
    let between = between_begins c.heads_open_new_channels.ensures.new given c.args.port hub s.hub ids s.ids.items text s.live a (g.K.Sink.held c.flush.new.sink) s.journal (g.W.Wire.sent c.args.wire.now) head
    c.new_server-server.ensures.hub c.new_server-server.ensures.ids c.new_server-server.ensures.live gone (c.new_server-server.ensures.journal ∙ c.in_ok-flush.ensures.empty) in
    let b = begun_with given c.args.port text a (g.W.Wire.sent c.args.wire.now) in
    let ending = c.take_all-ended.ensures.ending b given.arrivals given.moments between is.arrivals_are is.moments_are in
    let stopping = c.take_all-ended.ensures.stopping b given.arrivals given.moments between is.arrivals_are is.moments_are in
    let tick = ap (λ (v : Seen). v.tick) c.new_server-server.ensures.hub ∙ head.tick in
    let events = events_of c.args.port s.hub.tick (head_stage given.source).state c.args.turns given.arrivals given.moments in
    let are = events_given given c.args.port c.args.turns s.hub.tick is.live_is is.turns_are tick in
    let journal = c.turns_make_journals.ensures.journal c.args.port s.hub.tick c.args.turns text (head_stage given.source).state given.arrivals given.moments head.opens is.can_arrive c.requires.turns in
    let front = c.close.ensures.prefix in
    let held = gone_so b events (g.K.Sink.held c.take_all-ended.new.sink) (g.K.Sink.held c.close.new.sink) c.take_all-ended.new.server.journal front.0 (g.W.Wire.sent c.take_all-ended.new.wire) _ c.take_all-ended.result
    ending stopping (λ q. ap g.K.Sink.held (c.close.ensures.untouched q)) front.1 in
    let whole = text_is_journal given hub ids text head ∙ ap (λ (es : List HubEvent). journal_of text es) (sym are) in
    each_error c.close.result _
    (λ stop. gone_front c.journals_replay.ensures.fronts given b events (g.K.Sink.held c.close.new.sink) (g.W.Wire.sent c.take_all-ended.new.wire) journal is.live_is whole held)

pub returns-clause-steady : goal.returns-clause-steady
returns-clause-steady g c = λ given more is head h.
    let a = g.K.Sink.held c.args.sink.now in
    let text = c.args.opened.text.items in
    let ids = c.args.opened.ids.items in
    let hub = c.args.opened.hub in
    let s = c.new_server-server.result in
    let lines = event_lines (given_events given) ++ end_text in
    let fits = subst (λ (t : List ℕ). g.K.Sink.is_steady c.args.sink.now (length t + more.text)) (text_begins given hub ids text head) h.text_fits in
    let room = room_begins (g.K.Sink.is_steady c.args.sink.now) c.in_ok-journal.journal text lines more.text c.in_ok-journal.ensures fits in
    let put_room = c.in_ok-put.ensures.steady (length lines + more.text) (subst (λ (t : List ℕ). g.K.Sink.is_steady c.args.sink.now (length c.in_ok-journal.journal + length t + (length lines + more.text))) (sym c.deref.ensures.value) room) in
    let flush_room = c.in_ok-flush.ensures.steady (length lines + more.text) put_room in
    let put = alone a (g.K.Sink.held c.put.new.sink) c.in_ok-journal.journal c.deref.result.now c.put.new.gather c.in_ok-journal.ensures c.in_ok-put.ensures.all in
    let gone = subst (λ (t : List ℕ). Passes a (g.K.Sink.held c.flush.new.sink) t []) c.deref.ensures.value
    (Passes-then a (g.K.Sink.held c.put.new.sink) (g.K.Sink.held c.flush.new.sink) c.deref.result.now c.put.new.gather [] put c.in_ok-flush.ensures.all) in
    let empty = c.new_server-server.ensures.journal ∙ c.in_ok-flush.ensures.empty in
    let between = between_begins c.heads_open_new_channels.ensures.new given c.args.port hub s.hub ids s.ids.items text s.live a (g.K.Sink.held c.flush.new.sink) s.journal (g.W.Wire.sent c.args.wire.now) head
    c.new_server-server.ensures.hub c.new_server-server.ensures.ids c.new_server-server.ensures.live gone empty in
    let b = begun_with given c.args.port text a (g.W.Wire.sent c.args.wire.now) in
    let tick = ap (λ (v : Seen). v.tick) c.new_server-server.ensures.hub ∙ head.tick in
    let are = events_given given c.args.port c.args.turns s.hub.tick is.live_is is.turns_are tick in
    let datagrams = (served_is given head.end).1 ∙ ap (λ n. sent_for (n + 1) (head_stage given.source).state (given_events given)) is.live_is in
    let first : HasRoom (g.K.Sink.is_steady c.flush.new.sink) (g.W.Wire.is_steady c.args.wire.now) lines (sent_for (c.args.port + 1) (head_stage given.source).state (given_events given)) more =
    record { text_fits = flush_room; datagrams_fit = (subst (λ (l : List Outgoing). HasRoom (g.K.Sink.is_steady c.args.sink.now) (g.W.Wire.is_steady c.args.wire.now) (served_text given).text l more) datagrams h).datagrams_fit } in
    let second = subst (λ (es : List HubEvent). HasRoom (g.K.Sink.is_steady c.flush.new.sink) (g.W.Wire.is_steady c.args.wire.now) (event_lines es ++ end_text) (sent_for (c.args.port + 1) (head_stage given.source).state es) more) (sym are) first in
    let third = subst (λ (w : List ℕ). HasRoom (g.K.Sink.is_steady c.flush.new.sink) (g.W.Wire.is_steady c.args.wire.now)
    (w ++ (event_lines (events_of c.args.port s.hub.tick (head_stage given.source).state c.args.turns given.arrivals given.moments) ++ end_text))
    (sent_for (c.args.port + 1) (head_stage given.source).state (events_of c.args.port s.hub.tick (head_stage given.source).state c.args.turns given.arrivals given.moments)) more) (sym empty) second in
    closed_room c.take_all-ended.result c.close.result _ _ (g.K.Sink.is_steady c.take_all-ended.new.sink) (g.K.Sink.is_steady c.close.new.sink) (g.W.Wire.is_steady c.take_all-ended.new.wire) c.take_all-ended.new.server.journal more
    c.close.ensures.ends (c.take_all-ended.ensures.steady b given.arrivals given.moments more between is.arrivals_are is.moments_are third) (c.close.ensures.steady more.text)
