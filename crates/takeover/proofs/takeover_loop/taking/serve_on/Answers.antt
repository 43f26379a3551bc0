use Rattle.std.proofs.Common.{◌≡◌, ℕ, ◌+◌, List, ◌++◌, drop, length, take, Some, Ok, sym, ap, subst, ◌∙◌}
use Rattle.std.specs.Prelude.{nat_lt}
use Rattle.ram_io.specs.{Outgoing}
use Rattle.server_hub.specs.declared.HubEvent.{HubEvent}
use Rattle.server_hub.specs.Seen.{Seen}
use Rattle.trace_loop.specs.trace_book.trace_serving.{Outcome}
use Rattle.trace_loop.specs.journal_book.{event_lines, events_of, sent_for}
use Rattle.serve_loop.specs.{HasRoom}
use Rattle.serve_loop.proofs.Steps.{each_error}
use Rattle.takeover.specs.standby.{stage_of}
use Rattle.takeover.specs.takeover_loop.{Ending, HasEnded, done_events, given_events, last_line, turns_end}
use Rattle.takeover.proofs.takeover_loop.Closing.{HasGone, begun_on, between_begins, by_given, closed_room, ended_so, for_given, given_by, gone_front, gone_so, has_ended}
use Rattle.takeover.proofs.takeover_loop.OneJournal.{sent_behind, text_behind}
use Rattle.takeover.proofs.takeover_loop.taking.serve_on.Goals as goal

pub returns-clause-ended : goal.returns-clause-ended
returns-clause-ended g c = λ given held is taken text.
    let s = c.new_server-server.result in
    let n = c.new_server-server.ensures in
    let went = g.W.Wire.sent c.args.wire.now in
    let b = begun_on given held went in
    let between = between_begins c.journals_are_taken_over.ensures c.heads_open_new_channels.ensures.new given c.args.port c.args.taken.left c.args.taken.hub s.hub c.args.taken.ids.items s.ids.items s.live held (g.K.Sink.held c.args.sink.now) s.journal went
    taken is.live_is n.hub n.ids n.live text (n.journal ∙ c.requires.waits) in
    let tick = ap (λ (v : Seen). v.tick) n.hub ∙ taken.tick in
    let events = events_of given.live s.hub.tick (stage_of given.source).state c.args.turns given.arrivals given.moments in
    let are : events ≡ given_events given = given_by given s.hub.tick c.args.turns tick is.turns_are in
    let t = c.take_all-ended.ensures in
    let sent = g.W.Wire.sent c.take_all-ended.new.wire in
    let holds = g.K.Sink.held c.take_all-ended.new.sink in
    let waits = c.take_all-ended.new.server.journal in
    let left = g.W.Wire.arrivals c.take_all-ended.new.wire in
    ended_so c.take_all-ended.result c.close.result _ _ _ _ _ (HasEnded given held (g.K.Sink.held c.close.new.sink) went sent left)
    c.close.ensures.ends (t.ending b given.arrivals given.moments between is.arrivals_are is.moments_are) (t.ends b given.arrivals given.moments between is.arrivals_are is.moments_are) c.close.ensures.all
    (λ status e p st done.
    has_ended given held holds (g.K.Sink.held c.close.new.sink) waits went sent left status taken.ends
    (by_given given c.args.taken.left events taken.left_is are (λ (es : List HubEvent) (o : Outcome). Ending b es o.text holds waits sent) e) p
    (λ q. t.left b given.arrivals given.moments between is.arrivals_are is.moments_are (done ∙ ap Ok q) ∙ ap (λ k. Some (drop k given.arrivals)) (sym is.turns_are))
    (by_given given c.args.taken.left events taken.left_is are (λ (es : List HubEvent) (o : Outcome). status ≡ o.status) st))

pub returns-clause-stopped : goal.returns-clause-stopped
returns-clause-stopped g c = λ given held is taken text.
    let s = c.new_server-server.result in
    let n = c.new_server-server.ensures in
    let went = g.W.Wire.sent c.args.wire.now in
    let b = begun_on given held went in
    let between = between_begins c.journals_are_taken_over.ensures c.heads_open_new_channels.ensures.new given c.args.port c.args.taken.left c.args.taken.hub s.hub c.args.taken.ids.items s.ids.items s.live held (g.K.Sink.held c.args.sink.now) s.journal went
    taken is.live_is n.hub n.ids n.live text (n.journal ∙ c.requires.waits) in
    let tick = ap (λ (v : Seen). v.tick) n.hub ∙ taken.tick in
    let events = events_of given.live s.hub.tick (stage_of given.source).state c.args.turns given.arrivals given.moments in
    let are : events ≡ given_events given = given_by given s.hub.tick c.args.turns tick is.turns_are in
    let t = c.take_all-ended.ensures in
    let sent = g.W.Wire.sent c.take_all-ended.new.wire in
    let front = c.close.ensures.prefix in
    let gone = gone_so b (take c.args.taken.left events) (last_line (nat_lt c.args.taken.left (length events))).text (g.K.Sink.held c.take_all-ended.new.sink) (g.K.Sink.held c.close.new.sink) c.take_all-ended.new.server.journal front.0 sent c.take_all-ended.result
    (t.ending b given.arrivals given.moments between is.arrivals_are is.moments_are) (t.stopping b given.arrivals given.moments between is.arrivals_are is.moments_are) (λ q. ap g.K.Sink.held (c.close.ensures.untouched q)) front.1 in
    let whole = by_given given c.args.taken.left events taken.left_is are (λ (es : List HubEvent) (o : Outcome). HasGone b es o.text (g.K.Sink.held c.close.new.sink) sent) gone in
    each_error c.close.result _
    (λ stop. gone_front given (turns_end given).text held (g.K.Sink.held c.close.new.sink) went sent (ap (λ (o : Outcome). o.text) (text_behind given taken.ends)) whole)

pub returns-clause-steady : goal.returns-clause-steady
returns-clause-steady g c = λ given held more is taken text h.
    let s = c.new_server-server.result in
    let n = c.new_server-server.ensures in
    let went = g.W.Wire.sent c.args.wire.now in
    let b = begun_on given held went in
    let empty = n.journal ∙ c.requires.waits in
    let between = between_begins c.journals_are_taken_over.ensures c.heads_open_new_channels.ensures.new given c.args.port c.args.taken.left c.args.taken.hub s.hub c.args.taken.ids.items s.ids.items s.live held (g.K.Sink.held c.args.sink.now) s.journal went
    taken is.live_is n.hub n.ids n.live text empty in
    let tick = ap (λ (v : Seen). v.tick) n.hub ∙ taken.tick in
    let events = events_of given.live s.hub.tick (stage_of given.source).state c.args.turns given.arrivals given.moments in
    let are : events ≡ given_events given = given_by given s.hub.tick c.args.turns tick is.turns_are in
    let sink = g.K.Sink.is_steady c.args.sink.now in
    let wire = g.W.Wire.is_steady c.args.wire.now in
    let first = subst (λ (d : List Outgoing). HasRoom sink wire (event_lines (done_events given) ++ (turns_end given).text) d more) (sent_behind given taken.ends) h in
    let second = for_given given c.args.taken.left events taken.left_is are (λ (es : List HubEvent) (o : Outcome). HasRoom sink wire (event_lines es ++ o.text) (sent_for (given.live + 1) (stage_of given.source).state es) more) first in
    let third = subst (λ (w : List ℕ). HasRoom sink wire (w ++ (event_lines (take c.args.taken.left events) ++ (last_line (nat_lt c.args.taken.left (length events))).text)) (sent_for (given.live + 1) (stage_of given.source).state (take c.args.taken.left events)) more) (sym empty) second in
    closed_room c.take_all-ended.result c.close.result _ _ (g.K.Sink.is_steady c.take_all-ended.new.sink) (g.K.Sink.is_steady c.close.new.sink) (g.W.Wire.is_steady c.take_all-ended.new.wire) c.take_all-ended.new.server.journal more
    c.close.ensures.ends (c.take_all-ended.ensures.steady b given.arrivals given.moments more between is.arrivals_are is.moments_are third) (c.close.ensures.stays more.text)
