-- What is written is what may be written of the trace.
use Rattle.std.proofs.Common.{◌≡◌, ◌∙◌, ℕ, List, length, filter, sym, ap, subst, arith, rules}
use Rattle.std.specs.Io.KnownBytes.{Appends}
use Rattle.std.specs.Prelude.{OnOk}
use Rattle.std.specs.Vec.{vec_len}
use Rattle.line_io.specs.Passes.{Passes}
use Rattle.pool.specs.declared.pool_loop.routes.Route.{Route}
use Rattle.server_hub.proofs.Pairing.{same_length}
use Rattle.pool.specs.pool_loop.{is_for_all, IsLaneOf, pooled_text}
use Rattle.pool.proofs.pool_loop.Taking.{as_many, few_channels}
use Rattle.pool.proofs.pool_loop.Books.{all_fresh, few_ticks}
use Rattle.pool.proofs.pool_loop.Written.{pooled_end, pooled_front, pooled_room}
use Rattle.pool.proofs.pool_loop.ending.run_and_write.Goals as goal

pub run_pool-requires-clause-lanes : goal.run_pool-requires-clause-lanes
run_pool-requires-clause-lanes g c κs within =
    let d = c.args.dealt in
    let lanes = c.in_ok-lanes.lanes in
    let many : vec_len lanes ≡ length lanes.items = search rules in
    let same : length d.channels.items ≡ length lanes.items = same_length IsLaneOf d.channels.items lanes.items c.in_ok-lanes.ensures in
    (omega (arith, many, same, c.requires.whole.3), omega (arith, many, same, few_channels d c.requires.whole.0 c.requires.whole.1 c.requires.whole.2))

pub run_pool-requires-clause-fresh : goal.run_pool-requires-clause-fresh
run_pool-requires-clause-fresh g c κs within =
    let d = c.args.dealt in
    let h = c.requires.whole.2 in
    all_fresh c.requires.whole.1.events d.channels.items c.in_ok-lanes.lanes.items c.requires.whole.1.state c.in_ok-lanes.ensures h.channels h.short h.few

pub run_pool-requires-clause-ticks : goal.run_pool-requires-clause-ticks
run_pool-requires-clause-ticks g c κs within =
    let d = c.args.dealt in
    let h = c.requires.whole.2 in
    let ticks = c.ticks_among-ticks.ensures ∙ ap (λ (l : List Route). length (filter is_for_all l)) c.deref.ensures.value in
    omega (arith, ticks, few_ticks d.routes.items, as_many d c.requires.whole.0 c.requires.whole.1 h, h.few)

pub returns-clause-text : goal.returns-clause-text
returns-clause-text g c = λ xs r.
    let p = c.in_ok-pooled.pooled in
    let e = c.in_ok-pooled.ensures in
    let ticks = c.ticks_among-ticks.ensures ∙ ap (λ (l : List Route). length (filter is_for_all l)) c.deref.ensures.value in
    pooled_end c.args.dealt xs r c.in_ok-lanes.lanes.items p.books.items c.in_ok-lanes.ensures e.books (c.traces_end_so.ensures xs) (c.traces_are_served_by_their_lines.ensures xs)
    c.args.rate c.ticks_among-ticks.result p.ledger.granted p.ledger.claims.items ticks e.granted e.fills e.paid e.claims e.others c.each_datagram_is_the_retransmission_of_a_source_packet.ensures.ordered
    (g.K.Sink.held c.args.sink.now) (g.K.Sink.held c.write_pooled.new.sink) c.write_pooled.result
    (subst (λ (rs : List Route). OnOk c.write_pooled.result (Appends (g.K.Sink.held c.args.sink.now) (g.K.Sink.held c.write_pooled.new.sink) (pooled_text rs p.books.items p.ledger.granted p.ledger.claims.items))) c.deref-2.ensures.value c.write_pooled.ensures.text)

pub returns-clause-front : goal.returns-clause-front
returns-clause-front g c = λ xs r.
    let p = c.in_ok-pooled.pooled in
    let e = c.in_ok-pooled.ensures in
    let ticks = c.ticks_among-ticks.ensures ∙ ap (λ (l : List Route). length (filter is_for_all l)) c.deref.ensures.value in
    pooled_front c.args.dealt xs r c.in_ok-lanes.lanes.items p.books.items c.in_ok-lanes.ensures e.books (c.traces_end_so.ensures xs) (c.traces_are_served_by_their_lines.ensures xs)
    c.args.rate c.ticks_among-ticks.result p.ledger.granted p.ledger.claims.items ticks e.granted e.fills e.paid e.claims e.others c.each_datagram_is_the_retransmission_of_a_source_packet.ensures.ordered
    (g.K.Sink.held c.args.sink.now) (g.K.Sink.held c.write_pooled.new.sink) c.write_pooled.result
    (subst (λ (rs : List Route). (rest : List ℕ) × Passes (g.K.Sink.held c.args.sink.now) (g.K.Sink.held c.write_pooled.new.sink) (pooled_text rs p.books.items p.ledger.granted p.ledger.claims.items) rest) c.deref-2.ensures.value c.write_pooled.ensures.front)

pub returns-clause-steady : goal.returns-clause-steady
returns-clause-steady g c = λ xs r room.
    let p = c.in_ok-pooled.pooled in
    let e = c.in_ok-pooled.ensures in
    let ticks = c.ticks_among-ticks.ensures ∙ ap (λ (l : List Route). length (filter is_for_all l)) c.deref.ensures.value in
    c.write_pooled.ensures.steady (subst (λ (rs : List Route). g.K.Sink.is_steady c.args.sink.now (length (pooled_text rs p.books.items p.ledger.granted p.ledger.claims.items))) (sym c.deref-2.ensures.value)
    (pooled_room c.args.dealt xs r c.in_ok-lanes.lanes.items p.books.items c.in_ok-lanes.ensures e.books (c.traces_end_so.ensures xs) (c.traces_are_served_by_their_lines.ensures xs)
    c.args.rate c.ticks_among-ticks.result p.ledger.granted p.ledger.claims.items ticks e.granted e.fills e.paid e.claims e.others c.each_datagram_is_the_retransmission_of_a_source_packet.ensures.ordered
    (g.K.Sink.is_steady c.args.sink.now) room))
