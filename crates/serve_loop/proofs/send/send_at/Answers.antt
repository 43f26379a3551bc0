use Rattle.std.proofs.Common.{rules, ◌≡◌, ◌+◌, length, List, Option, Some, None, ap, subst}
use Rattle.std.specs.Prelude.{find, ◌==◌}
use Rattle.server_hub.specs.{settings_of}
use Rattle.rams_model.specs.declared.Order.{Order}
use Rattle.rams_model.specs.Service.{Settings}
use Rattle.serve_loop.specs.{bytes_of, order_datagrams, settled_datagrams}
use Rattle.serve_loop.proofs.GoingOut.{Sends-none}
use Rattle.serve_loop.proofs.Rooms.{wire_none}
use Rattle.serve_loop.proofs.send.send_at.Goals as goal

pub returns-in-None-clause-front : goal.returns-in-None-clause-front
returns-in-None-clause-front g c = (_, Sends-none (g.W.Wire.sent c.args.wire.now) _)

pub returns-in-Some-clause-steady : goal.returns-in-Some-clause-steady
returns-in-Some-clause-steady g c = λ bytes count h.
    let found : find (λ (s : Settings). s.channel.id == c.args.at.now.id) (settings_of c.args.hub.now) ≡ Some c.in-Some.config.now = search rules in
    let all : c.args.at.now.answer.orders ≡ c.deref.result.now = search rules in
    let fits = subst (λ (o : Option Settings). g.W.Wire.is_steady c.args.wire.now (bytes_of (settled_datagrams c.args.port c.args.at.now.answer o) + bytes) (length (settled_datagrams c.args.port c.args.at.now.answer o) + count)) found h in
    c.send_orders.ensures.steady bytes count
    (subst (λ (l : List Order). g.W.Wire.is_steady c.args.wire.now (bytes_of (order_datagrams c.in-Some.config.now c.args.port l) + bytes) (length (order_datagrams c.in-Some.config.now c.args.port l) + count)) all fits)

pub returns-in-None-clause-steady : goal.returns-in-None-clause-steady
returns-in-None-clause-steady g c = λ bytes count h.
    let found : find (λ (s : Settings). s.channel.id == c.args.at.now.id) (settings_of c.args.hub.now) ≡ None = search rules in
    wire_none (g.W.Wire.is_steady c.args.wire.now) _ bytes count (ap (settled_datagrams c.args.port c.args.at.now.answer) found) h
