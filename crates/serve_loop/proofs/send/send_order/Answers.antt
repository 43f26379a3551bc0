use Rattle.std.proofs.Common.{◌∙◌, ◌∷◌, [], ◌++◌, ap, subst, List, ℕ}
use Rattle.ram_io.specs.{Outgoing}
use Rattle.rams_model.specs.Service.{datagram}
use Rattle.serve_loop.specs.{Sends}
use Rattle.serve_loop.proofs.GoingOut.{Sends-none, sends_ok, sends_err, order_made}
use Rattle.serve_loop.proofs.send.send_order.Goals as goal

pub returns-in_err-append_order-clause-front : goal.returns-in_err-append_order-clause-front
returns-in_err-append_order-clause-front g c = (_, Sends-none (g.W.Wire.sent c.args.wire.now) _)

pub returns-in-Ok-clause-all : goal.returns-in-Ok-clause-all
returns-in-Ok-clause-all g c =
    let made = c.deref.ensures.value ∙ (c.in_ok-append_order.ensures.text ∙ ap (λ (l : List ℕ). l ++ datagram c.args.config.now c.args.order.now) c.clear.ensures.items) in
    let is = order_made c.args.port _ _ _ _ c.client_of.ensures made in
    subst (λ (o : Outgoing). Sends (g.W.Wire.sent c.args.wire.now) (g.W.Wire.sent c.send.new.self) (o ∷ []) []) is (sends_ok _ _ c.send.result _ _ c.in-Ok.is c.send.ensures.sends)

pub returns-in-Ok-clause-front : goal.returns-in-Ok-clause-front
returns-in-Ok-clause-front g c =
    let made = c.deref.ensures.value ∙ (c.in_ok-append_order.ensures.text ∙ ap (λ (l : List ℕ). l ++ datagram c.args.config.now c.args.order.now) c.clear.ensures.items) in
    let is = order_made c.args.port _ _ _ _ c.client_of.ensures made in
    ([], subst (λ (o : Outgoing). Sends (g.W.Wire.sent c.args.wire.now) (g.W.Wire.sent c.send.new.self) (o ∷ []) []) is (sends_ok _ _ c.send.result _ _ c.in-Ok.is c.send.ensures.sends))

pub returns-in-Err-clause-front : goal.returns-in-Err-clause-front
returns-in-Err-clause-front g c =
    let made = c.deref.ensures.value ∙ (c.in_ok-append_order.ensures.text ∙ ap (λ (l : List ℕ). l ++ datagram c.args.config.now c.args.order.now) c.clear.ensures.items) in
    let is = order_made c.args.port _ _ _ _ c.client_of.ensures made in
    (_, subst (λ (o : Outgoing). Sends (g.W.Wire.sent c.args.wire.now) (g.W.Wire.sent c.send.new.self) (o ∷ []) (o ∷ [])) is (sends_err _ _ c.send.result _ _ c.in-Err.is c.send.ensures.sends))
