use Rattle.std.proofs.Common.{◌≡◌, ℕ, ◌&&◌, cond, eqb, Some, length, sym, ap, ◌∙◌}
use Rattle.rams_model.specs.declared.{Channel.Channel, Tuned.Tuned}
use Rattle.rams_model.specs.Receiver.{request_datagram}
use Rattle.receiver_core.specs.{just_tuned}
use Rattle.rams_model.specs.Service.{Settings}
use Rattle.server_hub.specs.Served.{Served}
use Rattle.server_hub.specs.{channel_of}
use Rattle.meet_loop.specs.world_net.{kept_of, at_pair, post_at, posted_at}
use Rattle.meet_loop.proofs.world_net.Loops.{with_bytes}
use Rattle.meet_loop.proofs.world_net.Turned.{ok_both}
use Rattle.meet_loop.proofs.world_net.Steps.{ok_then, some_of, was_tuned, not_tuned, tuned_before, tunes}
use Rattle.meet_loop.proofs.world_net.parts.Parts.tune.Goals as goal

pub returns-then-contains-clause-goes : goal.returns-then-contains-clause-goes
returns-then-contains-clause-goes c = λ w k.
    let v = kept_of c.args.self.now in
    let channel = some_of (λ (x : Served). x.settings) (channel_of c.args.id w.channels) c.in-Some.config.now (c.in-Some.ensures.stands w.channels k.hub) in
    ok_then c.say-then-contains.result c.say-then-contains.ensures (λ said.
    let r = tuned_before v w c.args.id c.args.client c.args.ssrc channel.0 _ _ k channel.1 (was_tuned v w c.args.id c.args.client k (sym c.if-contains.ensures)) said in
    record { notes = r.0; stands = r.1 })

pub returns-clause-goes : goal.returns-clause-goes
returns-clause-goes c = λ w k.
    let v = kept_of c.args.self.now in
    let channel = some_of (λ (x : Served). x.settings) (channel_of c.args.id w.channels) c.in-Some.config.now (c.in-Some.ensures.stands w.channels k.hub) in
    let none = not_tuned v w c.args.id c.args.client k (sym c.if-contains.ensures) in
    let its : c.channel-channel.result.now ≡ channel.0.settings.channel = c.channel-channel.ensures.value ∙ ap (λ (x : Settings). x.channel) channel.2 in
    let t : Channel → Tuned = λ x. record { client = c.args.client; ssrc = c.args.ssrc; media = x.ssrc; pt = x.pt; rtx = x.rtx } in
    let count : c.len.result ≡ length v.seats = c.len.ensures ∙ c.args.self.now.seats.ok.0 in
    ok_both c.post.result c.post.ensures.notes c.post.ensures.parcels (λ said sent.
    let r = tunes v w c.args.id c.args.client c.args.ssrc channel.0 c.in_ok-receiver.receiver c.in_ok-receiver.request.items c.add.new.self c.push.new.self.items c.post.new.parcels.items _ _ k channel.1
    none.0 none.1 (c.in_ok-receiver.ensures.receiver ∙ ap (λ (x : Channel). just_tuned (t x)) its) (c.in_ok-receiver.ensures.datagram ∙ ap (λ (x : Channel). request_datagram (t x)) its)
    (λ i n. c.in_ok-add.ensures i n ∙ ap (λ (x : ℕ). cond (eqb c.args.id i && eqb c.args.client n) (Some x) (at_pair v.places i n)) count) c.in_ok-push.ensures.items (with_bytes c.args.notes.now.items (post_at c.args.id c.args.client) said c.deref.ensures.value) (with_bytes v.parcels (posted_at c.args.id c.args.client) sent c.deref.ensures.value) in
    record { notes = r.0; stands = r.1 })
