use Rattle.std.proofs.Common.{◌≡◌, Option, Some, None, set, sym, ◌∙◌, subst, arith}
use Rattle.receiver_core.specs.States.{Seen}
use Rattle.server_hub.specs.Served.{Served}
use Rattle.server_hub.specs.{channel_of}
use Rattle.meet_loop.specs.world_laws.{leaving, leave}
use Rattle.meet_loop.specs.world_net.{Kept, kept_of, post_at, posted_at}
use Rattle.meet_loop.proofs.world_net.Loops.{with_bytes}
use Rattle.meet_loop.proofs.world_net.Turned.{ok_both}
use Rattle.meet_loop.proofs.world_net.Steps.{sits, seat_has, listens_there, ok_then, not_listening, is_listening, in_channel, some_of, left, byes_so, Went}
use Rattle.meet_loop.proofs.world_net.parts.Parts.leave.Goals as goal

pub returns-in_default-listening-clause-goes : goal.returns-in_default-listening-clause-goes
returns-in_default-listening-clause-goes c = λ w k.
    let v = kept_of c.args.self.now in
    let channel = some_of (λ (x : Served). x.settings) (channel_of c.args.id w.channels) c.in-Some._config.now (c.in-Some.ensures.stands w.channels k.hub) in
    ok_then c.say-in_default-listening.result c.say-in_default-listening.ensures (λ said.
    let r = in_channel v _ _ (λ o. leaving c.args.id c.args.client o w) (channel_of c.args.id w.channels) channel.0 channel.1
    (not_listening v w c.args.id c.args.client (λ l. leave l w) _ _ k c.in_default-listening.ensures said) in
    record { notes = r.0; stands = r.1 })

pub index_mut-requires : goal.index_mut-requires
index_mut-requires c = let s = sits (kept_of c.args.self.now) _ _ c.in-Some-listening.place c.in-Some-listening.ensures in omega (arith, s.within, c.args.self.now.seats.ok.0)

pub unreachable-requires : goal.unreachable-requires
unreachable-requires c =
    let s = sits (kept_of c.args.self.now) _ _ c.in-Some-listening.place c.in-Some-listening.ensures in
    let no : None ≡ Some s.receiver = sym c.in_default-take.is ∙ (c.take.ensures.value ∙ seat_has _ _ _ _ s _ c.index_mut.ensures.value) in absurd cc

pub returns-clause-goes : goal.returns-clause-goes
returns-clause-goes c = λ w k.
    let v = kept_of c.args.self.now in
    let old = c.args.notes.now.items in
    let new = c.post.new.notes.items in
    let channel = some_of (λ (x : Served). x.settings) (channel_of c.args.id w.channels) c.in-Some._config.now (c.in-Some.ensures.stands w.channels k.hub) in
    let s = sits v c.args.id c.args.client c.in-Some-listening.place c.in-Some-listening.ensures in
    let x = listens_there v w _ _ _ s k in
    let later : Option Seen → Kept = λ o. record {
      hub = v.hub;
      packets = v.packets;
      parcels = c.post.new.parcels.items;
      places = v.places;
      seats = set v.seats c.in-Some-listening.place (record { receiver = o; first = c.index_mut.result.now.first });
    } in
    let bye = byes_so v _ _ _ s _ _ _ c.index_mut.ensures.value c.in-Some-take.ensures.value c.in-Ok.ensures.datagram in
    ok_both c.post.result c.post.ensures.notes c.post.ensures.parcels (λ said sent.
    let r = in_channel (later None) old new (λ o. leaving c.args.id c.args.client o w) (channel_of c.args.id w.channels) channel.0 channel.1
    (is_listening v w _ _ _ s x (λ l. leave l w) (Went (later None) old new) (left v w _ _ _ s x _ c.index_mut.result.now.first old new c.post.new.parcels.items k bye (with_bytes old (post_at c.args.id c.args.client) said c.deref.ensures.value) (with_bytes v.parcels (posted_at c.args.id c.args.client) sent c.deref.ensures.value))) in
    let q = subst (λ (o : Option Seen). Went (later o) old new (leaving c.args.id c.args.client (channel_of c.args.id w.channels) w)) (sym c.take.ensures.after) r in
    record { notes = q.0; stands = q.1 })
