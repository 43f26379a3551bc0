use Rattle.std.proofs.Common.{◌≡◌, ℕ, List, [], ◌∷◌, ◌++◌, Option, Some, None, set, sym, ap, ◌∙◌, subst, arith}
use Rattle.rams_model.specs.Receiver.{brought_by_multicast}
use Rattle.server_hub.specs.{channel_of}
use Rattle.meet_loop.specs.world_laws.World.{note}
use Rattle.meet_loop.specs.declared.world_laws.world.WorldItem.TheVariants as item
use Rattle.meet_loop.specs.world_laws.{casting, casting_packet, packet_of_source}
use Rattle.meet_loop.specs.world_net.{Kept, kept_of, EndsAt}
use Rattle.meet_loop.proofs.world_net.Steps.{sits, seat_there, seat_few, listens_there, turned, ok_then, not_listening, is_listening, in_channel, follows_so, far_so, too_far, near, source_is, Went}
use Rattle.meet_loop.proofs.world_net.parts.Parts.cast.Goals as goal

pub returns-in_default-listening-clause-goes : goal.returns-in_default-listening-clause-goes
returns-in_default-listening-clause-goes c = λ w k.
    let v = kept_of c.args.self.now in
    let e : EndsAt c.in-Some.hi (channel_of c.args.id w.channels) = c.in-Some.ensures w.channels k.hub in
    ok_then c.say-in_default-listening.result c.say-in_default-listening.ensures (λ said.
    let r = in_channel v _ _ (λ o. casting c.args.id c.args.client c.args.n o w) (channel_of c.args.id w.channels) e.channel e.is_it
    (not_listening v w c.args.id c.args.client (λ l. casting_packet c.args.n (packet_of_source e.channel c.args.n) l w) _ _ k c.in_default-listening.ensures said) in
    record { notes = r.0; stands = r.1 })

pub returns-in_default-source_packet-clause-goes : goal.returns-in_default-source_packet-clause-goes
returns-in_default-source_packet-clause-goes c = λ w k.
    let v = kept_of c.args.self.now in
    let old = c.args.notes.now.items in
    let new = c.say-in_default-source_packet.new.notes.items in
    let e : EndsAt c.in-Some.hi (channel_of c.args.id w.channels) = c.in-Some.ensures w.channels k.hub in
    let s = sits v c.args.id c.args.client c.in-Some-listening.place c.in-Some-listening.ensures in
    let x = listens_there v w _ _ _ s k in
    let none : packet_of_source e.channel c.args.n ≡ None = source_is v w c.args.id c.args.n c.in-Some.hi e k ∙ sym c.in_default-source_packet.ensures in
    ok_then c.say-in_default-source_packet.result c.say-in_default-source_packet.ensures (λ said.
    let went : Went v old new (casting_packet c.args.n None x.listener w) = (said ∙ ap (λ (i : ℕ). old ++ note i (item.NoPacket c.args.n) ∷ []) (sym x.at.0), k) in
    let r = in_channel v old new (λ o. casting c.args.id c.args.client c.args.n o w) (channel_of c.args.id w.channels) e.channel e.is_it
    (is_listening v w _ _ _ s x (λ l. casting_packet c.args.n (packet_of_source e.channel c.args.n) l w) (Went v old new)
    (subst (λ (o : Option (List ℕ)). Went v old new (casting_packet c.args.n o x.listener w)) (sym none) went)) in
    record { notes = r.0; stands = r.1 })

pub index-requires : goal.index-requires
index-requires c = let s = sits (kept_of c.args.self.now) _ _ c.in-Some-listening.place c.in-Some-listening.ensures in omega (arith, s.within, c.args.self.now.seats.ok.0)

pub returns-then-is_too_far-clause-goes : goal.returns-then-is_too_far-clause-goes
returns-then-is_too_far-clause-goes c = λ w k.
    let v = kept_of c.args.self.now in
    let old = c.args.notes.now.items in
    let new = c.say-then-is_too_far.new.notes.items in
    let e : EndsAt c.in-Some.hi (channel_of c.args.id w.channels) = c.in-Some.ensures w.channels k.hub in
    let s = sits v c.args.id c.args.client c.in-Some-listening.place c.in-Some-listening.ensures in
    let x = listens_there v w _ _ _ s k in
    let bytes = c.in-Some-source_packet.packet.now in
    let some : packet_of_source e.channel c.args.n ≡ Some bytes = source_is v w c.args.id c.args.n c.in-Some.hi e k ∙ sym c.in-Some-source_packet.ensures in
    let far = far_so v w _ _ _ s x c.args.n _ _ _ c.index.ensures c.is_too_far.ensures c.if-is_too_far.true in
    ok_then c.say-then-is_too_far.result c.say-then-is_too_far.ensures (λ said.
    let went = too_far v w c.args.id c.args.client c.args.n (brought_by_multicast x.listener.tuned bytes) x.listener old new k x.at far said in
    let r = in_channel v old new (λ o. casting c.args.id c.args.client c.args.n o w) (channel_of c.args.id w.channels) e.channel e.is_it
    (is_listening v w _ _ _ s x (λ l. casting_packet c.args.n (packet_of_source e.channel c.args.n) l w) (Went v old new)
    (subst (λ (o : Option (List ℕ)). Went v old new (casting_packet c.args.n o x.listener w)) (sym some) went)) in
    record { notes = r.0; stands = r.1 })

pub index_mut-seat-requires : goal.index_mut-seat-requires
index_mut-seat-requires c = let s = sits (kept_of c.args.self.now) _ _ c.in-Some-listening.place c.in-Some-listening.ensures in omega (arith, s.within, c.args.self.now.seats.ok.0)

pub hear_multicast-requires-clause-there : goal.hear_multicast-requires-clause-there
hear_multicast-requires-clause-there c = let s = sits (kept_of c.args.self.now) _ _ c.in-Some-listening.place c.in-Some-listening.ensures in seat_there _ _ _ _ s _ c.index_mut-seat.ensures.value

pub hear_multicast-requires-clause-few : goal.hear_multicast-requires-clause-few
hear_multicast-requires-clause-few c =
    let s = sits (kept_of c.args.self.now) _ _ c.in-Some-listening.place c.in-Some-listening.ensures in seat_few (kept_of c.args.self.now) _ _ _ s _ c.index_mut-seat.ensures.value c.requires.seats

pub returns-clause-goes : goal.returns-clause-goes
returns-clause-goes c = λ w k.
    let v = kept_of c.args.self.now in
    let old = c.args.notes.now.items in
    let new = c.hear_multicast.new.notes.items in
    let e : EndsAt c.in-Some.hi (channel_of c.args.id w.channels) = c.in-Some.ensures w.channels k.hub in
    let s = sits v c.args.id c.args.client c.in-Some-listening.place c.in-Some-listening.ensures in
    let x = listens_there v w _ _ _ s k in
    let bytes = c.in-Some-source_packet.packet.now in
    let some : packet_of_source e.channel c.args.n ≡ Some bytes = source_is v w c.args.id c.args.n c.in-Some.hi e k ∙ sym c.in-Some-source_packet.ensures in
    let far = far_so v w _ _ _ s x c.args.n _ _ _ c.index.ensures c.is_too_far.ensures c.if-is_too_far.false in
    let later : Kept = record {
      hub = v.hub;
      packets = v.packets;
      parcels = c.hear_multicast.new.parcels.items;
      places = v.places;
      seats = set v.seats c.in-Some-listening.place c.hear_multicast.new.seat;
    } in
    ok_then c.hear_multicast.result (c.hear_multicast.ensures.takes x.listener c.args.n (follows_so v w _ _ _ s x _ c.index_mut-seat.ensures.value) x.at) (λ t.
    let went = near later w c.args.n (brought_by_multicast x.listener.tuned bytes) x.listener old new far (turned v w _ _ _ s x _ _ _ _ old new _ _ c.hear_multicast.new.parcels.items k t t.parcels) in
    let r = in_channel later old new (λ o. casting c.args.id c.args.client c.args.n o w) (channel_of c.args.id w.channels) e.channel e.is_it
    (is_listening v w _ _ _ s x (λ l. casting_packet c.args.n (packet_of_source e.channel c.args.n) l w) (Went later old new)
    (subst (λ (o : Option (List ℕ)). Went later old new (casting_packet c.args.n o x.listener w)) (sym some) went)) in
    record { notes = r.0; stands = r.1 })
