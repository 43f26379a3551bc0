use Rattle.std.proofs.Common.{◌≡◌, ℕ, List, Some, None, map, ◌++◌, sym, ap, ◌∙◌, arith}
use Rattle.rams_model.specs.Receiver.{asked, reception}
use Rattle.server_hub.specs.Served.{Served}
use Rattle.server_hub.specs.{channel_of}
use Rattle.meet_loop.specs.world_laws.{asking, post_all}
use Rattle.meet_loop.specs.world_net.{Kept, kept_of, post_at, posted_at}
use Rattle.meet_loop.proofs.world_net.Turned.{ok_both}
use Rattle.meet_loop.proofs.world_net.Steps.{sits, seat_has, listens_there, ok_then, not_listening, is_listening, in_channel, some_of, posting, asks_so, Went}
use Rattle.meet_loop.proofs.world_net.parts.Parts.ask.Goals as goal

pub returns-in_default-listening-clause-goes : goal.returns-in_default-listening-clause-goes
returns-in_default-listening-clause-goes c = λ w k.
    let v = kept_of c.args.self.now in
    let channel = some_of (λ (x : Served). x.settings) (channel_of c.args.id w.channels) c.in-Some._config.now (c.in-Some.ensures.stands w.channels k.hub) in
    ok_then c.say-in_default-listening.result c.say-in_default-listening.ensures (λ said.
    let r = in_channel v _ _ (λ o. asking c.args.id c.args.client o w) (channel_of c.args.id w.channels) channel.0 channel.1
    (not_listening v w c.args.id c.args.client (λ l. post_all (asked l.tuned (reception l.turns)) l w) _ _ k c.in_default-listening.ensures said) in
    record { notes = r.0; stands = r.1 })

pub index-requires : goal.index-requires
index-requires c = let s = sits (kept_of c.args.self.now) _ _ c.in-Some-listening.place c.in-Some-listening.ensures in omega (arith, s.within, c.args.self.now.seats.ok.0)

pub unreachable-requires : goal.unreachable-requires
unreachable-requires c =
    let s = sits (kept_of c.args.self.now) _ _ c.in-Some-listening.place c.in-Some-listening.ensures in
    let no : None ≡ Some s.receiver = sym c.in_default-receiver.is ∙ seat_has _ _ _ _ s _ c.index.ensures in absurd cc

pub returns-clause-goes : goal.returns-clause-goes
returns-clause-goes c = λ w k.
    let v = kept_of c.args.self.now in
    let channel = some_of (λ (x : Served). x.settings) (channel_of c.args.id w.channels) c.in-Some._config.now (c.in-Some.ensures.stands w.channels k.hub) in
    let s = sits v c.args.id c.args.client c.in-Some-listening.place c.in-Some-listening.ensures in
    let x = listens_there v w _ _ _ s k in
    let its = asks_so v w _ _ _ s x _ _ _ c.index.ensures c.in-Some-receiver.is c.in_ok-datagrams.ensures in
    let later : Kept = record { hub = v.hub; packets = v.packets; parcels = c.post_all.new.parcels.items; places = v.places; seats = v.seats } in
    ok_both c.post_all.result c.post_all.ensures.notes c.post_all.ensures.parcels (λ said sent.
    let r = in_channel later _ _ (λ o. asking c.args.id c.args.client o w) (channel_of c.args.id w.channels) channel.0 channel.1
    (is_listening v w _ _ _ s x (λ l. post_all (asked l.tuned (reception l.turns)) l w) (Went later c.args.notes.now.items c.post_all.new.notes.items)
    (posting v w c.args.id c.args.client x.listener (asked x.listener.tuned (reception x.listener.turns)) _ _ _ k x.at (said ∙ ap (λ (l : List (List ℕ)). c.args.notes.now.items ++ map (post_at c.args.id c.args.client) l) its)
    (sent ∙ ap (λ (l : List (List ℕ)). v.parcels ++ map (posted_at c.args.id c.args.client) l) its))) in
    record { notes = r.0; stands = r.1 })
