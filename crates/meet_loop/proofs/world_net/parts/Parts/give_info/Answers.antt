use Rattle.std.proofs.Common.{◌≡◌, ℕ, List, [], set, refl, sym, ap, ◌∙◌, append-nil, arith}
use Rattle.rams_model.specs.Receiver.{told_by}
use Rattle.meet_loop.specs.world_laws.World.{Datagram, Listener, Step}
use Rattle.meet_loop.specs.world_laws.{if_listening, listener_of, hearing}
use Rattle.meet_loop.specs.world_net.{Kept, kept_of}
use Rattle.meet_loop.proofs.world_net.Steps.{sits, seat_there, listens_there, turned, ok_then, parcel_is, not_listening, is_listening, follows_so, Went, of_three}
use Rattle.meet_loop.proofs.world_net.parts.Parts.give_info.Goals as goal

pub returns-in_default-clause-goes : goal.returns-in_default-clause-goes
returns-in_default-clause-goes c = λ w d k is.
    let v = kept_of c.args.self.now in
    let f : List ℕ → Listener → Step = λ b l. hearing (told_by l.tuned b) l w in
    let i : c.id-id.result ≡ d.id = c.id-id.ensures ∙ ap (λ (x : Datagram). x.id) (parcel_is _ _ d _ c.requires.there is c.index.ensures) in
    let n : c.client-client.result ≡ d.client = c.client-client.ensures ∙ ap (λ (x : Datagram). x.client) (parcel_is _ _ d _ c.requires.there is c.index-2.ensures) in
    ok_then c.say.result c.say.ensures (λ said.
    let r = of_three (Went v c.args.notes.now.items c.say.new.notes.items) (λ (x y : ℕ) (b : List ℕ). if_listening x y (listener_of x y w) w (f b)) _ _ _ _ d.bytes d.bytes i n refl
    (not_listening v w c.id-id.result c.client-client.result (f d.bytes) _ _ k c.in_default.ensures said) in
    record { notes = r.0; stands = r.1 })

pub index_mut-requires : goal.index_mut-requires
index_mut-requires c = let s = sits (kept_of c.args.self.now) _ _ c.in-Some.place c.in-Some.ensures in omega (arith, s.within, c.args.self.now.seats.ok.0)

pub hear_info-requires : goal.hear_info-requires
hear_info-requires c = let s = sits (kept_of c.args.self.now) _ _ c.in-Some.place c.in-Some.ensures in record { there = seat_there _ _ _ _ s _ c.index_mut.ensures.value }

pub returns-clause-goes : goal.returns-clause-goes
returns-clause-goes c = λ w d k is.
    let v = kept_of c.args.self.now in
    let old = c.args.notes.now.items in
    let new = c.hear_info.new.notes.items in
    let i : c.id-id.result ≡ d.id = c.id-id.ensures ∙ ap (λ (x : Datagram). x.id) (parcel_is _ _ d _ c.requires.there is c.index.ensures) in
    let n : c.client-client.result ≡ d.client = c.client-client.ensures ∙ ap (λ (x : Datagram). x.client) (parcel_is _ _ d _ c.requires.there is c.index-2.ensures) in
    let b : c.deref.result.now ≡ d.bytes = c.deref.ensures.value ∙ c.in_ok-spell.ensures ∙ ap (λ (x : Datagram). x.bytes) (parcel_is _ _ d _ c.requires.there is c.index-3.ensures) in
    let s = sits v c.id-id.result c.client-client.result c.in-Some.place c.in-Some.ensures in
    let x = listens_there v w _ _ _ s k in
    let f : List ℕ → Listener → Step = λ y l. hearing (told_by l.tuned y) l w in
    let later : Kept = record { hub = v.hub; packets = v.packets; parcels = v.parcels; places = v.places; seats = set v.seats c.in-Some.place c.hear_info.new.seat } in
    ok_then c.hear_info.result (c.hear_info.ensures.takes x.listener (follows_so v w _ _ _ s x _ c.index_mut.ensures.value) x.at) (λ t.
    let r = of_three (Went later old new) (λ (a m : ℕ) (y : List ℕ). if_listening a m (listener_of a m w) w (f y)) _ _ _ _ _ _ i n b
    (is_listening v w _ _ _ s x (f c.deref.result.now) (Went later old new) (turned v w _ _ _ s x _ _ [] _ old new [] [] v.parcels k t (sym (append-nil v.parcels)))) in
    record { notes = r.0; stands = r.1 })
