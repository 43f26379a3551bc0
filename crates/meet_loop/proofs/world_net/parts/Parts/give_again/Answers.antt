use Rattle.std.proofs.Common.{◌≡◌, ℕ, List, [], set, refl, sym, ap, ◌∙◌, subst, append-nil, arith}
use Rattle.rams_model.specs.Receiver.{brought_again}
use Rattle.meet_loop.specs.world_laws.World.{repeats, Datagram, Listener, Step}
use Rattle.meet_loop.specs.world_laws.{giving_by, if_listening, listener_of, delivering_near}
use Rattle.meet_loop.specs.world_net.{Kept, KeptFor, kept_of}
use Rattle.meet_loop.proofs.world_net.Steps.{sits, seat_there, seat_few, listens_there, turned, ok_then, parcel_is, not_listening, is_listening, follows_so, far_so, too_far, near, Went, of_three, again_delivers}
use Rattle.meet_loop.proofs.world_net.parts.Parts.give_again.Goals as goal

pub returns-in_default-clause-goes : goal.returns-in_default-clause-goes
returns-in_default-clause-goes c = λ w d k is.
    let v = kept_of c.args.self.now in
    let f : List ℕ → Listener → Step = λ b l. delivering_near c.args.n (brought_again l.tuned b) l w in
    let i : c.id-id.result ≡ d.id = c.id-id.ensures ∙ ap (λ (x : Datagram). x.id) (parcel_is _ _ d _ c.requires.there is c.index.ensures) in
    let n : c.client-client.result ≡ d.client = c.client-client.ensures ∙ ap (λ (x : Datagram). x.client) (parcel_is _ _ d _ c.requires.there is c.index-2.ensures) in
    ok_then c.say.result c.say.ensures (λ said.
    let r = of_three (Went v c.args.notes.now.items c.say.new.notes.items) (λ (x y : ℕ) (b : List ℕ). if_listening x y (listener_of x y w) w (f b)) _ _ _ _ d.bytes d.bytes i n refl
    (not_listening v w c.id-id.result c.client-client.result (f d.bytes) _ _ k c.in_default.ensures said) in
    record { notes = r.0; stands = r.1 })

pub index-requires-3 : goal.index-requires-3
index-requires-3 c = let s = sits (kept_of c.args.self.now) _ _ c.in-Some.place c.in-Some.ensures in omega (arith, s.within, c.args.self.now.seats.ok.0)

pub returns-then-is_too_far-clause-goes : goal.returns-then-is_too_far-clause-goes
returns-then-is_too_far-clause-goes c = λ w d k is.
    let v = kept_of c.args.self.now in
    let old = c.args.notes.now.items in
    let new = c.say-then-is_too_far.new.notes.items in
    let i : c.id-id.result ≡ d.id = c.id-id.ensures ∙ ap (λ (x : Datagram). x.id) (parcel_is _ _ d _ c.requires.there is c.index.ensures) in
    let n : c.client-client.result ≡ d.client = c.client-client.ensures ∙ ap (λ (x : Datagram). x.client) (parcel_is _ _ d _ c.requires.there is c.index-2.ensures) in
    let f : List ℕ → Listener → Step = λ b l. delivering_near c.args.n (brought_again l.tuned b) l w in
    let s = sits v c.id-id.result c.client-client.result c.in-Some.place c.in-Some.ensures in
    let x = listens_there v w _ _ _ s k in
    let far = far_so v w _ _ _ s x c.args.n _ _ _ c.index-3.ensures c.is_too_far.ensures c.if-is_too_far.true in
    ok_then c.say-then-is_too_far.result c.say-then-is_too_far.ensures (λ said.
    let r = of_three (Went v old new) (λ (a m : ℕ) (y : List ℕ). if_listening a m (listener_of a m w) w (f y)) _ _ _ _ d.bytes d.bytes i n refl
    (is_listening v w _ _ _ s x (f d.bytes) (Went v old new) (too_far v w c.id-id.result c.client-client.result c.args.n (brought_again x.listener.tuned d.bytes) x.listener old new k x.at far said)) in
    record { notes = r.0; stands = r.1 })

pub index_mut-seat-requires : goal.index_mut-seat-requires
index_mut-seat-requires c = let s = sits (kept_of c.args.self.now) _ _ c.in-Some.place c.in-Some.ensures in omega (arith, s.within, c.args.self.now.seats.ok.0)

pub hear_again-heard-requires-clause-there : goal.hear_again-heard-requires-clause-there
hear_again-heard-requires-clause-there c = let s = sits (kept_of c.args.self.now) _ _ c.in-Some.place c.in-Some.ensures in seat_there _ _ _ _ s _ c.index_mut-seat.ensures.value

pub hear_again-heard-requires-clause-few : goal.hear_again-heard-requires-clause-few
hear_again-heard-requires-clause-few c =
    let s = sits (kept_of c.args.self.now) _ _ c.in-Some.place c.in-Some.ensures in seat_few (kept_of c.args.self.now) _ _ _ s _ c.index_mut-seat.ensures.value c.requires.few.seats

pub keep-requires : goal.keep-requires
keep-requires c = (sits (kept_of c.args.self.now) _ _ c.in-Some.place c.in-Some.ensures).key

pub returns-clause-goes : goal.returns-clause-goes
returns-clause-goes c = λ w d k is.
    let v = kept_of c.args.self.now in
    let old = c.args.notes.now.items in
    let new = c.hear_again-heard.new.notes.items in
    let i : c.id-id.result ≡ d.id = c.id-id.ensures ∙ ap (λ (x : Datagram). x.id) (parcel_is _ _ d _ c.requires.there is c.index.ensures) in
    let n : c.client-client.result ≡ d.client = c.client-client.ensures ∙ ap (λ (x : Datagram). x.client) (parcel_is _ _ d _ c.requires.there is c.index-2.ensures) in
    let b : c.index-parcel.result.now.bytes ≡ d.bytes = ap (λ (x : Datagram). x.bytes) (parcel_is _ _ d _ c.requires.there is c.index-parcel.ensures) in
    let s = sits v c.id-id.result c.client-client.result c.in-Some.place c.in-Some.ensures in
    let x = listens_there v w _ _ _ s k in
    let f : List ℕ → Listener → Step = λ y l. delivering_near c.args.n (brought_again l.tuned y) l w in
    let later : Kept = record { hub = v.hub; packets = v.packets; parcels = v.parcels; places = v.places; seats = set v.seats c.in-Some.place c.hear_again-heard.new.seat } in
    let far = far_so v w _ _ _ s x c.args.n _ _ _ c.index-3.ensures c.is_too_far.ensures c.if-is_too_far.false in
    ok_then c.hear_again-heard.result (c.hear_again-heard.ensures.takes x.listener (follows_so v w _ _ _ s x _ c.index_mut-seat.ensures.value) x.at) (λ t.
    let r = of_three (Went later old new) (λ (a m : ℕ) (y : List ℕ). if_listening a m (listener_of a m w) w (f y)) _ _ _ _ _ _ i n b
    (is_listening v w _ _ _ s x (f c.index-parcel.result.now.bytes) (Went later old new)
    (near later w c.args.n (brought_again x.listener.tuned c.index-parcel.result.now.bytes) x.listener old new far
    (again_delivers later w c.args.n c.index-parcel.result.now.bytes x.listener old new (turned v w _ _ _ s x _ _ [] _ old new [] [] v.parcels k t (sym (append-nil v.parcels)))))) in
    record { notes = r.0; stands = subst (λ (p : List ((ℕ × ℕ) × ℕ)). KeptFor (record later { places = p }) (giving_by (repeats c.args.n) d w).world) (sym c.keep.ensures) r.1 })
