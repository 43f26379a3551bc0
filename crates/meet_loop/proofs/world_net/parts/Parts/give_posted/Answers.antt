use Rattle.std.proofs.Common.{ℕ, List, refl, ap, ◌∙◌}
use Rattle.server_hub.specs.declared.HubEvent.TheVariants.{Feedback}
use Rattle.server_hub.specs.{told}
use Rattle.meet_loop.specs.world_laws.{serving}
use Rattle.meet_loop.specs.world_laws.World.{Datagram}
use Rattle.meet_loop.specs.world_net.{Kept, kept_of}
use Rattle.meet_loop.proofs.world_net.Turned.{ok_both}
use Rattle.meet_loop.proofs.world_net.Steps.{served, Went, parcel_is, of_three}
use Rattle.meet_loop.proofs.world_net.parts.Parts.give_posted.Goals as goal

pub returns-clause-goes : goal.returns-clause-goes
returns-clause-goes c = λ w d k is.
    let v = kept_of c.args.self.now in
    let same = parcel_is _ _ d _ c.requires.there is c.index-parcel.ensures in
    ok_both c.tell.result c.tell.ensures.notes c.tell.ensures.parcels (λ said sent.
    let later : Kept = record { hub = c.hear.new.self; packets = v.packets; parcels = c.tell.new.parcels.items; places = v.places; seats = v.seats } in
    let r = of_three (Went later c.args.notes.now.items c.tell.new.notes.items) (λ (i n : ℕ) (b : List ℕ). serving (Feedback i n b) w) _ _ _ _ _ _ (c.id.ensures ∙ ap (λ (x : Datagram). x.id) same)
    (c.client.ensures ∙ ap (λ (x : Datagram). x.client) same) (c.deref.ensures.value ∙ c.in_ok-spell.ensures ∙ ap (λ (x : Datagram). x.bytes) same)
    (served (Feedback c.id.result c.client.result c.deref.result.now) w v c.hear.new.self (told c.in_ok-answer.answer) v.packets c.tell.new.parcels.items _ _ k
    (c.in_ok-answer.ensures.stands w.channels k.hub) c.hear.ensures.settings c.hear.ensures.lawful (λ i m. refl) said sent) in
    record { notes = r.0; stands = r.1 })
