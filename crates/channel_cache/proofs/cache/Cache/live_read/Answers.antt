use Rattle.std.proofs.Common.{◌≡◌, ◌<◌, ◌^◌, IfSome, sym, ◌∙◌, ap, subst, arith}
use Rattle.rams_model.specs.Service.{live, heard_live}
use Rattle.channel_cache.specs.{arrival_of}
use Rattle.channel_cache.specs.Seen.{Seen}
use Rattle.channel_cache.proofs.Shown.{Does, seen_at, took, numbers_have_room}
use Rattle.channel_cache.proofs.cache.Cache.live_read.Goals as goal

pub returns-clause-stands : goal.returns-clause-stands
returns-clause-stands c =
    let old = c.self.inside in
    let new = c.receive.new in
    let bytes = c.args.incoming.packet in
    let a = arrival_of c.args.incoming in
    let heard = subst (λ (v : Seen). heard_live v.settings.channel bytes ≡ live a) (sym c.self.view_is) c.requires.read in
    let grows = c.receive.ensures.grows in
    subst (λ (v : Seen). Does v (seen_at old.config new.numbering new.intake) bytes c.receive.result) c.self.view_is
    (took old.config old.numbering new.numbering old.intake new.intake bytes a c.receive.result (record { width = c.self.invariant.width; ring = c.self.invariant.ring })
    (record { width = grows.width ∙ c.self.invariant.width; ring = grows.capacity ∙ c.self.invariant.ring }) grows.total heard c.receive.ensures.stands)

pub receive-requires-clause-numbered : goal.receive-requires-clause-numbered
receive-requires-clause-numbered c =
    subst (λ (v : Seen). IfSome v.numbering.greatest (λ n. n < 2 ^ 61)) (sym c.self.view_is) (numbers_have_room c.args.self.now c.requires.few)

pub receive-requires-clause-few : goal.receive-requires-clause-few
receive-requires-clause-few c = omega (arith, ap (λ (v : Seen). v.total) c.self.view_is, c.requires.few.stands.total, c.requires.few.few)
