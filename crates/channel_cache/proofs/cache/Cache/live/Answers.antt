use Rattle.std.proofs.Common.{◌≡◌, ◌<◌, ◌^◌, IfSome, sym, ◌∙◌, ap, subst, arith}
use Rattle.rams_model.specs.declared.Channel.{Channel}
use Rattle.rams_model.specs.Service.{live, dropped, heard_live}
use Rattle.channel_cache.specs.declared.intake.Intake.{Intake}
use Rattle.channel_cache.specs.{arrival_of}
use Rattle.channel_cache.specs.Seen.{Seen}
use Rattle.channel_cache.specs.Stocked as stocks
use Rattle.channel_cache.proofs.Shown.{Does, seen_at, took, let_go, fewer_after, numbers_have_room}
use Rattle.channel_cache.proofs.cache.Cache.live.Goals as goal

pub returns-in-Err-clause-stands : goal.returns-in-Err-clause-stands
returns-in-Err-clause-stands c =
    let old = c.self.inside in
    let bytes = c.args.bytes.now in
    let heard = subst (λ (ch : Channel). heard_live ch bytes ≡ dropped c.in-Err.note) c.channel-channel.ensures.value c.in-Err.ensures.heard in
    subst (λ (v : Seen). Does v v bytes c.in-Err.note) c.self.view_is
    (let_go old.config old.numbering old.intake bytes c.in-Err.note heard)

pub returns-in-Err-clause-few : goal.returns-in-Err-clause-few
returns-in-Err-clause-few c = λ most few. fewer_after c.args.self.now _ c.args.bytes.now c.in-Err.note most (returns-in-Err-clause-stands c) few

pub returns-clause-stands : goal.returns-clause-stands
returns-clause-stands c =
    let old = c.self.inside in
    let new = c.receive.new in
    let bytes = c.args.bytes.now in
    let a = arrival_of c.of-incoming.result in
    let heard = subst (λ (ch : Channel). heard_live ch bytes ≡ live a) c.channel-channel.ensures.value (c.in-Ok.ensures.heard ∙ ap live (sym c.of-incoming.ensures.value)) in
    let grows = c.receive.ensures.grows in
    let same = c.keep.ensures.same in
    let intake : Intake = record old.intake { stock = c.keep.new.self } in
    let shows = ap (λ (s : stocks.Seen). seen_at old.config old.numbering (record old.intake { stock = s })) same ∙ c.self.view_is in
    let ring = ap (λ (s : stocks.Seen). s.ring.capacity) same ∙ c.self.invariant.ring in
    subst (λ (v : Seen). Does v (seen_at old.config new.numbering new.intake) bytes c.receive.result) shows
    (took old.config old.numbering new.numbering intake new.intake bytes a c.receive.result (record { width = c.self.invariant.width; ring = ring })
    (record { width = grows.width ∙ c.self.invariant.width; ring = grows.capacity ∙ ring }) grows.total heard c.receive.ensures.stands)

pub returns-clause-few : goal.returns-clause-few
returns-clause-few c = λ most few. fewer_after c.args.self.now _ c.args.bytes.now c.receive.result most (returns-clause-stands c) few

pub receive-requires-clause-numbered : goal.receive-requires-clause-numbered
receive-requires-clause-numbered c =
    subst (λ (v : Seen). IfSome v.numbering.greatest (λ n. n < 2 ^ 61)) (sym c.self.view_is) (numbers_have_room c.args.self.now c.requires)

pub receive-requires-clause-few : goal.receive-requires-clause-few
receive-requires-clause-few c = omega (arith, ap (λ (s : stocks.Seen). s.total) c.keep.ensures.same, ap (λ (v : Seen). v.total) c.self.view_is, c.requires.stands.total, c.requires.few)
