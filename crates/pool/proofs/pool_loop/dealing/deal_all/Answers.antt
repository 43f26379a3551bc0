use Rattle.std.proofs.Common.{◌∙◌, refl, arith}
use Rattle.std.proofs.lemmas.List.{length-set, length-map}
use Rattle.rams_model.specs.declared.Event.TheVariants.{Tick}
use Rattle.server_hub.specs.{with_event}
use Rattle.pool.specs.pool_loop.{served_so, all_served}
use Rattle.pool.proofs.pool_loop.Changing.{ticks_one}
use Rattle.pool.proofs.pool_loop.Halves.{half_none, half_all}
use Rattle.pool.proofs.pool_loop.dealing.deal_all.Goals as goal

pub loop-place-init : goal.loop-place-init
loop-place-init c = record { half = half_none (with_event Tick) (all_served c.args.channels.now.items) (all_served c.args.channels.now.items) refl; many = refl }

pub loop-place-preserved : goal.loop-place-preserved
loop-place-preserved c =
    let cs = c.loop-place.channels.items in
    let one = c.index_mut.result.now in
    let new = record one { events = c.push.new.self } in
    record {
      half = ticks_one (all_served c.args.channels.now.items) cs c.loop-place.place one new c.loop-place.invariant.half (omega (arith, c.loop-place-test.true, c.loop-place.invariant.many)) c.index_mut.ensures.value refl
          c.in_ok-push.ensures.items;
      many = length-set cs c.loop-place.place new ∙ c.loop-place.invariant.many;
    }

pub returns : goal.returns
returns c =
    half_all (with_event Tick) (all_served c.args.channels.now.items) (all_served c.loop-place.channels.items) c.loop-place.place c.loop-place.invariant.half
    (omega (arith, c.loop-place-test.false, c.loop-place.invariant.many, length-map c.loop-place.channels.items served_so))
