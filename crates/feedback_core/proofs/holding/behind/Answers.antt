-- Each number that is passed adds its packet's size.
use Rattle.std.proofs.Common.{◌≡◌, ℕ, ◌<◌, ◌≤◌, ap, sym, ◌∙◌, zero-add, arith}
use Rattle.std.specs.Prelude.{max}
use Rattle.rams_model.specs.Packets.{behind, lo, hi}
use Rattle.rams_model.specs.Service.{size_of}
use Rattle.feedback_core.proofs.Behind.{behind_from, behind_none, next_of}
use Rattle.feedback_core.proofs.holding.behind.Goals as goal

pub loop-number-init : goal.loop-number-init
loop-number-init c =
    let held = c.args.cache.now.held in
    let from : c.max-number.result ≡ max c.args.n (lo held) = omega (arith, c.max-number.ensures, c.lo.ensures.value) in
    record {
      so_far = zero-add (behind c.max-number.result held) ∙ ap (λ (a : ℕ). behind a held) from ∙ sym (behind_from c.args.n held c.requires);
      small = omega arith;
    }

pub loop-number-preserved : goal.loop-number-preserved
loop-number-preserved c =
    let held = c.args.cache.now.held in
    let lt : c.loop-number.number < hi held = omega (arith, c.loop-number-test.true, c.hi-number-end.ensures) in
    let from : max c.args.n (lo held) ≤ c.loop-number.number = omega (arith, c.loop-number.auto.number, c.max-number.ensures, c.lo.ensures.value) in
    let next = next_of c.loop-number.number held c.requires (omega (arith, from)) lt in
    let size : c.wire.result ≡ next.packet.wire = c.wire.ensures ∙ ap size_of next.is_packet in
    record { so_far = omega (arith, size, next.sizes, c.loop-number.invariant.so_far); small = omega (arith, from, c.loop-number.invariant.small) }

pub returns : goal.returns
returns c =
    let held = c.args.cache.now.held in
    let none = behind_none c.loop-number.number held c.requires (omega (arith, c.loop-number-test.false, c.hi-number-end.ensures)) in
    omega (arith, c.loop-number.invariant.so_far, none)
