use Rattle.std.proofs.Common.{◌≡◌, ◌+◌, ◌<◌, length, sum_by, sym, ap, subst, ◌∙◌, arith, length-append}
use Rattle.std.proofs.lemmas.List.Sums.{sum_by_push}
use Rattle.rams_model.specs.Texts.{Reached}
use Rattle.trace_text.specs.declared.state.Claim.{Claim}
use Rattle.trace_text.proofs.GoingOn.{joins_few, joins_small}
use Rattle.trace_text.proofs.state.State.add.Goals as goal

pub invariant_of-self : goal.invariant_of-self
invariant_of-self c =
    let r = c.args.self.now in
    let few : length c.self.inside.channels.items < 64 =
    subst (λ (x : Reached). length x.channels < 64) (sym c.self.view_is) (joins_few r r.head c.args.channel.now c.requires) in
    let small = joins_small r r.head c.args.channel.now c.requires in
    let size : length c.push.new.self.items ≡ length c.self.inside.channels.items + 1 = ap length c.push.ensures.items ∙ length-append c.self.inside.channels.items _ in
    let i = c.self.invariant in (
      ap (λ n. n + c.args.channel.now.share) i.0 ∙ sym (sum_by_push (λ (k : Claim). k.share) c.self.inside.channels.items _) ∙ ap (sum_by (λ (k : Claim). k.share)) (sym c.push.ensures.items),
      omega (arith, i.1, small, size),
      omega (arith, few, size),
    )
