use Rattle.std.proofs.Common.{◌≡◌, ◌<◌, length, Some, sym, ap, ◌∙◌, arith}
use Rattle.std.specs.Prelude.{OnOk, slice_get}
use Rattle.std.proofs.lemmas.Option.{slice_get-get_or}
use Rattle.meet_loop.specs.world_laws.World.{repeats, Step}
use Rattle.meet_loop.specs.world_net.{kept_of, as_way, Goes}
use Rattle.meet_loop.proofs.world_net.Steps.{given, are_few}
use Rattle.meet_loop.proofs.world_net.parts.Parts.give.Goals as goal

pub returns-in-Tells-clause-few : goal.returns-in-Tells-clause-few
returns-in-Tells-clause-few c = λ n f. are_few n _ (c.give_info.ensures.few n f)

pub returns-in-Repeats-clause-goes : goal.returns-in-Repeats-clause-goes
returns-in-Repeats-clause-goes c = λ w k.
    let v = kept_of c.args.self.now in
    let below : c.args.number < length v.parcels = omega (arith, c.if-number-len.false, c.len.ensures, c.args.self.now.parcels.ok.0) in
    let there : slice_get v.parcels c.args.number ≡ Some c.index.result.now = slice_get-get_or v.parcels c.args.number c.index.result.now below ∙ ap Some (sym c.index.ensures) in
    given v w c.args.number c.index.result.now (repeats c.in-Repeats.n) (λ (s : Step). OnOk c.give_again.result (Goes s c.args.notes.now.items c.give_again.new.notes.items c.give_again.new.self)) k below
    c.index.ensures (sym (ap as_way c.in-Repeats.is) ∙ c.way.ensures) (c.give_again.ensures.goes w c.index.result.now k there)
