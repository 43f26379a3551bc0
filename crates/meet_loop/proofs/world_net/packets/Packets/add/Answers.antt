use Rattle.std.proofs.Common.{rules, ◌≡◌, ℕ, ◌+◌, ◌&&◌, true, false, cond, eqb, List, length, set, Option, Some, is_some, arith, ap, sym, ◌∙◌, subst}
use Rattle.std.specs.Option.{option_or}
use Rattle.meet_loop.specs.world_net.{at_pair, in_runs, packet_in, Packed}
use Rattle.meet_loop.proofs.world_net.Pairs.{entry_more}
use Rattle.meet_loop.specs.declared.world_net.runs.Run.{Run}
use Rattle.meet_loop.proofs.world_net.Steps.{ok_then}
use Rattle.meet_loop.proofs.world_net.InRuns.{run_read, same_run, none_there, put_apart, put_behind}
use Rattle.meet_loop.proofs.world_net.packets.Packets.add.Goals as goal

pub returns-then-contains_key : goal.returns-then-contains_key
returns-then-contains_key c = λ i m.
    let old = c.self.inside.apart.entries in
    let new = c.insert.new.self.entries in
    let more = entry_more old new c.args.id c.args.n i m _ c.args.packet.now (c.in_ok-insert.ensures.updates.0 (i, m)) c.in_ok-kept.ensures in
    subst (λ (p : Packed). option_or (at_pair new i m) (in_runs i m c.run_for.new.runs.items) ≡ cond (eqb c.args.id i && eqb c.args.n m) (Some c.args.packet.now) (packet_in p i m)) c.self.view_is
    (put_apart old new (in_runs i m c.self.inside.runs.items) (in_runs i m c.run_for.new.runs.items) c.args.id c.args.n i m c.args.packet.now more (c.in_ok-place.ensures.same i m))

pub index_mut-requires : goal.index_mut-requires
index_mut-requires c = omega (arith, c.in_ok-place.ensures.its.within, c.run_for.new.runs.ok.0)

pub returns : goal.returns
returns c =
    let its = c.in_ok-place.ensures.its in
    let runs = c.run_for.new.runs.items in
    let apart = c.self.inside.apart.entries in
    let r = c.index_mut.result.now in
    let place = c.in_ok-place.place in
    let read = run_read c.args.id place runs r its c.index_mut.ensures.value in
    let seen = run_read c.args.id place runs c.index.result.now its c.index.ensures in
    let goes : c.goes_on_with.result ≡ true = search rules in
    let few : is_some (at_pair apart c.args.id c.args.n) ≡ false = search rules in
    ok_then c.push.result c.push.ensures.packets (λ more i m.
    subst (λ (p : Packed). option_or (at_pair apart i m) (in_runs i m (set runs place c.push.new.self)) ≡ cond (eqb c.args.id i && eqb c.args.n m) (Some c.args.packet.now) (packet_in p i m)) c.self.view_is
    (put_behind apart runs r c.push.new.self c.args.id c.args.n i m place c.in_ok-kept.kept read.0 read.1 (c.push.ensures.id ∙ read.1) its.before (none_there _ few) (c.goes_on_with.ensures goes ∙ ap (λ (x : Run). x.first + length x.packets.items) (same_run _ _ (sym seen.0 ∙ read.0))) (more m)
    ∙ ap (λ (x : List ℕ). cond (eqb c.args.id i && eqb c.args.n m) (Some x) (option_or (at_pair apart i m) (in_runs i m runs))) c.in_ok-kept.ensures
    ∙ ap (λ (o : Option (List ℕ)). cond (eqb c.args.id i && eqb c.args.n m) (Some c.args.packet.now) (option_or (at_pair apart i m) o)) (c.in_ok-place.ensures.same i m)))
