use Rattle.std.proofs.Common.{rules, ◌≡◌, None, option_map, sym, ◌∙◌, ap}
use Rattle.meet_loop.proofs.world_net.InRuns.{no_run, run_found, run_read}
use Rattle.meet_loop.proofs.world_net.runs.find.Goals as goal

pub returns-in_err-place : goal.returns-in_err-place
returns-in_err-place c =
    let none : c.from_residual.result ≡ None = search rules in
    ap (option_map (λ packet. packet.now)) none ∙ sym (no_run c.args.id c.args.n c.args.runs.now c.in_err-place.ensures.none)

pub returns : goal.returns
returns c =
    let its = c.in_ok-place.ensures.there in
    let read = run_read c.args.id c.in_ok-place.place c.args.runs.now c.index-runs-place.result its c.index-runs-place.is in
    c.get.ensures ∙ sym (run_found c.args.id c.args.n c.in_ok-place.place c.args.runs.now c.index-runs-place.result read.0 read.1 its.before)
