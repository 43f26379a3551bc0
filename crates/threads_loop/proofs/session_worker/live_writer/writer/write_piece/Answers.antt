-- What became of the events of a piece.
use Rattle.std.proofs.Common.{arith}
use Rattle.threads_loop.proofs.session_worker.live_writer.Placing.{piece_told, length_answers}
use Rattle.threads_loop.proofs.session_worker.live_writer.writer.write_piece.Goals as goal

pub draw_all-requires-clause-places : goal.draw_all-requires-clause-places
draw_all-requires-clause-places g c =
    let s = g.S.Shared in
    let told = c.in_ok-place.ensures in
    omega (arith, told.places, length_answers (s.list c.args.pass.now) c.args.events.items (s.seen c.args.pass.now) c.in_ok-place.place c.in_ok-place.answers.items (s.seen c.step_all.new.pass) told.told)

pub returns-clause-told : goal.returns-clause-told
returns-clause-told g c =
    let s = g.S.Shared in
    piece_told (s.list c.args.pass.now) c.args.config.now c.args.events.items (s.seen c.args.pass.now) c.in_ok-place.place c.in_ok-place.answers.items (s.seen c.step_all.new.pass)
    c.args.all.now.items c.draw_all.new.all.items c.draw_all.result c.in_ok-place.ensures.told c.draw_all.ensures
