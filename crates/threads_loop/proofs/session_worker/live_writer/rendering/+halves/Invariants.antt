use Rattle.std.proofs.Common.{◌+◌, ◌*◌}
use Rattle.threads_loop.proofs.session_worker.live_writer.rendering.+halves.Given as goal

abbrev pub decreases-render_halves : goal.decreases-render_halves
decreases-render_halves g l = 2 * l.threads

abbrev pub decreases-front : goal.decreases-front
decreases-front g l = 2 * l.low + 1

abbrev pub decreases-back : goal.decreases-back
decreases-back g l = 2 * l.high + 1
