use Rattle.pool.proofs.link_pool.Dealing.{begins}
use Rattle.pool.proofs.link_pool.pool.Pool.new.Goals as goal

pub of_words-requires : goal.of_words-requires
of_words-requires c = begins c.from-about.result
