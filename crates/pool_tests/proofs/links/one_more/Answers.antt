use Rattle.std.proofs.Common.{◌≡◌}
use Rattle.std.proofs.lemmas.List.Elements.{All-push, All-same}
use Rattle.pool.specs.link_pool.{Claimer}
use Rattle.pool_tests.proofs.links.one_more.Goals as goal

pub returns : goal.returns
returns c = let held = λ (t : Claimer). t.pool ≡ c.args.pool.now.pool in All-same held _ _ c.in_ok-push.ensures.items (All-push held _ _ c.requires.all c.requires.made)
