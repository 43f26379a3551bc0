use Rattle.std.proofs.Common.{◌≡◌}
use Rattle.std.proofs.lemmas.List.Elements.{All-push, All-same}
use Rattle.channel_book.specs.channel_lock.{Known}
use Rattle.thread_tests.proofs.locks.one_more.Goals as goal

pub returns : goal.returns
returns c = let held = λ (p : Known). p.lock ≡ c.args.lock.now.lock in All-same held _ _ c.in_ok-push.ensures.items (All-push held _ _ c.requires.all c.requires.made)
