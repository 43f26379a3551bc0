use Rattle.std.proofs.Common.{subst}
use Rattle.line_io.specs.{HasNoFeed}
use Rattle.line_io.proofs.LineFeeds.{HasNoFeed-contains}
use Rattle.line_io.proofs.reader.LineReader.advance.Goals as goal

pub returns-in-None-clause-no_call : goal.returns-in-None-clause-no_call
returns-in-None-clause-no_call g c = λ feed.
    absurd (HasNoFeed-contains c.args.self.now.kept feed.0 (subst HasNoFeed c.kept.ensures.kept c.in-None.ensures) feed.1 feed.2)
