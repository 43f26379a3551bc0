use Rattle.std.proofs.Common.{◌≡◌, ℕ, ◌+◌, List, Option, None, Some, MatchOption, subst, arith}
use Rattle.memchr.specs.Find.{IsFirstByte, is_byte}
use Rattle.line_io.specs.{HasNoFeed, IsCutAt}
use Rattle.line_io.proofs.LineFeeds.{HasNoFeed-searched, IsCutAt-searched}
use Rattle.takeover.proofs.standby.part.find_feed.Goals as goal

found : (xs : List ℕ) (o : Option ℕ) → IsFirstByte (is_byte 10) xs o → MatchOption o (HasNoFeed xs) (IsCutAt xs)
found xs None h = HasNoFeed-searched xs 0 tt h
found xs (Some at) h =
    let same : 0 + at ≡ at = omega arith in
    subst (IsCutAt xs) same (IsCutAt-searched xs 0 at (omega arith) tt h.0 h.1)

pub returns : goal.returns
returns c = found c.args.bytes.now c.memchr.result c.memchr.ensures
