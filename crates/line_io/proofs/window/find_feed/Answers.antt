use Rattle.std.proofs.Common.{ℕ, List, length, subst}
use Rattle.memchr.specs.Find.{is_byte, Nowhere, NoneBefore, Passes}
use Rattle.line_io.proofs.LineFeeds.{HasNoFeed-searched, IsCutAt-searched}
use Rattle.line_io.proofs.window.find_feed.Goals as goal

pub returns-in-Some : goal.returns-in-Some
returns-in-Some c =
    let xs = c.args.bytes.now in
    let at = c.in-Some.at in
    let fresh = c.split_at.ensures.back in
    IsCutAt-searched xs c.args.seen at c.requires.within c.requires.clean
    (subst (λ (t : List ℕ). NoneBefore (Passes (is_byte 10) t) 0 (length t) at) fresh c.in-Some.ensures.0)
    (subst (λ (t : List ℕ). Passes (is_byte 10) t at) fresh c.in-Some.ensures.1)

pub returns-in-None : goal.returns-in-None
returns-in-None c =
    HasNoFeed-searched c.args.bytes.now c.args.seen c.requires.clean
    (subst (λ (t : List ℕ). Nowhere (Passes (is_byte 10) t) 0 (length t)) c.split_at.ensures.back c.in-None.ensures)
