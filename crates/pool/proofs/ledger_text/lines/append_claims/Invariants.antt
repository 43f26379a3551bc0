use Rattle.std.proofs.Common.{◌≡◌, ◌++◌, take}
use Rattle.pool.specs.ledger_text.{claim_lines}
use Rattle.pool.proofs.ledger_text.lines.append_claims.Given as goal

abbrev pub invariant-loop-claim : goal.invariant-loop-claim
invariant-loop-claim l = l.text.items ≡ l.fn.text.items ++ claim_lines l.granted l.ids (take l.claim-index l.claims)
