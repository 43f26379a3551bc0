use Rattle.std.proofs.Common.{rules}
use Rattle.std.proofs.lemmas.List.Sorted.{IsNonDecreasingBy-from_sort_by_key}
use Rattle.pool.specs.declared.link_pool.claim.Claim.{Claim}
use Rattle.pool.proofs.link_pool.ledger.rising_claims.Goals as goal

pub returns-clause-rising : goal.returns-clause-rising
returns-clause-rising c = IsNonDecreasingBy-from_sort_by_key (λ (x : Claim). x.from) _ c.in_ok-sort_by_key.ensures.sorted (λ a r q k. search rules)
