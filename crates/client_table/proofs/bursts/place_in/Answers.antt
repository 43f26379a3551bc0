use Rattle.std.proofs.Common.{rules}
use Rattle.std.proofs.lemmas.List.Sorted.{answers_always}
use Rattle.client_table.proofs.Placing.{place_found}
use Rattle.client_table.proofs.bursts.place_in.Goals as goal

-- the closure gives a pair's client
pub returns : goal.returns
returns c =
    let facts = c.binary_search_by_key.ensures in
    let by_key = facts.position (λ e. e.0) (answers_always _ _ _ (λ f a r g called. search rules)) in
    place_found c.args.bursts.now c.args.client c.binary_search_by_key.result c.requires facts.bound by_key
