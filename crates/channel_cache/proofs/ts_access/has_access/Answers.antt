use Rattle.std.proofs.Common.{◌<◌, ◌/◌, true, false, length, refl, ◌∙◌, ap, rules, tests, arith}
use Rattle.rams_model.specs.Packets.{has_access, has_flag}
use Rattle.channel_cache.proofs.ts_access.Pieces.{any_at, none_at, test_of_some, test_of_each, pieces_of, by_result}
use Rattle.channel_cache.proofs.ts_access.has_access.Goals as goal

pub returns : goal.returns
unfolding has_access
returns c =
    let xs = c.args.payload.now in
    let run = c.any.ensures.runs.0 in
    let from = c.any.ensures.runs.1 in
    let size = ap (λ s. s.size) from ∙ c.chunks_exact.ensures.size in
    let some : 0 < run.from.size = omega (arith, size) in
    let pieces = pieces_of run.from.size run.from.rest.now xs run.len run.whole run.at size (ap (λ s. s.rest.now) from ∙ c.chunks_exact.ensures.rest) (c.chunks_exact.ensures.runs run run.seen some) in
    by_result c.any.result (has_access xs) _ _ c.any.ensures.runs.2
    (λ said. let at = said (λ a r f h. refl) in any_at has_flag (length xs / 188) at.0 xs (omega (arith, at.1, pieces.0)) (test_of_some has_flag true xs at.0 _ (λ x h. search (rules, tests)) (run.at at.0) (pieces.2 at.0) at.2))
    (λ said. none_at has_flag (length xs / 188) xs (λ k within. test_of_each has_flag false xs k _ (λ x h. search (rules, tests)) (run.at k) _ (run.reads k c.args.payload (omega (arith, within, pieces.1 said.0))) (pieces.2 k) (said.1 (λ a r f h. refl) k)))
