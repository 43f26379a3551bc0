use Rattle.std.proofs.Common.{◌≡◌, length, ap, ◌∙◌, rules}
use Rattle.pool.specs.link_pool.{fresh_takers}
use Rattle.pool.specs.pool_run.{HaveRun}
use Rattle.pool.proofs.pool_run.Running.{can_run, has_pulled, at_ok, pulled_made, pulled_books, pulled_claims, pulled_others}
use Rattle.pool.proofs.pool_run.run.run_pool.Goals as goal

pub run_beside-ticker-requires-clause-jobs : goal.run_beside-ticker-requires-clause-jobs
run_beside-ticker-requires-clause-jobs g c κs within =
    can_run c.in_ok-pool.pool c.len.result c.args.lanes.items c.in_ok-pool.takers.items c.in_ok-jobs.jobs.items (search rules) c.in_ok-pool.ensures.takers c.in_ok-jobs.ensures c.requires.fresh

pub close-requires-clause-takers : goal.close-requires-clause-takers
close-requires-clause-takers g c =
    let pool = c.in_ok-pool.pool in
    let lanes = c.args.lanes.items in
    let fresh = c.in_ok-pool.takers.items in
    let pulled = c.in_ok-pulled.pulled in
    let many : c.len.result ≡ length lanes = search rules in
    let whole = has_pulled pool lanes fresh c.in_ok-jobs.jobs.items c.in_ok-all.field-0.items pulled.books.items pulled.takers.items (c.in_ok-pool.ensures.takers ∙ ap (fresh_takers pool.pool) many) c.in_ok-jobs.ensures
    (at_ok c.run_beside-ticker.result.1 c.in_ok-all.field-0 (λ v. HaveRun c.in_ok-jobs.jobs.items v.items) c.in_ok-all.was c.run_beside-ticker.ensures.ran) c.in_ok-pulled.ensures in
    pulled_made pool lanes pulled.books.items pulled.takers.items whole

pub returns-clause-books : goal.returns-clause-books
returns-clause-books g c =
    let pool = c.in_ok-pool.pool in
    let lanes = c.args.lanes.items in
    let fresh = c.in_ok-pool.takers.items in
    let pulled = c.in_ok-pulled.pulled in
    let many : c.len.result ≡ length lanes = search rules in
    let whole = has_pulled pool lanes fresh c.in_ok-jobs.jobs.items c.in_ok-all.field-0.items pulled.books.items pulled.takers.items (c.in_ok-pool.ensures.takers ∙ ap (fresh_takers pool.pool) many) c.in_ok-jobs.ensures
    (at_ok c.run_beside-ticker.result.1 c.in_ok-all.field-0 (λ v. HaveRun c.in_ok-jobs.jobs.items v.items) c.in_ok-all.was c.run_beside-ticker.ensures.ran) c.in_ok-pulled.ensures in
    pulled_books pool lanes pulled.books.items pulled.takers.items whole

pub returns-clause-claims : goal.returns-clause-claims
returns-clause-claims g c =
    let pool = c.in_ok-pool.pool in
    let lanes = c.args.lanes.items in
    let fresh = c.in_ok-pool.takers.items in
    let pulled = c.in_ok-pulled.pulled in
    let many : c.len.result ≡ length lanes = search rules in
    let whole = has_pulled pool lanes fresh c.in_ok-jobs.jobs.items c.in_ok-all.field-0.items pulled.books.items pulled.takers.items (c.in_ok-pool.ensures.takers ∙ ap (fresh_takers pool.pool) many) c.in_ok-jobs.ensures
    (at_ok c.run_beside-ticker.result.1 c.in_ok-all.field-0 (λ v. HaveRun c.in_ok-jobs.jobs.items v.items) c.in_ok-all.was c.run_beside-ticker.ensures.ran) c.in_ok-pulled.ensures in
    pulled_claims pool lanes pulled.books.items pulled.takers.items c.in-Ok.ledger.claims.items whole c.in-Ok.ensures.own

pub returns-clause-others : goal.returns-clause-others
returns-clause-others g c =
    let pool = c.in_ok-pool.pool in
    let lanes = c.args.lanes.items in
    let fresh = c.in_ok-pool.takers.items in
    let pulled = c.in_ok-pulled.pulled in
    let many : c.len.result ≡ length lanes = search rules in
    let whole = has_pulled pool lanes fresh c.in_ok-jobs.jobs.items c.in_ok-all.field-0.items pulled.books.items pulled.takers.items (c.in_ok-pool.ensures.takers ∙ ap (fresh_takers pool.pool) many) c.in_ok-jobs.ensures
    (at_ok c.run_beside-ticker.result.1 c.in_ok-all.field-0 (λ v. HaveRun c.in_ok-jobs.jobs.items v.items) c.in_ok-all.was c.run_beside-ticker.ensures.ran) c.in_ok-pulled.ensures in
    pulled_others pool lanes pulled.books.items pulled.takers.items c.in-Ok.ledger.claims.items whole c.in-Ok.ensures.others
