use Rattle.std.proofs.Common.{ℕ, Some, cond, refl, ap, sym, ◌∙◌, nat_eq}
use Rattle.client_table.specs.declared.Entry.{Entry}
use Rattle.client_table.specs.{opened_of, bursts_left}
use Rattle.tick_core.specs.{told_by, with_served, with_all_served}
use Rattle.tick_core.proofs.Leading.{at_turn, at_end}
use Rattle.tick_core.proofs.Walking.{all_found, first_found, others_found, served_start, served_turn, served_end, none_true, true_more, all_begin, all_more, all_end}
use Rattle.tick_core.proofs.runs.serve_clients.Goals as goal

pub loop-client-init : goal.loop-client-init
loop-client-init g c =
    let t = c.args.table.now in
    let all = ap bursts_left c.into_iter-client-iterator.ensures.into_iter_gives ∙ c.open_bursts-client-items.ensures.clients in
    record {
      can_next = tt;
      is_finite = tt;
      found = all_found t _ all c.open_bursts-client-items.ensures.found;
      draft = λ d shown. (d, shown, served_start c.args.config.now c.args.cache.now.held _ t d all);
      each = none_true c.args.config.now c.args.cache.now.held t (told_by c.new-allowances.result) c.new-allowances.ensures;
      all = all_begin (told_by c.new-allowances.result) (bursts_left c.into_iter-client-iterator.result) (opened_of t) all;
    }

pub serve_client-requires-clause-small : goal.serve_client-requires-clause-small
serve_client-requires-clause-small g c =
    let e : ℕ × Entry = (c.in-Some.client, c.in-Some.entry) in
    c.requires.small e.0 e.1 (first_found c.args.table.now e (bursts_left c.loop-client.client-iterator) (bursts_left c.next.new.self) c.in-Some.ensures.steps c.loop-client.invariant.found)

pub loop-client-preserved : goal.loop-client-preserved
loop-client-preserved g c =
    let s = c.args.config.now in
    let held = c.args.cache.now.held in
    let t = c.args.table.now in
    let e : ℕ × Entry = (c.in-Some.client, c.in-Some.entry) in
    let left = bursts_left c.loop-client.client-iterator in
    let later = bursts_left c.next.new.self in
    let old = told_by c.loop-client.allowances in
    let new = told_by c.put.new.self in
    let a = c.in_ok-allowance.allowance in
    let puts = λ (j : ℕ). c.in_ok-put.ensures.put j ∙ ap (λ (k : ℕ). cond (nat_eq k j) (Some a) (old j)) c.in_ok-allowance.ensures.client in
    record {
      can_next = tt;
      is_finite = tt;
      found = others_found t e left later c.in-Some.ensures.steps c.loop-client.invariant.found;
      draft = at_turn g.D.Drafting.shows (with_all_served s held t.known) (with_all_served s held left) (with_all_served s held later) (with_served s held e.0 e.1 e.1.burst) c.args.draft.now c.loop-client.draft c.serve_client.new.draft
          c.loop-client.invariant.draft c.in_ok-allowance.ensures.draft (λ f. served_turn s held e left later f (with_served s held e.0 e.1 e.1.burst f) (with_all_served s held left f) c.in-Some.ensures.steps refl refl);
      each = true_more old new e.0 a puts c.args.config.now c.args.cache.now.held t e.1
          (first_found t e left later c.in-Some.ensures.steps c.loop-client.invariant.found) c.in_ok-allowance.ensures.allowance c.loop-client.invariant.each;
      all = all_more old new e.0 a puts e left later (opened_of t) c.in-Some.ensures.steps refl c.loop-client.invariant.all;
    }

pub returns-clause-allowances : goal.returns-clause-allowances
returns-clause-allowances g c = record {
  each = c.loop-client.invariant.each;
  all = all_end (told_by c.loop-client.allowances) (bursts_left c.loop-client.client-iterator) (opened_of c.args.table.now) c.in-None.ensures.steps.0 c.loop-client.invariant.all;
}

pub returns-clause-draft : goal.returns-clause-draft
returns-clause-draft g c =
    let s = c.args.config.now in
    let held = c.args.cache.now.held in
    let left = bursts_left c.loop-client.client-iterator in
    at_end g.D.Drafting.shows (with_all_served s held c.args.table.now.known) (with_all_served s held left) c.args.draft.now c.loop-client.draft c.loop-client.invariant.draft
    (λ f. sym (served_end s held left f (with_all_served s held left f) c.in-None.ensures.steps.0 refl))
