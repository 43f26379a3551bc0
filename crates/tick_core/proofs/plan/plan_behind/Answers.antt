use Rattle.std.proofs.Common.{[], ap, ◌∙◌}
use Rattle.rams_model.specs.declared.Channel.{Channel}
use Rattle.tick_core.specs.{told_by, all_allowances}
use Rattle.tick_core.proofs.Made.{by_calls, bursts_are_of_known, begun_allowances}
use Rattle.tick_core.proofs.plan.plan_behind.Goals as goal

pub new-repairs-requires-clause-known : goal.new-repairs-requires-clause-known
new-repairs-requires-clause-known c =
    let p = c.args.parts.now in
    bursts_are_of_known p.config p.cache.held p.table (told_by c.args.allowances) c.requires.allowances

pub returns : goal.returns
returns c =
    let p = c.args.parts.now in
    by_calls p c.args.draft c.finish-draft.result.0 c.forget_clients.new.draft (all_allowances p.config.channel.burst p.table.known (told_by c.args.allowances)) c.new-repairs.result c.repair_all.new.self c.finish-draft.result.1.items
    (record {
      allowed_is = begun_allowances p.config p.cache.held p.table (told_by c.args.allowances) c.requires.rising c.requires.allowances;
      unrepaired = c.new-repairs.ensures ∙ ap (λ (x : Channel). record { draft = c.args.draft; allowances = all_allowances x.burst p.table.known (told_by c.args.allowances); done = [] }) c.channel.ensures.value;
      repairs_are = c.in_ok-repair_all.ensures;
      draft_is = c.finish-draft.ensures.draft;
      done_is = c.finish-draft.ensures.done;
      end_is = c.in_ok-forget_clients.ensures;
    })
