use Rattle.std.proofs.Common.{ap, sym, ◌∙◌}
use Rattle.rams_model.specs.declared.Channel.{Channel}
use Rattle.client_table.specs.{due_left}
use Rattle.tick_core.proofs.DueClients.{due_forgotten, forgotten_start, forgotten_turn, forgotten_end}
use Rattle.tick_core.proofs.forgetting.forget_clients.Goals as goal

pub loop-client-init : goal.loop-client-init
loop-client-init c =
    let s = c.args.config.now in
    let ws = c.args.queue.now in
    let t = c.args.table.now in
    let limit = ap (λ (x : Channel). x.idle) c.channel.ensures.value in
    record {
      can_next = tt;
      is_finite = tt;
      draft = forgotten_start s ws t _ _ c.args.draft.now _ (ap due_left c.into_iter-client-iterator.ensures.into_iter_gives)
          (due_forgotten s ws t c.channel.ensures.lawful.idle_least (due_left c.due_next-client-items.result) (λ client e known soon. c.due_next-client-items.ensures.all client e known (soon ∙ sym limit)) c.args.draft.now
          c.due_next-client-items.ensures.rising c.requires);
    }

pub loop-client-preserved : goal.loop-client-preserved
loop-client-preserved c = record {
  can_next = tt;
  is_finite = tt;
  draft = forgotten_turn c.args.config.now c.args.queue.now c.args.table.now c.in-Some.client (due_left c.loop-client.client-iterator) (due_left c.next.new.self) c.loop-client.draft c.forget_client.new.draft _ c.in-Some.ensures.steps
      c.in_ok-forget_client.ensures c.loop-client.invariant.draft;
}

pub returns : goal.returns
returns c = forgotten_end c.args.config.now c.args.queue.now c.args.table.now (due_left c.loop-client.client-iterator) c.loop-client.draft _ c.in-None.ensures.steps.0 c.loop-client.invariant.draft
