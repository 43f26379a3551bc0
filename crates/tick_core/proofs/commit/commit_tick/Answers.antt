use Rattle.std.proofs.Common.{refl, ap, ◌∙◌}
use Rattle.rams_model.specs.declared.Channel.{Channel}
use Rattle.tick_draft.specs.{committing}
use Rattle.tick_core.proofs.Safe.{small_parts}
use Rattle.tick_core.proofs.Closing.{flags_long, made_parts}
use Rattle.tick_core.proofs.Carrying.{plan_with, as_plan, steps_carry, may_do_steps}
use Rattle.tick_core.proofs.commit.commit_tick.Goals as goal

pub begin_entries-requires : goal.begin_entries-requires
begin_entries-requires c = small_parts c.args.parts.now c.requires.work.0 c.requires.work.1

pub commit_steps-requires : goal.commit_steps-requires
commit_steps-requires c =
    let p = c.args.parts.now in
    let events = c.requires.work.0 in
    let work = c.args.work.now in
    let depth_is = ap (λ (x : Channel). x.depth) c.channel.ensures.value in
    may_do_steps p events (plan_with p events work) _ c.deref.result.now c.begin_entries.new.table c.open_tick.new.self c.requires.work.1 (as_plan p events work c.requires.work.2) depth_is c.deref.ensures.value c.begin_entries.ensures
    c.open_tick.ensures

pub settle-requires : goal.settle-requires
settle-requires c =
    let p = c.args.parts.now in
    let events = c.requires.work.0 in
    let work = c.args.work.now in
    record { one_each = flags_long p events (plan_with p events work) c.deref-2.result.now c.requires.work.1 (as_plan p events work c.requires.work.2) c.deref-2.ensures.value }

pub returns : goal.returns
returns c = record {
  stands = λ events stands is.
      let p = c.args.parts.now in
      let plan = plan_with p events c.args.work.now in
      let planned = as_plan p events c.args.work.now is in
      let depth_is = ap (λ (x : Channel). x.depth) c.channel.ensures.value in
      let carried = c.commit_steps.ensures ∙ steps_carry p events plan _ c.deref.result.now (committing c.begin_entries.new.table c.open_tick.new.self) stands planned depth_is c.deref.ensures.value in
      made_parts p events plan plan.answer.notes c.deref-2.result.now c.begin_entries.new.table c.commit_steps.new.table c.end_entries.new.table c.open_tick.new.self c.commit_steps.new.budget
      c.settle.new.self _ stands planned refl c.deref-2.ensures.value depth_is c.begin_entries.ensures c.open_tick.ensures carried c.end_entries.ensures c.settle.ensures;
  settings = refl;
}
