use Rattle.std.proofs.Common.{sym, subst}
use Rattle.std.specs.Ordering.{nat_cmp}
use Rattle.std.specs.List.Sorted.{IsStrictlySortedBy}
use Rattle.std.proofs.lemmas.Result.{IfOk-weaker}
use Rattle.rams_model.specs.Service.{history_of}
use Rattle.channel_parts.proofs.Facts.{known_clients_rise}
use Rattle.tick_core.proofs.Safe.{in_order, in_time}
use Rattle.tick_core.proofs.Made.{work_for}
use Rattle.tick_core.proofs.plan.plan_work.Goals as goal

pub work_of-requires-clause-held : goal.work_of-requires-clause-held
work_of-requires-clause-held c = in_order c.args.parts.now c.requires.stands.0 c.requires.stands.1

pub work_of-requires-clause-small : goal.work_of-requires-clause-small
work_of-requires-clause-small c = in_time c.args.parts.now c.requires.stands.0 c.requires.stands.1

pub work_of-requires-clause-rising : goal.work_of-requires-clause-rising
work_of-requires-clause-rising c =
    subst (IsStrictlySortedBy nat_cmp) (sym c.requires.stands.1.table.clients) (known_clients_rise (history_of c.args.parts.now.config c.requires.stands.0))

pub returns : goal.returns
returns c = record { stands = λ events stands. IfOk-weaker c.work_of.result _ _ (λ work is. work_for c.args.parts.now events work stands is) c.work_of.ensures }
