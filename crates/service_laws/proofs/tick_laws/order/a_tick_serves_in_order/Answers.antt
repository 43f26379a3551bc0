use Rattle.service_laws.proofs.tick_laws.Orders.{bursts_rise, repairs_as_asked}
use Rattle.service_laws.proofs.tick_laws.order.a_tick_serves_in_order.Goals as goal

pub returns-clause-bursts : goal.returns-clause-bursts
returns-clause-bursts c = bursts_rise

pub returns-clause-repairs : goal.returns-clause-repairs
returns-clause-repairs c = repairs_as_asked
