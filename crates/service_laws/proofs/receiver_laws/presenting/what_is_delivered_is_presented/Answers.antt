use Rattle.service_laws.proofs.receiver_laws.Delivered.{all_presented}
use Rattle.service_laws.proofs.receiver_laws.presenting.what_is_delivered_is_presented.Goals as goal

pub returns : goal.returns
returns c source turns f m fair first none each = all_presented source turns f m fair first none each
