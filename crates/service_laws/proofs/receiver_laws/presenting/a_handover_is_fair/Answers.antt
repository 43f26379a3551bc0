-- Each delivery by itself; the rest is computed.
use Rattle.std.proofs.Common.{◌∷◌, [], refl, arith}
use Rattle.rams_model.specs.Receiver.{with_piece, without_piece, after_told, after_media, after_shown, reception, shown, source_first}
use Rattle.service_laws.specs.receiver_laws.Fair.{IsOf}
use Rattle.service_laws.specs.receiver_laws.Worked.{source, held, AHandoverIsFair}
use Rattle.service_laws.proofs.receiver_laws.presenting.a_handover_is_fair.Goals as goal

-- each packet is the source's
of_9 : IsOf source 196617 (9 ∷ [])
of_9 = (held 196617 (9 ∷ []), (0, omega arith, refl), refl, refl)

of_10 : IsOf source 196618 (10 ∷ [])
of_10 = (held 196618 (10 ∷ []), (1, omega arith, refl), refl, refl)

of_11 : IsOf source 196619 (11 ∷ [])
of_11 = (held 196619 (11 ∷ []), (2, omega arith, refl), refl, refl)

of_12 : IsOf source 196620 (12 ∷ [])
of_12 = (held 196620 (12 ∷ []), (3, omega arith, refl), refl, refl)

fair : AHandoverIsFair
unfolding with_piece without_piece after_told after_media after_shown reception shown source_first
fair = (
  (omega arith, (omega arith, (omega arith, (omega arith, tt)))),
  (
    (refl, omega arith, of_10, (omega arith, omega arith)),
    ((refl, omega arith, of_10, (omega arith, omega arith)), ((refl, of_12, (omega arith, omega arith)), ((refl, omega arith, of_11, tt), ((refl, of_9, tt), tt)))),
  ),
  refl,
  refl,
  refl,
)

pub returns : goal.returns
returns c = fair
