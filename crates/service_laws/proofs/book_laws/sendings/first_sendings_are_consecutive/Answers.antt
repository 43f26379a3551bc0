use Rattle.std.proofs.Common.{false, ◌∷◌, ap, sym, ◌∙◌, subst}
use Rattle.std.specs.Prelude.{All, is_some}
use Rattle.rams_model.specs.declared.Note.TheVariants.{Burst}
use Rattle.rams_model.specs.Laws.{source, is_accept_of, is_end_of}
use Rattle.rams_model.specs.Service.{noted, History}
use Rattle.rams_model.proofs.Since.{stands_from, stands_to}
use Rattle.rams_model.proofs.LastAccept.{open_stands}
use Rattle.service_laws.specs.book_laws.{first_sendings, IsPacketOf}
use Rattle.rams_model.proofs.Legal.{IsLegal, legal_part}
use Rattle.service_laws.proofs.book_laws.Moments.{legal_moment}
use Rattle.service_laws.proofs.book_laws.SinceAccept.{fair_since}
use Rattle.service_laws.proofs.book_laws.SentSources.{sent_is_held, sent_is_of_source, all_of_source}
use Rattle.service_laws.proofs.book_laws.Stopping.{last_accept_of}
use Rattle.service_laws.proofs.book_laws.sendings.first_sendings_are_consecutive.Goals as goal

pub returns-clause-consecutive : goal.returns-clause-consecutive
returns-clause-consecutive c s history m client a =
    let l = subst (IsLegal s) a.splits (legal_moment s history m) in
    let P = λ (h : History). All (IsPacketOf (source s h)) (first_sendings client a.since) in
    ((fair_since s client a.first a.rate a.join a.packet a.since a.before a.last l).numbered, subst P (sym a.splits) (all_of_source s client a.since _ l))

pub returns-clause-held : goal.returns-clause-held
returns-clause-held c s client n number packet later before m =
    let i = noted (Burst client n number) packet in
    let sends = (legal_part s later (i ∷ before) (legal_moment s _ m)).0 in (
      sent_is_held s before client n number packet sends,
      sent_is_of_source s later before client n number packet sends,
    )

pub returns-clause-asked : goal.returns-clause-asked
returns-clause-asked c s client n number packet before m =
    let sends = (legal_moment s _ m).0 in
    stands_from (is_accept_of client) (is_end_of client) before (sym (open_stands s client before) ∙ ap (λ o. is_some o) sends.opened.is_open)

pub returns-clause-accepted : goal.returns-clause-accepted
returns-clause-accepted c history client w = last_accept_of client history (stands_to (is_accept_of client) (λ i. false) history w)
