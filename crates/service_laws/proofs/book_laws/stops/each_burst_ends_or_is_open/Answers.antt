use Rattle.std.proofs.Common.{◌≡◌, true, ◌⊎◌, ap, sym, ◌∙◌, subst}
use Rattle.std.specs.Prelude.{is_some}
use Rattle.std.proofs.lemmas.Bool.{true≢false}
use Rattle.rams_model.specs.Service.{History, has_open}
use Rattle.service_laws.specs.book_laws.Stops.{HasEnded}
use Rattle.rams_model.proofs.Legal.{IsLegal}
use Rattle.service_laws.proofs.book_laws.Moments.{legal_moment}
use Rattle.rams_model.proofs.Granting.{accept_grants}
use Rattle.service_laws.proofs.book_laws.Stopping.{over, ended_or_open}
use Rattle.service_laws.proofs.book_laws.Causes.{cause_is_true}
use Rattle.service_laws.proofs.book_laws.stops.each_burst_ends_or_is_open.Goals as goal

pub returns-clause-ends : goal.returns-clause-ends
returns-clause-ends c s history m client a =
    let P = λ (h : History). (HasEnded client a.since ⊎ (has_open s client h ≡ true)) × (HasEnded client a.since → has_open s client h ≡ true → ⊥) in
    subst P (sym a.splits) (ended_or_open s client a.first a.rate a.join a.packet a.since a.before a.last)

pub returns-clause-causes : goal.returns-clause-causes
returns-clause-causes c s client cause packet before m = let l = legal_moment s _ m in cause_is_true s client cause before l.1 l.0

pub returns-clause-apart : goal.returns-clause-apart
returns-clause-apart c s client first rate join packet before m e =
    let none = (accept_grants s before client first rate join (legal_moment s _ m).0).2.none in
    true≢false (sym e ∙ ap (λ o. is_some o) none)

pub returns-clause-over : goal.returns-clause-over
returns-clause-over c s history m client a cause end =
    over s client a.first a.rate a.join a.packet a.since a.before a.last (subst (IsLegal s) a.splits (legal_moment s history m)) cause end
