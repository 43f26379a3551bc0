use Rattle.std.proofs.Common.{refl, subst}
use Rattle.rams_model.specs.Formats.{rams_info}
use Rattle.rams_model.specs.Service.{sequence, accept_info, order_of, datagram}
use Rattle.rams_model.proofs.Legal.{IsLegal}
use Rattle.service_laws.proofs.book_laws.Moments.{legal_moment}
use Rattle.service_laws.proofs.book_laws.FreshBursts.{Numbered, numbered_moment}
use Rattle.service_laws.proofs.book_laws.Sequences.{first_sending, counts}
use Rattle.service_laws.proofs.book_laws.numbers.the_first_sending_has_the_number_that_the_accept_named.Goals as goal

pub returns-clause-named : goal.returns-clause-named
unfolding rams_info datagram order_of
returns-clause-named c s history m client a =
    let legal = subst (IsLegal s) a.splits (legal_moment s history m) in
    record {
      info = accept_info s (sequence s client a.before) a.rate a.join;
      order = refl;
      first = refl;
      written = refl;
      sent = first_sending s client a.first a.rate a.join a.packet a.since a.before a.last legal (subst (Numbered s client) a.splits (numbered_moment s client history m));
      followed = λ stays. (counts s client a.first a.rate a.join a.packet a.since a.before stays legal).sequenced;
    }

pub returns-clause-repairs : goal.returns-clause-repairs
returns-clause-repairs c s client n number packet before b m e = (numbered_moment s client _ m).0 b refl e
