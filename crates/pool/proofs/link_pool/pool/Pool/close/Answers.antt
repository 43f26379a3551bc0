use Rattle.std.proofs.Common.{ℕ, List, ap, ◌∙◌, subst, arith}
use Rattle.std.specs.List.Sorted.{IsPermutation}
use Rattle.pool.specs.link_pool.{Granter, Claimer, claims_given}
use Rattle.pool.specs.link_pool.Steps.{Mine}
use Rattle.pool.specs.link_pool.Parties.{HasGathered}
use Rattle.pool.proofs.link_pool.Closing.{closed}
use Rattle.pool.proofs.link_pool.pool.Pool.close.Goals as goal

pub returns-clause-granted : goal.returns-clause-granted
returns-clause-granted c =
    let table = c.self.inside.table.shared in
    let takers = c.args.takers.items in
    let seat = c.gather-seat.result in
    let total = ap (λ (m : Mine). m.0.granted) c.ticker.invariant.seat_is ∙ ap (λ (k : Granter). k.total) c.ticker.view_is in
    let whole = closed table.key seat.id takers c.args.ticker.total _ _ seat.me c.word-granted.result c.in-Ok.claims.items (omega (arith, c.if-given-self.false, c.len-given.ensures, c.self.invariant.count))
    (subst (λ (n : ℕ). HasGathered n takers seat.me) total c.gather-seat.ensures.gathered) c.gather-seat.ensures.own c.close_with-closed.ensures.values.2 c.word-granted.ensures
    (subst (λ (l : List Claimer). IsPermutation (claims_given l) c.in-Ok.claims.items) c.deref.ensures.value c.in-Ok.ensures.all) c.in-Ok.ensures.rising in
    whole.word_is

pub returns-clause-fills : goal.returns-clause-fills
returns-clause-fills c =
    let table = c.self.inside.table.shared in
    let takers = c.args.takers.items in
    let seat = c.gather-seat.result in
    let total = ap (λ (m : Mine). m.0.granted) c.ticker.invariant.seat_is ∙ ap (λ (k : Granter). k.total) c.ticker.view_is in
    let whole = closed table.key seat.id takers c.args.ticker.total _ _ seat.me c.word-granted.result c.in-Ok.claims.items (omega (arith, c.if-given-self.false, c.len-given.ensures, c.self.invariant.count))
    (subst (λ (n : ℕ). HasGathered n takers seat.me) total c.gather-seat.ensures.gathered) c.gather-seat.ensures.own c.close_with-closed.ensures.values.2 c.word-granted.ensures
    (subst (λ (l : List Claimer). IsPermutation (claims_given l) c.in-Ok.claims.items) c.deref.ensures.value c.in-Ok.ensures.all) c.in-Ok.ensures.rising in
    whole.fills

pub returns-clause-most : goal.returns-clause-most
returns-clause-most c =
    let table = c.self.inside.table.shared in
    let takers = c.args.takers.items in
    let seat = c.gather-seat.result in
    let total = ap (λ (m : Mine). m.0.granted) c.ticker.invariant.seat_is ∙ ap (λ (k : Granter). k.total) c.ticker.view_is in
    let whole = closed table.key seat.id takers c.args.ticker.total _ _ seat.me c.word-granted.result c.in-Ok.claims.items (omega (arith, c.if-given-self.false, c.len-given.ensures, c.self.invariant.count))
    (subst (λ (n : ℕ). HasGathered n takers seat.me) total c.gather-seat.ensures.gathered) c.gather-seat.ensures.own c.close_with-closed.ensures.values.2 c.word-granted.ensures
    (subst (λ (l : List Claimer). IsPermutation (claims_given l) c.in-Ok.claims.items) c.deref.ensures.value c.in-Ok.ensures.all) c.in-Ok.ensures.rising in
    whole.most

pub returns-clause-own : goal.returns-clause-own
returns-clause-own c =
    let table = c.self.inside.table.shared in
    let takers = c.args.takers.items in
    let seat = c.gather-seat.result in
    let total = ap (λ (m : Mine). m.0.granted) c.ticker.invariant.seat_is ∙ ap (λ (k : Granter). k.total) c.ticker.view_is in
    let whole = closed table.key seat.id takers c.args.ticker.total _ _ seat.me c.word-granted.result c.in-Ok.claims.items (omega (arith, c.if-given-self.false, c.len-given.ensures, c.self.invariant.count))
    (subst (λ (n : ℕ). HasGathered n takers seat.me) total c.gather-seat.ensures.gathered) c.gather-seat.ensures.own c.close_with-closed.ensures.values.2 c.word-granted.ensures
    (subst (λ (l : List Claimer). IsPermutation (claims_given l) c.in-Ok.claims.items) c.deref.ensures.value c.in-Ok.ensures.all) c.in-Ok.ensures.rising in
    whole.own

pub returns-clause-others : goal.returns-clause-others
returns-clause-others c =
    let table = c.self.inside.table.shared in
    let takers = c.args.takers.items in
    let seat = c.gather-seat.result in
    let total = ap (λ (m : Mine). m.0.granted) c.ticker.invariant.seat_is ∙ ap (λ (k : Granter). k.total) c.ticker.view_is in
    let whole = closed table.key seat.id takers c.args.ticker.total _ _ seat.me c.word-granted.result c.in-Ok.claims.items (omega (arith, c.if-given-self.false, c.len-given.ensures, c.self.invariant.count))
    (subst (λ (n : ℕ). HasGathered n takers seat.me) total c.gather-seat.ensures.gathered) c.gather-seat.ensures.own c.close_with-closed.ensures.values.2 c.word-granted.ensures
    (subst (λ (l : List Claimer). IsPermutation (claims_given l) c.in-Ok.claims.items) c.deref.ensures.value c.in-Ok.ensures.all) c.in-Ok.ensures.rising in
    whole.others

pub returns-clause-paid : goal.returns-clause-paid
returns-clause-paid c =
    let table = c.self.inside.table.shared in
    let takers = c.args.takers.items in
    let seat = c.gather-seat.result in
    let total = ap (λ (m : Mine). m.0.granted) c.ticker.invariant.seat_is ∙ ap (λ (k : Granter). k.total) c.ticker.view_is in
    let whole = closed table.key seat.id takers c.args.ticker.total _ _ seat.me c.word-granted.result c.in-Ok.claims.items (omega (arith, c.if-given-self.false, c.len-given.ensures, c.self.invariant.count))
    (subst (λ (n : ℕ). HasGathered n takers seat.me) total c.gather-seat.ensures.gathered) c.gather-seat.ensures.own c.close_with-closed.ensures.values.2 c.word-granted.ensures
    (subst (λ (l : List Claimer). IsPermutation (claims_given l) c.in-Ok.claims.items) c.deref.ensures.value c.in-Ok.ensures.all) c.in-Ok.ensures.rising in
    whole.paid
