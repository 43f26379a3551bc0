use Rattle.std.proofs.Common.{length, ap, sym}
use Rattle.std.proofs.lemmas.Result.{err_from_is_err_and}
use Rattle.takeover.proofs.standby.Pieces.{first_cut, first_length, first_none}
use Rattle.takeover.proofs.standby.standby.Standby.take.Goals as goal

pub returns-in_err-end_line-in-Some-clause-takes : goal.returns-in_err-end_line-in-Some-clause-takes
returns-in_err-end_line-in-Some-clause-takes c = λ bytes read.
    let p = err_from_is_err_and c.from_residual.result c.from_residual.ensures.1 in
    let first = first_cut c.args.piece.now c.in-Some.at c.in-Some.ensures in
    rw (p.1, p.2, first) (c.in_err-end_line-in-Some.ensures.takes bytes read)

pub returns-in_err-extend-in-None-clause-takes : goal.returns-in_err-extend-in-None-clause-takes
returns-in_err-extend-in-None-clause-takes c = λ bytes read.
    let p = err_from_is_err_and c.from_residual-in_err-extend-in-None.result c.from_residual-in_err-extend-in-None.ensures.1 in
    let first = first_none c.args.piece.now c.in-None.ensures in
    rw (p.1, p.2, first) (c.in_err-extend-in-None.ensures.takes bytes read)

pub returns-in_ok-end_line-in-Some-clause-takes : goal.returns-in_ok-end_line-in-Some-clause-takes
returns-in_ok-end_line-in-Some-clause-takes c = λ bytes read.
    rw (first_cut c.args.piece.now c.in-Some.at c.in-Some.ensures) (c.in_ok-end_line-in-Some.ensures.takes bytes read)

pub returns-in_ok-end_line-in-Some-clause-count : goal.returns-in_ok-end_line-in-Some-clause-count
returns-in_ok-end_line-in-Some-clause-count c = first_length c.args.piece.now c.in-Some.at c.in-Some.ensures

pub returns-in_ok-extend-in-None-clause-takes : goal.returns-in_ok-extend-in-None-clause-takes
returns-in_ok-extend-in-None-clause-takes c = λ bytes read.
    rw (first_none c.args.piece.now c.in-None.ensures) (c.in_ok-extend-in-None.ensures.takes bytes read)

pub returns-in_ok-extend-in-None-clause-count : goal.returns-in_ok-extend-in-None-clause-count
returns-in_ok-extend-in-None-clause-count c = sym (ap length (first_none c.args.piece.now c.in-None.ensures))
