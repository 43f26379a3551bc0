-- The first of those that aren't passed has the number, or none has it.
use Rattle.std.proofs.Common.{◌≡◌, ◌<◌, true, false, length, refl, sym, arith}
use Rattle.receiver_core.proofs.Waiting.{read_at, here_or_nowhere, passes_here, other_gap, has_gap}
use Rattle.receiver_core.proofs.window.waits_at.Goals as goal

pub returns-in-Some-clause-waits : goal.returns-in-Some-clause-waits
returns-in-Some-clause-waits c =
    let waits = c.args.waits.now in
    let lt : c.args.passed < length waits.items = omega (arith, c.in-Some.ensures.variant.0 refl, waits.ok.0) in
    here_or_nowhere c.args.n c.in-Some.shown.now waits.items c.args.passed c.requires.rise c.requires.below lt (read_at _ waits.items c.args.passed c.in-Some.ensures.lookup lt)

pub returns-in-Some-clause-below : goal.returns-in-Some-clause-below
returns-in-Some-clause-below c =
    let waits = c.args.waits.now in
    let lt : c.args.passed < length waits.items = omega (arith, c.in-Some.ensures.variant.0 refl, waits.ok.0) in
    passes_here c.args.n c.in-Some.shown.now waits.items c.args.passed c.requires.rise c.requires.below lt (read_at _ waits.items c.args.passed c.in-Some.ensures.lookup lt)

pub returns-in-None-clause-waits : goal.returns-in-None-clause-waits
returns-in-None-clause-waits c =
    let waits = c.args.waits.now in
    sym (has_gap c.args.n waits.items c.args.passed (other_gap c.args.n waits.items c.args.passed c.requires.rise c.requires.below
    (λ lt same. let no : false ≡ true = c.in-None.ensures.variant.1 (omega (arith, lt, waits.ok.0)) in cc)))
