use Rattle.std.proofs.Common.{[], arith}
use Rattle.std.proofs.lemmas.List.Elements.{All-nil}
use Rattle.trace_loop.specs.journal_book.{journal_of, behind, HasLine}
use Rattle.trace_loop.proofs.journal_book.Opened.{new_channels_are, journal_fits}
use Rattle.trace_loop.proofs.journal_book.laws.heads_open_new_channels.Goals as goal

pub returns-clause-new : goal.returns-clause-new
unfolding behind
returns-clause-new c head channels opens =
    let fit = journal_fits head channels [] (record { opens = opens; lines = All-nil HasLine; few = omega arith }) (c.traces_stay_within_the_link.ensures (journal_of head [])) in
    record { new = new_channels_are head channels opens (c.traces_are_served_by_their_lines.ensures (journal_of head [])); numbered = fit.numbered; apart = fit.apart }

pub returns-clause-apart : goal.returns-clause-apart
returns-clause-apart c head channels events is = (journal_fits head channels events is (c.traces_stay_within_the_link.ensures (journal_of head events))).apart
