use Rattle.std.proofs.Common.{◌≡◌, ◌∙◌, sym, subst, true}
use Rattle.client_table.specs.{entry_at, has_pair}
use Rattle.client_table.proofs.InTime.{stands_next, known_client}
use Rattle.client_table.proofs.Shown.{shown_entry}
use Rattle.client_table.proofs.table.Table.due_next.Goals as goal

pub returns-in-Some-clause-all : goal.returns-in-Some-clause-all
returns-in-Some-clause-all c client e known soon =
    let due = c.self.inside.due in
    let at = entry_at c.self.inside.tick c.self.inside.entries.slots in
    let es = c.self.inside.index.entries in
    let told = c.in-Some.ensures in
    let stands = stands_next due client c.self.inside.tick c.args.idle e c.self.invariant.later told.0 told.1 soon c.self.inside.entries.slots es c.self.invariant.times
    (shown_entry c.self.inside.most at es _ c.self.view_is c.self.invariant.entries client ∙ known) in
    c.at.ensures.all client (subst (λ n. has_pair due n client ≡ true) (sym told.2) stands)

pub returns-in-None-clause-all : goal.returns-in-None-clause-all
returns-in-None-clause-all c client e known soon =
    let at = entry_at c.self.inside.tick c.self.inside.entries.slots in
    let es = c.self.inside.index.entries in
    known_client at client e es _ c.iter.ensures.rest (shown_entry c.self.inside.most at es _ c.self.view_is c.self.invariant.entries client ∙ known)
