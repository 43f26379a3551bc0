use Rattle.std.proofs.Common.{◌≡◌, ℕ, List, length, subst, sym}
use Rattle.client_table.specs.{entry_at, joined}
use Rattle.client_table.proofs.Found.{length-joined}
use Rattle.client_table.proofs.ChangedAll.{shown_found}
use Rattle.client_table.proofs.table.Table.iter.Goals as goal

pub invariant_of-result : goal.invariant_of-result
invariant_of-result c =
    let at = entry_at c.self.inside.tick c.self.inside.entries.slots in
    record { entries_of_all = subst (λ (es : List (ℕ × ℕ)). length (joined at es) ≡ length es) (sym c.iter.ensures.rest) (length-joined at c.self.inside.index.entries c.self.invariant.entries) }

pub returns-clause-found : goal.returns-clause-found
returns-clause-found c =
    let at = entry_at c.self.inside.tick c.self.inside.entries.slots in
    shown_found c.self.inside.most at c.self.inside.index.entries _ c.self.view_is c.self.invariant.entries c.self.invariant.rising
