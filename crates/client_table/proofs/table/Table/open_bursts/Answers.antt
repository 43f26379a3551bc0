use Rattle.std.proofs.Common.{◌≡◌, ℕ, List, length, ap, sym, ◌∙◌, subst}
use Rattle.std.specs.Prelude.{filter, is_some, Some}
use Rattle.std.proofs.lemmas.List.Elements.{All-filter}
use Rattle.std.specs.Slice.Iter.{iter_rest}
use Rattle.client_table.specs.{entry_at, entry_of, joined, is_open_at, opened_of}
use Rattle.client_table.proofs.Found.{length-joined}
use Rattle.client_table.proofs.Opened.{joined_kept, shown_open}
use Rattle.client_table.proofs.ChangedAll.{shown_found}
use Rattle.client_table.proofs.table.Table.open_bursts.Goals as goal

pub invariant_of-result : goal.invariant_of-result
invariant_of-result c =
    let at = entry_at c.self.inside.tick c.self.inside.entries.slots in
    let es = c.self.inside.index.entries in
    let all = joined_kept (is_open_at at) at es c.self.invariant.entries in
    let same : iter_rest c.iter.result ≡ filter (is_open_at at) es = c.iter.ensures.rest ∙ (c.deref.ensures.value ∙ c.self.invariant.opened) in
    record { entries_of_all = subst (λ (l : List (ℕ × ℕ)). length (joined at l) ≡ length l) (sym same) (length-joined at (filter (is_open_at at) es) all) }

pub returns-clause-clients : goal.returns-clause-clients
returns-clause-clients c =
    let at = entry_at c.self.inside.tick c.self.inside.entries.slots in
    let es = c.self.inside.index.entries in
    let same : iter_rest c.iter.result ≡ filter (is_open_at at) es = c.iter.ensures.rest ∙ (c.deref.ensures.value ∙ c.self.invariant.opened) in
    ap (joined at) same ∙ (shown_open at es c.self.invariant.entries ∙ ap opened_of c.self.view_is)

pub returns-clause-found : goal.returns-clause-found
returns-clause-found c =
    let at = entry_at c.self.inside.tick c.self.inside.entries.slots in
    let t = c.args.self.now in
    All-filter (λ e. is_some e.1.burst) (λ e. entry_of t e.0 ≡ Some e.1) t.known (shown_found c.self.inside.most at c.self.inside.index.entries t c.self.view_is c.self.invariant.entries c.self.invariant.rising)
