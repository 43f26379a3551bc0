use Rattle.std.proofs.Common.{◌≡◌, IsSomeAnd, IfSome, sym, ◌∙◌, subst}
use Rattle.std.specs.Prelude.{filter}
use Rattle.client_table.specs.declared.entry.Entry.{Entry}
use Rattle.client_table.specs.{entry_at, is_open_at, IsFree, AreReady, AreSlotsChanged, IsBurstChanged, times_at}
use Rattle.client_table.proofs.Changed.{entries_same}
use Rattle.client_table.proofs.ChangedAll.{shown_ready, shown_changed, still_joined}
use Rattle.client_table.proofs.Opened.{ready_open, closed_free, all_changed, same_open, bursts_keep}
use Rattle.client_table.proofs.InTime.{in_time_same}
use Rattle.client_table.proofs.table.Table.change_bursts.Given.{F-pre, F-post}
use Rattle.client_table.proofs.table.Table.change_bursts.Goals as goal

pub change_each-requires : goal.change_each-requires
change_each-requires g c =
    let at = entry_at c.self.inside.tick c.self.inside.entries.slots in
    let es = c.self.inside.index.entries in
    let same : c.deref.result.now ≡ filter (is_open_at at) es = c.deref.ensures.value ∙ c.self.invariant.opened in
    subst (AreReady (λ _ e. IsSomeAnd e.burst (F-pre g c.args.change)) at) (sym same)
    (ready_open (F-pre g c.args.change) at es
    (shown_ready c.self.inside.most at es _ c.self.view_is c.self.invariant.entries (λ _ e. IfSome e.burst (F-pre g c.args.change)) c.self.invariant.rising c.requires))

pub invariant_of-self : goal.invariant_of-self
invariant_of-self g c =
    let tick = c.self.inside.tick in
    let slots = c.self.inside.entries.slots in
    let es = c.self.inside.index.entries in
    let at = entry_at tick slots in
    let now = entry_at tick c.change_each.new.entries.slots in
    let R : Entry → Entry → Type 0 = IsBurstChanged (F-post g c.args.change) in
    let same : c.deref.result.now ≡ filter (is_open_at at) es = c.deref.ensures.value ∙ c.self.invariant.opened in
    let changed : AreSlotsChanged (λ _. R) at now es =
    all_changed (F-post g c.args.change) at now
    (λ key closed. entries_same tick slots c.change_each.new.entries.slots key (c.change_each.ensures.others key (subst (IsFree key) (sym same) (closed_free at key closed es))))
    es c.self.invariant.entries (subst (AreSlotsChanged (λ _. R) at now) same c.change_each.ensures.changed) in
    record {
      told = c.self.invariant.told;
      rising = c.self.invariant.rising;
      entries = still_joined (λ _. R) at now es c.self.invariant.entries changed;
      few = c.self.invariant.few;
      small = c.self.invariant.small;
      opened = c.self.invariant.opened ∙ same_open R at now (bursts_keep (F-post g c.args.change)) es changed;
      room = c.self.invariant.room;
      times = in_time_same c.self.inside.due (times_at tick slots) (times_at tick c.change_each.new.entries.slots) es c.change_each.ensures.times c.self.invariant.times;
      later = c.self.invariant.later;
    }

pub returns : goal.returns
returns g c =
    let tick = c.self.inside.tick in
    let slots = c.self.inside.entries.slots in
    let es = c.self.inside.index.entries in
    let at = entry_at tick slots in
    let now = entry_at tick c.change_each.new.entries.slots in
    let R : Entry → Entry → Type 0 = IsBurstChanged (F-post g c.args.change) in
    let same : c.deref.result.now ≡ filter (is_open_at at) es = c.deref.ensures.value ∙ c.self.invariant.opened in
    let changed : AreSlotsChanged (λ _. R) at now es =
    all_changed (F-post g c.args.change) at now
    (λ key closed. entries_same tick slots c.change_each.new.entries.slots key (c.change_each.ensures.others key (subst (IsFree key) (sym same) (closed_free at key closed es))))
    es c.self.invariant.entries (subst (AreSlotsChanged (λ _. R) at now) same c.change_each.ensures.changed) in
    shown_changed c.self.inside.most at es _ c.self.view_is c.self.invariant.entries (λ _. R) now changed
