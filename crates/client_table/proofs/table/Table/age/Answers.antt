use Rattle.std.proofs.Common.{◌≡◌, ◌+◌, ◌%◌, ◌∙◌}
use Rattle.client_table.specs.{entry_at, aged, AreSlotsChanged}
use Rattle.client_table.proofs.ChangedAll.{shown_changed, still_joined}
use Rattle.client_table.proofs.Opened.{same_open}
use Rattle.client_table.proofs.Bounded.{slots_aged, aged_keeps}
use Rattle.client_table.proofs.InTime.{in_time_aged, changed_shown}
use Rattle.client_table.proofs.table.Table.age.Goals as goal

pub look_again-requires-clause-joins : goal.look_again-requires-clause-joins
look_again-requires-clause-joins c =
    let tick = c.self.inside.tick in
    let slots = c.self.inside.entries.slots in
    let es = c.self.inside.index.entries in
    still_joined (λ _ e d. d ≡ aged e) (entry_at tick slots) (entry_at ((tick + 1) % 4294967296) slots) es c.self.invariant.entries (slots_aged tick slots es c.self.invariant.entries)

pub look_again-requires-clause-times : goal.look_again-requires-clause-times
look_again-requires-clause-times c = in_time_aged c.self.inside.tick c.self.inside.entries.slots c.self.inside.index.entries c.self.inside.due c.go_on.new.self c.go_on.ensures c.self.invariant.times

pub invariant_of-self : goal.invariant_of-self
invariant_of-self c =
    let tick = c.self.inside.tick in
    let slots = c.self.inside.entries.slots in
    let es = c.self.inside.index.entries in
    let at = entry_at tick slots in
    let mid = entry_at ((tick + 1) % 4294967296) slots in
    let now = entry_at ((tick + 1) % 4294967296) c.look_again.new.entries.slots in
    let changed : AreSlotsChanged (λ _ e d. d ≡ aged e) at now es = changed_shown (λ _ e d. d ≡ aged e) at mid now c.look_again.ensures.shown es (slots_aged tick slots es c.self.invariant.entries) in
    record {
      told = c.self.invariant.told;
      rising = c.self.invariant.rising;
      entries = still_joined (λ _ e d. d ≡ aged e) at now es c.self.invariant.entries changed;
      few = c.self.invariant.few;
      small = c.self.invariant.small;
      opened = c.self.invariant.opened ∙ same_open (λ e d. d ≡ aged e) at now aged_keeps es changed;
      room = c.self.invariant.room;
      times = c.look_again.ensures.times;
      later = c.look_again.ensures.later;
    }

pub returns : goal.returns
returns c =
    let tick = c.self.inside.tick in
    let slots = c.self.inside.entries.slots in
    let es = c.self.inside.index.entries in
    let at = entry_at tick slots in
    let mid = entry_at ((tick + 1) % 4294967296) slots in
    let now = entry_at ((tick + 1) % 4294967296) c.look_again.new.entries.slots in
    shown_changed c.self.inside.most at es _ c.self.view_is c.self.invariant.entries (λ _ e d. d ≡ aged e) now
    (changed_shown (λ _ e d. d ≡ aged e) at mid now c.look_again.ensures.shown es (slots_aged tick slots es c.self.invariant.entries))
