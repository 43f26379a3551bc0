-- The entry is added, and the book replays with it.
use Rattle.std.proofs.Common.{[], ◌∷◌, ◌++◌, List, length, sym, ap, ◌∙◌, subst, arith}
use Rattle.channel_book.specs.declared.entry.Entry.{Entry}
use Rattle.channel_book.specs.{Kept, entry, events_behind, Replays}
use Rattle.channel_book.proofs.Histories.{as_many_behind}
use Rattle.channel_book.proofs.Stepping.{step_replays}
use Rattle.channel_book.proofs.book.Book.take.Goals as goal

pub invariant_of-self-2 : goal.invariant_of-self-2
invariant_of-self-2 c =
    let old = c.self.inside.entries.items in
    let twice = c.in_ok-twice.twice in
    let added = entry c.args.list c.args.event twice.kept in
    let t = c.in_ok-twice.ensures.stands (events_behind [] old) c.self.invariant.stands in
    let items = c.push_reserved.ensures.items ∙ ap (λ (l : List Entry). l ++ added ∷ []) c.in_ok-reserve.ensures.items in
    subst (Replays c.answer_twice.new.core) (sym items)
    (step_replays c.self.inside.core c.answer_twice.new.core old c.args.list c.args.event twice.kept twice.given c.self.invariant t.0 t.1
    c.in_ok-twice.ensures.settings)

pub answer_twice-requires : goal.answer_twice-requires
answer_twice-requires c =
    let old = c.self.inside.entries.items in
    record { few = (events_behind [] old, c.self.invariant.stands, omega (arith, as_many_behind [] old, ap (λ (v : Kept). length v.entries) c.self.view_is, c.requires.few)) }

pub returns-clause-legal : goal.returns-clause-legal
returns-clause-legal c = (invariant_of-self-2 c).legal
