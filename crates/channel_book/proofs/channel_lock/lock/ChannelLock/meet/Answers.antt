use Rattle.std.proofs.Common.{sym, ap, ◌∙◌, subst, arith}
use Rattle.atomic_table.specs.Table.{Joins}
use Rattle.channel_book.specs.channel_lock.{Known, Guarded}
use Rattle.channel_book.specs.declared.channel_lock.turns.View.{View}
use Rattle.channel_book.specs.channel_lock.Turns.{blank, Turns}
use Rattle.channel_book.specs.channel_lock.Steps.{Mine, told}
use Rattle.channel_book.proofs.channel_lock.Meeting.{notes, tells, learns}
use Rattle.channel_book.proofs.channel_lock.lock.ChannelLock.meet.Goals as goal

pub split_seat-note-requires : goal.split_seat-note-requires
split_seat-note-requires c =
    let table = c.self.inside.table.shared in
    let other = c.other.inside.seat in (
      ap (λ (k : Known). k.lock) c.other.view_is ∙ (c.requires.made.1 ∙ sym (ap (λ (l : Guarded). l.lock) c.self.view_is)),
      omega (arith, c.self.invariant.words),
      notes table.key.config table.key.passes other.id other.me.0,
    )

pub join_seat-requires : goal.join_seat-requires
join_seat-requires c =
    let table = c.self.inside.table.shared in
    let seat = c.pass.inside.seat in
    let other = c.other.inside.seat.me.0 in
    let note = c.split_seat-note.result in
    let is = c.split_seat-note.ensures in (
      ap (λ (k : Known). k.lock) c.pass.view_is ∙ (c.requires.made.0 ∙ sym (ap (λ (l : Guarded). l.lock) c.self.view_is)),
      is.3 ∙ (ap (λ (k : Known). k.lock) c.other.view_is ∙ (c.requires.made.1 ∙ sym (ap (λ (l : Guarded). l.lock) c.self.view_is))),
      ap (λ (m : Mine). m.1) is.4,
      omega (arith, c.self.invariant.words),
      subst (λ (n : View). Joins (Turns table.key.config table.key.passes) seat.id seat.me.0 note.id n (told seat.me.0 n) blank) (sym (ap (λ (m : Mine). m.0) is.4))
          (tells table.key.config table.key.passes seat.id note.id seat.me.0 other.config other.log),
    )

pub load-pass-inside-requires : goal.load-pass-inside-requires
load-pass-inside-requires c =
    let table = c.self.inside.table.shared in
    let joined = c.join_seat.new.seat in (
      c.join_seat.ensures.0 ∙ (ap (λ (k : Known). k.lock) c.pass.view_is ∙ (c.requires.made.0 ∙ sym (ap (λ (l : Guarded). l.lock) c.self.view_is))),
      omega (arith, c.self.invariant.words),
      learns table.key.config table.key.passes table.table_id.slots joined.id joined.me (ap (λ (m : Mine). m.0.taken) c.join_seat.ensures.2 ∙ ap (λ (m : Mine). m.0.taken) c.pass.invariant.seat_is),
    )
