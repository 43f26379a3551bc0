-- The book is out, and grows by calls of the list.
use Rattle.std.proofs.Common.{◌≡◌, ℕ, List, ◌∷◌, Some, sym, ap, ◌∙◌}
use Rattle.atomic_table.specs.Table.{rest}
use Rattle.channel_book.specs.{Kept}
use Rattle.channel_book.specs.channel_lock.Turns.{kept}
use Rattle.channel_book.proofs.channel_lock.Taking.{grew_either, first_of}
use Rattle.channel_book.proofs.channel_lock.work.work_all.Goals as goal

pub slot_mut-book-requires : goal.slot_mut-book-requires
slot_mut-book-requires c =
    let slot = c.requires.turn.2.slot in
    let book = kept c.requires.turn.0 c.requires.turn.1 in
    (c.requires.table.0, (book, slot ∙ ap (λ (others : List (ℕ × Kept)). (0, book) ∷ others) (sym (ap rest slot))))

pub pass_on-requires-clause-grew : goal.pass_on-requires-clause-grew
pass_on-requires-clause-grew c =
    let v = c.args.seat.now.me.0 in
    let has = c.requires.turn.2 in
    let out = kept c.requires.turn.0 c.requires.turn.1 in
    let before = c.slot_mut-book.result.now in
    let book = c.take_all-answers.new.self in
    let told = c.take_all-answers.ensures in
    let same : out ≡ before = ap (first_of out) (sym has.slot ∙ c.slot_mut-book.ensures.value) in
    let settings : v.config ≡ Some book.settings = has.settings ∙ (ap (λ (k : Kept). Some k.settings) same ∙ ap Some (sym told.settings)) in (
      book,
      ap (λ (others : List (ℕ × Kept)). (0, book) ∷ others) (ap rest has.slot),
      has.taken,
      grew_either c.args.list v book c.args.events.items has.owns settings c.entries-2.ensures.legal c.requires.size (λ a. a.items) before.entries
          (has.log_is ∙ ap (λ (k : Kept). k.entries) same) c.take_all-answers.result told.told,
    )
