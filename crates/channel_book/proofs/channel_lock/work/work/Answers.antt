use Rattle.std.proofs.Common.{ℕ, List, ◌∷◌, sym, ap, ◌∙◌}
use Rattle.atomic_table.specs.Table.{rest}
use Rattle.channel_book.specs.{Kept}
use Rattle.channel_book.specs.channel_lock.Turns.{kept}
use Rattle.channel_book.proofs.channel_lock.work.work.Goals as goal

pub slot_mut-book-requires : goal.slot_mut-book-requires
slot_mut-book-requires c =
    let slot = c.requires.turn.2.slot in
    let book = kept c.requires.turn.0 c.requires.turn.1 in
    (c.requires.table.0, (book, slot ∙ ap (λ (others : List (ℕ × Kept)). (0, book) ∷ others) (sym (ap rest slot))))
