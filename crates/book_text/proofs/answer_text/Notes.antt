-- The texts of the notes of an answer, from one on.
use Rattle.std.proofs.Common.{◌≡◌, ℕ, ◌+◌, ◌<◌, ◌≤◌, List, [], ◌++◌, length, get_or, drop, sym, ap, ◌∙◌}
use Rattle.std.proofs.lemmas.List.{drop_more, drop_all}
use Rattle.rams_model.specs.declared.{Order.Order, Note.Note}
use Rattle.rams_model.specs.Service.{Settings}
use Rattle.rams_model.specs.Texts.{order_count, notes_text}
use Rattle.book_text.specs.answer_text.{entry_text}

-- one note more
pub notes_text-more : (s : Settings) (event : ℕ) (notes : List Note) (orders : List Order) (i : ℕ) (d : Note) → i < length notes
    → notes_text s event (drop i notes) orders ≡ entry_text s event (get_or notes i d) orders ++ notes_text s event (drop (i + 1) notes) (drop (order_count (get_or notes i d)) orders)
unfolding notes_text
notes_text-more s event notes orders i d below = ap (λ (l : List Note). notes_text s event l orders) (drop_more notes i d below)

-- the same, where the orders behind it are known under another name
pub notes_text-step : (s : Settings) (event : ℕ) (notes : List Note) (orders rest : List Order) (i : ℕ) (d : Note) → i < length notes → rest ≡ drop (order_count (get_or notes i d)) orders
    → notes_text s event (drop i notes) orders ≡ entry_text s event (get_or notes i d) orders ++ notes_text s event (drop (i + 1) notes) rest
notes_text-step s event notes orders rest i d below e =
    notes_text-more s event notes orders i d below ∙ ap (λ (l : List Order). entry_text s event (get_or notes i d) orders ++ notes_text s event (drop (i + 1) notes) l) (sym e)

-- no note is left
pub notes_text-past : (s : Settings) (event : ℕ) (notes : List Note) (orders : List Order) (i : ℕ) → length notes ≤ i → notes_text s event (drop i notes) orders ≡ []
unfolding notes_text
notes_text-past s event notes orders i end = ap (λ (l : List Note). notes_text s event l orders) (drop_all i notes end)
