-- The notes and orders of the newest event, in front of later ones.
use Rattle.std.proofs.Common.{◌≡◌, List, [], ◌∷◌, ◌++◌, refl, ap, sym, ◌∙◌, append_assoc, append-nil}
use Rattle.std.specs.Prelude.{option_to_list}
use Rattle.rams_model.specs.declared.{answer.Order.Order, note.Note.Note}
use Rattle.rams_model.specs.Service.{Settings, began, told, noted, History, order_of, newest_notes, newest_orders}

pub notes_behind : (history : History) (later : List Note) → newest_notes history later ≡ newest_notes history [] ++ later
unfolding newest_notes
notes_behind [] later = refl
notes_behind (began heard ∷ history) later = refl
notes_behind (told client message ∷ history) later = notes_behind history later
notes_behind (noted n packet ∷ history) later =
    notes_behind history (n ∷ later) ∙ sym (append_assoc (newest_notes history []) (n ∷ []) later) ∙ ap (λ (ns : List Note). ns ++ later) (sym (notes_behind history (n ∷ [])))

pub orders_behind : (s : Settings) (history : History) (later : List Order) → newest_orders s history later ≡ newest_orders s history [] ++ later
unfolding newest_orders
orders_behind s [] later = refl
orders_behind s (began heard ∷ history) later = refl
orders_behind s (told client message ∷ history) later = orders_behind s history later
orders_behind s (noted n packet ∷ history) later =
    let made = option_to_list (order_of s history n packet) in
    orders_behind s history (made ++ later) ∙ sym (append_assoc (newest_orders s history []) made later)
    ∙ ap (λ (os : List Order). os ++ later)
    (sym (orders_behind s history made) ∙ ap (newest_orders s history) (sym (append-nil made)))
