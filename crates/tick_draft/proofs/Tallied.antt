-- A count of a tick's steps stands for a draft.
use Rattle.std.proofs.Common.{◌≡◌, ℕ, ◌-◌, [], ◌∷◌, ◌++◌, append-nil, Option, Some, None, refl, ap, ◌∙◌}
use Rattle.std.specs.Prelude.{option_map, option_to_list}
use Rattle.rams_model.specs.declared.{Note.Note, Held.Held, Info.Info, Cause.Cause, Order.TheVariants.Rtx, Note.TheVariants.End as EndNote}
use Rattle.rams_model.specs.Formats.{wire_size}
use Rattle.tick_draft.specs.declared.{sendings.Sendings.Sendings}
use Rattle.tick_draft.specs.declared.step.Step.TheVariants.{Sent, End}
use Rattle.tick_draft.specs.{Drafted, new_draft, with_packet, with_end, told_end, sending_of, AreBoth, Counted, IsCountOf}
use Rattle.tick_draft.proofs.Stepping.{none_yet, as_made, sent, ended}

pub counts_none : (c : Counted) (left : ℕ) → c.steps ≡ [] → c.left ≡ left → IsCountOf c (new_draft left)
counts_none c left none is = record { left_is = is; in_step = as_made [] c.steps [] [] [] [] none refl refl none_yet }

-- one note more, which sends a packet
pub counts_sent : (c new : Counted) (d : Drafted) (note : Note) (client seq : ℕ) (h : Held) (x : Sendings) → IsCountOf c d → sending_of (wire_size h.packet) note ≡ Some x → AreBoth c.steps (Sent x ∷ []) new.steps
    → new.left ≡ c.left - h.wire → IsCountOf new (with_packet d note client seq h)
counts_sent c new d note client seq h x is of both left = record {
  left_is = left ∙ ap (λ (k : ℕ). k - h.wire) is.left_is;
  in_step = sent c.steps new.steps d.notes (d.notes ++ note ∷ []) d.orders (d.orders ++ Rtx client h.n seq h.packet ∷ []) note client h.n seq h.packet x is.in_step of both refl refl;
}

-- the end of a burst, where there is a cause
pub counts_end : (c new : Counted) (d : Drafted) (client : ℕ) (last : Info) (cause : Option Cause) → IsCountOf c d → new.steps ≡ c.steps ++ option_to_list (option_map (λ _. End client) cause) → new.left ≡ c.left
    → IsCountOf new (with_end d client last cause)
counts_end c new d client last None is steps left = record { left_is = left ∙ is.left_is; in_step = as_made c.steps new.steps d.notes d.notes d.orders d.orders (steps ∙ append-nil c.steps) refl refl is.in_step }
counts_end c new d client last (Some cause) is steps left = record {
  left_is = left ∙ is.left_is;
  in_step = ended c.steps new.steps d.notes (d.notes ++ EndNote client cause ∷ []) d.orders (d.orders ++ option_to_list (told_end client cause last)) client cause last is.in_step steps refl refl;
}
