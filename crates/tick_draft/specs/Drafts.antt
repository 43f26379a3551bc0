-- The notes and orders of a tick so far.
use Rattle.std.specs.Prelude.{ℕ, ◌-◌, List, [], ◌∷◌, ◌++◌, Option, Some, None, option_map, option_to_list}
use Rattle.rams_model.specs.declared.{Order.Order, Held.Held, Info.Info, Cause.Cause, Note.Note, Order.TheVariants.Rtx}
use Rattle.rams_model.specs.declared.Note.TheVariants.{End}
use Rattle.rams_model.specs.Service.{end_info, info_order}

-- What a tick has noted so far, the orders of these notes, and what the channel's budget has left.
pub record Drafted : Type 0 where
  pub notes : List Note
  pub orders : List Order
  pub left : ℕ

-- nothing is noted yet
abbrev pub new_draft : ℕ → Drafted
new_draft left = record { notes = []; orders = []; left = left }

-- one more note, which has no order
abbrev pub with_note : Drafted → Note → Drafted
with_note d note = record d { notes = d.notes ++ note ∷ [] }

-- one more note, which sends the packet to the client under this number of its retransmission stream
abbrev pub with_packet : Drafted → Note → ℕ → ℕ → Held → Drafted
with_packet d note client seq h = record {
  notes = d.notes ++ note ∷ [];
  orders = d.orders ++ Rtx client h.n seq h.packet ∷ [];
  left = d.left - h.wire;
}

-- what a client is told of the end of its burst, after what it was told last
abbrev pub told_end : ℕ → Cause → Info → Option Order
told_end client cause last = option_map (info_order client) (end_info last cause)

-- the note of a burst's end, where it has ended
abbrev pub with_end : Drafted → ℕ → Info → Option Cause → Drafted
with_end d client last None = d
with_end d client last (Some cause) = record d { notes = d.notes ++ End client cause ∷ []; orders = d.orders ++ option_to_list (told_end client cause last) }
