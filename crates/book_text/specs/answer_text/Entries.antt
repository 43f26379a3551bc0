-- The text of one note with the datagram that it asks for.
use Rattle.std.specs.Prelude.{ℕ, List, ◌++◌, take}
use Rattle.std.specs.List.{flat_map}
use Rattle.rams_model.specs.declared.{Order.Order, Note.Note}
use Rattle.rams_model.specs.Service.{Settings}
use Rattle.rams_model.specs.Texts.{note_line, order_count, order_line}

abbrev pub entry_text : Settings → ℕ → Note → List Order → List ℕ
entry_text s event note orders = note_line event s.channel.id note ++ flat_map (order_line s event) (take (order_count note) orders)
