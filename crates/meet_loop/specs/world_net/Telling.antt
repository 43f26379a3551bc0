-- What is said of what channels answer, and what they send, by the settings of the hub.
use Rattle.std.specs.Prelude.{ℕ, ◌==◌, List, [], ◌∷◌, ◌++◌, map, take, drop, find, Option, Some, None}
use Rattle.std.specs.List.{flat_map}
use Rattle.rams_model.specs.declared.Note.{Note}
use Rattle.rams_model.specs.Service.{Answered, Settings}
use Rattle.rams_model.specs.Texts.{order_count}
use Rattle.server_hub.specs.declared.At.{At}
use Rattle.server_hub.specs.Served.{Told, no_channel, says}
use Rattle.meet_loop.specs.world_laws.World.{Datagram, note}
use Rattle.meet_loop.specs.declared.world_laws.world.WorldItem.TheVariants as item
use Rattle.meet_loop.specs.declared.world_laws.world.WorldNote.{WorldNote}
use Rattle.meet_loop.specs.world_net.Ways.{sent_of}

-- what is said of a datagram that the server sends
abbrev pub sent_note : Datagram → WorldNote
sent_note d = note d.id (item.Send d.client d.bytes)

abbrev pub note_with_sent : ℕ → Note → List Datagram → List WorldNote
note_with_sent id n sent = note id (item.Note n) ∷ map sent_note sent

-- notes, each with its datagram behind it
unfoldable pub notes_with_sent : ℕ → List Note → List Datagram → List WorldNote
notes_with_sent id [] sent = []
notes_with_sent id (n ∷ notes) sent = note_with_sent id n (take (order_count n) sent) ++ notes_with_sent id notes (drop (order_count n) sent)

-- those of an answer of a channel with these settings
abbrev pub said_in : Settings → Answered → List WorldNote
said_in s a = notes_with_sent s.channel.id a.notes (map (sent_of s) a.orders)

abbrev pub settled_notes : Answered → Option Settings → List WorldNote
settled_notes a None = []
settled_notes a (Some s) = said_in s a

abbrev pub settled_sent : Answered → Option Settings → List Datagram
settled_sent a None = []
settled_sent a (Some s) = map (sent_of s) a.orders

-- those of what one of these channels answers
abbrev pub at_notes : List Settings → At → List WorldNote
at_notes all at = settled_notes at.answer (find (λ s. s.channel.id == at.id) all)

abbrev pub at_sent : List Settings → At → List Datagram
at_sent all at = settled_sent at.answer (find (λ s. s.channel.id == at.id) all)

-- those of what they say
abbrev pub told_notes : List Settings → Told → List WorldNote
told_notes all (no_channel id) = note id (item.NoChannel id) ∷ []
told_notes all (says answers) = flat_map (at_notes all) answers

abbrev pub told_sent : List Settings → Told → List Datagram
told_sent all (no_channel id) = []
told_sent all (says answers) = flat_map (at_sent all) answers
