-- The lines of a world: those of its notes, and those of its events.
use Rattle.std.specs.Prelude.{ℕ, ◌+◌, List, [], ◌∷◌, ◌++◌, length, codes, decimal}
use Rattle.std.specs.List.{flat_map}
use Rattle.rams_model.specs.declared.{InfoCame.InfoCame, MediaCame.MediaCame}
use Rattle.rams_model.specs.declared.InfoCame.TheVariants as info
use Rattle.rams_model.specs.declared.MediaCame.TheVariants as media
use Rattle.rams_model.specs.Texts.{spaced, of_client, of_word, hex_word, book_line, note_line, send_line}
use Rattle.book_text.specs.{no_channel_line}
use Rattle.server_hub.specs.Served.{Served}
use Rattle.meet_loop.specs.declared.{world_laws.world.WorldEvent.WorldEvent, world_laws.world.WorldItem.WorldItem}
use Rattle.meet_loop.specs.declared.world_laws.world.WorldNote.{WorldNote}
use Rattle.meet_loop.specs.declared.world_laws.world.WorldItem.TheVariants as item
use Rattle.meet_loop.specs.world_laws.World.{World}
use Rattle.meet_loop.specs.world_laws.Happening.{happens, world_after}

-- what became of a RAMS-I
abbrev pub info_words : InfoCame → List ℕ
info_words info.Taken = codes "taken"
info_words info.Repeated = codes "repeated"
info_words info.Updated = codes "updated"
info_words (info.Ended code) = codes "ended" ++ spaced code
info_words (info.Refused code) = codes "refused" ++ spaced code
info_words info.Foreign = codes "foreign"
info_words info.Bad = codes "bad"

-- what became of a packet
abbrev pub media_word : MediaCame → List ℕ
media_word media.Took = codes "took"
media_word media.Behind = codes "behind"
media_word media.Beyond = codes "beyond"
media_word media.Twice = codes "twice"
media_word media.BeforeFirst = codes "before-first"
media_word media.Foreign = codes "foreign"
media_word media.Bad = codes "bad"

-- some words, and bytes in hexadecimal digits
abbrev pub bytes_line : ℕ → ℕ → List ℕ → List ℕ → List ℕ
bytes_line event id words bytes = book_line event id (words ++ codes " " ++ hex_word bytes)

-- a word and a number
abbrev pub named_line : ℕ → ℕ → List ℕ → ℕ → List ℕ
named_line event id word n = book_line event id (of_client word n)

-- What is said of the channel of this number. A datagram that isn't there has no channel.
abbrev pub item_line : ℕ → ℕ → WorldItem → List ℕ
item_line event id (item.NoChannel missing) = no_channel_line event id
item_line event id (item.Note n) = note_line event id n
item_line event id (item.Send client bytes) = send_line event id client bytes
item_line event id (item.Post client bytes) = bytes_line event id (codes "post" ++ spaced client) bytes
item_line event id (item.Info client came) = book_line event id (of_word (codes "info") client (info_words came))
item_line event id (item.Media client came) = book_line event id (of_word (codes "came") client (media_word came))
item_line event id (item.Show client n packet) = bytes_line event id (codes "show" ++ spaced client ++ spaced n) packet
item_line event id (item.TunedBefore client) = named_line event id (codes "tuned-before") client
item_line event id (item.NoReceiver client) = named_line event id (codes "no-receiver") client
item_line event id (item.NoDatagram number) = decimal event ++ codes " no-datagram" ++ spaced number ++ codes "\n"
item_line event id (item.NoPacket n) = named_line event id (codes "no-packet") n
item_line event id (item.TooFar client) = named_line event id (codes "too-far") client

-- the line of a note, in the event of this number
unfoldable pub world_line : ℕ → WorldNote → List ℕ
world_line event said = item_line event said.id said.item

unfoldable pub notes_lines : ℕ → List WorldNote → List ℕ
notes_lines event notes = flat_map (world_line event) notes

-- what is written for an event that comes to a world
abbrev pub event_lines : ℕ → WorldEvent → World → List ℕ
event_lines event e w = notes_lines event (happens e w).notes

-- The lines of a world that began with these channels, after these events, the newest first. Events are counted from 1.
unfoldable pub world_lines : List Served → List WorldEvent → List ℕ
world_lines channels [] = []
world_lines channels (e ∷ events) = world_lines channels events ++ event_lines (length events + 1) e (world_after channels events)

-- the line in front of all
abbrev pub first_line : List ℕ
first_line = codes "rams-world 1\n"
