-- What receivers of a world do with what is delivered to them.
use Rattle.std.specs.Prelude.{ℕ, zero, suc, ◌+◌, Bool, false, ◌&&◌, not, nat_le, List, [], ◌∷◌, ◌++◌, length, map, Option, Some, None, option_map, if◌then◌else◌}
use Rattle.std.specs.Option.{option_to_list}
use Rattle.rams_model.specs.Receiver.{Piece, Playing, Media, join_answer, join_datagram, media_answer, Told, told_answer, Turn, hears, delivers, presents, reception, shown, source_first, shown_now}
use Rattle.meet_loop.specs.declared.world_laws.world.WorldItem.TheVariants as item
use Rattle.meet_loop.specs.declared.world_laws.world.WorldNote.{WorldNote}
use Rattle.meet_loop.specs.world_laws.World.{posts, Datagram, Listener, World, listens, first_replaced, Step, step, note, refused}

-- the source's number of the packet that is presented next, once the first is fixed
abbrev pub next_number : List Turn → Option ℕ
next_number turns = option_map (λ f. f + length (shown turns)) (source_first turns)

-- A number is too far from the next one: the low 16 bits could stand for one that is nearer. Both are the source's.
abbrev pub is_too_far : Option ℕ → ℕ → Bool
is_too_far None x = false
is_too_far (Some next) x = not (nat_le next (x + 32768) && nat_le x (next + 32767))

-- how many packets wait
abbrev pub waiting : Option Playing → ℕ
waiting None = 0
waiting (Some p) = length p.waits

-- after so many turns in which it presents what it can
unfoldable pub presenting : ℕ → List Turn → List Turn
presenting zero turns = turns
presenting (suc count) turns = presenting count (presents ∷ turns)

-- what is presented in these
unfoldable pub pieces_in : ℕ → List Turn → List Piece
pieces_in zero turns = []
pieces_in (suc count) turns = option_to_list (shown_now (reception turns)) ++ pieces_in count (presents ∷ turns)

-- as many turns as packets wait, after which nothing more can be presented
abbrev pub turns_to_present : List Turn → ℕ
turns_to_present turns = waiting (reception turns).play

-- the receiver with these turns, and those in which it presents
abbrev pub presented_all : List Turn → Listener → Listener
presented_all turns l = record l { turns = presenting (turns_to_present turns) turns }

abbrev pub show_note : Listener → Piece → WorldNote
show_note l q = note l.id (item.Show l.tuned.client q.n q.packet)

-- a datagram of a receiver, and what is said of it
abbrev pub posted : Listener → List ℕ → Datagram
posted l bytes = record { id = l.id; client = l.tuned.client; way = posts; bytes = bytes }

abbrev pub post_note : Listener → List ℕ → WorldNote
post_note l bytes = note l.id (item.Post l.tuned.client bytes)

-- After these turns a receiver posts these datagrams, and presents until nothing more can be presented.
abbrev pub after_turns : WorldNote → List Turn → List (List ℕ) → Listener → World → Step
after_turns said turns sent l w =
    step (record w { datagrams = w.datagrams ++ map (posted l) sent; listeners = first_replaced (listens l.id l.tuned.client) (presented_all turns l) w.listeners })
    (said ∷ (map (post_note l) sent ++ map (show_note l) (pieces_in (turns_to_present turns) turns)))

-- a RAMS-I is delivered
abbrev pub hearing : Told → Listener → World → Step
hearing told l w = after_turns (note l.id (item.Info l.tuned.client (told_answer told (reception l.turns)))) (hears told ∷ l.turns) [] l w

-- A packet of the media is delivered: the receiver may join with it, and posts a RAMS-T then.
abbrev pub delivering : ℕ → Media → Listener → World → Step
delivering x media l w =
    let r = reception l.turns in
    after_turns (note l.id (item.Media l.tuned.client (media_answer media r))) (delivers x media ∷ l.turns)
    (option_to_list (option_map (join_datagram l.tuned) (join_answer media r))) l w

-- unless its number is too far from the next one
abbrev pub delivering_near : ℕ → Media → Listener → World → Step
delivering_near x media l w = if is_too_far (next_number l.turns) x then refused w l.id (item.TooFar l.tuned.client) else delivering x media l w
