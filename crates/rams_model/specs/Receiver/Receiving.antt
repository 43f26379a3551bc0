-- A receiver: what it has got, what it answers, and what is presented.
use Rattle.std.specs.Prelude.{ℕ, ◌+◌, Bool, true, false, ◌&&◌, ◌||◌, ◌==◌, nat_lt, if◌then◌else◌, List, Option, Some, None, is_some, option_map}
use Rattle.std.specs.Option.{option_and_then}
use Rattle.rams_model.specs.declared.{message.Info.Info, reception.InfoCame.InfoCame, reception.MediaCame.MediaCame}
use Rattle.rams_model.specs.declared.reception.MediaCame.TheVariants.{BeforeFirst}
use Rattle.rams_model.specs.declared.reception.InfoCame.TheVariants.{Taken, Repeated, Updated, Ended, Refused}
use Rattle.rams_model.specs.Packets.{ahead}
use Rattle.rams_model.specs.Receiver.Pieces.{Piece, Playing, room, playing_from, nearest, came, with_arrival, joining, join_kept, presented, after_presenting}
use Rattle.rams_model.specs.Receiver.Reading.{Told, informs, unread, Media, again, multicast, unfit, tells_of_burst}

-- What a receiver has got so far.
pub record Reception : Type 0 where
  -- the sequence number with which the burst begins, of the RAMS-I that was taken (RFC 6285, 7.3)
  pub named : Option ℕ
  -- the end of the burst was told after that
  pub ended : Bool
  -- what is played, once the first number is fixed
  pub play : Option Playing

-- a receiver that was just tuned
abbrev pub nothing_got : Reception
nothing_got = record { named = None; ended = false; play = None }

-- The first RAMS-I of a burst is taken; 201 and 502 end a burst that was taken.
abbrev pub info_came : Reception → Info → InfoCame
info_came r i =
    if tells_of_burst i then (if is_some r.named then (if i.code == 200 then Repeated else Updated) else Taken)
    else if is_some r.named && (i.code == 201 || i.code == 502) then Ended i.code
    else Refused i.code

abbrev pub with_info : InfoCame → Info → Reception → Reception
with_info Taken i r = record r { named = i.first }
with_info (Ended code) i r = record r { ended = true }
with_info _ i r = r

-- how far a retransmission is ahead of the one with which the burst begins, where that is less than the room
abbrev pub within_room : ℕ → Option ℕ
within_room d = if nat_lt d room then Some d else None

abbrev pub distance_from : Option ℕ → ℕ → Option ℕ
distance_from named sequence = option_and_then (λ n. within_room (ahead sequence n)) named

-- The first number: a retransmission that is so far ahead has the number of its original, and the first is as far below it.
abbrev pub first_number : Option ℕ → ℕ → ℕ → Option ℕ
first_number named sequence low = option_map (λ d. 65536 + ahead low d) (distance_from named sequence)

-- what is played once a retransmission came: it may fix the first number, and arrives then as any other
abbrev pub or_begun : Option Playing → Option ℕ → Option Playing
or_begun None first = option_map playing_from first
or_begun (Some p) first = Some p

abbrev pub play_for_again : Reception → ℕ → ℕ → Option Playing
play_for_again r sequence low = or_begun r.play (first_number r.named sequence low)

-- how a packet comes, by the low 16 bits of its number
abbrev pub came_into : Option Playing → ℕ → MediaCame
came_into None low = BeforeFirst
came_into (Some p) low = came p (nearest p.next low)

abbrev pub arrived : ℕ → List ℕ → Playing → Playing
arrived low packet p = with_arrival (nearest p.next low) packet p

-- a multicast packet may join as it comes, which goes by the next number as it stands then
abbrev pub arrived_by_multicast : ℕ → List ℕ → Playing → Playing
arrived_by_multicast low packet p = arrived low packet (join_kept (joining p (nearest p.next low)) p)

-- The receiver after what it is told, and after what it gets of the media. Nothing is presented by that.
unfoldable pub after_told : Told → Reception → Reception
after_told (informs i) r = with_info (info_came r i) i r
after_told (unread why) r = r

unfoldable pub after_media : Media → Reception → Reception
after_media (again sequence low packet) r = record r { play = option_map (arrived low packet) (play_for_again r sequence low) }
after_media (multicast low packet) r = record r { play = option_map (arrived_by_multicast low packet) r.play }
after_media (unfit why) r = r

-- What a receiver answers to each.
abbrev pub told_answer : Told → Reception → InfoCame
told_answer (informs i) r = info_came r i
told_answer (unread why) r = why

abbrev pub media_answer : Media → Reception → MediaCame
media_answer (again sequence low packet) r = came_into (play_for_again r sequence low) low
media_answer (multicast low packet) r = came_into r.play low
media_answer (unfit why) r = why

-- the number that a receiver joins the multicast with, where it does so with what it gets
abbrev pub join_answer : Media → Reception → Option ℕ
join_answer (multicast low packet) r = option_and_then (λ p. joining p (nearest p.next low)) r.play
join_answer _ r = None

-- What is presented now, and the receiver after that.
abbrev pub shown_now : Reception → Option Piece
shown_now r = option_and_then presented r.play

unfoldable pub after_shown : Reception → Reception
after_shown r = record r { play = option_map after_presenting r.play }
