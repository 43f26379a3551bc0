-- What was read, as the definitions have it.
use Rattle.std.specs.Prelude.{ℕ, Option, None, Result, Ok, Err}
use Rattle.rams_model.specs.declared.{Info.Info, InfoCame.InfoCame, MediaCame.MediaCame, Tuned.Tuned}
use Rattle.rams_model.specs.Formats.{Packet, spelling, stripped, original, original_number}
use Rattle.rams_model.specs.Receiver.{Told, informs, unread, Media, again, multicast, unfit, Reception, distance_from}

-- a retransmission, or what becomes of the bytes
abbrev pub as_again : Tuned → Result Packet MediaCame → Media
as_again t (Ok r) = again r.sequence (original_number r) (spelling (original r t.pt))
as_again t (Err why) = unfit why

-- a packet of the multicast
abbrev pub as_multicast : Result Packet MediaCame → Media
as_multicast (Ok p) = multicast p.sequence (stripped p)
as_multicast (Err why) = unfit why

-- a RAMS-I
abbrev pub as_told : Result Info InfoCame → Told
as_told (Ok i) = informs i
as_told (Err why) = unread why

-- how far a retransmission is ahead of the one with which the burst begins, where that is less than the room
abbrev pub distance_of : Media → Reception → Option ℕ
distance_of (again sequence low packet) r = distance_from r.named sequence
distance_of _ r = None
