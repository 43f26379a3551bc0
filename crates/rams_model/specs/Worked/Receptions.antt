-- Receivers: what they answer to datagrams, what they present and what they send.
use Rattle.std.specs.Prelude.{◌≡◌, ℕ, zero, suc, List, [], ◌∷◌, ◌++◌, map, Option, Some, None, option_map, codes}
use Rattle.std.specs.Option.{option_to_list}
use Rattle.rams_model.specs.declared.{reception.InfoCame.InfoCame, reception.MediaCame.MediaCame, reception.Tuned.Tuned}
use Rattle.rams_model.specs.declared.reception.InfoCame.TheVariants as info_came
use Rattle.rams_model.specs.declared.reception.MediaCame.TheVariants.{Took, Behind, Beyond, Twice, BeforeFirst, Foreign, Bad}
use Rattle.rams_model.specs.Receiver.{Piece, piece, Reception, nothing_got, told_by, brought_again, brought_by_multicast, Media, after_told, after_media, told_answer, media_answer, join_answer, shown_now, after_shown, asked, request_datagram, join_datagram, bye_datagram}
use Rattle.rams_model.specs.Worked.Setting.{hex}

-- client 5 of the channel, as receiver 0000c001
abbrev pub tuned : Tuned
tuned = record { client = 5; ssrc = 0xc001; media = 0x11223344; pt = 33; rtx = 99 }

-- What is done with a receiver: a datagram comes to it, or it is to ask.
pub data Call : Type 0 where
  info : List ℕ → Call
  rtx : List ℕ → Call
  multicast : List ℕ → Call
  ask : Call

-- What it answers: with the RAMS-T that it makes of a multicast packet, or with the datagrams that it asks by.
pub data Said : Type 0 where
  told : InfoCame → Said
  came : MediaCame → Option (List ℕ) → Said
  asks : List (List ℕ) → Said

-- A call, what is answered, and what is presented then.
pub record Row : Type 0 where
  pub call : Call
  pub said : Said
  pub shown : List Piece

abbrev pub row : Call → Said → List Piece → Row
row call said shown = record { call = call; said = said; shown = shown }

-- the media that a call brings
abbrev pub media_said : Media → Reception → Said
media_said m r = came (media_answer m r) (option_map (join_datagram tuned) (join_answer m r))

abbrev pub said : Call → Reception → Said
said (info bytes) r = told (told_answer (told_by tuned bytes) r)
said (rtx bytes) r = media_said (brought_again tuned bytes) r
said (multicast bytes) r = media_said (brought_by_multicast tuned bytes) r
said ask r = asks (asked tuned r)

abbrev pub after_call : Call → Reception → Reception
after_call (info bytes) r = after_told (told_by tuned bytes) r
after_call (rtx bytes) r = after_media (brought_again tuned bytes) r
after_call (multicast bytes) r = after_media (brought_by_multicast tuned bytes) r
after_call ask r = r

-- what is presented in so many turns, and the receiver after them
unfoldable pub shown_in : ℕ → Reception → List Piece
shown_in zero r = []
shown_in (suc turns) r = option_to_list (shown_now r) ++ shown_in turns (after_shown r)

unfoldable pub past_shown : ℕ → Reception → Reception
past_shown zero r = r
past_shown (suc turns) r = past_shown turns (after_shown r)

-- the rows of these calls, where up to eight pieces are presented after each
unfoldable pub rows_from : Reception → List Call → List Row
rows_from r [] = []
rows_from r (c ∷ cs) = let after = after_call c r in row c (said c r) (shown_in 8 after) ∷ rows_from (past_shown 8 after) cs

-- From the beginning on the receiver answers so.
abbrev pub IsReceived : List Row → Type 0
IsReceived rows = rows_from nothing_got (map (λ r. r.call) rows) ≡ rows

-- the RAMS-I of a burst that begins with sequence number 500
abbrev pub begins : Row
begins = row (info (hex (codes "86cd000caabbccdd11223344020000c82000000201f40000210000040000000a22000004000003e823000008000000000030d400"))) (told info_came.Taken) []

-- a retransmission with four bytes of zeros, by its header's first bytes and the rest; the packet is the channel's
abbrev pub again : List ℕ → List ℕ → Call
again header low = rtx (hex (header ++ codes "0000000011223344" ++ low ++ codes "00000000"))

abbrev pub by_multicast : List ℕ → Call
by_multicast low = multicast (hex (codes "8021" ++ low ++ codes "000000001122334400000000"))

-- the packet with these low bits, under a number
abbrev pub packet : ℕ → List ℕ → Piece
packet n low = piece n (hex (codes "8021" ++ low ++ codes "000000001122334400000000"))

-- what comes and isn't presented at once
abbrev pub took : Call → Row
took call = row call (came Took None) []

-- a receiver's report, and who it is
abbrev pub front : List ℕ
front = hex (codes "80c900010000c00181ca00030000c0010103737462000000")

-- A burst is lost in part, the receiver joins the multicast, asks for what is missing, and presents each packet once.
abbrev pub Handover : Type 0
Handover =
    IsReceived (
    row ask (asks ((front ++ hex (codes "86cd00040000c0011122334401000000" ++ codes "01000000")) ∷ [])) []
    ∷ begins
    ∷ row (again (codes "80e301f4") (codes "000a")) (came Took None) (piece 65546 (hex (codes "80a1000a000000001122334400000000")) ∷ [])
    ∷ row (again (codes "806301f5") (codes "000b")) (came Took None) (packet 65547 (codes "000b") ∷ [])
    ∷ took (again (codes "806301f8") (codes "000e"))
    ∷ took (again (codes "806301f9") (codes "000f"))
    ∷ row (again (codes "806301f5") (codes "000b")) (came Behind None) []
    ∷ row (by_multicast (codes "0010")) (came Took (Some (front ++ hex (codes "86cd00050000c00111223344030000003d00000400010010")))) []
    ∷ took (by_multicast (codes "0011"))
    ∷ took (by_multicast (codes "0012"))
    ∷ row (info (hex (codes "86cd0003aabbccdd11223344020100c9"))) (told (info_came.Ended 201)) []
    ∷ row ask (asks ((front ++ hex (codes "81cd00030000c00111223344000c0001")) ∷ [])) []
    ∷ row (again (codes "806301fa") (codes "000c")) (came Took None) (packet 65548 (codes "000c") ∷ [])
    ∷ row (again (codes "806301fb") (codes "000d")) (came Took None)
    (packet 65549 (codes "000d") ∷ packet 65550 (codes "000e") ∷ packet 65551 (codes "000f") ∷ packet 65552 (codes "0010") ∷ packet 65553 (codes "0011") ∷ packet 65554 (codes "0012") ∷ [])
    ∷ row ask (asks []) []
    ∷ [])

-- before a RAMS-I is taken no media is taken, and 201 says no more than any other code
abbrev pub BeforeTheBurst : Type 0
BeforeTheBurst =
    IsReceived (
    row (again (codes "80e301f4") (codes "000a")) (came BeforeFirst None) []
    ∷ row (by_multicast (codes "000a")) (came BeforeFirst None) []
    ∷ row (info (hex (codes "86cd0003aabbccdd11223344020100c9"))) (told (info_came.Refused 201)) []
    ∷ row (info (hex (codes "86cd0003aabbccdd11223344020001f5"))) (told (info_came.Refused 501)) []
    ∷ row (info []) (told info_came.Bad) []
    ∷ row (info (hex (codes "86cd00030000c0011122334401000000"))) (told info_came.Bad) []
    ∷ row (info (hex (codes "86cd0003aabbccdd11223344020000c8"))) (told info_came.Bad) []
    ∷ row (info (hex (codes "86cd0003aabbccdd1122334402000064"))) (told info_came.Bad) []
    ∷ row (info (hex (codes "86cd0005aabbccdd11223345020000c82000000201f40000"))) (told info_came.Foreign) []
    ∷ begins
    ∷ record begins { said = told info_came.Repeated }
    ∷ row (info (hex (codes "86cd0005aabbccdd11223344020100642000000201f40000"))) (told info_came.Updated) []
    ∷ [])

-- a multicast packet fixes no first number; a retransmission does, whichever of the burst it is, if its sequence number is fewer than 16,384 ahead
abbrev pub TheFirstNumber : Type 0
TheFirstNumber =
    IsReceived (
    begins
    ∷ row (by_multicast (codes "000a")) (came BeforeFirst None) []
    ∷ row (again (codes "806341f4") (codes "000a")) (came BeforeFirst None) []
    ∷ row (again (codes "806301f3") (codes "000a")) (came BeforeFirst None) []
    ∷ took (again (codes "806301f6") (codes "000c"))
    ∷ row (again (codes "806301f6") (codes "000c")) (came Twice None) []
    ∷ row (again (codes "806301f4") (codes "000a")) (came Took None) (packet 65546 (codes "000a") ∷ [])
    ∷ row (again (codes "806301f5") (codes "000b")) (came Took None) (packet 65547 (codes "000b") ∷ packet 65548 (codes "000c") ∷ [])
    ∷ [])

-- 16,384 numbers from the next on have room, and a packet beyond them doesn't join; the numbers go on over 65,535
abbrev pub TheRoom : Type 0
TheRoom =
    IsReceived (
    begins
    ∷ row (again (codes "806301f4") (codes "ffff")) (came Took None) (packet 131071 (codes "ffff") ∷ [])
    ∷ row (by_multicast (codes "4000")) (came Beyond None) []
    ∷ row (by_multicast (codes "3fff")) (came Took (Some (front ++ hex (codes "86cd00050000c00111223344030000003d00000400023fff")))) []
    ∷ row (by_multicast (codes "0000")) (came Took None) (packet 131072 (codes "0000") ∷ [])
    ∷ row (by_multicast (codes "4000")) (came Took None) []
    ∷ row (again (codes "806301f4") (codes "ffff")) (came Behind None) []
    ∷ [])

-- a receiver joins with a packet that it has, but not with one below its first
abbrev pub JoinsWithWhatItHas : Type 0
JoinsWithWhatItHas =
    IsReceived (
    begins
    ∷ row (again (codes "806301f4") (codes "000a")) (came Took None) (packet 65546 (codes "000a") ∷ [])
    ∷ row (by_multicast (codes "0009")) (came Behind None) []
    ∷ row (by_multicast (codes "000a")) (came Behind (Some (front ++ hex (codes "86cd00050000c00111223344030000003d0000040001000a")))) []
    ∷ row (by_multicast (codes "000b")) (came Took None) (packet 65547 (codes "000b") ∷ [])
    ∷ row ask (asks ((front ++ hex (codes "86cd00050000c00111223344030000003d0000040001000a")) ∷ [])) []
    ∷ [])

-- bytes that are no packet, a retransmission without an original number, and packets of another source or type
abbrev pub UnfitMedia : Type 0
UnfitMedia =
    IsReceived (
    row (rtx []) (came Bad None) []
    ∷ row (rtx (hex (codes "806301f4000000001122334500"))) (came Bad None) []
    ∷ row (rtx (hex (codes "806301f40000000011223345000a"))) (came Foreign None) []
    ∷ row (rtx (hex (codes "802101f40000000011223344000a"))) (came Foreign None) []
    ∷ row (multicast (hex (codes "8021000a0000000011223345"))) (came Foreign None) []
    ∷ row (multicast (hex (codes "8063000a0000000011223344"))) (came Foreign None) []
    ∷ row (multicast (hex (codes "4021000a0000000011223344"))) (came Bad None) []
    ∷ [])

-- what a receiver sends as it is tuned, and as it leaves
abbrev pub TuneAndLeave : Type 0
TuneAndLeave =
    (request_datagram tuned ≡ front ++ hex (codes "86cd00040000c001112233440100000001000000"))
    × (bye_datagram tuned ≡ front ++ hex (codes "81cb00010000c001"))
