-- A receiver over time: what it is told and gets, and when it presents. The newest turn stands in front.
use Rattle.std.specs.Prelude.{ℕ, ◌-◌, List, [], ◌∷◌, ◌++◌, Option, None, option_map}
use Rattle.std.specs.Option.{option_or, option_to_list}
use Rattle.rams_model.specs.Receiver.Pieces.{Piece}
use Rattle.rams_model.specs.Receiver.Reading.{Told, Media, again}
use Rattle.rams_model.specs.Receiver.Receiving.{Reception, nothing_got, distance_from, after_told, after_media, shown_now, after_shown}

-- One turn of a receiver.
pub data Turn : Type 0 where
  -- it is told something
  hears : Told → Turn
  -- a packet is delivered that the source numbers so
  delivers : ℕ → Media → Turn
  -- it presents what it can now, one packet or none
  presents : Turn

-- the receiver after these turns
unfoldable pub reception : List Turn → Reception
reception [] = nothing_got
reception (hears told ∷ turns) = after_told told (reception turns)
reception (delivers x media ∷ turns) = after_media media (reception turns)
reception (presents ∷ turns) = after_shown (reception turns)

-- all that was presented, oldest first
unfoldable pub shown : List Turn → List Piece
shown [] = []
shown (presents ∷ turns) = shown turns ++ option_to_list (shown_now (reception turns))
shown (_ ∷ turns) = shown turns

-- The source's number of the receiver's first: a retransmission that fixes it is as far ahead of it as its sequence number of the one that was named.
abbrev pub first_by : ℕ → Media → Reception → Option ℕ
first_by x (again sequence low packet) r = option_map (λ d. x - d) (distance_from r.named sequence)
first_by x _ r = None

unfoldable pub source_first : List Turn → Option ℕ
source_first [] = None
source_first (delivers x media ∷ turns) = option_or (source_first turns) (first_by x media (reception turns))
source_first (_ ∷ turns) = source_first turns
