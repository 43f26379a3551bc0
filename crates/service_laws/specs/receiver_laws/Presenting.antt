-- What a receiver presents of a source.
use Rattle.std.specs.Prelude.{◌≡◌, ℕ, zero, suc, ◌+◌, ◌%◌, ◌<◌, ◌≤◌, List, [], ◌∷◌, ◌++◌, length, map, Option, Some, None}
use Rattle.std.specs.List.{range_with_len}
use Rattle.rams_model.specs.declared.Held.{Held}
use Rattle.rams_model.specs.Laws.{Rises}
use Rattle.rams_model.specs.Packets.{from_number, Follows}
use Rattle.rams_model.specs.Receiver.{Piece, Playing, room, Reception, Media, again, multicast, unfit, shown_now, after_shown, Turn, delivers, reception, shown, source_first}
use Rattle.service_laws.specs.receiver_laws.Fair.{AreFair}

-- What was presented are the first packets of the source from f on, without a gap. The receiver counts them from a first number of its own that has the same low 16 bits.
pub record PresentsAPrefix (source : List Held) (f : ℕ) (p : Playing) (pieces : List Piece) : Type 0 where
  pub packets : List Held
  pub more : List Held
  pub splits : from_number f source ≡ packets ++ more
  pub follow : Follows f packets
  pub same : map (λ q. q.packet) pieces ≡ map (λ h. h.packet) packets
  pub numbers : map (λ q. q.n) pieces ≡ range_with_len p.first (length pieces)
  pub next : p.next ≡ p.first + length pieces
  pub bits : p.first % 65536 ≡ f % 65536

-- that, once the first number is fixed; nothing is presented before
abbrev pub Presents : List Held → Option ℕ → Option Playing → List Piece → Type 0
Presents source None None pieces = pieces ≡ []
Presents source (Some f) (Some p) pieces = PresentsAPrefix source f p pieces
Presents source _ _ pieces = ⊥

-- After any turns with fair deliveries, what was presented is a prefix of the source from the first number on.
abbrev pub WhatIsPresentedIsAPrefix : Type 0
WhatIsPresentedIsAPrefix =
    (source : List Held) (turns : List Turn) → Rises 0 source → AreFair source turns → Presents source (source_first turns) (reception turns).play (shown turns)

-- a packet of the media
abbrev pub IsMedia : Media → Type 0
IsMedia (again sequence low packet) = Unit {0}
IsMedia (multicast low packet) = Unit {0}
IsMedia (unfit why) = ⊥

-- A packet with this number was delivered when the first number was fixed, or fixed it, and there was room for it then.
pub record WasDelivered (f : ℕ) (turns : List Turn) (x : ℕ) : Type 0 where
  pub later : List Turn
  pub media : Media
  pub before : List Turn
  pub splits : turns ≡ later ++ delivers x media ∷ before
  pub is_media : IsMedia media
  pub started : source_first (delivers x media ∷ before) ≡ Some f
  pub near : x < f + length (shown before) + room

-- Where nothing more can be presented, and each number from the first up to m was delivered, each of them was presented.
abbrev pub WhatIsDeliveredIsPresented : Type 0
WhatIsDeliveredIsPresented =
    (source : List Held) (turns : List Turn) (f m : ℕ) → AreFair source turns → source_first turns ≡ Some f → shown_now (reception turns) ≡ None
    → ((x : ℕ) → f ≤ x → x < m → WasDelivered f turns x) → m ≤ f + length (shown turns)

-- the receiver after it presented so often
unfoldable pub presented_often : ℕ → Reception → Reception
presented_often zero r = r
presented_often (suc count) r = presented_often count (after_shown r)

-- As often as packets wait is enough: nothing more can be presented then.
abbrev pub PresentingEnds : Type 0
PresentingEnds = (r : Reception) (p : Playing) → r.play ≡ Some p → shown_now (presented_often (length p.waits) r) ≡ None
