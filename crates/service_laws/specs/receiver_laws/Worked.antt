-- A handover: deliveries that are fair, and what is presented.
use Rattle.std.specs.Prelude.{◌≡◌, ℕ, Bool, List, [], ◌∷◌, Some, None}
use Rattle.rams_model.specs.declared.{Held.Held, Info.Info}
use Rattle.rams_model.specs.Laws.{Rises}
use Rattle.rams_model.specs.Receiver.{piece, informs, again, multicast, shown_now, Turn, hears, delivers, presents, reception, shown, source_first}
use Rattle.service_laws.specs.receiver_laws.Fair.{AreFair}

-- a packet of the source; its bytes stand for any
abbrev pub held : ℕ → List ℕ → Held
held n packet = record { n = n; ts = 0; wire = 42; access = Bool.true; packet = packet }

-- the source's numbers went around twice more than those of the receiver
abbrev pub source : List Held
source = held 196617 (9 ∷ []) ∷ held 196618 (10 ∷ []) ∷ held 196619 (11 ∷ []) ∷ held 196620 (12 ∷ []) ∷ []

-- the burst begins with sequence number 500
abbrev pub begins : Info
begins = record { msn = 0; code = 200; first = Some 500; join_ms = Some 10; length_ms = Some 1000; bps = None }

-- A packet from before the burst is multicast; the burst's second packet comes, then one by multicast, and at last, twice, a repair of the first.
abbrev pub turns : List Turn
turns =
    presents ∷ presents ∷ presents ∷ delivers 196618 (again 502 10 (10 ∷ [])) ∷ delivers 196618 (again 502 10 (10 ∷ [])) ∷ presents ∷ delivers 196620 (multicast 12 (12 ∷ []))
    ∷ presents ∷ delivers 196619 (again 501 11 (11 ∷ [])) ∷ delivers 196617 (multicast 9 (9 ∷ [])) ∷ hears (informs begins) ∷ []

-- The deliveries are fair, and all from the burst's first packet on are presented, under the receiver's own numbers.
abbrev pub AHandoverIsFair : Type 0
AHandoverIsFair =
    Rises 0 source × AreFair source turns × (source_first turns ≡ Some 196618)
    × (shown turns ≡ piece 65546 (10 ∷ []) ∷ piece 65547 (11 ∷ []) ∷ piece 65548 (12 ∷ []) ∷ []) × (shown_now (reception turns) ≡ None)
