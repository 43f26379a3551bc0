-- Where the calls of a list stand in a history, and what is drawn of their answers.
use Rattle.std.specs.Prelude.{ℕ, ◌+◌, ◌==◌, if◌then◌else◌, List, [], ◌∷◌, map}
use Rattle.rams_model.specs.Service.{Settings, Answered, datagram}
use Rattle.channel_book.specs.declared.Entry.{Entry}

-- the places of the calls of a list among some entries, the first of which has this place
abbrev pub places_from : ℕ → ℕ → List Entry → List ℕ
places_from list first [] = []
places_from list first (e ∷ later) = if e.list == list then first ∷ places_from list (first + 1) later else places_from list (first + 1) later

-- the places of the calls of a list in a history, in order
abbrev pub places_by : ℕ → List Entry → List ℕ
places_by list entries = places_from list 0 entries

-- the datagrams that an answer asks for, in the order of its orders
abbrev pub datagrams_of : Settings → Answered → List (List ℕ)
datagrams_of s a = map (datagram s) a.orders
