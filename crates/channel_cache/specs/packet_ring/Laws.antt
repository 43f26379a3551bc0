-- What is held of a source as it grows, and the packets from a number on.
use Rattle.std.specs.Prelude.{◌≡◌, ℕ, ◌+◌, ◌≤◌, List, [], ◌∷◌, ◌++◌, MatchOption}
use Rattle.rams_model.specs.declared.Held.{Held}
use Rattle.rams_model.specs.Packets.{lo, hi, last_of, from_number, Follows, consecutive_end}
use Rattle.rams_model.specs.Laws.{Rises}
use Rattle.channel_cache.specs.packet_ring.Seen.{Seen, with_next, packet_of, StandsFor}

-- What is held of a source with one more packet is what was held, with that packet.
abbrev pub TheEndGrows : Type 0
TheEndGrows = (capacity : ℕ) (source : List Held) (h : Held) → 1 ≤ capacity
    → last_of capacity (consecutive_end (source ++ h ∷ [])) ≡ with_next capacity (last_of capacity (consecutive_end source)) h

-- What is held ends where the source ends.
abbrev pub EndsAreAlike : Type 0
EndsAreAlike = (v : Seen) (source : List Held) → 1 ≤ v.capacity → StandsFor v source → hi v.held ≡ hi source

-- The next packet of a source whose numbers rise is above what is held.
abbrev pub TheNextIsAbove : Type 0
TheNextIsAbove = (v : Seen) (source : List Held) (h : Held) (more : List Held) → 1 ≤ v.capacity → StandsFor v source → Rises 0 (source ++ h ∷ more) → hi v.held ≤ h.n

-- The packets from a number on are the packet of that number and those from the next on; none where there is no packet of it.
abbrev pub PacketsStandInOrder : Type 0
PacketsStandInOrder = (held : List Held) (n : ℕ) → Follows (lo held) held → lo held ≤ n
    → MatchOption (packet_of n held) (from_number n held ≡ []) (λ h. from_number n held ≡ h ∷ from_number (n + 1) held)
