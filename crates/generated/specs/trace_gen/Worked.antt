-- Worked examples: draws, packets and blocks, the numbers from an independent model.
use Rattle.std.specs.Prelude.{◌≡◌, ℕ, List, [], ◌∷◌, map, length, codes}
use Rattle.std.specs.List.{range_with_len}
use Rattle.rams_model.specs.declared.{Event.Event, Event.TheVariants.Feedback}
use Rattle.rams_model.specs.Formats.{header}
use Rattle.rams_model.specs.Texts.{bytes_in}
use Rattle.generated.specs.trace_gen.Draws.{drawn}
use Rattle.generated.specs.trace_gen.Generated.{size, numbered, feedback, block, made}

-- the first draws of the seeds 7, 0 and 4294967295
abbrev pub FirstDraws : Type 0
FirstDraws =
    (map (drawn 7) (range_with_len 0 4) ≡ 1059165278 ∷ 2052263231 ∷ 1946856753 ∷ 585718673 ∷ [])
    × (map (drawn 0) (range_with_len 0 2) ≡ 167951807 ∷ 218396424 ∷ [])
    × (map (drawn 4294967295) (range_with_len 0 2) ≡ 69501759 ∷ 1503429036 ∷ [])

-- the headers of packets: the first, the tenth, the fiftieth behind it, and one whose timestamp and sequence number have wrapped
abbrev pub Headers : Type 0
Headers =
    (header (numbered 0 4) ≡ bytes_in (codes "80a100000000000011223344"))
    × (header (numbered 9 4) ≡ bytes_in (codes "8021000900000fd211223344"))
    × (header (numbered 50 4) ≡ bytes_in (codes "80a10032000057e411223344"))
    × (header (numbered 9544400 4) ≡ bytes_in (codes "80a1a2d0000031a011223344"))

-- the sizes of the payloads of the first block of seed 7, and of its second
abbrev pub Sizes : Type 0
Sizes =
    (map (size 7 0) (range_with_len 0 10) ≡ 778 ∷ 131 ∷ 253 ∷ 1173 ∷ 145 ∷ 619 ∷ 964 ∷ 264 ∷ 339 ∷ 1086 ∷ [])
    × (map (size 7 1) (range_with_len 0 3) ≡ 995 ∷ 375 ∷ 1032 ∷ [])

-- a datagram of a client, in hexadecimal digits
abbrev from : ℕ → List ℕ → List Event
from client digits = Feedback client (bytes_in digits) ∷ []

-- what the clients 25 and 52 send in the first eight blocks of seed 7: a request, a NACK and a stop each
abbrev pub Datagrams : Type 0
Datagrams =
    map (feedback 7) (range_with_len 0 8)
    ≡ [] ∷ from 25 (codes "86cd0003000000191122334401000000") ∷ from 25 (codes "81cd00030000001911223344ffa80000")
    ∷ from 25 (codes "86cd0003000000191122334403000000") ∷ []
    ∷ from 52 (codes "86cd0003000000341122334401000000") ∷ from 52 (codes "81cd00030000003411223344ffca0000")
    ∷ from 52 (codes "86cd0003000000341122334403000000") ∷ []

-- how many events blocks and traces have
abbrev pub Counts : Type 0
Counts =
    (length (block 7 0) ≡ 11) × (length (block 7 1) ≡ 12) × (length (block 7 2) ≡ 12) × (length (block 7 3) ≡ 12)
    × (length (made 7 1) ≡ 11) × (length (made 7 4) ≡ 47) × (length (made 1 17) ≡ 199) × (length (made 7 0) ≡ 0)
