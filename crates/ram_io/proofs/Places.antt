-- Datagrams as places in the bytes that were sent.
use Rattle.std.proofs.Common.{◌≡◌, ℕ, ◌+◌, ◌≤◌, List, [], ◌∷◌, ◌++◌, length, take, drop, refl, arith}
use Rattle.std.proofs.lemmas.List.{map-append}
use Rattle.std.proofs.lemmas.List.Elements.{All-tail}
use Rattle.std.proofs.lemmas.Grind.{common_steps}
use Rattle.ram_io.specs.declared.mem_wire.Sent.{Sent}
use Rattle.ram_io.specs.{AreWithin, datagram_at, datagrams, place_behind, outgoing}

-- a part of the bytes stays where it was as more are appended
pub part-append : (bytes more : List ℕ) (start len : ℕ) → start + len ≤ length bytes → take len (drop start (bytes ++ more)) ≡ take len (drop start bytes)
part-append bytes more start len h = grind (arith, common_steps)

-- the part behind the bytes is what was appended
pub part-appended : (bytes more : List ℕ) → take (length more) (drop (length bytes) (bytes ++ more)) ≡ more
part-appended bytes more = grind (arith, common_steps)

-- the datagrams stay as more bytes are appended
pub datagrams-append : (places : List Sent) (bytes more : List ℕ) → AreWithin places bytes → datagrams places (bytes ++ more) ≡ datagrams places bytes
datagrams-append [] bytes more within = refl
datagrams-append (place ∷ places) bytes more within =
    let others : AreWithin places bytes = All-tail (λ (p : Sent). p.start + p.len ≤ length bytes) place places within in
    let same : datagrams places (bytes ++ more) ≡ datagrams places bytes = datagrams-append places bytes more others in
    rw (part-append bytes more place.start place.len (within 0 place (omega arith)), same) refl

-- one more place, at the end of the bytes, is one more datagram
pub datagrams-push : (places : List Sent) (bytes more : List ℕ) (to port : ℕ) → AreWithin places bytes → datagrams (places ++ place_behind bytes to port more ∷ []) (bytes ++ more) ≡ datagrams places bytes ++ outgoing to port more ∷ []
datagrams-push places bytes more to port within =
    let same : datagrams places (bytes ++ more) ≡ datagrams places bytes = datagrams-append places bytes more within in
    rw (map-append (datagram_at (bytes ++ more)) places, same, part-appended bytes more) refl
