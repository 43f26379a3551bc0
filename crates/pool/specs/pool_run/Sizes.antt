-- The wire sizes of the packets that a channel sends again.
use Rattle.std.specs.Prelude.{ℕ, ◌*◌, ◌≤◌, List, length, flat_map}
use Rattle.rams_model.specs.declared.wire.TheConstants.{MOST_ON_WIRE}
use Rattle.rams_model.specs.Service.{wire_sizes}
use Rattle.channel_book.specs.declared.Entry.{Entry}
use Rattle.pool.specs.declared.link_pool.claim.Claim.{Claim}
use Rattle.pool.specs.link_pool.{claimed}

-- The wire size of each packet that the answers of a book send again, in their order.
abbrev pub sizes_of : List Entry → List ℕ
sizes_of entries = flat_map (λ (e : Entry). wire_sizes e.answer.orders) entries

-- the claims have together no more bytes than as many of the largest datagrams
abbrev pub AreSmall : List Claim → Type 0
AreSmall claims = claimed claims ≤ MOST_ON_WIRE * length claims
