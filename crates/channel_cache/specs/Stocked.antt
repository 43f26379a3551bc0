-- What contracts see of the packets that are held.
use Rattle.std.specs.Prelude.{◌≡◌, ℕ, ◌+◌}
use Rattle.rams_model.specs.declared.Held.{Held}
use Rattle.channel_cache.specs.packet_ring.{empty_ring, pushed, IsRing}
use Rattle.channel_cache.specs.packet_ring.Seen as rings
use Rattle.channel_cache.specs.access_index.Seen as indexes
use Rattle.channel_cache.specs.access_index.{StandsFor}
use Rattle.rams_model.specs.Laws.{AreAtLeast}
use Rattle.channel_cache.specs.Whole.{AreWhole}

-- what is held
pub record Seen : Type 0 where
  pub ring : rings.Seen
  -- the wire sizes of all packets that were put in
  pub total : ℕ

-- nothing is held
abbrev pub empty_stock : ℕ → Seen
empty_stock capacity = record { ring = empty_ring capacity; total = 0 }

-- what is held after a packet was put in
abbrev pub stocked : Seen → Held → Seen
stocked v h = record { ring = pushed v.ring h; total = v.total + h.wire }

-- the index stands for the packets of the ring, none of which is smaller than the least size
pub record IsStock (ring : rings.Seen) (index : indexes.Seen) (least : ℕ) : Type 0 where
  pub lawful : IsRing ring
  pub marks : StandsFor index ring.held
  pub alike : index.capacity ≡ ring.capacity
  pub whole : AreWhole ring.held
  pub large : AreAtLeast least ring.held
