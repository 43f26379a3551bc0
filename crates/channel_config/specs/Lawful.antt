-- What lawful settings are, number by number.
use Rattle.std.specs.Prelude.{◌≡◌, ◌≢◌, ◌+◌, ◌≤◌, Ok}
use Rattle.rams_model.specs.declared.wire.TheConstants.{MOST_ON_WIRE}
use Rattle.rams_model.specs.Service.{Settings, checked}

-- each number of the settings is in its range, and the three rules hold
pub record IsLawful (s : Settings) : Type 0 where
  pub tick_least : 1 ≤ s.tick
  pub tick_most : s.tick ≤ 1000
  pub id_least : 1 ≤ s.channel.id
  pub id_most : s.channel.id ≤ 65535
  pub pt_most : s.channel.pt ≤ 127
  pub rtx_most : s.channel.rtx ≤ 127
  pub seq0_most : s.channel.seq0 ≤ 65535
  pub ring_least : 1 ≤ s.channel.ring
  pub ring_most : s.channel.ring ≤ 32768
  pub window_most : s.channel.window ≤ 64
  pub share_least : MOST_ON_WIRE ≤ s.channel.share
  pub share_most : s.channel.share ≤ 1000000000
  pub reserve_least : MOST_ON_WIRE ≤ s.channel.reserve
  pub reserve_most : s.channel.reserve ≤ 1000000000
  pub burst_least : MOST_ON_WIRE ≤ s.channel.burst
  pub burst_most : s.channel.burst ≤ 1000000000
  pub declared_most : s.channel.declared ≤ 1000000000
  pub minwire_least : 42 ≤ s.channel.minwire
  pub minwire_most : s.channel.minwire ≤ MOST_ON_WIRE
  pub limit_least : 1 ≤ s.channel.limit
  pub limit_most : s.channel.limit ≤ 1000000
  pub idle_least : 1 ≤ s.channel.idle
  pub idle_most : s.channel.idle ≤ 1000000
  pub clients_least : 1 ≤ s.channel.clients
  pub clients_most : s.channel.clients ≤ 1024
  pub depth_most : s.channel.depth ≤ 1000000000
  pub swell_most : s.channel.swell ≤ 1000000000
  pub types_differ : s.channel.pt ≢ s.channel.rtx
  pub burst_holds : s.channel.declared + MOST_ON_WIRE ≤ s.channel.burst
  pub share_holds : s.channel.reserve + s.channel.burst + s.channel.depth ≤ s.channel.share

-- settings pass the check exactly where they are lawful
abbrev pub PassIfLawful : Type 0
PassIfLawful = (s : Settings) → (checked s ≡ Ok s → IsLawful s) × (IsLawful s → checked s ≡ Ok s)
