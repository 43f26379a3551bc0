-- What contracts see of a hub, and the channels that it stands for.
use Rattle.std.specs.Prelude.{◌≡◌, ◌≢◌, ℕ, ◌+◌, ◌≤◌, Bool, ◌==◌, not, nat_le, nat_lt, if◌then◌else◌, List, [], ◌∷◌, ◌++◌, length, map, sum_by, All, AllPairs, Option, Some, None}
use Rattle.std.specs.List.{list_any}
use Rattle.rams_model.specs.declared.wire.TheConstants.{MOST_ON_WIRE}
use Rattle.rams_model.specs.Service.{Settings}
use Rattle.server_hub.specs.session_core.Seen as cores
use Rattle.server_hub.specs.declared.event.AddFault.{AddFault}
use Rattle.server_hub.specs.declared.event.AddFault.TheVariants.{Full, Twice, Link}
use Rattle.server_hub.specs.Pairs.{Pairwise}
use Rattle.server_hub.specs.Served.{Served}

-- what a hub keeps
pub record Seen : Type 0 where
  -- the length of a tick, in ms
  pub tick : ℕ
  -- bytes per tick of all channels together
  pub link : ℕ
  -- how many events came
  pub calls : ℕ
  -- the cores of the channels, in the order in which these were added
  pub channels : List cores.Seen

-- a hub without channels
abbrev pub new_hub : ℕ → ℕ → Seen
new_hub tick link = record { tick = tick; link = link; calls = 0; channels = [] }

-- the settings of its channels
abbrev pub all_settings : List cores.Seen → List Settings
all_settings channels = map (λ core. core.settings) channels

abbrev pub settings_of : Seen → List Settings
settings_of v = all_settings v.channels

-- the numbers of some channels
abbrev pub ids_of : List Settings → List ℕ
ids_of all = map (λ s. s.channel.id) all

-- one of some channels has this number
abbrev pub has_id : ℕ → List Settings → Bool
has_id id all = list_any (λ s. s.channel.id == id) all

-- the shares of some channels together
abbrev pub shares_of : List Settings → ℕ
shares_of all = sum_by (λ s. s.channel.share) all

-- Channels that may stand on a link: no number stands twice, their shares fit the link, and they have its tick.
pub record FitLink (tick link : ℕ) (all : List Settings) : Type 0 where
  pub few : length all ≤ 64
  pub once : AllPairs (λ x y. x ≢ y) (ids_of all)
  pub shares : shares_of all ≤ link
  pub ticks : All (λ s. s.tick ≡ tick) all

-- What is true of every hub.
pub record IsHub (v : Seen) : Type 0 where
  pub tick_least : 1 ≤ v.tick
  pub tick_most : v.tick ≤ 1000
  pub link_least : MOST_ON_WIRE ≤ v.link
  pub link_most : v.link ≤ 1000000000
  pub channels : FitLink v.tick v.link (settings_of v)
  -- each core stands for some events, no more of them than the hub counts
  pub counted : All (λ core. cores.StandsForFewer core (v.calls + 1)) v.channels

-- What is true of the fields of a hub: the numbers of its channels, the room for them, and the sum of their shares.
pub record AreFields (ids : List ℕ) (room claimed : ℕ) (v : Seen) : Type 0 where
  pub lawful : IsHub v
  pub ids_are : ids ≡ ids_of (settings_of v)
  pub room_is : 64 ≤ room
  pub claimed_is : claimed ≡ shares_of (settings_of v)

-- a core stands for what came to a channel
pub record Serves (v : cores.Seen) (c : Served) : Type 0 where
  pub settings : v.settings ≡ c.settings
  pub stands : cores.StandsFor v c.events

-- each core does for the channel at its place
abbrev pub AllServe : List cores.Seen → List Served → Type 0
AllServe all channels = Pairwise Serves all channels

-- The hub stands for these channels.
abbrev pub StandsFor : Seen → List Served → Type 0
StandsFor v channels = AllServe v.channels channels

-- Why a channel isn't added, memory aside: the first that is true.
abbrev pub refused : Seen → Settings → Option AddFault
refused v s =
    if not (nat_lt (length v.channels) 64) then Some Full
    else if has_id s.channel.id (settings_of v) then Some Twice
    else if not (nat_le (shares_of (settings_of v) + s.channel.share) v.link) then Some Link
    else None

-- Nothing but the cores and the count of events differs, and the channels keep their settings.
pub record KeepsSettings (old new : Seen) : Type 0 where
  pub tick : new.tick ≡ old.tick
  pub link : new.link ≡ old.link
  pub settings : settings_of new ≡ settings_of old

-- Nothing but the channels differs, and one with these settings came last.
pub record AddsSettings (old new : Seen) (s : Settings) : Type 0 where
  pub tick : new.tick ≡ old.tick
  pub link : new.link ≡ old.link
  pub calls : new.calls ≡ old.calls
  pub settings : settings_of new ≡ settings_of old ++ s ∷ []
