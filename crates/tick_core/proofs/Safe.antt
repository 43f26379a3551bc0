-- What the calls of a plan ask of the parts, which stand for some events.
use Rattle.std.proofs.Common.{◌≡◌, ℕ, ◌^◌, ◌≤◌, List, Option, Some, None, refl, sym, subst, arith}
use Rattle.std.specs.Option.{option_map}
use Rattle.rams_model.specs.declared.{Event.Event, Held.Held}
use Rattle.rams_model.specs.Service.{Settings, open_burst, history_of}
use Rattle.rams_model.specs.Packets.{hi}
use Rattle.rams_model.specs.Service.Bursts as model
use Rattle.rams_model.proofs.Holding.{held_follow}
use Rattle.channel_config.specs.{IsLawful}
use Rattle.client_table.specs.declared.{Burst.Burst, Entry.Entry}
use Rattle.client_table.specs.{entry_of}
use Rattle.channel_parts.specs.declared.Parts.{Parts}
use Rattle.channel_parts.specs.{burst_kept, StandsFor}
use Rattle.channel_parts.proofs.Facts.{open_bursts_are_within_bounds, open_bursts_have_a_tick_left}
use Rattle.channel_parts.proofs.Given.{held_is, moment}
use Rattle.tick_draft.specs.{IsSmallIfOpen, IsSmallIfKnown, AreSmall}
use Rattle.tick_core.specs.{AreInOrder, IsInTime, AreInTime}

pub in_order : (p : Parts) (events : List Event) → StandsFor p events → AreInOrder p.cache.held
in_order p events stands =
    let before = history_of p.config events in
    subst AreInOrder (sym (held_is p events stands)) (record {
      follows = held_follow p.config before;
      small = omega (arith, subst (λ (hs : List Held). hi hs ≤ 2 ^ 62) (held_is p events stands) stands.packets.small);
    })

burst_in_time : (s : Settings) (k : ℕ) (events : List Event) (burst : Option Burst) (o : Option model.Burst) → IsLawful s → open_burst s k (history_of s events) ≡ o → burst ≡ option_map (burst_kept s) o → IsInTime s burst
burst_in_time s k events None o lawful open_is is = tt
burst_in_time s k events (Some eb) None lawful open_is is = absurd cc
burst_in_time s k events (Some eb) (Some b) lawful open_is is =
    let same : eb ≡ burst_kept s b = cc in
    let bounds = open_bursts_are_within_bounds s k b (history_of s events) (moment s events) open_is in
    let lasts = open_bursts_have_a_tick_left s k b events lawful open_is in
    subst (λ (x : Burst). IsInTime s (Some x)) (sym same) (record { lasts = lasts; budget = omega (arith, bounds.rate_most, lawful.burst_most, lawful.depth_most) })

pub in_time : (p : Parts) (events : List Event) → StandsFor p events → AreInTime p.config p.table
in_time p events stands client e found =
    burst_in_time p.config client events e.burst (open_burst p.config client (history_of p.config events)) stands.lawful refl (stands.table.entries client e found).burst_is

small_burst : (s : Settings) (o : Option Burst) → IsLawful s → IsInTime s o → IsSmallIfOpen o
small_burst s None lawful time = tt
small_burst s (Some b) lawful time = record { ticks = omega (arith, time.lasts, lawful.limit_most); budget = time.budget }

small_entry : (p : Parts) (events : List Event) (client : ℕ) (o : Option Entry) → StandsFor p events → entry_of p.table client ≡ o → IsSmallIfKnown o
small_entry p events client None stands is = tt
small_entry p events client (Some e) stands is = small_burst p.config e.burst stands.lawful (in_time p events stands client e is)

pub small_parts : (p : Parts) (events : List Event) → StandsFor p events → AreSmall p.table
small_parts p events stands client = small_entry p events client (entry_of p.table client) stands refl
