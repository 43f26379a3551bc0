-- The parts of a channel to which nothing came stand for no events.
use Rattle.std.proofs.Common.{◌≡◌, ◌<◌, ◌^◌, true, List, [], refl, sym, subst, arith}
use Rattle.std.proofs.lemmas.List.Elements.{All-nil}
use Rattle.rams_model.specs.declared.Channel.{Channel}
use Rattle.rams_model.specs.Service.{Settings, arrivals, known, opened, is_among, bursts, Wanted, pending, channel_left, history_of}
use Rattle.rams_model.specs.Packets.{Arrival, hi}
use Rattle.channel_config.specs.{IsLawful}
use Rattle.channel_cache.specs.{new_cache}
use Rattle.channel_cache.specs.Seen as caches
use Rattle.reckoning.specs.link_budget.{amounts}
use Rattle.reckoning.specs.link_budget.Amounts.{Amounts}
use Rattle.client_table.specs.{nobody}
use Rattle.client_table.specs.Clients.{Clients}
use Rattle.channel_parts.specs.declared.parts.Parts.{Parts}
use Rattle.channel_parts.specs.{StandsFor, new_parts}

new_stands : (s : Settings) → IsLawful s → caches.StandsFor (new_cache s) [] → StandsFor (new_parts s) []
unfolding history_of arrivals known opened bursts pending channel_left hi
new_stands s lawful stands = let none : hi (new_parts s).cache.held ≡ 0 = refl in record {
  lawful = lawful;
  packets = record { settings_are = refl; stands = stands; low = All-nil (λ (a : Arrival). a.sequence < 2 ^ 16); small = omega (arith, none) };
  table = record { most = refl; clients = refl; entries = λ k e found. absurd cc; others = λ k f. refl };
  queue = record { pending_is = refl; known_is = All-nil (λ (w : Wanted). is_among w.client [] ≡ true) };
  budget = refl;
}

-- the same of parts that are each new
pub begun_stands : (s : Settings) (channel : Channel) (cache : caches.Seen) (budget : Amounts) (queue : List Wanted) (table : Clients) → IsLawful s → channel ≡ s.channel
    → cache ≡ new_cache s → caches.StandsFor cache [] → budget ≡ amounts channel.share channel.reserve channel.swell 0 0 → queue ≡ [] → table ≡ nobody channel.clients
    → StandsFor (record { config = s; cache = cache; budget = budget; queue = queue; table = table }) []
begun_stands s channel cache budget queue table lawful channel_is cache_is stands budget_is queue_is table_is =
    let p : Parts = record { config = s; cache = cache; budget = budget; queue = queue; table = table } in
    let same : p ≡ new_parts s = cc in
    subst (λ (v : Parts). StandsFor v []) (sym same) (new_stands s lawful (subst (λ (v : caches.Seen). caches.StandsFor v []) cache_is stands))
