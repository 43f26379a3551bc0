-- What the parts of a channel keep between events, and the history that they stand for.
use Rattle.std.specs.Prelude.{◌≡◌, ℕ, ◌^◌, ◌≤◌, false, true, List, [], All, Some, None, option_map}
use Rattle.rams_model.specs.declared.Event.{Event}
use Rattle.rams_model.specs.Service.{Settings, History, arrivals, known, is_among, sequence, ssrc, next, kept, open_burst, Wanted, pending, is_busy, idle, reserved, channel_left, history_of}
use Rattle.rams_model.specs.Packets.{hi}
use Rattle.rams_model.specs.Service.Bursts as model
use Rattle.channel_config.specs.{IsLawful}
use Rattle.channel_cache.specs.{new_cache}
use Rattle.channel_cache.specs.Seen as caches
use Rattle.reckoning.specs.link_budget.{amounts}
use Rattle.reckoning.specs.link_budget.Amounts.{Amounts}
use Rattle.client_table.specs.declared.{Burst.Burst, Entry.Entry}
use Rattle.client_table.specs.{nobody, clients_of, entry_of}
use Rattle.client_table.specs.Clients.{Clients}
use Rattle.channel_parts.specs.declared.parts.Parts.{Parts}
use Rattle.channel_parts.specs.Facts.{HaveLowNumbers}

-- what an entry keeps of an open burst
abbrev pub burst_kept : Settings → model.Burst → Burst
burst_kept s b = record { first = b.first; next = next b; stop = b.stop; rate = b.rate; ticks = b.ticks; kept = kept s b; last = b.last }

-- A known client's entry, between two events, is what the history says of it. Its idle count is the client's where it isn't busy; one that is busy isn't idle, whatever its entry counts.
pub record IsEntry (s : Settings) (k : ℕ) (history : History) (e : Entry) : Type 0 where
  pub ssrc_is : ssrc k history ≡ Some e.ssrc
  pub seq_is : e.seq ≡ sequence s k history
  pub idle_is : is_busy s k history ≡ false → e.idle ≡ idle s k history
  pub burst_is : e.burst ≡ option_map (burst_kept s) (open_burst s k history)

-- The table has exactly the known clients, each with its entry; only known clients have open bursts.
pub record IsTable (s : Settings) (history : History) (table : Clients) : Type 0 where
  pub most : table.most ≡ s.channel.clients
  pub clients : clients_of table ≡ known history
  pub entries : (k : ℕ) (e : Entry) → entry_of table k ≡ Some e → IsEntry s k history e
  pub others : (k : ℕ) → is_among k (known history) ≡ false → open_burst s k history ≡ None

-- The queue has the pending repairs, which are of known clients.
pub record IsQueue (history : History) (queue : List Wanted) : Type 0 where
  pub pending_is : queue ≡ pending history
  pub known_is : All (λ w. is_among w.client (known history) ≡ true) queue

-- The budget has what the open bursts reserve, and what the channel's bucket has left.
abbrev pub IsBudget : Settings → History → Amounts → Type 0
IsBudget s history budget =
    budget ≡ amounts s.channel.share s.channel.reserve s.channel.swell (reserved s history) (channel_left s history)

-- The cache has the live packets that passed the tests, whose sequence numbers have 16 bits. The numbers of those that it holds are at most 2^62.
pub record IsCache (s : Settings) (history : History) (cache : caches.Seen) : Type 0 where
  pub settings_are : cache.settings ≡ s
  pub stands : caches.StandsFor cache (arrivals history)
  pub low : HaveLowNumbers (arrivals history)
  pub small : hi cache.held ≤ 2 ^ 62

-- The parts stand for these events, the newest first: each is what their history says. The settings are lawful.
pub record StandsFor (p : Parts) (events : List Event) : Type 0 where
  pub lawful : IsLawful p.config
  pub packets : IsCache p.config (history_of p.config events) p.cache
  pub table : IsTable p.config (history_of p.config events) p.table
  pub queue : IsQueue (history_of p.config events) p.queue
  pub budget : IsBudget p.config (history_of p.config events) p.budget

-- the parts of a channel that nothing came to
abbrev pub new_parts : Settings → Parts
new_parts s = record {
  config = s;
  cache = new_cache s;
  budget = amounts s.channel.share s.channel.reserve s.channel.swell 0 0;
  queue = [];
  table = nobody s.channel.clients;
}
