-- What is true of the parts of a channel whenever they stand for some events.
use Rattle.std.specs.Prelude.{◌≡◌, ℕ, ◌+◌, ◌^◌, ◌<◌, ◌≤◌, Bool, false, List, ◌∷◌, sum_by, All, Option, Some, None, IfSome, is_some}
use Rattle.rams_model.specs.declared.{Event.Event, Held.Held, LiveNote.LiveNote, wire.TheConstants.MOST_ON_WIRE}
use Rattle.rams_model.specs.declared.Event.TheVariants.{Live, Feedback, Tick}
use Rattle.rams_model.specs.Service.{Settings, History, arrivals, hold, known, is_among, pending, is_busy, history_of}
use Rattle.rams_model.specs.Packets.{lo, hi, Follows}
use Rattle.channel_cache.specs.{live_note_of, arrivals_after}
use Rattle.channel_cache.specs.Seen as caches
use Rattle.client_table.specs.declared.{Burst.Burst, Entry.Entry}
use Rattle.client_table.specs.{entry_of}
use Rattle.channel_parts.specs.declared.parts.Parts.{Parts}
use Rattle.channel_parts.specs.Standing.{IsEntry, IsTable, IsBudget, StandsFor}

-- What is held is what the history holds; its numbers follow one another, and are small.
pub record IsHeld (s : Settings) (history : History) (held : List Held) : Type 0 where
  pub same : held ≡ hold s history
  pub follows : Follows (lo held) held
  pub small : hi held ≤ 2 ^ 62

abbrev pub HeldPacketsAreInOrder : Type 0
HeldPacketsAreInOrder = (p : Parts) (events : List Event) → StandsFor p events → IsHeld p.config (history_of p.config events) p.cache.held

-- A client has an entry exactly where it is known.
abbrev pub KnownClientsHaveEntries : Type 0
KnownClientsHaveEntries =
    (p : Parts) (events : List Event) → StandsFor p events → (k : ℕ) → is_some (entry_of p.table k) ≡ is_among k (known (history_of p.config events))

-- Each entry of the table is its client's.
abbrev pub EntriesAreOfTheirClients : Type 0
EntriesAreOfTheirClients =
    (p : Parts) (events : List Event) → StandsFor p events → All (λ e. IsEntry p.config e.0 (history_of p.config events) e.1) p.table.known

-- The bounds of an open burst in the table.
pub record IsBurstInBounds (s : Settings) (held : List Held) (b : Burst) : Type 0 where
  pub first_most : b.first ≤ b.next
  pub next_most : b.next ≤ hi held
  pub rate_least : s.channel.declared + MOST_ON_WIRE ≤ b.rate
  pub rate_most : b.rate ≤ s.channel.burst
  pub ticks_most : b.ticks < s.channel.limit
  pub kept_most : b.kept ≤ s.channel.depth

-- The bounds of an entry, of a client that is busy or not.
pub record IsEntryInBounds (s : Settings) (held : List Held) (busy : Bool) (e : Entry) : Type 0 where
  pub seq_most : e.seq < 2 ^ 16
  pub idle_most : busy ≡ false → e.idle < s.channel.idle
  pub burst : IfSome e.burst (IsBurstInBounds s held)

abbrev pub EntriesAreInBounds : Type 0
EntriesAreInBounds =
    (p : Parts) (events : List Event) → StandsFor p events → (k : ℕ) (e : Entry) → entry_of p.table k ≡ Some e → IsEntryInBounds p.config p.cache.held (is_busy p.config k (history_of p.config events)) e

-- what an entry's burst reserves: its rate, and all that it may keep
abbrev pub amount_of : Settings → Option Burst → ℕ
amount_of s None = 0
amount_of s (Some b) = b.rate + s.channel.depth

-- The budget has reserved what the bursts of the table reserve, together.
abbrev pub ReservedIsOfTheEntries : Type 0
ReservedIsOfTheEntries =
    (p : Parts) (events : List Event) → StandsFor p events → p.budget.reserved ≡ sum_by (λ e. amount_of p.config e.1.burst) p.table.known

-- The note of the bytes of a live packet, and what becomes of the cache that takes them.
pub record IsTaken (p : Parts) (events : List Event) (bytes : List ℕ) (note : LiveNote) (cache : caches.Seen) : Type 0 where
  pub noted : live_note_of p.config (arrivals (history_of p.config events)) bytes ≡ Some note
  pub stands : caches.StandsFor cache (arrivals_after p.config bytes (arrivals (history_of p.config events)))
  pub settings_are : cache.settings ≡ p.config
  pub small : hi cache.held ≤ 2 ^ 62

-- After a live packet that the cache took the parts stand for it too: nothing else of them changes.
abbrev pub LivePacketsChangeTheCache : Type 0
LivePacketsChangeTheCache =
    (p : Parts) (events : List Event) (bytes : List ℕ) (note : LiveNote) (cache : caches.Seen) → All (λ b. b < 256) bytes → StandsFor p events
    → IsTaken p events bytes note cache → StandsFor (record p { cache = cache }) (Live bytes ∷ events)

-- Of other parts each is what the history says, and the settings and the cache are as they were.
pub record GoOn (p q : Parts) (history : History) : Type 0 where
  pub same_config : q.config ≡ p.config
  pub same_cache : q.cache ≡ p.cache
  pub table : IsTable p.config history q.table
  pub queue : q.queue ≡ pending history
  pub budget : IsBudget p.config history q.budget

-- After a tick or a datagram such parts stand for it too.
abbrev pub OtherEventsLeaveTheCache : Type 0
OtherEventsLeaveTheCache =
    (p q : Parts) (events : List Event) → StandsFor p events
    → (GoOn p q (history_of p.config (Tick ∷ events)) → StandsFor q (Tick ∷ events))
    × ((client : ℕ) (bytes : List ℕ) → GoOn p q (history_of p.config (Feedback client bytes ∷ events)) → StandsFor q (Feedback client bytes ∷ events))
