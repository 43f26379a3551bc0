-- What makes the answers to a datagram safe, and what they are.
use Rattle.std.specs.Prelude.{◌≡◌, ℕ, ◌+◌, ◌<◌, ◌≤◌, ◌^◌, true, List, ◌∷◌, length, Option, None, IsSome, IfSome}
use Rattle.rams_model.specs.declared.{Held.Held, Note.Note}
use Rattle.rams_model.specs.Service.{Settings, rate_of, noted, History, Wanted}
use Rattle.rams_model.specs.Packets.{lo, hi, Follows}
use Rattle.reckoning.specs.link_budget.Amounts.{Amounts}
use Rattle.channel_cache.specs.Seen as caches
use Rattle.feedback_core.specs.declared.{visitor.Open.Open, visitor.Visitor.Visitor}
use Rattle.feedback_core.specs.Visitors.{open_of}
use Rattle.feedback_core.specs.Visits.{IsVisit}

-- the numbers of what is held follow one another, and are few and small
pub record IsHeldRun (held : List Held) : Type 0 where
  pub follows : Follows (lo held) held
  pub ends : hi held ≡ lo held + length held
  pub few : length held ≤ 32768
  pub small : hi held ≤ 2 ^ 62

-- the cache has these settings
pub record IsReady (s : Settings) (cache : caches.Seen) : Type 0 where
  pub settings_are : cache.settings ≡ s
  pub run : IsHeldRun cache.held

-- An open burst has its rate and the depth reserved, and its numbers are small.
pub record IsSafeBurst (s : Settings) (budget : Amounts) (o : Open) : Type 0 where
  pub first : o.burst.first < 2 ^ 63
  pub rate : o.burst.rate ≤ 10 ^ 9
  pub reserved : o.burst.rate + s.channel.depth ≤ budget.reserved
  pub ticks : o.burst.ticks ≤ s.channel.limit

-- A known client has its place in the table, and its open burst is safe.
pub record IsSafe (s : Settings) (v : Visitor) : Type 0 where
  pub placed : IsSome v.entry → v.has_place ≡ true
  pub burst : IfSome (open_of v.entry) (IsSafeBurst s v.budget)

-- it is the same client, with the same place
pub record AreOfOne (old new : Visitor) : Type 0 where
  pub client : new.client ≡ old.client
  pub has_place : new.has_place ≡ old.has_place

-- the rate that a bit rate asks for
abbrev pub rate_for : Settings → Option ℕ → ℕ
rate_for s bps = rate_of bps s.tick s.channel.burst

-- The visitor is answered with this note, which is the lawful one, and is then what the history says with it.
pub record IsAnswered (s : Settings) (before history : History) (queue : List Wanted) (new : Visitor) (note lawful : Note) : Type 0 where
  pub is_lawful : note ≡ lawful
  pub visit : IsVisit s before (noted note None ∷ history) new queue
