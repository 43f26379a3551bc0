-- Where a burst began, as its client finds it out: a client with an open burst is known, and each of the burst's first packets tells its first number.
use Rattle.std.specs.Prelude.{◌≡◌, ℕ, ◌+◌, ◌-◌, ◌%◌, ◌<◌, ◌≤◌, Bool, ◌==◌, IsTrue, List, ◌∷◌, length, Option, Some, None}
use Rattle.rams_model.specs.declared.Order.TheVariants as orders
use Rattle.rams_model.specs.declared.{Event.Event, Held.Held, Info.Info}
use Rattle.rams_model.specs.declared.Note.TheVariants.{Accept, Burst as BurstNote, Repair}
use Rattle.rams_model.specs.Receiver.{first_number, again, Turn, delivers, reception, source_first}
use Rattle.rams_model.specs.Service.{Settings, Item, noted, History, known, is_among, has_open, order_of, history_of}
use Rattle.rams_model.specs.Laws.{NoneIs, ends_known}
use Rattle.service_laws.specs.book_laws.Moments.{IsMoment, LastAccept}
use Rattle.service_laws.specs.book_laws.Sendings.{first_sendings}

-- After each event the client of an open burst is known. No client is forgotten after 0 idle ticks: no channel is opened with that.
abbrev pub AnOpenBurstsClientIsKnown : Type 0
AnOpenBurstsClientIsKnown =
    (s : Settings) (events : List Event) (client : ℕ) → 1 ≤ s.channel.idle → IsTrue (has_open s client (history_of s events)) → IsTrue (is_among client (known (history_of s events)))

-- A client that is sent a packet of its burst stayed known since the burst was accepted.
abbrev pub WhoIsSentABurstStayedKnown : Type 0
WhoIsSentABurstStayedKnown =
    (s : Settings) (client n number : ℕ) (packet : Option Held) (before : History) → 1 ≤ s.channel.idle → IsMoment s (noted (BurstNote client n number) packet ∷ before)
    → (a : LastAccept before client) → NoneIs (ends_known client) a.since

-- a Repair note of the client
abbrev pub is_repair_to : ℕ → Item → Bool
is_repair_to k (noted (Repair client n number) packet) = client == k
is_repair_to k _ = Bool.false

-- A packet of this number, sent under this sequence number, tells where the burst began to who was told of it so (RFC 6285, 7.3: TLV 32).
pub record TellsTheFirst (info : Info) (n number first : ℕ) : Type 0 where
  pub named : ℕ
  pub is_named : info.first ≡ Some named
  -- its sequence number is as far ahead of the one that was named, modulo 65,536, as its number of the burst's first
  pub from : first ≤ n
  pub near : n < first + 16384
  pub ahead : number ≡ (named + (n - first)) % 65536
  -- so a receiver that has taken this RAMS-I and begins with this packet finds the burst's first, by the source's number
  pub found : (turns : List Turn) (packet : List ℕ) → source_first turns ≡ None → (reception turns).named ≡ info.first
      → source_first (delivers n (again number (n % 65536) packet) ∷ turns) ≡ Some first
  -- and its own first number has the low 16 bits of that
  pub own : first_number info.first number (n % 65536) ≡ Some (65536 + first % 65536)

-- The first 16,384 packets of a burst, as long as no packet was repaired for the client since the Accept, tell what its RAMS-I needs to place the first.
abbrev pub TheFirstNumberIsTheBursts : Type 0
TheFirstNumberIsTheBursts =
    (s : Settings) (client n number : ℕ) (packet : Option Held) (before : History) → 1 ≤ s.channel.idle → IsMoment s (noted (BurstNote client n number) packet ∷ before)
    → (a : LastAccept before client) → length (first_sendings client a.since) < 16384 → NoneIs (is_repair_to client) a.since
    → (info : Info) → order_of s a.before (Accept client a.first a.rate a.join) a.packet ≡ Some (orders.Info client info) → TellsTheFirst info n number a.first
