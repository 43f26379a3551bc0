-- What is kept of the client of a datagram while its messages are answered.
use Rattle.std.specs.Prelude.{ℕ, Bool, false, ◌&&◌, nat_le, Option, Some, None}
use Rattle.client_table.specs.declared.{Burst.Burst, Entry.Entry}
use Rattle.client_table.specs.{new_entry}
use Rattle.rams_model.specs.declared.Info.{Info}
use Rattle.rams_model.specs.Service.{is_before}
use Rattle.feedback_core.specs.declared.visitor.Open.{Open}

-- an open burst, where there is one
abbrev pub open_in : Entry → Option Burst → Option Open
open_in e None = None
open_in e (Some b) = Some (record { entry = e; burst = b })

abbrev pub open_of : Option Entry → Option Open
open_of None = None
open_of (Some e) = open_in e e.burst

-- the entry of a client, which becomes known under an SSRC where it wasn't
abbrev pub entry_under : Option Entry → ℕ → ℕ → Entry
entry_under None ssrc seq0 = new_entry ssrc seq0
entry_under (Some e) ssrc seq0 = e

-- a burst that begins, of which its client is told this
abbrev pub begun_burst : ℕ → ℕ → Info → Burst
begun_burst first rate info = record { first = first; next = first; stop = None; rate = rate; ticks = 0; kept = 0; last = info }

-- the open burst will send the packet
abbrev pub is_sent_later : Option Open → ℕ → Bool
is_sent_later None n = false
is_sent_later (Some o) n = nat_le o.burst.next n && is_before o.burst.stop n

-- an entry that is no longer idle
abbrev pub woken : Option Entry → Option Entry
woken None = None
woken (Some e) = Some (record e { idle = 0 })
