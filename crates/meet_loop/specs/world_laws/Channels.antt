-- What is true of the source of a channel, whatever came to it.
use Rattle.std.specs.Prelude.{◌≡◌, ℕ, ◌%◌, ◌≤◌, ◌<◌, List, Some, Ok, All, Contains}
use Rattle.std.specs.List.{AllByRecursion}
use Rattle.rams_model.specs.declared.{Order.Order, Order.TheVariants.Rtx, Order.TheVariants.Info, Event.Event, Held.Held}
use Rattle.rams_model.specs.Formats.{Packet, stripped, packet_at}
use Rattle.server_hub.specs.{answer_to, with_event}
use Rattle.server_hub.specs.Served.{Served}
use Rattle.meet_loop.specs.world_laws.Sources.{source_of, as_it_came}
use Rattle.service_laws.specs.byte_laws.{HasBytes}

-- A packet of the source came in a live event, and was read of its bytes: a packet of the media source and payload type, whose sequence number are the low 16 bits of its number.
pub record CameAs (c : Served) (h : Held) : Type 0 where
  pub bytes : List ℕ
  pub came : as_it_came c.settings c.events h.n ≡ Some bytes
  pub packet : Packet
  pub is_read : packet_at bytes ≡ Ok packet
  pub media : packet.ssrc ≡ c.settings.channel.ssrc
  pub kind : packet.payload_type ≡ c.settings.channel.pt
  pub low : h.n % 65536 ≡ packet.sequence
  pub high : 65536 ≤ h.n
  pub is_it : h.packet ≡ stripped packet

abbrev pub EachPacketOfTheSourceCame : Type 0
EachPacketOfTheSourceCame = (c : Served) → AllByRecursion HasBytes c.events → (h : Held) → Contains (source_of c) h → CameAs c h

-- What an order sends again is the packet of its number.
pub record SendsAgain (packets : List Held) (n sequence : ℕ) (packet : List ℕ) : Type 0 where
  pub h : Held
  pub of_source : Contains packets h
  pub number : h.n ≡ n
  pub is_it : h.packet ≡ packet
  pub few : sequence < 65536

abbrev pub IsAgain : List Held → Order → Type 0
IsAgain packets (Rtx client n sequence packet) = SendsAgain packets n sequence packet
IsAgain packets (Info client info) = Unit {0}

-- Each packet that the answer to an event sends is one of the source.
abbrev pub EachOrderIsForAPacketOfTheSource : Type 0
EachOrderIsForAPacketOfTheSource = (c : Served) (e : Event) → All (IsAgain (source_of (with_event e c))) (answer_to e c).orders

-- What is of the source stays so.
abbrev pub TheSourceKeepsItsPackets : Type 0
TheSourceKeepsItsPackets = (c : Served) (e : Event) (h : Held) → Contains (source_of c) h → Contains (source_of (with_event e c)) h
