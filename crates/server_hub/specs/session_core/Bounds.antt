-- How much an answer has at most.
use Rattle.std.specs.Prelude.{ℕ, ◌*◌, ◌^◌, ◌<◌, ◌≤◌, length, All}
use Rattle.rams_model.specs.declared.{Order.Order, Order.TheVariants.Rtx, Order.TheVariants.Info, wire.TheConstants.MOST_PACKET, wire.TheConstants.MOST_ON_WIRE}
use Rattle.rams_model.specs.Service.{Answered}
use Rattle.tick_draft.specs.declared.Sums.{Sums}

-- the packet that it sends again has at most 1,470 bytes
abbrev pub IsShort : Order → Type 0
IsShort (Rtx client n sequence packet) = length packet ≤ MOST_PACKET
IsShort (Info client info) = Unit {0}

-- So does each packet that the answer sends.
abbrev pub SendsShort : Answered → Type 0
SendsShort a = All IsShort a.orders

-- The answer has at most so many notes and so many orders.
abbrev pub HasAtMost : ℕ → ℕ → Answered → Type 0
HasAtMost notes orders a = (length a.notes ≤ notes) × (length a.orders ≤ orders)

-- fewer than 2^32 notes, and fewer than as many orders
abbrev pub IsCountable : Answered → Type 0
IsCountable a = (length a.notes < 2 ^ 32) × (length a.orders < 2 ^ 32)

-- a tick sends fewer than 2^32 packets, none of more than 1,500 bytes on the wire, and ends fewer than as many bursts
pub record AreFew (x : Sums) : Type 0 where
  pub packets : x.packets < 2 ^ 32
  pub of_bursts : x.of_bursts ≤ x.packets
  pub ends : x.ends < 2 ^ 32
  pub bytes : x.bytes ≤ 2 ^ 32 * MOST_ON_WIRE
