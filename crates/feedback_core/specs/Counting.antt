-- How much the answers to a datagram have at most.
use Rattle.std.specs.Prelude.{ℕ, ◌+◌, ◌-◌, ◌*◌, ◌/◌, max, nat_lt, if◌then◌else◌, List, [], ◌∷◌, length, Option, Some, None, Result, Ok, Err}
use Rattle.rams_model.specs.declared.FrameFault.{FrameFault}
use Rattle.rams_model.specs.Formats.{Framed, framed, nack_numbers}
use Rattle.rams_model.specs.Service.{Message, named, is_rams, message_of}
use Rattle.rams_model.specs.Service.Messages.{bye, nack, asks, stops}

-- the notes of a NACK that names these numbers: one for each, and one where it is of another source
abbrev pub most_of_numbers : List ℕ → ℕ
most_of_numbers numbers = max 1 (length numbers)

abbrev pub most_of_nack : List ℕ → ℕ
most_of_nack fci = most_of_numbers (named (nack_numbers fci))

-- of a message: a BYE has a Bye and an End, a RAMS-T a StopAt and an End
abbrev pub most_of_message : Message → ℕ
most_of_message (bye p) = 2
most_of_message (nack media sender numbers) = most_of_numbers numbers
most_of_message (asks sender request) = 1
most_of_message (stops stop) = 2

-- the orders of a message: a RAMS message has one
abbrev pub orders_of_message : Message → ℕ
orders_of_message m = if is_rams m then 1 else 0

-- of what a packet is, which may be no message
abbrev pub most_of_found : Option Message → ℕ
most_of_found None = 0
most_of_found (Some m) = most_of_message m

abbrev pub orders_of_found : Option Message → ℕ
orders_of_found None = 0
orders_of_found (Some m) = orders_of_message m

abbrev pub most_of : Framed → ℕ
most_of p = most_of_found (message_of p)

abbrev pub orders_of : Framed → ℕ
orders_of p = orders_of_found (message_of p)

-- of some packets, of whose RAMS messages one is answered
abbrev pub most_notes : List Framed → ℕ
most_notes [] = 0
most_notes (p ∷ ps) = most_of p + most_notes ps

abbrev pub most_orders : List Framed → ℕ
most_orders [] = 0
most_orders (p ∷ ps) = max (orders_of p) (most_orders ps)

-- of a datagram, whose fault is noted where it has one
abbrev pub most_notes_of : Result (List Framed) FrameFault → ℕ
most_notes_of (Ok ps) = most_notes ps
most_notes_of (Err fault) = 1

abbrev pub most_orders_of : Result (List Framed) FrameFault → ℕ
most_orders_of (Ok ps) = most_orders ps
most_orders_of (Err fault) = 0

unfoldable pub most_notes_in : List ℕ → ℕ
most_notes_in bytes = most_notes_of (framed bytes)

unfoldable pub most_orders_in : List ℕ → ℕ
most_orders_in bytes = most_orders_of (framed bytes)

-- of a datagram of so many bytes: the words of a NACK stand behind 12 bytes, in whose place three other packets have two notes each
abbrev pub most_notes_for : ℕ → ℕ
most_notes_for bytes = if nat_lt bytes 12 then bytes / 2 + 1 else 17 * ((bytes - 12) / 4) + 6
