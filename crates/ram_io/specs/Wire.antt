-- What a wire brings and takes.
use Rattle.std.specs.Prelude.{◌≡◌, ℕ, Option, Some, None, Result, List, [], ◌∷◌, ◌++◌, take, drop, slice_index_or, IfSome, MatchResult}
use Rattle.ram_io.specs.declared.{failed.Failed.Failed, wire.Arrival.Arrival, wire.Incoming.Incoming}
use Rattle.ram_io.specs.declared.wire.Incoming.TheVariants.{Nothing, Datagram}

-- A datagram that goes to a client from a local port.
pub record Outgoing : Type 0 where
  pub to : ℕ
  pub port : ℕ
  pub bytes : List ℕ

-- That datagram.
abbrev pub outgoing : ℕ → ℕ → List ℕ → Outgoing
outgoing to port bytes = record { to = to; port = port; bytes = bytes }

-- The answer that a call of `receive` gave, its datagram read from the buffer.
abbrev pub seen : Option Arrival → List ℕ → Incoming
seen None buf = Nothing
seen (Some a) buf = Datagram a.from a.port (take a.len buf)

-- The answer with its datagram cut to the 2,000 bytes of a buffer.
abbrev pub cut : Incoming → Incoming
cut Nothing = Nothing
cut (Datagram from port bytes) = Datagram from port (take 2000 bytes)

-- The next of the answers that are left; after the last there is nothing.
abbrev pub next_answer : List Incoming → Incoming
next_answer arrivals = slice_index_or arrivals 0 Nothing

-- Where the answers are told, a call took and gave the next one, and a call that failed took none.
abbrev pub TakesNext : Option (List Incoming) → Option (List Incoming) → Result (Option Arrival) Failed → List ℕ → Type 0
TakesNext old new result buf =
    IfSome old (λ arrivals. MatchResult result (λ a. (seen a buf ≡ cut (next_answer arrivals)) × (new ≡ Some (drop 1 arrivals))) (λ _. new ≡ Some arrivals))

-- Where the datagrams are told, a call sent this one, and a call that failed sent nothing.
abbrev pub SendsOne : Option (List Outgoing) → Option (List Outgoing) → Result (Unit {0}) Failed → Outgoing → Type 0
SendsOne old new result datagram =
    IfSome old (λ sent. MatchResult result (λ _. new ≡ Some (sent ++ datagram ∷ [])) (λ _. new ≡ Some sent))
