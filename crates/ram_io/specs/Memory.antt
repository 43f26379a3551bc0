-- What contracts see of the objects in memory.
use Rattle.std.specs.Prelude.{◌≡◌, ◌⊎◌, ℕ, ◌+◌, ◌^◌, ◌<◌, ◌≤◌, ⊤, Some, List, [], ◌∷◌, ◌++◌, All, length, map, take, drop}
use Rattle.ram_io.specs.Calls.{Counts, called, faulted}
use Rattle.ram_io.specs.Wire.{Outgoing, outgoing}
use Rattle.ram_io.specs.declared.{wire.Incoming.Incoming, wire.Incoming.TheVariants.Nothing, wire.Incoming.TheVariants.Datagram}
use Rattle.ram_io.specs.declared.mem_wire.Sent.{Sent}

-- The counts of an object that was just made.
abbrev pub new_counts : List ℕ → Counts
new_counts fails = record { fails = fails; next = Some 0; faults = 0 }

-- A source: the bytes that are left, and the most that a call gives.
pub record SourceState : Type 0 where
  pub left : List ℕ
  pub most : ℕ
  pub calls : Counts

-- The source that was made with these values.
abbrev pub new_source : List ℕ → ℕ → List ℕ → SourceState
new_source bytes most fails = record { left = bytes; most = most; calls = new_counts fails }

-- The source after a call that gave so many bytes.
abbrev pub after_take : ℕ → SourceState → SourceState
after_take count s = record s { left = drop count s.left; calls = called s.calls }

-- The source after a call that failed.
abbrev pub after_failed_take : SourceState → SourceState
after_failed_take s = record s { calls = faulted (called s.calls) }

-- A sink: the bytes that it holds, for how many it has room, and the most that a call takes.
pub record SinkState : Type 0 where
  pub held : List ℕ
  pub room : ℕ
  pub most : ℕ
  pub calls : Counts

-- The sink that was made with these values.
abbrev pub new_sink : ℕ → ℕ → List ℕ → SinkState
new_sink room most fails = record { held = []; room = room; most = most; calls = new_counts fails }

-- The sink after a call that took these bytes.
abbrev pub after_put : List ℕ → SinkState → SinkState
after_put bytes s = record s { held = s.held ++ bytes; calls = called s.calls }

-- The sink after a call that failed.
abbrev pub after_failed_put : SinkState → SinkState
after_failed_put s = record s { calls = faulted (called s.calls) }

-- No call of the sink fails by its list, and so many further bytes fit.
abbrev pub IsSteadySink : SinkState → ℕ → Type 0
IsSteadySink s bytes = (s.calls.fails ≡ []) × (length s.held + bytes ≤ s.room)

-- A wire: the answers that are left, the datagrams as places in the bytes that went out, and its room for bytes and for datagrams.
pub record WireState : Type 0 where
  pub arrivals : List Incoming
  pub places : List Sent
  pub bytes : List ℕ
  pub room : ℕ
  pub sends : ℕ
  pub calls : Counts

-- The wire that was made with these values.
abbrev pub new_wire : List Incoming → ℕ → ℕ → List ℕ → WireState
new_wire arrivals room sends fails =
    record { arrivals = arrivals; places = []; bytes = []; room = room; sends = sends; calls = new_counts fails }

-- The wire after a call that took an answer.
abbrev pub after_receive : WireState → WireState
after_receive w = record w { arrivals = drop 1 w.arrivals; calls = called w.calls }

-- The place of a datagram that goes behind these bytes.
abbrev pub place_behind : List ℕ → ℕ → ℕ → List ℕ → Sent
place_behind bytes to port more = record { to = to; port = port; start = length bytes; len = length more }

-- The wire after a call that sent a datagram.
abbrev pub after_send : ℕ → ℕ → List ℕ → WireState → WireState
after_send to port bytes w =
    record w { places = w.places ++ place_behind w.bytes to port bytes ∷ []; bytes = w.bytes ++ bytes; calls = called w.calls }

-- The wire after a call that failed.
abbrev pub after_failed_call : WireState → WireState
after_failed_call w = record w { calls = faulted (called w.calls) }

-- No call of the wire fails by its list, and so many further bytes and datagrams fit.
abbrev pub IsSteadyWire : WireState → ℕ → ℕ → Type 0
IsSteadyWire w bytes sends =
    (w.calls.fails ≡ []) × (length w.bytes + bytes ≤ w.room) × (length w.places + sends ≤ w.sends)

-- The wire has no room for a datagram of so many bytes.
abbrev pub IsFullFor : WireState → ℕ → Type 0
IsFullFor w bytes = (length w.places ≡ w.sends) ⊎ (w.room < length w.bytes + bytes)

-- The datagram at a place in the bytes.
abbrev pub datagram_at : List ℕ → Sent → Outgoing
datagram_at bytes place = outgoing place.to place.port (take place.len (drop place.start bytes))

-- The datagrams at these places in the bytes.
abbrev pub datagrams : List Sent → List ℕ → List Outgoing
datagrams places bytes = map (datagram_at bytes) places

-- The sender of the datagram, if there is one, is a client: an IPv4 address times 65536, plus a port.
abbrev pub IsFromClient : Incoming → Type 0
IsFromClient Nothing = ⊤
IsFromClient (Datagram from port bytes) = from < 2 ^ 48

-- Each of these places stands within the bytes.
abbrev pub AreWithin : List Sent → List ℕ → Type 0
AreWithin places bytes = All (λ place. place.start + place.len ≤ length bytes) places

-- What a wire keeps: its datagrams come from clients, what it sent stands within its bytes, and both fit in the memory that it took for them.
pub record IsWireState (arrivals : List Incoming) (places : List Sent) (bytes : List ℕ) (room sends capacity places_capacity : ℕ) : Type 0 where
  pub from_clients : All IsFromClient arrivals
  pub within : AreWithin places bytes
  pub bytes_fit : length bytes ≤ room
  pub room_taken : room ≤ capacity
  pub places_fit : length places ≤ sends
  pub sends_taken : sends ≤ places_capacity
