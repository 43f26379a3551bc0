-- What the status of `serve` says.
use Rattle.std.specs.Prelude.{ℕ, ◌≤◌, List, Option}
use Rattle.rams_model.specs.declared.Status.{Status}
use Rattle.rams_model.specs.declared.Status.TheVariants.{Done, NoMemory, ReadFault, WriteFault, BadTrace, WireFault}
use Rattle.ram_io.specs.declared.Incoming.{Incoming}
use Rattle.ram_io.specs.{Outgoing, Rose}
use Rattle.serve_loop.specs.{Given, HasEnded, HasStopped, Room}

-- Where the status is Done or BadTrace the server came to its end, and what is written and sent is all of it; where something stopped it, fronts of it. It ends in no other way.
abbrev pub HasServed : Given → Option (List ℕ) → Option (List ℕ) → Option (List Outgoing) → Option (List Outgoing) → Option (List Incoming) → Status → Type 0
HasServed g held holds went sent left Done = HasEnded g held holds went sent left Done
HasServed g held holds went sent left BadTrace = HasEnded g held holds went sent left BadTrace
HasServed g held holds went sent left NoMemory = HasStopped g held holds went sent
HasServed g held holds went sent left ReadFault = HasStopped g held holds went sent
HasServed g held holds went sent left WriteFault = HasStopped g held holds went sent
HasServed g held holds went sent left WireFault = HasStopped g held holds went sent
HasServed g held holds went sent left _ = ⊥

-- no more room than is said
abbrev pub no_room : Room
no_room = record { text = 0; bytes = 0; datagrams = 0 }

-- the object's faults rose where the status names it
abbrev pub HasFaultOf : ℕ → ℕ → ℕ → ℕ → ℕ → ℕ → Status → Type 0
HasFaultOf read reads write writes wire wires ReadFault = Rose read reads
HasFaultOf read reads write writes wire wires WriteFault = Rose write writes
HasFaultOf read reads write writes wire wires WireFault = Rose wire wires
HasFaultOf read reads write writes wire wires _ = Unit {0}

-- No count of faults fell, and a status that names an object has its cause.
pub record IsCausedOverWire (read reads write writes wire wires : ℕ) (status : Status) : Type 0 where
  pub read_later : read ≤ reads
  pub write_later : write ≤ writes
  pub wire_later : wire ≤ wires
  pub cause : HasFaultOf read reads write writes wire wires status
