-- Why an event stopped a server.
use Rattle.std.proofs.Common.{ℕ, ◌≤◌, Result, Ok, Err, IfErr, arith}
use Rattle.trace_loop.specs.declared.Stop.{Stop}
use Rattle.trace_loop.specs.declared.Stop.TheVariants.{Memory, Read, Write, Wire}
use Rattle.trace_loop.proofs.Reading.{rose_since}
use Rattle.serve_loop.specs.{IsOutStop, IsWireStop, IsWriteStop, IsStoppedByWire, IsStoppedByWrite, IsStoppedOutside}

wire_out : (write writes wire mid wires : ℕ) (stop : Stop) → wire ≤ mid → IsWireStop mid wires stop → IsOutStop write writes wire wires stop
wire_out write writes wire mid wires Memory less cause = tt
wire_out write writes wire mid wires Read less cause = absurd cause
wire_out write writes wire mid wires Write less cause = absurd cause
wire_out write writes wire mid wires Wire less cause = rose_since wire mid wires less cause

write_out : (write mid writes wire wires : ℕ) (stop : Stop) → write ≤ mid → IsWriteStop mid writes stop → IsOutStop write writes wire wires stop
write_out write mid writes wire wires Memory less cause = tt
write_out write mid writes wire wires Read less cause = absurd cause
write_out write mid writes wire wires Write less cause = rose_since write mid writes less cause
write_out write mid writes wire wires Wire less cause = absurd cause

-- the wire stopped the call, or want of memory did
pub stopped_by_wire : {T : Type 0} (write writes wire wires : ℕ) (r : Result T Stop) → write ≤ writes → IsStoppedByWire wire wires r → IsStoppedOutside write writes wire wires r
stopped_by_wire write writes wire wires r less s = record { write_later = less; wire_later = s.later; cause = by r s.cause }
  where
    by : {T : Type 0} (x : Result T Stop) → IfErr x (IsWireStop wire wires) → IfErr x (IsOutStop write writes wire wires)
    by (Ok t) h = tt
    by (Err stop) h = wire_out write writes wire wire wires stop (omega arith) h

-- the sink did, or want of memory
pub write_stops : (write mid writes wire : ℕ) (stop : Stop) → write ≤ mid → IsWriteStop mid writes stop → IsOutStop write writes wire wire stop
write_stops write mid writes wire stop less cause = write_out write mid writes wire wire stop less cause

-- what stopped a call stopped those that began before it
pub outside_since : {T : Type 0} (write mid writes wire second wires : ℕ) (r : Result T Stop) → write ≤ mid → wire ≤ second → IsStoppedOutside mid writes second wires r → IsStoppedOutside write writes wire wires r
outside_since write mid writes wire second wires r less same s =
    let wrote = s.write_later in
    let sent = s.wire_later in
    record { write_later = omega (arith, less, wrote); wire_later = omega (arith, same, sent); cause = by r s.cause }
  where
    by : {T : Type 0} (x : Result T Stop) → IfErr x (IsOutStop mid writes second wires) → IfErr x (IsOutStop write writes wire wires)
    by (Ok t) h = tt
    by (Err Memory) h = tt
    by (Err Read) h = h
    by (Err Write) h = rose_since write mid writes less h
    by (Err Wire) h = rose_since wire second wires same h

-- the sink stopped the call, or want of memory did
pub stopped_by_write : {T : Type 0} (write writes wire wires : ℕ) (r : Result T Stop) → wire ≤ wires → IsStoppedByWrite write writes r → IsStoppedOutside write writes wire wires r
stopped_by_write write writes wire wires r less s = record { write_later = s.later; wire_later = less; cause = by r s.cause }
  where
    by : {T : Type 0} (x : Result T Stop) → IfErr x (IsWriteStop write writes) → IfErr x (IsOutStop write writes wire wires)
    by (Ok t) h = tt
    by (Err stop) h = write_out write write writes wire wires stop (omega arith) h
