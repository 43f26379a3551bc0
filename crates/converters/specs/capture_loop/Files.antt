-- The records of a capture file, as its bytes are cut into them.
use Rattle.std.specs.Prelude.{ℕ, zero, suc, ◌+◌, nat_lt, if◌then◌else◌, List, [], ◌∷◌, length, take, drop, Result, Ok, Err}
use Rattle.converters.specs.declared.capture_loop.pcap_trace.head.CaptureFault.{CaptureFault}
use Rattle.converters.specs.declared.{capture_loop.pcap_trace.head.CaptureFault.TheVariants.Cut, capture_loop.pcap_trace.head.Endian.Endian}
use Rattle.converters.specs.declared.capture_loop.pcap_trace.header.Record.{Record}
use Rattle.converters.specs.capture_loop.pcap_trace.{head_at, record_at}

-- A record: its moment in ms, and the frame that was captured.
pub record Captured : Type 0 where
  pub ms : ℕ
  pub frame : List ℕ

-- the record of this header, which these bytes begin with
abbrev pub captured_in : List ℕ → Record → Captured
captured_in bytes header = record { ms = header.ms; frame = take header.len (drop 16 bytes) }

-- the record that these bytes begin with, by its header, and what stands behind it; or the fault of the header, or that the bytes end early
abbrev pub cut_by : List ℕ → Result Record CaptureFault → Result (Captured × List ℕ) CaptureFault
cut_by bytes (Err fault) = Err fault
cut_by bytes (Ok header) =
    if nat_lt (length bytes) (16 + header.len) then Err Cut
    else Ok (captured_in bytes header, drop (16 + header.len) bytes)

-- the same, where the header is the first 16 bytes
unfoldable pub record_in : Endian → List ℕ → Result (Captured × List ℕ) CaptureFault
record_in e bytes = cut_by bytes (record_at e (take 16 bytes))

-- How the records of a file end.
pub data RecordsEnd : Type 0 where
  -- behind a whole record, or before the first one
  whole : RecordsEnd
  -- at a record with this fault
  broken : CaptureFault → RecordsEnd
  -- at a record too many
  too_many : RecordsEnd

-- The records of a file, and how they end.
pub record Records : Type 0 where
  pub all : List Captured
  pub end : RecordsEnd

-- no record
abbrev pub ended_by : RecordsEnd → Records
ended_by end = record { all = []; end = end }

-- the record that some bytes begin with, and those behind it
abbrev pub with_first : Result (Captured × List ℕ) CaptureFault → (List ℕ → Records) → Records
with_first (Err fault) rest = ended_by (broken fault)
with_first (Ok cut) rest = let r = rest cut.1 in record { all = cut.0 ∷ r.all; end = r.end }

-- the records of these bytes, of which there may be so many
unfoldable pub records_in : ℕ → Endian → List ℕ → Records
records_in zero e [] = ended_by whole
records_in zero e (b ∷ bytes) = ended_by too_many
records_in (suc most) e [] = ended_by whole
records_in (suc most) e (b ∷ bytes) = with_first (record_in e (b ∷ bytes)) (records_in most e)

-- most records of a file
unfoldable pub most_records : ℕ
most_records = 10000000

-- the byte order of a file, or the first fault of its head, which is the first 24 bytes
abbrev pub order_in : List ℕ → Result Endian CaptureFault
order_in bytes = head_at (take 24 bytes)

-- the records behind a file's head
abbrev pub file_records : Endian → List ℕ → Records
file_records e bytes = records_in most_records e (drop 24 bytes)
