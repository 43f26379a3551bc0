-- Classic capture files: a head of 24 bytes, and records, each behind a header of 16 bytes.
--
-- head: magic a1b2c3d4, version 2 and 4 in 16 bits each, zone, accuracy, snap length, link type
-- record: seconds, microseconds, captured length, original length, and then the captured bytes
use Rattle.std.specs.Prelude.{ℕ, ◌+◌, ◌*◌, ◌/◌, ◌&&◌, ◌==◌, not, nat_lt, if◌then◌else◌, List, length, Option, None, Some, is_some, Result, Ok, Err}
use Rattle.converters.specs.declared.{capture_loop.pcap_trace.head.CaptureFault.CaptureFault, capture_loop.pcap_trace.head.Endian.Endian}
use Rattle.converters.specs.declared.capture_loop.pcap_trace.head.Endian.TheVariants.{Little, Big}
use Rattle.converters.specs.declared.{capture_loop.pcap_trace.kind.FileKind.FileKind, capture_loop.pcap_trace.header.Record.Record}
use Rattle.converters.specs.declared.capture_loop.pcap_trace.head.CaptureFault.TheVariants.{Short, Magic, Version, Link, Cut, Long}
use Rattle.converters.specs.declared.capture_loop.pcap_trace.kind.FileKind.TheVariants as kind
use Rattle.converters.specs.capture_loop.pcap_trace.Numbers.{short_by, word_by, word_at}

-- the byte order in which the bytes begin with this number
abbrev pub order_of : ℕ → List ℕ → Option Endian
order_of magic bytes = if word_by Big 0 bytes == magic then Some Big else if word_by Little 0 bytes == magic then Some Little else None

-- what is behind the magic: version 2.4, and the link type of Ethernet
abbrev pub head_in : List ℕ → Option Endian → Result Endian CaptureFault
head_in bytes None = Err Magic
head_in bytes (Some e) =
    if not (short_by e 4 bytes == 2 && short_by e 6 bytes == 4) then Err Version
    else if not (word_by e 20 bytes == 1) then Err Link
    else Ok e

-- the byte order of a file's head, or its first fault
unfoldable pub head_at : List ℕ → Result Endian CaptureFault
head_at bytes = if nat_lt (length bytes) 24 then Err Short else head_in bytes (order_of 0xa1b2c3d4 bytes)

-- most bytes of a record
abbrev pub most_captured : ℕ
most_captured = 262144

-- the moment of a record in ms, and the length of its bytes, or its first fault
unfoldable pub record_at : Endian → List ℕ → Result Record CaptureFault
record_at e bytes =
    if nat_lt (length bytes) 16 then Err Cut
    else if nat_lt most_captured (word_by e 8 bytes) then Err Long
    else Ok (record { ms = word_by e 0 bytes * 1000 + word_by e 4 bytes / 1000; len = word_by e 8 bytes })

-- what a classic file of microseconds has, by its link type
abbrev pub linked_kind : ℕ → FileKind
linked_kind link =
    if link == 1 then kind.Ethernet
    else if link == 101 then kind.RawIp
    else if link == 113 then kind.LinuxCooked
    else if link == 276 then kind.LinuxCooked2
    else kind.OtherLink link

abbrev pub classic_kind : List ℕ → Option Endian → FileKind
classic_kind bytes None = kind.Unknown
classic_kind bytes (Some e) = linked_kind (word_by e 20 bytes)

-- what a capture file is that begins with these bytes
unfoldable pub kind_at : List ℕ → FileKind
kind_at bytes =
    if nat_lt (length bytes) 24 then kind.Unknown
    else if word_at 0 bytes == 0x0a0d0d0a then kind.Pcapng
    else if is_some (order_of 0xa1b23c4d bytes) then kind.Nanoseconds
    else classic_kind bytes (order_of 0xa1b2c3d4 bytes)
