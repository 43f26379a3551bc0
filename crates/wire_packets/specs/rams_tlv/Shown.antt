-- A request as code has it.
use Rattle.std.specs.Prelude.{◌≡◌, ℕ, ◌≤◌, ◌%◌, List, length, Option, option_map, IfSome}
use Rattle.std.specs.Borrow.{Bor}
use Rattle.rams_model.specs.Formats.{words32}
use Rattle.rams_model.specs.Formats.Rams as rams
use Rattle.wire_packets.specs.declared.rams_tlv.rams_r.Request.{Request}

-- a list of SSRCs, as numbers
abbrev pub shown_ssrcs : Option (Bor (List ℕ)) → Option (List ℕ)
shown_ssrcs ssrcs = option_map (λ bytes. words32 bytes.now) ssrcs

abbrev pub shown_request : Request → rams.Request
shown_request r = record { ssrcs = shown_ssrcs r.ssrcs; min_ms = r.min_ms; max_ms = r.max_ms; bps = r.bps; preamble = r.preamble }

-- A list has at most 64 SSRCs, of four bytes each.
abbrev pub IsWritable : Option (Bor (List ℕ)) → Type 0
IsWritable ssrcs = IfSome ssrcs (λ list. (length list.now ≤ 256) × (length list.now % 4 ≡ 0))

abbrev pub HasSpelling : Request → Type 0
HasSpelling r = IsWritable r.ssrcs
