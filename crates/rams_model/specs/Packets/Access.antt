-- Where a decoder may start, and where a burst may begin.
use Rattle.std.specs.Prelude.{ℕ, zero, suc, ◌+◌, ◌-◌, ◌*◌, ◌/◌, ◌%◌, ◌^◌, Bool, ◌&&◌, ◌==◌, nat_le, if◌then◌else◌, List, [], ◌∷◌, length, take, drop, filter, slice_index, Option, Some, None, Result, Ok, Err}
use Rattle.std.specs.List.{list_any}
use Rattle.rams_model.specs.declared.{channel.Access.Access, channel.Channel.Channel, held.Held.Held}
use Rattle.rams_model.specs.declared.channel.Access.TheVariants.{Marker, Ts}
use Rattle.rams_model.specs.Formats.{Packet}
use Rattle.rams_model.specs.Packets.Hold.{wires, from_number}

-- the first `count` TS packets of a payload, 188 bytes each (RFC 2250, 2)
abbrev pub ts_packets : ℕ → List ℕ → List (List ℕ)
ts_packets zero payload = []
ts_packets (suc count) payload = take 188 payload ∷ ts_packets count (drop 188 payload)

-- A TS packet with the random access flag: its sync byte, an adaptation field of at least a byte, and the flag there (ISO/IEC 13818-1, 2.4.3.4).
abbrev pub has_flag : List ℕ → Bool
has_flag ts = slice_index ts 0 == 0x47 && slice_index ts 3 / 32 % 2 == 1 && nat_le 1 (slice_index ts 4) && slice_index ts 5 / 64 % 2 == 1

-- one of the whole TS packets of a payload has the flag
unfoldable pub has_access : List ℕ → Bool
has_access payload = list_any has_flag (ts_packets (length payload / 188) payload)

-- an access point: a packet with the marker, or one with a TS packet that has the flag, as the channel says
abbrev pub is_access_point : Access → Packet → Bool
is_access_point Marker p = p.marker
is_access_point Ts p = has_access p.payload

-- the wire sizes of the held packets from number n on
abbrev pub behind : ℕ → List Held → ℕ
behind n held = wires (from_number n held)

-- the timestamp of the last packet
abbrev pub last_timestamp : List Held → ℕ
last_timestamp [] = 0
last_timestamp (h ∷ []) = h.ts
last_timestamp (h ∷ k ∷ hs) = last_timestamp (k ∷ hs)

-- how much older one timestamp is than another, in ms; they count 90 to the ms, modulo 2^32 (RFC 3550, 5.1; RFC 2250, 2)
abbrev pub age_ms : ℕ → ℕ → ℕ
age_ms newer older = (newer + 2 ^ 32 - older) % 2 ^ 32 / 90

-- the time from a held packet to the last one
abbrev pub age : List Held → Held → ℕ
age held h = age_ms (last_timestamp held) h.ts

-- An access point is eligible where the bytes from it on, with what the source declares for a tick, surely fit into the ring.
abbrev pub is_eligible : Channel → List Held → Held → Bool
is_eligible c held h = h.access && nat_le (behind h.n held + c.declared) (c.ring * c.minwire)

-- the eligible access points
abbrev pub eligible : Channel → List Held → List Held
eligible c held = filter (is_eligible c held) held

-- those of at least this age, in ms
abbrev pub of_age : List Held → ℕ → List Held → List Held
of_age held least hs = filter (λ h. nat_le least (age held h)) hs

-- the newest of some packets, which is the last
abbrev pub newest : List Held → Option Held
newest [] = None
newest (h ∷ []) = Some h
newest (h ∷ k ∷ hs) = newest (k ∷ hs)

-- no more than the most that is asked for, where that is
abbrev pub is_at_most : ℕ → Option ℕ → Bool
is_at_most n None = Bool.true
is_at_most n (Some most) = nat_le n most

-- the newest that is old enough, unless it is too old (402) or there is none (401)
abbrev pub not_too_old : List Held → Option ℕ → Option Held → Result Held ℕ
not_too_old held most None = Err 401
not_too_old held most (Some h) = if is_at_most (age held h) most then Ok h else Err 402

-- the choice among the eligible access points; where there is none it is 507
abbrev pub chosen_of : List Held → ℕ → Option ℕ → List Held → Result Held ℕ
chosen_of held least most [] = Err 507
chosen_of held least most (h ∷ hs) = not_too_old held most (newest (of_age held least (h ∷ hs)))

-- Where a burst begins: at the newest eligible access point that is at least `least` ms old, unless it is older than `most`. Else the response code.
unfoldable pub chosen : Channel → List Held → ℕ → Option ℕ → Result Held ℕ
chosen c held least most = chosen_of held least most (eligible c held)
