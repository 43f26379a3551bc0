-- Parts of answers by themselves: numbers, access points, full rooms, long times.
use Rattle.std.specs.Prelude.{◌≡◌, ℕ, true, false, List, [], ◌∷◌, ◌++◌, replicate, codes, Some, None}
use Rattle.rams_model.specs.declared.note.Note.{Note}
use Rattle.rams_model.specs.declared.note.Note.TheVariants.{Queued, ClientFull, QueueFull}
use Rattle.rams_model.specs.Packets.{first, forward, backward, jump, restart, numbered, has_access}
use Rattle.rams_model.specs.Service.{rate_of, join_ticks, accept_info, History, hold, number_answer, history_of}
use Rattle.rams_model.specs.Worked.Setting.{channel, with_ticks, hex, packet, nack}

-- the sequence numbers 65535, 0, 65534, 20000 and 20001, one after another: the wrap, one behind, a jump and a restart; and the ends of the reach
abbrev pub Numbers : Type 0
Numbers =
    (numbered None None 65535 ≡ first 131071)
    × (numbered (Some 131071) None 0 ≡ forward 131072)
    × (numbered (Some 131072) None 65534 ≡ backward 131070)
    × (numbered (Some 131072) None 20000 ≡ jump)
    × (numbered (Some 131072) (Some 20001) 20001 ≡ restart 151073)
    × (numbered (Some 131072) None 2999 ≡ forward 134071)
    × (numbered (Some 131072) None 3000 ≡ jump)
    × (numbered (Some 131072) None 65436 ≡ jump)
    × (numbered (Some 131072) None 65437 ≡ backward 130973)

-- a TS packet's bytes, the last of them zeros
abbrev ts : List ℕ → List ℕ
ts begins = hex begins ++ replicate 182 0

-- the flag, its adaptation field empty, no adaptation field, one byte short, and in the second TS packet
abbrev pub Flags : Type 0
Flags =
    (has_access (ts (codes "474000200140")) ≡ true)
    × (has_access (ts (codes "474000200040")) ≡ false)
    × (has_access (ts (codes "474000100140")) ≡ false)
    × (has_access (hex (codes "474000200140") ++ replicate 181 0) ≡ false)
    × (has_access (ts (codes "474000100140") ++ ts (codes "474000200140")) ≡ true)

-- two packets, and a repair that waits for client 5
abbrev one_waits : History
one_waits = history_of (with_ticks channel) (nack 5 (codes "000a0000") ∷ packet 11 0 false 4 ∷ packet 10 0 false 4 ∷ [])

-- the answer to a NACK of packet 11, where so many repairs may be pending of a client, and in all
abbrev answered_in : ℕ → ℕ → ℕ → Note
answered_in of_client in_all client =
    number_answer (record { of_client = of_client; in_all = in_all }) (with_ticks channel) (hold (with_ticks channel) one_waits) client one_waits 11

-- the client's room is looked at first, then that of all
abbrev pub FullRooms : Type 0
FullRooms =
    (answered_in 2 2 5 ≡ Queued 5 65547)
    × (answered_in 1 2 5 ≡ ClientFull 5 65547)
    × (answered_in 1 1 5 ≡ ClientFull 5 65547)
    × (answered_in 1 1 6 ≡ QueueFull 6 65547)
    × (answered_in 1 2 6 ≡ Queued 6 65547)

-- the field of the join time has 32 bits, and gives at most what fits; a rate is what the client receives of a tick, rounded down, and at most `burst`
abbrev pub LongTimes : Type 0
LongTimes =
    ((accept_info (with_ticks channel) 500 1600 429496729).join_ms ≡ Some 4294967290)
    × ((accept_info (with_ticks channel) 500 1600 429496730).join_ms ≡ Some 4294967295)
    × (rate_of (Some 1280799) 10 4000 ≡ 1600)
    × (rate_of (Some 18446744073709551615) 1000 4000 ≡ 4000)
    × (rate_of None 10 4000 ≡ 4000)
    × (join_ticks 46 1600 100 0 ≡ 46)
    × (join_ticks 3000 1500 0 0 ≡ 3000)
    × (join_ticks 7500 2999 0 1499 ≡ 3)
    × (join_ticks 7500 2999 0 0 ≡ 5)
