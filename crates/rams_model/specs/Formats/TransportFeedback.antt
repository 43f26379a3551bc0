-- Transport layer feedback (RFC 4585, 6.1), and the generic NACK (RFC 4585, 6.2.1).
use Rattle.std.specs.Prelude.{◌≡◌, ℕ, ◌+◌, ◌-◌, ◌%◌, ◌^◌, ◌&&◌, ◌==◌, nat_lt, nat_le, if◌then◌else◌, zero, suc, List, [], ◌∷◌, ◌++◌, length, drop, map, filter, Option, None, Some, Result, Ok, Err}
use Rattle.std.specs.Int.{w16, w32, to_be_bytes, from_be_bytes, bit_at}
use Rattle.rams_model.specs.declared.{fault.NackFault.NackFault, fault.NackFault.TheVariants.Empty, fault.NackFault.TheVariants.Length}
use Rattle.rams_model.specs.declared.rtcp.TheConstants.{RTPFB, FMT_NACK}
use Rattle.rams_model.specs.Formats.Rtcp.{Framed, framed}
use Rattle.rams_model.specs.Formats.RamsInfo.{transport_feedback}

-- the SSRCs of the packet's sender and of the media source, the format, and the feedback control information
pub record Feedback : Type 0 where
  pub sender : ℕ
  pub media : ℕ
  pub format : ℕ
  pub fci : List ℕ

-- the transport layer feedback that a packet is
abbrev pub feedback_of : Framed → Option Feedback
feedback_of p =
    if p.kind == RTPFB && nat_le 8 (length p.body)
    then Some (record { sender = from_be_bytes w32 p.body; media = from_be_bytes w32 (drop 4 p.body); format = p.count; fci = drop 8 p.body })
    else None

-- A feedback message alone in a datagram is framed as one packet, which has its parts.
pub record FramesAs (format sender media : ℕ) (fci : List ℕ) : Type 0 where
  pub packet : Framed
  pub framed : framed (transport_feedback format sender media fci) ≡ Ok (packet ∷ [])
  pub feedback : feedback_of packet ≡ Some (record { sender = sender; media = media; format = format; fci = fci })

-- n numbers, from one on
abbrev pub counted_from : ℕ → ℕ → List ℕ
counted_from i zero = []
counted_from i (suc n) = i ∷ counted_from (i + 1) n

--  0                   1                   2                   3
--  0 1 2 3 4 5 6 7 8 9 0 1 2 3 4 5 6 7 8 9 0 1 2 3 4 5 6 7 8 9 0 1
-- |              PID              |              BLP              |
-- the numbers that a word names: PID, and PID + i for each bit i of BLP that is set, from the least significant, 1, to 16
unfoldable pub word_numbers : ℕ → ℕ → List ℕ
word_numbers pid blp = pid ∷ map (λ i. (pid + i) % 65536) (filter (λ i. bit_at blp (i - 1) == 1) (counted_from 1 16))

-- the numbers that words name, in order
unfoldable pub numbers_of : List ℕ → List ℕ
numbers_of (a ∷ b ∷ c ∷ d ∷ rest) = word_numbers (from_be_bytes w16 (a ∷ b ∷ [])) (from_be_bytes w16 (c ∷ d ∷ [])) ++ numbers_of rest
numbers_of short = []

abbrev pub nack_numbers : List ℕ → Result (List ℕ) NackFault
nack_numbers fci = if length fci == 0 then Err Empty else if length fci % 4 == 0 then Ok (numbers_of fci) else Err Length

-- how far a number lies behind another, modulo 65536
abbrev pub distance : ℕ → ℕ → ℕ
distance from number = (number + (65536 - from)) % 65536

-- The words for some numbers, the first of them begun: each number joins it that lies further behind PID than the last, 16 at most; another begins a new word.
unfoldable pub words_from : ℕ → ℕ → ℕ → List ℕ → List ℕ
words_from pid blp last [] = to_be_bytes w16 pid ++ to_be_bytes w16 blp
words_from pid blp last (n ∷ ns) =
    if nat_lt last (distance pid n) && nat_le (distance pid n) 16
    then words_from pid (blp + 2 ^ (distance pid n - 1)) (distance pid n) ns
    else to_be_bytes w16 pid ++ to_be_bytes w16 blp ++ words_from n 0 0 ns

-- the words that name these numbers in their order, packed from the front
abbrev pub nack_words : List ℕ → List ℕ
nack_words [] = []
nack_words (n ∷ ns) = words_from n 0 0 ns

-- a generic NACK
abbrev pub nack_packet : ℕ → ℕ → List ℕ → List ℕ
nack_packet sender media numbers = transport_feedback FMT_NACK sender media (nack_words numbers)
