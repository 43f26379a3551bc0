-- What stands in front of the payload in the retransmission of a packet with a fixed header alone (RFC 3550, 5.1; RFC 4588, 4).
use Rattle.std.specs.Prelude.{ℕ, ◌+◌, ◌*◌, ◌/◌, List, [], ◌∷◌, ◌++◌, slice_index}
use Rattle.std.specs.Int.{w16, to_be_bytes}

-- the fixed header under another type and number, and the original number
abbrev pub plain_head : List ℕ → ℕ → ℕ → List ℕ
plain_head head payload_type sequence =
    128 ∷ (slice_index head 1 / 128 * 128 + payload_type) ∷
    (to_be_bytes w16 sequence ++ (slice_index head 4 ∷ slice_index head 5 ∷ slice_index head 6 ∷ slice_index head 7 ∷
    slice_index head 8 ∷ slice_index head 9 ∷ slice_index head 10 ∷ slice_index head 11 ∷ slice_index head 2 ∷ slice_index head 3 ∷ []))
