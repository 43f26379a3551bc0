-- The datagrams that a receiver sends.
use Rattle.std.specs.Prelude.{ℕ, ◌-◌, ◌%◌, ◌^◌, Bool, false, not, if◌then◌else◌, List, [], ◌∷◌, ◌++◌, map, take, filter, Option, Some, None}
use Rattle.std.specs.List.{range_with_len}
use Rattle.rams_model.specs.declared.reception.Tuned.{Tuned}
use Rattle.rams_model.specs.Formats.{rr_packet, sdes_packet, bye_packet, nack_packet, rams_request, rams_stop}
use Rattle.rams_model.specs.Receiver.Pieces.{Piece, Playing, has_piece}
use Rattle.rams_model.specs.Receiver.Receiving.{Reception}

-- each is a report, who the receiver is, and a message (RFC 3550, 6.1)
abbrev pub compound : Tuned → List ℕ → List ℕ
compound t message = rr_packet t.ssrc ++ sdes_packet t.ssrc ++ message

-- a RAMS-R for any source of the channel (RFC 6285, 7.2)
abbrev pub request_datagram : Tuned → List ℕ
request_datagram t = compound t (rams_request t.ssrc t.media (record { ssrcs = Some []; min_ms = None; max_ms = None; bps = None; preamble = false }))

-- a RAMS-T that names the packet with which the receiver joined (RFC 6285, 7.4)
abbrev pub join_datagram : Tuned → ℕ → List ℕ
join_datagram t n = compound t (rams_stop t.ssrc t.media (record { first_multicast = Some (n % 2 ^ 32) }))

-- a generic NACK of these numbers (RFC 4585, 6.2.1)
abbrev pub nack_datagram : Tuned → List ℕ → List ℕ
nack_datagram t numbers = compound t (nack_packet t.ssrc t.media (map (λ n. n % 65536) numbers))

-- a BYE (RFC 3550, 6.6)
abbrev pub bye_datagram : Tuned → List ℕ
bye_datagram t = compound t (bye_packet t.ssrc)

-- the number of the last of the pieces, which stand by number; the given one where there is none
unfoldable pub last_number : ℕ → List Piece → ℕ
last_number n [] = n
last_number n (q ∷ qs) = last_number q.n qs

-- The numbers below the greatest that arrived which didn't arrive, in rising order. All below the next one were presented.
abbrev pub missing : Playing → List ℕ
missing p = filter (λ n. not (has_piece n p.waits)) (range_with_len p.next (last_number p.next p.waits - p.next))

-- the most that one NACK names
abbrev pub most_named : ℕ
most_named = 256

abbrev pub nack_of : Tuned → List ℕ → List (List ℕ)
nack_of t [] = []
nack_of t (n ∷ ns) = nack_datagram t (n ∷ ns) ∷ []

-- the RAMS-T again, where the receiver joined and the burst goes on
abbrev pub join_again : Tuned → Bool → Option ℕ → List (List ℕ)
join_again t ended None = []
join_again t ended (Some n) = if ended then [] else join_datagram t n ∷ []

abbrev pub asked_in_play : Tuned → Bool → Option Playing → List (List ℕ)
asked_in_play t ended None = []
asked_in_play t ended (Some p) = join_again t ended p.joined ++ nack_of t (take most_named (missing p))

abbrev pub asked_since : Tuned → Bool → Option Playing → Option ℕ → List (List ℕ)
asked_since t ended play None = request_datagram t ∷ []
asked_since t ended play (Some named) = asked_in_play t ended play

-- What a receiver asks for: the burst, until it is told of one; then the end of the burst at the packet with which it joined, and what is missing.
abbrev pub asked : Tuned → Reception → List (List ℕ)
asked t r = asked_since t r.ended r.play r.named
