-- The packets of a receiver under its own numbers: which number a packet has, what becomes of it, and what is presented.
use Rattle.std.specs.Prelude.{ℕ, ◌+◌, ◌-◌, Bool, ◌&&◌, ◌==◌, nat_le, nat_lt, if◌then◌else◌, List, [], ◌∷◌, Option, Some, None}
use Rattle.std.specs.List.{list_any, find}
use Rattle.rams_model.specs.declared.reception.MediaCame.{MediaCame}
use Rattle.rams_model.specs.declared.reception.MediaCame.TheVariants.{Took, Behind, Beyond, Twice}
use Rattle.rams_model.specs.Packets.{ahead}

-- a packet under the receiver's number, without its padding
pub record Piece : Type 0 where
  pub n : ℕ
  pub packet : List ℕ

abbrev pub piece : ℕ → List ℕ → Piece
piece n packet = record { n = n; packet = packet }

-- What a receiver plays, once its first number is fixed.
pub record Playing : Type 0 where
  -- the first number of all
  pub first : ℕ
  -- the one that is presented next
  pub next : ℕ
  -- the pieces that arrived and aren't presented, by number
  pub waits : List Piece
  -- the number of the packet that the receiver joined the multicast with
  pub joined : Option ℕ

-- how many numbers, from the next on, a receiver has room for
abbrev pub room : ℕ
room = 16384

-- nothing arrived yet
abbrev pub playing_from : ℕ → Playing
playing_from first = record { first = first; next = first; waits = []; joined = None }

-- the number so far ahead of another, where up to 32,767 counts as ahead and the rest of 65,536 as behind
abbrev pub from_ahead : ℕ → ℕ → ℕ
from_ahead n e = if nat_lt e 32768 then n + e else n + e - 65536

-- the number nearest to another with these low 16 bits
abbrev pub nearest : ℕ → ℕ → ℕ
nearest n low = from_ahead n (ahead low n)

-- one of the pieces has this number
abbrev pub has_piece : ℕ → List Piece → Bool
has_piece n pieces = list_any (λ q. q.n == n) pieces

-- the pieces, by number, with one more
unfoldable pub with_piece : Piece → List Piece → List Piece
with_piece new [] = new ∷ []
with_piece new (q ∷ qs) = if nat_lt new.n q.n then new ∷ q ∷ qs else q ∷ with_piece new qs

-- What becomes of a packet with this number. Each number that was presented is below the next, so what arrived before is behind or waits.
abbrev pub came : Playing → ℕ → MediaCame
came p n = if nat_lt n p.next then Behind else if nat_le (p.next + room) n then Beyond else if has_piece n p.waits then Twice else Took

-- only what is taken is kept
abbrev pub kept : MediaCame → Piece → Playing → Playing
kept Took new p = record p { waits = with_piece new p.waits }
kept _ new p = p

-- after a packet with this number came
abbrev pub with_arrival : ℕ → List ℕ → Playing → Playing
with_arrival n packet p = kept (came p n) (piece n packet) p

-- a receiver that hasn't joined does so with a multicast packet of its own numbers that isn't beyond its room, whether or not it arrived before
abbrev pub joins : Playing → ℕ → Bool
joins p n = nat_le p.first n && nat_lt n (p.next + room)

abbrev pub joined_with : Playing → ℕ → Option ℕ → Option ℕ
joined_with p n None = if joins p n then Some n else None
joined_with p n (Some joined) = None

-- the number that the receiver joins with, where it joins with this packet
abbrev pub joining : Playing → ℕ → Option ℕ
joining p n = joined_with p n p.joined

abbrev pub join_kept : Option ℕ → Playing → Playing
join_kept None p = p
join_kept (Some n) p = record p { joined = Some n }

-- the piece with this number
abbrev pub piece_at : ℕ → List Piece → Option Piece
piece_at n pieces = find (λ q. q.n == n) pieces

-- the pieces without it
unfoldable pub without_piece : ℕ → List Piece → List Piece
without_piece n [] = []
without_piece n (q ∷ qs) = if q.n == n then qs else q ∷ without_piece n qs

-- what is presented now: the piece with the next number
abbrev pub presented : Playing → Option Piece
presented p = piece_at p.next p.waits

-- after a piece is presented
abbrev pub past : Option Piece → Playing → Playing
past None p = p
past (Some q) p = record p { next = p.next + 1; waits = without_piece p.next p.waits }

-- The receiver presents what can be presented now, where that is anything.
abbrev pub after_presenting : Playing → Playing
after_presenting p = past (presented p) p
