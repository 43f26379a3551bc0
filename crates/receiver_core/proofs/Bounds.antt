-- The numbers of a receiver go no further than by one for each packet that comes.
use Rattle.std.proofs.Common.{◌≡◌, ℕ, ◌+◌, ◌≤◌, List, Option, Some, None, IfSome, option_map, refl, arith}
use Rattle.rams_model.specs.declared.MediaCame.{MediaCame}
use Rattle.rams_model.specs.declared.MediaCame.TheVariants.{Took, Behind, Beyond, Twice, BeforeFirst, Foreign, Bad}
use Rattle.rams_model.specs.Packets.{ahead}
use Rattle.rams_model.specs.Receiver.{Piece, Playing, piece, nearest, came, kept, joining, join_kept, presented, past, after_presenting, playing_from, or_begun, first_number, arrived, arrived_by_multicast}
use Rattle.rams_model.proofs.PieceCounts.{one_more, one_less}
use Rattle.receiver_core.specs.{played, IsBounded}

-- they are bounded by how far they go, which is as far as the bound
pub reached : (most : ℕ) (play : Option Playing) → IfSome play (IsBounded most) → IfSome play (IsBounded (played play))
reached most None b = tt
reached most (Some p) b = record { low = b.low; high = b.high; above = b.above; reach = omega (arith, b.above) }

pub at_most : (most : ℕ) (play : Option Playing) → IfSome play (IsBounded most) → played play ≤ most
at_most most None b = omega arith
at_most most (Some p) b = omega (arith, b.above, b.reach)

pub within : (least most : ℕ) (play : Option Playing) → least ≤ most → IfSome play (IsBounded least) → IfSome play (IsBounded most)
within least most None le b = tt
within least most (Some p) le b = record { low = b.low; high = b.high; above = b.above; reach = omega (arith, le, b.reach) }

kept_bounded : (most : ℕ) (new : Piece) (p : Playing) (c : MediaCame) → IsBounded most p → IsBounded (most + 1) (kept c new p)
kept_bounded most new p Took b = record { low = b.low; high = b.high; above = b.above; reach = omega (arith, b.reach, one_more new p.waits) }
kept_bounded most new p Behind b = record { low = b.low; high = b.high; above = b.above; reach = omega (arith, b.reach) }
kept_bounded most new p Beyond b = record { low = b.low; high = b.high; above = b.above; reach = omega (arith, b.reach) }
kept_bounded most new p Twice b = record { low = b.low; high = b.high; above = b.above; reach = omega (arith, b.reach) }
kept_bounded most new p BeforeFirst b = record { low = b.low; high = b.high; above = b.above; reach = omega (arith, b.reach) }
kept_bounded most new p Foreign b = record { low = b.low; high = b.high; above = b.above; reach = omega (arith, b.reach) }
kept_bounded most new p Bad b = record { low = b.low; high = b.high; above = b.above; reach = omega (arith, b.reach) }

arrived_bounded : (most low : ℕ) (packet : List ℕ) (p : Playing) → IsBounded most p → IsBounded (most + 1) (arrived low packet p)
arrived_bounded most low packet p b = kept_bounded most (piece (nearest p.next low) packet) p (came p (nearest p.next low)) b

join_bounded : (most : ℕ) (p : Playing) (o : Option ℕ) → IsBounded most p → IsBounded most (join_kept o p)
join_bounded most p None b = b
join_bounded most p (Some n) b = record { low = b.low; high = b.high; above = b.above; reach = b.reach }

-- after a packet of the multicast
pub multicast_bounded : (most low : ℕ) (packet : List ℕ) (play : Option Playing) → IfSome play (IsBounded most) → IfSome (option_map (arrived_by_multicast low packet) play) (IsBounded (most + 1))
multicast_bounded most low packet None b = tt
multicast_bounded most low packet (Some p) b =
    let o = joining p (nearest p.next low) in arrived_bounded most low packet (join_kept o p) (join_bounded most p o b)

begun_bounded : (most low : ℕ) (packet : List ℕ) (d : Option ℕ) → IfSome (option_map (arrived low packet) (option_map playing_from (option_map (λ e. 65536 + ahead low e) d))) (IsBounded (most + 1))
begun_bounded most low packet None = tt
begun_bounded most low packet (Some d) =
    arrived_bounded most low packet (playing_from (65536 + ahead low d)) (record { low = omega arith; high = omega arith; above = omega arith; reach = omega arith })

-- after a retransmission, which may fix the first number
pub again_bounded : (most : ℕ) (named : Option ℕ) (sequence low : ℕ) (packet : List ℕ) (play : Option Playing) → IfSome play (IsBounded most)
    → IfSome (option_map (arrived low packet) (or_begun play (first_number named sequence low))) (IsBounded (most + 1))
again_bounded most named sequence low packet None b = begun_bounded most low packet _
again_bounded most named sequence low packet (Some p) b = arrived_bounded most low packet p b

-- after a packet is presented
past_bounded : (most : ℕ) (p : Playing) (o : Option Piece) → presented p ≡ o → IsBounded most p → IsBounded most (past o p)
past_bounded most p None e b = b
past_bounded most p (Some q) e b = record { low = b.low; high = b.high; above = omega (arith, b.above); reach = omega (arith, b.reach, one_less p.next q p.waits e) }

pub shown_bounded : (most : ℕ) (play : Option Playing) → IfSome play (IsBounded most) → IfSome (option_map after_presenting play) (IsBounded most)
shown_bounded most None b = tt
shown_bounded most (Some p) b = past_bounded most p (presented p) refl b

-- which reach no less far, and no further
past_reach : (most : ℕ) (p : Playing) (o : Option Piece) → presented p ≡ o → IsBounded most p → played (Some (past o p)) ≡ played (Some p)
past_reach most p None e b = refl
past_reach most p (Some q) e b = omega (arith, b.above, one_less p.next q p.waits e)

pub shown_reach : (most : ℕ) (play : Option Playing) → IfSome play (IsBounded most) → played (option_map after_presenting play) ≡ played play
shown_reach most None b = refl
shown_reach most (Some p) b = past_reach most p (presented p) refl b
