-- What contracts see of the receivers of a world, and the listeners that they stand for.
use Rattle.std.specs.Prelude.{◌≡◌, ℕ, zero, suc, ◌+◌, ◌-◌, ◌≤◌, Bool, true, false, List, [], ◌∷◌, ◌++◌, map, Option, Some, None, option_map, IfSome}
use Rattle.std.specs.Option.{option_or, option_to_list}
use Rattle.receiver_core.specs.{reach}
use Rattle.receiver_core.specs.States.{Seen}
use Rattle.service_laws.specs.receiver_laws.{presented_often}
use Rattle.rams_model.specs.Receiver.{Piece, Playing, Reception, Turn, reception, source_first, shown_now, after_shown}
use Rattle.meet_loop.specs.world_laws.World.{posts, Datagram, Listener, note}
use Rattle.meet_loop.specs.world_laws.{is_too_far, waiting, pieces_in, turns_to_present, presented_all, posted, post_note, show_note}
use Rattle.meet_loop.specs.declared.{world_laws.world.WorldItem.WorldItem, world_laws.world.WorldNote.WorldNote, world_net.seat.Seat.Seat}
use Rattle.meet_loop.specs.declared.world_laws.world.WorldItem.TheVariants as item

-- the number that is presented next, where the receiver plays from this number of the source on
abbrev pub next_by : Option ℕ → Option Playing → Option ℕ
next_by (Some first) (Some p) = Some (first + (p.next - p.first))
next_by _ _ = None

abbrev pub far_by : Option ℕ → ℕ → Option Seen → Bool
far_by first x None = false
far_by first x (Some r) = is_too_far (next_by first r.got.play) x

abbrev pub seat_is_too_far : Seat → ℕ → Bool
seat_is_too_far s x = far_by s.first x s.receiver

-- the number of the first packet, where one with the number x came that is so far ahead of it
abbrev pub first_with : Option ℕ → ℕ → Option ℕ → Option ℕ
first_with first x distance = option_or first (option_map (λ d. x - d) distance)

-- what is presented in so many turns
unfoldable pub shown_in : ℕ → Reception → List Piece
shown_in zero r = []
shown_in (suc count) r = option_to_list (shown_now r) ++ shown_in count (after_shown r)

-- all that can be presented, and the receiver after that
abbrev pub all_shown : Reception → List Piece
all_shown r = shown_in (waiting r.play) r

abbrev pub all_presented : Reception → Reception
all_presented r = presented_often (waiting r.play) r

-- A receiver stands for a listener that didn't leave.
pub record Hears (r : Seen) (f : Option ℕ) (l : Listener) : Type 0 where
  pub tuned : r.tuned ≡ l.tuned
  pub got : r.got ≡ reception l.turns
  pub first : f ≡ source_first l.turns
  pub stays : l.left ≡ false

abbrev pub FollowsBy : Option Seen → Option ℕ → Listener → Type 0
FollowsBy None first l = l.left ≡ true
FollowsBy (Some r) first l = Hears r first l

abbrev pub Follows : Seat → Listener → Type 0
Follows s l = FollowsBy s.receiver s.first l

-- the listener is this client's, of the channel of this number
abbrev pub IsAt : ℕ → ℕ → Listener → Type 0
IsAt id client l = (l.id ≡ id) × (l.tuned.client ≡ client)

-- After these turns of a listener this was said, these datagrams were posted, and all was presented that could be.
pub record Took (said : WorldItem) (turns : List Turn) (sent : List (List ℕ)) (l : Listener) (old new : List WorldNote) (before now : List Datagram) (s : Seat) : Type 0 where
  pub notes : new ≡ old ++ (note l.id said ∷ (map (post_note l) sent ++ map (show_note l) (pieces_in (turns_to_present turns) turns)))
  pub parcels : now ≡ before ++ map (posted l) sent
  pub seat : Follows s (presented_all turns l)

-- a receiver presented no more packets than so many, with those that wait
abbrev pub HasFew : ℕ → Seat → Type 0
HasFew n s = IfSome s.receiver (λ r. reach r ≤ n)

-- what is said of a packet that this client's receiver presents, and of a datagram that it posts
abbrev pub show_at : ℕ → ℕ → Piece → WorldNote
show_at id client q = note id (item.Show client q.n q.packet)

abbrev pub post_at : ℕ → ℕ → List ℕ → WorldNote
post_at id client bytes = note id (item.Post client bytes)

abbrev pub posted_at : ℕ → ℕ → List ℕ → Datagram
posted_at id client bytes = record { id = id; client = client; way = posts; bytes = bytes }
