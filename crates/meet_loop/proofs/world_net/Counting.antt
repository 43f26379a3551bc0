-- A receiver's next number is as far above its first as packets were presented, and so is the source's.
use Rattle.std.proofs.Common.{◌≡◌, ℕ, ◌+◌, ◌-◌, List, [], ◌∷◌, length, Option, None, Some, option_map, refl, sym, ap, ◌∙◌, subst, arith, length-append}
use Rattle.std.specs.Option.{option_or, option_to_list, option_and_then}
use Rattle.rams_model.specs.declared.MediaCame.{MediaCame}
use Rattle.rams_model.specs.declared.MediaCame.TheVariants.{Took, Behind, Beyond, Twice, BeforeFirst, Foreign, Bad}
use Rattle.rams_model.specs.Receiver.{Piece, piece, Playing, playing_from, nearest, came, kept, joining, join_kept, presented, past, after_presenting, Reception, again, multicast, unfit, Turn, hears, delivers, presents, reception, shown, source_first, distance_from, or_begun, arrived, arrived_by_multicast, after_shown, shown_now, after_media}
use Rattle.rams_model.specs.Packets.{ahead}
use Rattle.receiver_core.specs.States.{Seen}
use Rattle.service_laws.proofs.receiver_laws.Standing.{told_keeps}
use Rattle.meet_loop.specs.world_laws.World.{Listener}
use Rattle.meet_loop.specs.world_laws.{next_number, is_too_far}
use Rattle.meet_loop.specs.declared.world_net.seat.Seat.{Seat}
use Rattle.meet_loop.specs.world_net.{next_by, far_by, seat_is_too_far, Hears, FollowsBy, Follows}

-- so many packets were presented from the first numbers on, where they are fixed
abbrev Counts : Option ℕ → Option Playing → ℕ → Type 0
Counts None None count = count ≡ 0
Counts (Some f) (Some p) count = p.next ≡ p.first + count
Counts _ _ count = ⊥

-- what arrives leaves both as they are
kept_next : (c : MediaCame) (new : Piece) (p : Playing) → ((kept c new p).next ≡ p.next) × ((kept c new p).first ≡ p.first)
kept_next Took new p = (refl, refl)
kept_next Behind new p = (refl, refl)
kept_next Beyond new p = (refl, refl)
kept_next Twice new p = (refl, refl)
kept_next BeforeFirst new p = (refl, refl)
kept_next Foreign new p = (refl, refl)
kept_next Bad new p = (refl, refl)

arrived_next : (low : ℕ) (packet : List ℕ) (p : Playing) → ((arrived low packet p).next ≡ p.next) × ((arrived low packet p).first ≡ p.first)
arrived_next low packet p = kept_next (came p (nearest p.next low)) (piece (nearest p.next low) packet) p

join_next : (o : Option ℕ) (p : Playing) → ((join_kept o p).next ≡ p.next) × ((join_kept o p).first ≡ p.first)
join_next None p = (refl, refl)
join_next (Some n) p = (refl, refl)

multicast_next : (low : ℕ) (packet : List ℕ) (p : Playing) → ((arrived_by_multicast low packet p).next ≡ p.next) × ((arrived_by_multicast low packet p).first ≡ p.first)
multicast_next low packet p =
    let o = joining p (nearest p.next low) in
    let a = arrived_next low packet (join_kept o p) in
    let j = join_next o p in
    (a.0 ∙ j.0, a.1 ∙ j.1)

-- where a number is kept as it was
still : (p q : Playing) (count : ℕ) → (q.next ≡ p.next) × (q.first ≡ p.first) → p.next ≡ p.first + count → q.next ≡ q.first + count
still p q count same e = same.0 ∙ e ∙ ap (λ (n : ℕ). n + count) (sym same.1)

again_counts : (f : Option ℕ) (o : Option Playing) (d : Option ℕ) (x low count : ℕ) (packet : List ℕ) → Counts f o count
    → Counts (option_or f (option_map (λ k. x - k) d)) (option_map (arrived low packet) (or_begun o (option_map (λ k. 65536 + ahead low k) d))) count
again_counts None None None x low count packet h = h
again_counts None None (Some d) x low count packet h =
    let none : count ≡ 0 = h in
    let p = playing_from (65536 + ahead low d) in
    still p (arrived low packet p) count (arrived_next low packet p) (omega (arith, none))
again_counts None (Some p) d x low count packet h = absurd h
again_counts (Some f) None d x low count packet h = absurd h
again_counts (Some f) (Some p) d x low count packet h = still p (arrived low packet p) count (arrived_next low packet p) h

multicast_counts : (f : Option ℕ) (o : Option Playing) (low count : ℕ) (packet : List ℕ) → Counts f o count → Counts (option_or f None) (option_map (arrived_by_multicast low packet) o) count
multicast_counts None None low count packet h = h
multicast_counts None (Some p) low count packet h = absurd h
multicast_counts (Some f) None low count packet h = absurd h
multicast_counts (Some f) (Some p) low count packet h = still p (arrived_by_multicast low packet p) count (multicast_next low packet p) h

or_none : (f : Option ℕ) (o : Option Playing) (count : ℕ) → Counts f o count → Counts (option_or f None) o count
or_none None o count h = h
or_none (Some f) o count h = h

past_counts : (f : ℕ) (p : Playing) (o : Option Piece) (count : ℕ) → p.next ≡ p.first + count → (past o p).next ≡ (past o p).first + (count + length (option_to_list o))
past_counts f p None count h = omega (arith, h)
past_counts f p (Some q) count h = omega (arith, h)

shown_counts : (f : Option ℕ) (o : Option Playing) (count : ℕ) → Counts f o count → Counts f (option_map after_presenting o) (count + length (option_to_list (option_and_then presented o)))
shown_counts None None count h = let none : count ≡ 0 = h in omega (arith, none)
shown_counts None (Some p) count h = absurd h
shown_counts (Some f) None count h = absurd h
shown_counts (Some f) (Some p) count h = past_counts f p (presented p) count h

counts : (turns : List Turn) → Counts (source_first turns) (reception turns).play (length (shown turns))
unfolding reception source_first shown after_media after_shown
counts [] = refl
counts (hears told ∷ turns) = subst (λ (o : Option Playing). Counts (source_first turns) o (length (shown turns))) (sym (told_keeps told (reception turns))) (counts turns)
counts (delivers x (again sequence low packet) ∷ turns) =
    let r = reception turns in
    again_counts (source_first turns) r.play (distance_from r.named sequence) x low (length (shown turns)) packet (counts turns)
counts (delivers x (multicast low packet) ∷ turns) = multicast_counts (source_first turns) (reception turns).play low (length (shown turns)) packet (counts turns)
counts (delivers x (unfit why) ∷ turns) = or_none (source_first turns) (reception turns).play (length (shown turns)) (counts turns)
counts (presents ∷ turns) =
    let more = option_to_list (shown_now (reception turns)) in
    subst (λ (n : ℕ). Counts (source_first turns) (option_map after_presenting (reception turns).play) n) (sym (length-append (shown turns) more))
    (shown_counts (source_first turns) (reception turns).play (length (shown turns)) (counts turns))

next_is : (f : Option ℕ) (o : Option Playing) (count : ℕ) → Counts f o count → next_by f o ≡ option_map (λ x. x + count) f
next_is None None count h = refl
next_is None (Some p) count h = absurd h
next_is (Some f) None count h = absurd h
next_is (Some f) (Some p) count h =
    let next : p.next ≡ p.first + count = h in
    let is : p.next - p.first ≡ count = omega (arith, next) in
    ap (λ (n : ℕ). Some (f + n)) is

-- the number that is presented next, as a seat has it
pub next_of : (s : Seat) (r : Seen) (l : Listener) → Follows s l → s.receiver ≡ Some r → next_by s.first r.got.play ≡ next_number l.turns
next_of s r l f is =
    let h : Hears r s.first l = subst (λ (o : Option Seen). FollowsBy o s.first l) is f in
    ap (λ (o : Option ℕ). next_by o r.got.play) h.first ∙ ap (λ (g : Reception). next_by (source_first l.turns) g.play) h.got
    ∙ next_is (source_first l.turns) (reception l.turns).play (length (shown l.turns)) (counts l.turns)

pub far_is : (s : Seat) (r : Seen) (l : Listener) (x : ℕ) → Follows s l → s.receiver ≡ Some r → seat_is_too_far s x ≡ is_too_far (next_number l.turns) x
far_is s r l x f is = ap (far_by s.first x) is ∙ ap (λ (o : Option ℕ). is_too_far o x) (next_of s r l f is)
