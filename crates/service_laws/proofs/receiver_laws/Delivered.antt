-- What was delivered without a gap was presented, once nothing more can be.
use Rattle.std.proofs.Common.{◌≡◌, ℕ, ◌+◌, ◌-◌, ◌%◌, ◌<◌, ◌≤◌, List, [], ◌∷◌, ◌++◌, length, Option, Some, None, IfSome, option_map, option_and_then, sym, subst, arith, ⊎_elim, leb}
use Rattle.std.specs.Option.{option_or}
use Rattle.std.proofs.lemmas.Bool.{cond_both, leb-true, leb-false}
use Rattle.rams_model.specs.declared.Held.{Held}
use Rattle.rams_model.specs.Packets.{ahead}
use Rattle.rams_model.specs.Receiver.{Piece, Playing, room, playing_from, nearest, joining, join_kept, presented, Media, again, multicast, unfit, distance_from, or_begun, arrived, arrived_by_multicast, after_media, shown_now, Turn, hears, delivers, presents, reception, shown, source_first}
use Rattle.service_laws.specs.receiver_laws.Fair.{IsNear, IsWithin, IsFair, AreFair}
use Rattle.service_laws.specs.receiver_laws.Presenting.{IsMedia, WasDelivered}
use Rattle.service_laws.proofs.receiver_laws.Arriving.{Plays, nearest_is, begins, join_plays}
use Rattle.service_laws.proofs.receiver_laws.Standing.{Stands, is_small, stands}
use Rattle.service_laws.proofs.receiver_laws.Having.{Has, HasOf, makes, arrived_first, not_there, stays}

-- a packet that arrives has the number that is as far above the first
arrives_has : (source : List Held) (f : ℕ) (p : Playing) (pieces : List Piece) (x low : ℕ) (packet : List ℕ) → Plays source f p pieces
    → low ≡ x % 65536 → IsNear (f + length pieces) x → f ≤ x → x < f + length pieces + room → Has (p.first + (x - f)) (arrived low packet p)
arrives_has source f p pieces x low packet h bits near above within =
    let n = nearest p.next low in
    let number : n + f ≡ x + p.first =
    subst (λ (m : ℕ). nearest m low + f ≡ x + p.first) (sym h.next) (subst (λ (l : ℕ). nearest (p.first + length pieces) l + f ≡ x + p.first) (sym bits) (nearest_is p.first f (length pieces) x h.bits h.high near)) in
    let place : n ≡ p.first + (x - f) = omega (arith, number, above) in
    let lt : n < p.next + room = omega (arith, number, above, within, h.next) in
    subst (λ (m : ℕ). Has m (arrived low packet p)) place (makes low packet p lt)

again_has : (source : List Held) (f : ℕ) (o : Option ℕ) (play : Option Playing) (d : Option ℕ) (pieces : List Piece) (x low : ℕ) (packet : List ℕ) → Stands source o play pieces
    → option_or o (option_map (λ e. x - e) d) ≡ Some f → low ≡ x % 65536 → room ≤ x → IsWithin o (length pieces) x → IfSome d (λ e. e < room)
    → f ≤ x → x < f + length pieces + room → HasOf f x (option_map (arrived low packet) (or_begun play (option_map (λ e. 65536 + ahead low e) d)))
again_has source f None None None pieces x low packet h first bits high near small above within = absurd cc
again_has source f None None (Some d) pieces x low packet h first bits high near small above within =
    let p = playing_from (65536 + ahead low d) in
    let is : x - d ≡ f = cc in
    let has : Has (p.first + (x - (x - d))) (arrived low packet p) =
    arrives_has source (x - d) p [] x low packet (begins source x low d bits high small) bits (omega (arith, high, small), omega (arith, high, small)) (omega arith) (omega (arith, high, small)) in
    subst (λ (n : ℕ). Has (n + (x - f)) (arrived low packet p)) (sym (arrived_first low packet p))
    (subst (λ (g : ℕ). Has (p.first + (x - g)) (arrived low packet p)) is has)
again_has source f None (Some p) d pieces x low packet h first bits high near small above within = absurd h
again_has source f (Some g) None d pieces x low packet h first bits high near small above within = absurd h
again_has source f (Some g) (Some p) d pieces x low packet h first bits high near small above within =
    let is : g ≡ f = cc in
    let plays : Plays source f p pieces = subst (λ (k : ℕ). Plays source k p pieces) is h in
    subst (λ (n : ℕ). Has (n + (x - f)) (arrived low packet p)) (sym (arrived_first low packet p))
    (arrives_has source f p pieces x low packet plays bits (subst (λ (k : ℕ). IsNear (k + length pieces) x) is near) above within)

multicast_has : (source : List Held) (f : ℕ) (o : Option ℕ) (play : Option Playing) (pieces : List Piece) (x low : ℕ) (packet : List ℕ) → Stands source o play pieces
    → option_or o None ≡ Some f → low ≡ x % 65536 → IsWithin o (length pieces) x → f ≤ x → x < f + length pieces + room → HasOf f x (option_map (arrived_by_multicast low packet) play)
multicast_has source f None play pieces x low packet h first bits near above within = absurd cc
multicast_has source f (Some g) None pieces x low packet h first bits near above within = absurd h
multicast_has source f (Some g) (Some p) pieces x low packet h first bits near above within =
    let is : g ≡ f = cc in
    let o = joining p (nearest p.next low) in
    let joined = join_kept o p in
    let plays : Plays source f joined pieces = subst (λ (k : ℕ). Plays source k joined pieces) is (join_plays source g p pieces o h) in
    subst (λ (n : ℕ). Has (n + (x - f)) (arrived low packet joined)) (sym (arrived_first low packet joined))
    (arrives_has source f joined pieces x low packet plays bits (subst (λ (k : ℕ). IsNear (k + length pieces) x) is near) above within)

-- so it is right after the delivery
delivered_has : (source : List Held) (f x : ℕ) (media : Media) (before : List Turn) → IsMedia media → IsFair source before x media
    → Stands source (source_first before) (reception before).play (shown before) → source_first (delivers x media ∷ before) ≡ Some f
    → f ≤ x → x < f + length (shown before) + room → HasOf f x (reception (delivers x media ∷ before)).play
unfolding reception source_first after_media
delivered_has source f x (again sequence low packet) before is fair h first above within =
    let r = reception before in
    again_has source f (source_first before) r.play (distance_from r.named sequence) (shown before) x low packet h first fair.0 fair.1 fair.3 (is_small r.named sequence) above within
delivered_has source f x (multicast low packet) before is fair h first above within =
    multicast_has source f (source_first before) (reception before).play (shown before) x low packet h first fair.0 fair.2 above within
delivered_has source f x (unfit why) before is fair h first above within = absurd is

fair_part : (source : List Held) (later turns : List Turn) → AreFair source (later ++ turns) → AreFair source turns
fair_part source [] turns fair = fair
fair_part source (hears told ∷ later) turns fair = fair_part source later turns fair
fair_part source (delivers x media ∷ later) turns fair = fair_part source later turns fair.1
fair_part source (presents ∷ later) turns fair = fair_part source later turns fair

-- and ever after
was_delivered_has : (source : List Held) (turns : List Turn) (f x : ℕ) → AreFair source turns → WasDelivered f turns x → f ≤ x → HasOf f x (reception turns).play
was_delivered_has source turns f x fair d above =
    let t = delivers x d.media in
    let all : AreFair source (d.later ++ t ∷ d.before) = subst (AreFair source) d.splits fair in
    let here = fair_part source d.later (t ∷ d.before) all in
    let then = delivered_has source f x d.media d.before d.is_media here.0 (stands source d.before here.1) d.started above d.near in
    subst (λ (ts : List Turn). HasOf f x (reception ts).play) (sym d.splits) (stays f x d.later (t ∷ d.before) then)

-- a receiver from which nothing more can be presented hasn't the next number
next_missing : (source : List Held) (f : ℕ) (play : Option Playing) (pieces : List Piece) → Stands source (Some f) play pieces → option_and_then presented play ≡ None
    → HasOf f (f + length pieces) play → ⊥
next_missing source f None pieces h none has = has
next_missing source f (Some p) pieces h none has =
    let place : p.first + (f + length pieces - f) ≡ p.next = omega (arith, h.next) in
    ⊎_elim (λ lt. omega (arith, lt, place)) (λ waits. not_there p.next p.waits none waits) (subst (λ (n : ℕ). Has n p) place has)

pub all_presented : (source : List Held) (turns : List Turn) (f m : ℕ) → AreFair source turns → source_first turns ≡ Some f → shown_now (reception turns) ≡ None
    → ((x : ℕ) → f ≤ x → x < m → WasDelivered f turns x) → m ≤ f + length (shown turns)
all_presented source turns f m fair first none each =
    let next = f + length (shown turns) in
    cond_both (leb m next) m m (λ n. m ≤ next) (λ t. leb-true m next t)
    (λ t. let lt = leb-false m next t in
    let has = was_delivered_has source turns f next fair (each next (omega arith) lt) (omega arith) in
    let h : Stands source (Some f) (reception turns).play (shown turns) = subst (λ (o : Option ℕ). Stands source o (reception turns).play (shown turns)) first (stands source turns fair) in
    absurd (next_missing source f (reception turns).play (shown turns) h none has))
