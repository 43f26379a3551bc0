-- A number that was delivered while there was room is below the next, or waits; and so it stays.
use Rattle.std.proofs.Common.{◌≡◌, ◌≢◌, ℕ, ◌+◌, ◌-◌, ◌<◌, ◌⊎◌, true, cond, List, [], ◌∷◌, ◌++◌, Option, Some, None, option_map, refl, sym, ◌∙◌, subst, arith, inl, inr, ⊎_elim, eqb, ltb, leb}
use Rattle.std.proofs.lemmas.Bool.{cond_both, cond-true, ltb-true, leb-true, eqb-true, eq-eqb, both_ways, or_cases, or_left, or_right}
use Rattle.rams_model.specs.declared.MediaCame.{MediaCame}
use Rattle.rams_model.specs.declared.MediaCame.TheVariants.{Took, Behind, Beyond, Twice, BeforeFirst, Foreign, Bad}
use Rattle.rams_model.specs.Receiver.{Piece, piece, Playing, room, nearest, has_piece, with_piece, came, kept, joining, join_kept, piece_at, without_piece, presented, past, after_presenting, again, multicast, unfit, first_number, or_begun, arrived, arrived_by_multicast, after_media, after_shown, Turn, hears, delivers, presents, reception}
use Rattle.service_laws.proofs.receiver_laws.Standing.{told_keeps}

-- a piece that is put in has its number, and the others keep theirs
puts : (new : Piece) (qs : List Piece) → has_piece new.n (with_piece new qs) ≡ true
unfolding with_piece
puts new [] = or_left (eqb new.n new.n) _ (eq-eqb new.n new.n refl)
puts new (q ∷ qs) =
    cond_both (ltb new.n q.n) (new ∷ q ∷ qs) (q ∷ with_piece new qs) (λ rs. has_piece new.n rs ≡ true)
    (λ t. or_left (eqb new.n new.n) (has_piece new.n (q ∷ qs)) (eq-eqb new.n new.n refl)) (λ t. or_right (eqb q.n new.n) (has_piece new.n (with_piece new qs)) (puts new qs))

put_keeps : (n : ℕ) (new : Piece) (qs : List Piece) → has_piece n qs ≡ true → has_piece n (with_piece new qs) ≡ true
unfolding with_piece
put_keeps n new [] h = absurd cc
put_keeps n new (q ∷ qs) h =
    cond_both (ltb new.n q.n) (new ∷ q ∷ qs) (q ∷ with_piece new qs) (λ rs. has_piece n rs ≡ true) (λ t. or_right (eqb new.n n) (has_piece n (q ∷ qs)) h)
    (λ t. ⊎_elim (λ here. or_left (eqb q.n n) (has_piece n (with_piece new qs)) here) (λ later. or_right (eqb q.n n) (has_piece n (with_piece new qs)) (put_keeps n new qs later))
    (or_cases (eqb q.n n) (has_piece n qs) h))

-- taking out another piece keeps it
taking_keeps : (n m : ℕ) (qs : List Piece) → n ≢ m → has_piece n qs ≡ true → has_piece n (without_piece m qs) ≡ true
unfolding without_piece
taking_keeps n m [] ne h = absurd cc
taking_keeps n m (q ∷ qs) ne h =
    cond_both (eqb q.n m) qs (q ∷ without_piece m qs) (λ rs. has_piece n rs ≡ true)
    (λ t. ⊎_elim (λ here. absurd (ne (sym (eqb-true q.n n here) ∙ eqb-true q.n m t))) (λ later. later) (or_cases (eqb q.n n) (has_piece n qs) h))
    (λ t. ⊎_elim (λ here. or_left (eqb q.n n) (has_piece n (without_piece m qs)) here) (λ later. or_right (eqb q.n n) (has_piece n (without_piece m qs)) (taking_keeps n m qs ne later))
    (or_cases (eqb q.n n) (has_piece n qs) h))

-- what isn't found isn't there
pub not_there : (n : ℕ) (qs : List Piece) → piece_at n qs ≡ None → has_piece n qs ≡ true → ⊥
not_there n [] e h = cc
not_there n (q ∷ qs) e h =
    ⊎_elim (λ here. let is : Some q ≡ None = sym (cond-true (eqb q.n n) (Some q) (piece_at n qs) here) ∙ e in cc)
    (λ later. cond_both (eqb q.n n) (Some q) (piece_at n qs) (λ o. o ≡ None → ⊥) (λ t is. cc) (λ t is. not_there n qs is later) e) (or_cases (eqb q.n n) (has_piece n qs) h)

-- what was presented, or waits to be
abbrev pub Has : ℕ → Playing → Type 0
Has n p = (n < p.next) ⊎ (has_piece n p.waits ≡ true)

kept_has : (n : ℕ) (new : Piece) (p : Playing) (c : MediaCame) → Has n p → Has n (kept c new p)
kept_has n new p Took h = ⊎_elim (λ lt. inl lt) (λ waits. inr (put_keeps n new p.waits waits)) h
kept_has n new p Behind h = h
kept_has n new p Beyond h = h
kept_has n new p Twice h = h
kept_has n new p BeforeFirst h = h
kept_has n new p Foreign h = h
kept_has n new p Bad h = h

arrived_has : (n low : ℕ) (packet : List ℕ) (p : Playing) → Has n p → Has n (arrived low packet p)
arrived_has n low packet p h = kept_has n (piece (nearest p.next low) packet) p (came p (nearest p.next low)) h

join_has : (n : ℕ) (p : Playing) (o : Option ℕ) → Has n p → Has n (join_kept o p)
join_has n p None h = h
join_has n p (Some m) h = h

multicast_has : (n low : ℕ) (packet : List ℕ) (p : Playing) → Has n p → Has n (arrived_by_multicast low packet p)
multicast_has n low packet p h =
    let o = joining p (nearest p.next low) in arrived_has n low packet (join_kept o p) (join_has n p o h)

-- presenting moves the next number past the one that is taken out
past_has : (n : ℕ) (p : Playing) (o : Option Piece) → Has n p → Has n (past o p)
past_has n p None h = h
past_has n p (Some q) h =
    ⊎_elim (λ lt. inl (omega (arith, lt)))
    (λ waits. cond_both (eqb n p.next) true true (λ b. Has n (past (Some q) p)) (λ t. let e = eqb-true n p.next t in inl (omega (arith, e)))
    (λ f. inr (taking_keeps n p.next p.waits (λ e. both_ways (eqb n p.next) f (eq-eqb n p.next e)) waits))) h

-- a packet that comes with room has its number then
pub makes : (low : ℕ) (packet : List ℕ) (p : Playing) → nearest p.next low < p.next + room → Has (nearest p.next low) (arrived low packet p)
makes low packet p near =
    let n = nearest p.next low in
    let P = λ (c : MediaCame). Has n (kept c (piece n packet) p) in
    let new = cond (has_piece n p.waits) Twice Took in
    cond_both (ltb n p.next) Behind (cond (leb (p.next + room) n) Beyond new) P (λ t. inl (ltb-true n p.next t))
    (λ above. cond_both (leb (p.next + room) n) Beyond new P (λ t. let le = leb-true (p.next + room) n t in absurd (omega (arith, le, near)))
    (λ within. cond_both (has_piece n p.waits) Twice Took P (λ t. inr t) (λ t. inr (puts (piece n packet) p.waits))))

-- The number that lies as far above the first as x lies above f, of a receiver that has a first number.
abbrev pub HasOf : ℕ → ℕ → Option Playing → Type 0
HasOf f x None = ⊥
HasOf f x (Some p) = Has (p.first + (x - f)) p

same_first : (c : MediaCame) (new : Piece) (p : Playing) → (kept c new p).first ≡ p.first
same_first Took new p = refl
same_first Behind new p = refl
same_first Beyond new p = refl
same_first Twice new p = refl
same_first BeforeFirst new p = refl
same_first Foreign new p = refl
same_first Bad new p = refl

pub arrived_first : (low : ℕ) (packet : List ℕ) (p : Playing) → (arrived low packet p).first ≡ p.first
arrived_first low packet p = same_first (came p (nearest p.next low)) (piece (nearest p.next low) packet) p

joined_first : (o : Option ℕ) (p : Playing) → (join_kept o p).first ≡ p.first
joined_first None p = refl
joined_first (Some n) p = refl

pub multicast_first : (low : ℕ) (packet : List ℕ) (p : Playing) → (arrived_by_multicast low packet p).first ≡ p.first
multicast_first low packet p =
    let o = joining p (nearest p.next low) in arrived_first low packet (join_kept o p) ∙ joined_first o p

past_first : (o : Option Piece) (p : Playing) → (past o p).first ≡ p.first
past_first None p = refl
past_first (Some q) p = refl

-- what a receiver has, each turn leaves it
again_of : (f x low : ℕ) (packet : List ℕ) (play : Option Playing) (first : Option ℕ) → HasOf f x play → HasOf f x (option_map (arrived low packet) (or_begun play first))
again_of f x low packet None first h = absurd h
again_of f x low packet (Some p) first h =
    subst (λ (n : ℕ). Has (n + (x - f)) (arrived low packet p)) (sym (arrived_first low packet p)) (arrived_has (p.first + (x - f)) low packet p h)

multicast_of : (f x low : ℕ) (packet : List ℕ) (play : Option Playing) → HasOf f x play → HasOf f x (option_map (arrived_by_multicast low packet) play)
multicast_of f x low packet None h = absurd h
multicast_of f x low packet (Some p) h =
    subst (λ (n : ℕ). Has (n + (x - f)) (arrived_by_multicast low packet p)) (sym (multicast_first low packet p)) (multicast_has (p.first + (x - f)) low packet p h)

shown_of : (f x : ℕ) (play : Option Playing) → HasOf f x play → HasOf f x (option_map after_presenting play)
shown_of f x None h = absurd h
shown_of f x (Some p) h = subst (λ (n : ℕ). Has (n + (x - f)) (after_presenting p)) (sym (past_first (presented p) p)) (past_has (p.first + (x - f)) p (presented p) h)

pub after_turn : (f x : ℕ) (t : Turn) (turns : List Turn) → HasOf f x (reception turns).play → HasOf f x (reception (t ∷ turns)).play
unfolding reception after_media after_shown
after_turn f x (hears told) turns h = subst (HasOf f x) (sym (told_keeps told (reception turns))) h
after_turn f x (delivers y (again sequence low packet)) turns h =
    let r = reception turns in again_of f x low packet r.play (first_number r.named sequence low) h
after_turn f x (delivers y (multicast low packet)) turns h = multicast_of f x low packet (reception turns).play h
after_turn f x (delivers y (unfit why)) turns h = h
after_turn f x presents turns h = shown_of f x (reception turns).play h

pub stays : (f x : ℕ) (later turns : List Turn) → HasOf f x (reception turns).play → HasOf f x (reception (later ++ turns)).play
stays f x [] turns h = h
stays f x (t ∷ later) turns h = after_turn f x t (later ++ turns) (stays f x later turns h)
