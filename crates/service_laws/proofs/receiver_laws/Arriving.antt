-- What a receiver has are the source's packets under its own numbers: what an arrival and a presentation keep.
use Rattle.std.proofs.Common.{◌≡◌, ℕ, ◌+◌, ◌-◌, ◌%◌, ◌<◌, ◌≤◌, cond, List, [], ◌∷◌, ◌++◌, length, Option, Some, None, option_to_list, length-append, append-nil, refl, sym, ◌∙◌, subst, arith, eqb, ltb, leb}
use Rattle.std.specs.List.{AllByRecursion}
use Rattle.std.proofs.lemmas.Bool.{cond_both, ltb-true, ltb-false, eqb-true}
use Rattle.rams_model.specs.declared.{Held.Held, MediaCame.MediaCame}
use Rattle.rams_model.specs.declared.MediaCame.TheVariants.{Took, Behind, Beyond, Twice}
use Rattle.rams_model.specs.Packets.{ahead}
use Rattle.rams_model.specs.Receiver.{Piece, piece, Playing, room, playing_from, nearest, has_piece, with_piece, kept, joining, join_kept, piece_at, without_piece, presented, past, after_presenting, arrived, arrived_by_multicast}
use Rattle.service_laws.specs.receiver_laws.Fair.{IsOf, IsNear}

-- pieces that are the source's from f on, under the numbers from n on
abbrev pub AreShown : List Held → ℕ → ℕ → List Piece → Type 0
AreShown source f n [] = Unit {0}
AreShown source f n (q ∷ qs) = (q.n ≡ n) × IsOf source f q.packet × AreShown source (f + 1) (n + 1) qs

-- a piece is the source's as far above f as its number is above the first
abbrev pub IsRight : List Held → ℕ → ℕ → Piece → Type 0
IsRight source f first q = (first ≤ q.n) × IsOf source (f + (q.n - first)) q.packet

-- What is played, and what was presented, are the source's from f on.
pub record Plays (source : List Held) (f : ℕ) (p : Playing) (pieces : List Piece) : Type 0 where
  pub bits : p.first % 65536 ≡ f % 65536
  pub high : 65536 ≤ p.first
  pub next : p.next ≡ p.first + length pieces
  pub shown : AreShown source f p.first pieces
  pub waits : AllByRecursion (IsRight source f p.first) p.waits

-- the nearest number is as far from the next as the source's is
pub nearest_is : (first f k x : ℕ) → first % 65536 ≡ f % 65536 → 65536 ≤ first → IsNear (f + k) x → nearest (first + k) (x % 65536) + f ≡ x + first
nearest_is first f k x bits high near =
    let n = first + k in
    let e = ahead (x % 65536) n in
    cond_both (ltb e 32768) (n + e) (n + e - 65536) (λ m. m + f ≡ x + first)
    (λ t. let lt = ltb-true e 32768 t in omega (arith, lt, near.0, near.1, bits, high))
    (λ t. let le = ltb-false e 32768 t in omega (arith, le, near.0, near.1, bits, high))

-- one more piece keeps what holds of each, and so does one less
pub with_right : (P : Piece → Type 0) (new : Piece) (qs : List Piece) → P new → AllByRecursion P qs → AllByRecursion P (with_piece new qs)
unfolding with_piece
with_right P new [] h all = (h, tt)
with_right P new (q ∷ qs) h all =
    cond_both (ltb new.n q.n) (new ∷ q ∷ qs) (q ∷ with_piece new qs) (AllByRecursion P) (λ t. (h, all)) (λ t. (all.0, with_right P new qs h all.1))

pub without_right : (P : Piece → Type 0) (n : ℕ) (qs : List Piece) → AllByRecursion P qs → AllByRecursion P (without_piece n qs)
unfolding without_piece
without_right P n [] all = tt
without_right P n (q ∷ qs) all =
    cond_both (eqb q.n n) qs (q ∷ without_piece n qs) (AllByRecursion P) (λ t. all.1) (λ t. (all.0, without_right P n qs all.1))

-- a piece that is found has the number, and is as each is
pub found_right : (P : Piece → Type 0) (n : ℕ) (qs : List Piece) (q : Piece) → AllByRecursion P qs → piece_at n qs ≡ Some q → (q.n ≡ n) × P q
found_right P n [] q all e = absurd cc
found_right P n (r ∷ qs) q all e =
    cond_both (eqb r.n n) (Some r) (piece_at n qs) (λ o. o ≡ Some q → (q.n ≡ n) × P q)
    (λ t same. let is : r ≡ q = cc in subst (λ (k : Piece). (k.n ≡ n) × P k) is (eqb-true r.n n t, all.0))
    (λ t later. found_right P n qs q all.1 later) e

-- one more piece was presented
pub shown_more : (source : List Held) (f n : ℕ) (qs : List Piece) (q : Piece) → AreShown source f n qs → q.n ≡ n + length qs → IsOf source (f + length qs) q.packet → AreShown source f n (qs ++ q ∷ [])
shown_more source f n [] q all number is = (omega (arith, number), subst (λ (x : ℕ). IsOf source x q.packet) (omega arith) is, tt)
shown_more source f n (r ∷ qs) q all number is =
    (all.0, all.1, shown_more source (f + 1) (n + 1) qs q all.2 (omega (arith, number)) (subst (λ (x : ℕ). IsOf source x q.packet) (omega arith) is))

-- a packet arrives
pub arrives : (source : List Held) (f : ℕ) (p : Playing) (pieces : List Piece) (x low : ℕ) (packet : List ℕ) → Plays source f p pieces
    → low ≡ x % 65536 → IsOf source x packet → IsNear (f + length pieces) x → Plays source f (arrived low packet p) pieces
arrives source f p pieces x low packet h bits is near =
    let n = nearest p.next low in
    let number : n + f ≡ x + p.first =
    subst (λ (m : ℕ). nearest m low + f ≡ x + p.first) (sym h.next) (subst (λ (l : ℕ). nearest (p.first + length pieces) l + f ≡ x + p.first) (sym bits) (nearest_is p.first f (length pieces) x h.bits h.high near)) in
    let P = λ (c : MediaCame). Plays source f (kept c (piece n packet) p) pieces in
    cond_both (ltb n p.next) Behind (cond (leb (p.next + room) n) Beyond (cond (has_piece n p.waits) Twice Took)) P (λ t. h)
    (λ above. cond_both (leb (p.next + room) n) Beyond (cond (has_piece n p.waits) Twice Took) P (λ t. h)
    (λ near. cond_both (has_piece n p.waits) Twice Took P (λ t. h)
    (λ new. let le : p.next ≤ n = ltb-false n p.next above in
    let le_first : p.first ≤ n = omega (arith, le, h.next) in
    let place : x ≡ f + (n - p.first) = omega (arith, number, le_first) in record {
      bits = h.bits;
      high = h.high;
      next = h.next;
      shown = h.shown;
      waits = with_right (IsRight source f p.first) (piece n packet) p.waits (le_first, subst (λ (y : ℕ). IsOf source y packet) place is) h.waits;
    })))

-- joining changes none of this
pub join_plays : (source : List Held) (f : ℕ) (p : Playing) (pieces : List Piece) (o : Option ℕ) → Plays source f p pieces → Plays source f (join_kept o p) pieces
join_plays source f p pieces None h = h
join_plays source f p pieces (Some n) h = record { bits = h.bits; high = h.high; next = h.next; shown = h.shown; waits = h.waits }

-- so it is with a packet of the multicast
pub arrives_by_multicast : (source : List Held) (f : ℕ) (p : Playing) (pieces : List Piece) (x low : ℕ) (packet : List ℕ) → Plays source f p pieces
    → low ≡ x % 65536 → IsOf source x packet → IsNear (f + length pieces) x → Plays source f (arrived_by_multicast low packet p) pieces
arrives_by_multicast source f p pieces x low packet h bits is near =
    let o = joining p (nearest p.next low) in
    arrives source f (join_kept o p) pieces x low packet (join_plays source f p pieces o h) bits is near

-- a first number that is as far below a number of the source as f is
pub begins : (source : List Held) (x low d : ℕ) → low ≡ x % 65536 → room ≤ x → d < room → Plays source (x - d) (playing_from (65536 + ahead low d)) []
begins source x low d bits high near = record {
  bits = omega (arith, bits, high, near);
  high = omega arith;
  next = omega arith;
  shown = tt;
  waits = tt;
}

-- what is presented
shows_one : (source : List Held) (f : ℕ) (p : Playing) (pieces : List Piece) (o : Option Piece) → Plays source f p pieces → presented p ≡ o → Plays source f (past o p) (pieces ++ option_to_list o)
shows_one source f p pieces None h e = subst (λ (qs : List Piece). Plays source f p qs) (sym (append-nil pieces)) h
shows_one source f p pieces (Some q) h e =
    let found = found_right (IsRight source f p.first) p.next p.waits q h.waits e in
    let place : f + (q.n - p.first) ≡ f + length pieces = omega (arith, found.0, h.next) in record {
      bits = h.bits;
      high = h.high;
      next = omega (arith, h.next, length-append pieces (q ∷ []));
      shown = shown_more source f p.first pieces q h.shown (found.0 ∙ h.next) (subst (λ (x : ℕ). IsOf source x q.packet) place found.1.1);
      waits = without_right (IsRight source f p.first) p.next p.waits h.waits;
    }

pub shows : (source : List Held) (f : ℕ) (p : Playing) (pieces : List Piece) → Plays source f p pieces → Plays source f (after_presenting p) (pieces ++ option_to_list (presented p))
shows source f p pieces h = shows_one source f p pieces (presented p) h refl
