-- What becomes of a packet, by the tests of the code.
use Rattle.std.proofs.Common.{◌≡◌, ℕ, ◌+◌, ◌<◌, ◌≤◌, true, false, cond, List, ap, ◌∙◌, ltb, leb}
use Rattle.std.proofs.lemmas.Bool.{cond-true, cond-false, le-ltb, lt-leb}
use Rattle.rams_model.specs.declared.MediaCame.{MediaCame}
use Rattle.rams_model.specs.declared.MediaCame.TheVariants.{Took, Behind, Beyond, Twice}
use Rattle.rams_model.specs.Receiver.{Playing, piece, room, has_piece, with_piece, came, kept, with_arrival}

-- a packet whose number has room
with_room : (p : Playing) (n : ℕ) → p.next ≤ n → n < p.next + room → came p n ≡ cond (has_piece n p.waits) Twice Took
with_room p n above below =
    let new = cond (has_piece n p.waits) Twice Took in
    cond-false (ltb n p.next) Behind (cond (leb (p.next + room) n) Beyond new) (le-ltb n p.next above)
    ∙ cond-false (leb (p.next + room) n) Beyond new (lt-leb (p.next + room) n below)

pub came_twice : (p : Playing) (n : ℕ) → p.next ≤ n → n < p.next + room → has_piece n p.waits ≡ true → came p n ≡ Twice
came_twice p n above below has = with_room p n above below ∙ cond-true (has_piece n p.waits) Twice Took has

pub came_took : (p : Playing) (n : ℕ) → p.next ≤ n → n < p.next + room → has_piece n p.waits ≡ false → came p n ≡ Took
came_took p n above below has = with_room p n above below ∙ cond-false (has_piece n p.waits) Twice Took has

pub kept_twice : (p : Playing) (n : ℕ) (packet : List ℕ) → came p n ≡ Twice → with_arrival n packet p ≡ p
kept_twice p n packet e = ap (λ (c : MediaCame). kept c (piece n packet) p) e

pub kept_took : (p : Playing) (n : ℕ) (packet : List ℕ) → came p n ≡ Took → with_arrival n packet p ≡ record p { waits = with_piece (piece n packet) p.waits }
kept_took p n packet e = ap (λ (c : MediaCame). kept c (piece n packet) p) e
