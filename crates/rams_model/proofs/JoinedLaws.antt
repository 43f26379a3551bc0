-- Pieces joined end to end are read as they are spelled, where each of them is.
use Rattle.std.proofs.Common.{◌≡◌, ℕ, zero, suc, ◌+◌, ◌≤◌, ◌<◌, List, [], ◌∷◌, ◌++◌, length, take, drop, get_or, Option, None, Some, Result, Ok, Err, refl, sym, ◌∙◌, ap, subst, arith, length-drop, length-append, take-append-drop, get_or-drop, append_assoc, append-nil, drop_at}
use Rattle.rams_model.specs.Formats.{Format, pieces_from, pieces_of, unless_fault, onto, Joins}

-- What is read of a piece that stands in front of other bytes.
pub record ReadsAs {Piece Fault : Type 0} (f : Format Piece Fault) (front rest : List ℕ) (p : Piece) : Type 0 where
  pub fault : f.fault (front ++ rest) ≡ None
  pub piece : f.piece (front ++ rest) ≡ p
  pub size : f.size (front ++ rest) ≡ length front
  pub long : 0 < length front

-- A format and its grammar belong together.
pub record Spells {Piece Fault : Type 0} (f : Format Piece Fault) (IsPiece : List ℕ → Piece → Type 0) : Type 0 where
  pub long : (bytes : List ℕ) → 1 ≤ f.size bytes
  pub spelled : (bytes : List ℕ) → ((i : ℕ) → get_or bytes i 0 < 256) → f.fault bytes ≡ None → IsPiece (take (f.size bytes) bytes) (f.piece bytes)
  pub read : (front rest : List ℕ) (p : Piece) → IsPiece front p → ReadsAs f front rest p

-- What it takes to read a list of pieces.
record IsFirst {Piece Fault : Type 0} (p : Piece) (others : Result (List Piece) Fault) (fault : Option Fault) (ps : List Piece) : Type 0 where
  qs : List Piece
  none : fault ≡ None
  rest : others ≡ Ok qs
  whole : p ∷ qs ≡ ps

first_of_ok : {Piece Fault : Type 0} (p : Piece) (others : Result (List Piece) Fault) (fault : Option Fault) (ps : List Piece) → unless_fault (onto p others) fault ≡ Ok ps → IsFirst p others fault ps
first_of_ok p (Ok qs) None ps h = record { qs = qs; none = refl; rest = refl; whole = cc }
first_of_ok p (Err e) None ps h = cc
first_of_ok p others (Some e) ps h = cc

none_spelled : {Piece Fault : Type 0} (IsPiece : List ℕ → Piece → Type 0) (ps : List Piece) → ◌≡◌ {A = Result (List Piece) Fault} (Ok []) (Ok ps) → Joins IsPiece [] ps
none_spelled IsPiece [] h = refl
none_spelled IsPiece (p ∷ ps) h = cc

spelled_from : {Piece Fault : Type 0} (f : Format Piece Fault) (IsPiece : List ℕ → Piece → Type 0) → Spells f IsPiece → (n : ℕ) (bytes : List ℕ) → length bytes ≤ n
    → ((i : ℕ) → get_or bytes i 0 < 256) → (ps : List Piece) → pieces_from f n bytes ≡ Ok ps → Joins IsPiece bytes ps
unfolding pieces_from
spelled_from f IsPiece s zero [] h small ps e = none_spelled IsPiece ps e
spelled_from f IsPiece s zero (b ∷ bytes) h small ps e = absurd (omega arith)
spelled_from f IsPiece s (suc n) [] h small ps e = none_spelled IsPiece ps e
spelled_from f IsPiece s (suc n) (b ∷ bytes) h small ps e =
    let size = f.size (b ∷ bytes) in
    let one : 1 ≤ size = s.long (b ∷ bytes) in
    let rest = drop size (b ∷ bytes) in
    let left : length rest ≤ n = omega (arith, length-drop size (b ∷ bytes)) in
    let first = first_of_ok (f.piece (b ∷ bytes)) (pieces_from f n rest) (f.fault (b ∷ bytes)) ps e in
    let others = spelled_from f IsPiece s n rest left (λ i. rw (get_or-drop size (b ∷ bytes) i 0) (small (size + i))) first.qs first.rest in
    subst (Joins IsPiece (b ∷ bytes)) first.whole
    (take size (b ∷ bytes), rest, s.spelled (b ∷ bytes) small first.none, sym (take-append-drop size (b ∷ bytes)), others)

-- what is read is spelled so
pub spelled_as_read : {Piece Fault : Type 0} (f : Format Piece Fault) (IsPiece : List ℕ → Piece → Type 0) → Spells f IsPiece → (bytes : List ℕ)
    → ((i : ℕ) → get_or bytes i 0 < 256) → (ps : List Piece) → pieces_of f bytes ≡ Ok ps → Joins IsPiece bytes ps
spelled_as_read f IsPiece s bytes small ps e = spelled_from f IsPiece s (length bytes) bytes (omega arith) small ps e

-- one piece more
read_more : {Piece Fault : Type 0} (f : Format Piece Fault) (n : ℕ) (front rest bytes : List ℕ) (p : Piece) (ps : List Piece) → bytes ≡ front ++ rest → ReadsAs f front rest p
    → pieces_from f n rest ≡ Ok ps → pieces_from f (suc n) bytes ≡ Ok (p ∷ ps)
unfolding pieces_from
read_more f n (b ∷ front) rest bytes p ps e r others =
    let behind : drop (f.size (b ∷ front ++ rest)) (b ∷ front ++ rest) ≡ rest = ap (λ k. drop k (b ∷ front ++ rest)) r.size ∙ drop_at (b ∷ front) rest (length (b ∷ front)) refl in
    ap (pieces_from f (suc n)) e ∙ ap (unless_fault (onto (f.piece (b ∷ front ++ rest)) (pieces_from f n (drop (f.size (b ∷ front ++ rest)) (b ∷ front ++ rest))))) r.fault
    ∙ ap (λ q. onto q (pieces_from f n (drop (f.size (b ∷ front ++ rest)) (b ∷ front ++ rest)))) r.piece
    ∙ ap (λ l. onto p (pieces_from f n l)) behind ∙ ap (onto p) others
read_more f n [] rest bytes p ps e r others = absurd (omega (arith, r.long))

read_from : {Piece Fault : Type 0} (f : Format Piece Fault) (IsPiece : List ℕ → Piece → Type 0) → Spells f IsPiece → (ps : List Piece) (n : ℕ) (bytes : List ℕ) → length bytes ≤ n
    → Joins IsPiece bytes ps → pieces_from f n bytes ≡ Ok ps
unfolding pieces_from
read_from f IsPiece s [] zero bytes h j = refl
read_from f IsPiece s [] (suc n) bytes h j = ap (pieces_from f (suc n)) j
read_from f IsPiece s (p ∷ ps) zero bytes h (front, rest, piece, e, others) =
    absurd (omega (arith, (s.read front rest p piece).long, ap length e, length-append front rest))
read_from f IsPiece s (p ∷ ps) (suc n) bytes h (front, rest, piece, e, others) =
    let r = s.read front rest p piece in
    let left : length rest ≤ n = omega (arith, r.long, ap length e, length-append front rest) in
    read_more f n front rest bytes p ps e r (read_from f IsPiece s ps n rest left others)

-- what is spelled so is read
pub read_as_spelled : {Piece Fault : Type 0} (f : Format Piece Fault) (IsPiece : List ℕ → Piece → Type 0) → Spells f IsPiece → (bytes : List ℕ) (ps : List Piece)
    → Joins IsPiece bytes ps → pieces_of f bytes ≡ Ok ps
read_as_spelled f IsPiece s bytes ps j = read_from f IsPiece s ps (length bytes) bytes (omega arith) j

-- a piece alone, and pieces behind pieces
pub joins_one : {Piece : Type 0} (IsPiece : List ℕ → Piece → Type 0) (front : List ℕ) (p : Piece) → IsPiece front p → Joins IsPiece front (p ∷ [])
joins_one IsPiece front p h = (front, [], h, sym (append-nil front), refl)

pub joins_append : {Piece : Type 0} (IsPiece : List ℕ → Piece → Type 0) (xs ys : List ℕ) (ps qs : List Piece) → Joins IsPiece xs ps → Joins IsPiece ys qs → Joins IsPiece (xs ++ ys) (ps ++ qs)
joins_append IsPiece xs ys [] qs j k = subst (λ (l : List ℕ). Joins IsPiece l qs) (sym (ap (λ (l : List ℕ). l ++ ys) j)) k
joins_append IsPiece xs ys (p ∷ ps) qs (front, rest, piece, e, others) k =
    (front, rest ++ ys, piece, ap (λ (l : List ℕ). l ++ ys) e ∙ append_assoc front rest ys, joins_append IsPiece rest ys ps qs others k)
