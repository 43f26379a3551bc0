-- Pieces joined end to end, as the packets of a datagram and the TLVs of a message are.
use Rattle.std.specs.Prelude.{◌≡◌, ℕ, zero, suc, List, [], ◌∷◌, ◌++◌, length, drop, Option, None, Some, Result, Ok, Err}
use Rattle.std.specs.Int.{w32, from_be_bytes}

-- how the piece in front of some bytes is read: what is wrong with it, what it is, and how many bytes it takes
pub record Format (Piece Fault : Type 0) : Type 0 where
  pub fault : List ℕ → Option Fault
  pub piece : List ℕ → Piece
  pub size : List ℕ → ℕ

-- what is read, or a fault that comes first
abbrev pub unless_fault : {A Fault : Type 0} → Result A Fault → Option Fault → Result A Fault
unless_fault read None = read
unless_fault read (Some fault) = Err fault

-- a piece in front of those behind it
abbrev pub onto : {Piece Fault : Type 0} → Piece → Result (List Piece) Fault → Result (List Piece) Fault
onto p (Ok ps) = Ok (p ∷ ps)
onto p (Err fault) = Err fault

-- the pieces that the bytes are, at most n of them, or the first fault from the first piece on
unfoldable pub pieces_from : {Piece Fault : Type 0} → Format Piece Fault → ℕ → List ℕ → Result (List Piece) Fault
pieces_from format zero bytes = Ok []
pieces_from format (suc n) [] = Ok []
pieces_from format (suc n) (b ∷ bytes) =
    unless_fault (onto (format.piece (b ∷ bytes)) (pieces_from format n (drop (format.size (b ∷ bytes)) (b ∷ bytes)))) (format.fault (b ∷ bytes))

-- all of them, since each piece takes a byte or more
abbrev pub pieces_of : {Piece Fault : Type 0} → Format Piece Fault → List ℕ → Result (List Piece) Fault
pieces_of format bytes = pieces_from format (length bytes) bytes

-- The bytes are these pieces joined end to end, where `IsPiece front p` says that the bytes `front` are the piece p.
abbrev pub Joins : {Piece : Type 0} → (List ℕ → Piece → Type 0) → List ℕ → List Piece → Type 0
Joins IsPiece bytes [] = bytes ≡ []
Joins IsPiece bytes (p ∷ ps) = (front : List ℕ) × (rest : List ℕ) × IsPiece front p × (bytes ≡ front ++ rest) × Joins IsPiece rest ps

-- what is made of what was read
abbrev pub map_ok : {A B Fault : Type 0} → (A → B) → Result A Fault → Result B Fault
map_ok f (Ok x) = Ok (f x)
map_ok f (Err fault) = Err fault

-- the whole words of 32 bits, as numbers
unfoldable pub words32 : List ℕ → List ℕ
words32 (a ∷ b ∷ c ∷ d ∷ rest) = from_be_bytes w32 (a ∷ b ∷ c ∷ d ∷ []) ∷ words32 rest
words32 short = []
