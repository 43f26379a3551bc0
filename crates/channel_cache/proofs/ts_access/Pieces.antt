-- The TS packets of a payload, by their places.
use Rattle.std.proofs.Common.{◌≡◌, ℕ, zero, suc, ◌+◌, ◌*◌, ◌/◌, ◌<◌, ◌≤◌, Bool, true, false, List, length, take, drop, Option, Some, None, refl, sym, ◌∙◌, ap, subst, arith}
use Rattle.std.specs.Prelude.{IfSome, IsSomeAnd, MatchBool}
use Rattle.std.specs.List.{list_any, IsSubsliceAt}
use Rattle.std.specs.Option.{option_map}
use denote.Ref.{Bor}
use Rattle.std.proofs.lemmas.Bool.{or_from, or_left, or_right}
use Rattle.std.proofs.lemmas.List.{drop-drop}
use Rattle.rams_model.specs.Packets.{ts_packets}

-- one TS packet further
pub drop_step : (k : ℕ) (xs : List ℕ) → drop (suc k * 188) xs ≡ drop (k * 188) (drop 188 xs)
drop_step k xs = let further : suc k * 188 ≡ 188 + k * 188 = omega arith in ap (λ n. drop n xs) further ∙ sym (drop-drop (k * 188) 188 xs)

-- one of the TS packets passes the test where that at a place does
pub any_at : (test : List ℕ → Bool) (count k : ℕ) (xs : List ℕ) → k < count → test (take 188 (drop (k * 188) xs)) ≡ true → list_any test (ts_packets count xs) ≡ true
any_at test zero k xs within pass = absurd (omega arith)
any_at test (suc count) zero xs within pass = or_left (test (take 188 xs)) _ pass
any_at test (suc count) (suc k) xs within pass = or_right (test (take 188 xs)) _ (any_at test count k (drop 188 xs) (omega arith) (ap (λ ys. test (take 188 ys)) (sym (drop_step k xs)) ∙ pass))

-- none passes where none at any place does
pub none_at : (test : List ℕ → Bool) (count : ℕ) (xs : List ℕ) → ((k : ℕ) → k < count → test (take 188 (drop (k * 188) xs)) ≡ false) → list_any test (ts_packets count xs) ≡ false
none_at test zero xs fail = refl
none_at test (suc count) xs fail = or_from (test (take 188 xs)) _ (fail 0 (omega arith))
    (none_at test count (drop 188 xs) (λ k within. ap (λ ys. test (take 188 ys)) (sym (drop_step k xs)) ∙ fail (suc k) (omega arith)))

-- the item at place k is the TS packet there
abbrev pub IsPiece : List ℕ → ℕ → Option (Bor (List ℕ)) → Type 0
IsPiece xs k o = IfSome o (λ x. (length x.now ≡ 188) × (k * 188 + 188 ≤ length xs) × IsSubsliceAt 188 xs (k * 188) x.now)

-- what a call answered of the item at a place is the test of the TS packet there
pub test_of_some : (test : List ℕ → Bool) (b : Bool) (xs : List ℕ) (k : ℕ) (C : Bor (List ℕ) → Type 0) → ((x : Bor (List ℕ)) → C x → test x.now ≡ b) → (o : Option (Bor (List ℕ))) → IsPiece xs k o → IsSomeAnd o C → test (take 188 (drop (k * 188) xs)) ≡ b
test_of_some test b xs k C answers None piece said = absurd said
test_of_some test b xs k C answers (Some x) piece said = ap test (sym piece.2.0) ∙ answers x said

pub test_of_each : (test : List ℕ → Bool) (b : Bool) (xs : List ℕ) (k : ℕ) (C : Bor (List ℕ) → Type 0) → ((x : Bor (List ℕ)) → C x → test x.now ≡ b) → (o : Option (Bor (List ℕ))) (y : Bor (List ℕ)) → option_map (λ x. x) o ≡ Some y → IsPiece xs k o → IfSome o C → test (take 188 (drop (k * 188) xs)) ≡ b
test_of_each test b xs k C answers None y there piece said = cc
test_of_each test b xs k C answers (Some x) y there piece said = ap test (sym piece.2.0) ∙ answers x said

-- what a run over the pieces of n bytes reads
abbrev pub ArePieces : ℕ → List ℕ → ℕ → Bool → (ℕ → Option (Bor (List ℕ))) → Type 0
ArePieces n xs len whole at =
    (len * n ≤ length xs) × (whole ≡ true → len ≡ length xs / n)
    × ((k : ℕ) → IfSome (at k) (λ x. (length x.now ≡ n) × (k * n + n ≤ length xs) × IsSubsliceAt n xs (k * n) x.now))

pub pieces_of : (n : ℕ) (ys xs : List ℕ) (len : ℕ) (whole : Bool) (at : ℕ → Option (Bor (List ℕ))) → n ≡ 188 → ys ≡ xs → ArePieces n ys len whole at → ArePieces 188 xs len whole at
pieces_of n ys xs len whole at size rest pieces =
    subst (λ (m : ℕ). ArePieces m xs len whole at) size (subst (λ (zs : List ℕ). ArePieces n zs len whole at) rest pieces)

-- a result is known from each of its cases
pub by_result : (r want : Bool) (P Q : Type 0) → MatchBool r P Q → (P → want ≡ true) → (Q → want ≡ false) → r ≡ want
by_result true want P Q case if_so if_not = sym (if_so case)
by_result false want P Q case if_so if_not = sym (if_not case)
