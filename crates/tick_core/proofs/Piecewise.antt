-- The pending repairs, piece by piece.
use Rattle.std.proofs.Common.{◌≡◌, ℕ, ◌+◌, ◌<◌, ◌≤◌, Bool, false, List, [], ◌∷◌, ◌++◌, length, drop, get_or, replicate, refl, ap, sym, ◌∙◌, append_assoc, append-nil}
use Rattle.std.proofs.lemmas.List.{replicate-append-replicate}
use Rattle.rams_model.specs.declared.Held.{Held}
use Rattle.rams_model.specs.Service.{Wanted}
use Rattle.channel_cache.specs.packet_ring.{packet_of}
use Rattle.repair_queue.specs.{all_of}
use Rattle.repair_queue.proofs.Pieces.{all_from, all_none}
use Rattle.tick_core.specs.{Repaired, with_waiting, with_wanted, with_all_wanted, AreHeld, IsSpent}
use Rattle.tick_core.proofs.Spent.{spent_still, rest_waits}

-- none more wait
pub none_wait : (r : Repaired) → with_waiting 0 r ≡ r
none_wait r = ap (λ (l : List Bool). record r { done = l }) (append-nil r.done)

-- so many wait, and then so many more
pub more_wait : (j k : ℕ) (r : Repaired) → with_waiting (j + k) r ≡ with_waiting k (with_waiting j r)
more_wait j k r =
    ap (λ (l : List Bool). record r { done = l })
    (sym (append_assoc r.done (replicate j false) (replicate k false) ∙ ap (λ (l : List Bool). r.done ++ l) (replicate-append-replicate j k false)))

with_append : (held : List Held) (xs ys : List Wanted) (r : Repaired) → with_all_wanted held (xs ++ ys) r ≡ with_all_wanted held ys (with_all_wanted held xs r)
unfolding with_all_wanted
with_append held [] ys r = refl
with_append held (w ∷ xs) ys r = with_append held xs ys (with_wanted w (packet_of w.n held) r)

-- one more piece
pub piece_turn : (held : List Held) (ps : List (List Wanted)) (i : ℕ) (q p last : List Wanted) (r r2 end : Repaired) → i < length ps → q ≡ get_or ps i q → p ≡ q
    → r2 ≡ with_all_wanted held p r → with_all_wanted held (all_of (drop i ps) ++ last) r ≡ end → with_all_wanted held (all_of (drop (i + 1) ps) ++ last) r2 ≡ end
piece_turn held ps i q p last r r2 end lt at is made so_far =
    let rest = all_of (drop (i + 1) ps) in
    let from : all_of (drop i ps) ≡ p ++ rest = all_from ps i q lt at ∙ ap (λ (l : List Wanted). l ++ rest) (sym is) in
    ap (with_all_wanted held (rest ++ last)) made
    ∙ (sym (with_append held p (rest ++ last) r)
    ∙ (ap (λ (l : List Wanted). with_all_wanted held l r) (sym (ap (λ (l : List Wanted). l ++ last) from ∙ append_assoc p rest last)) ∙ so_far))

-- and none
pub pieces_end : (held : List Held) (ps : List (List Wanted)) (i : ℕ) (last : List Wanted) (r r2 end : Repaired) → length ps ≤ i → r2 ≡ with_all_wanted held last r → with_all_wanted held (all_of (drop i ps) ++ last) r ≡ end → r2 ≡ end
pieces_end held ps i last r r2 end le made so_far = made ∙ (ap (λ (l : List Wanted). with_all_wanted held (l ++ last) r) (sym (all_none ps i le)) ∙ so_far)

-- nothing fits still
pub all_spent : (held : List Held) (ws : List Wanted) (r : Repaired) → IsSpent held r → IsSpent held (with_all_wanted held ws r)
unfolding with_all_wanted
all_spent held [] r spent = spent
all_spent held (w ∷ ws) r spent = all_spent held ws (with_wanted w (packet_of w.n held) r) (spent_still held w r _ refl spent)

-- a piece whose packets are held is passed, where so many wait already
pub piece_waits : (held : List Held) (ps : List (List Wanted)) (i k m n : ℕ) (q last : List Wanted) (r end : Repaired) → i < length ps → q ≡ get_or ps i q → m ≡ length q → n ≡ k + m → AreHeld held q → IsSpent held r
    → with_all_wanted held (all_of (drop i ps) ++ last) (with_waiting k r) ≡ end → with_all_wanted held (all_of (drop (i + 1) ps) ++ last) (with_waiting n r) ≡ end
piece_waits held ps i k m n q last r end lt at long sum all spent so_far =
    let r1 = with_waiting k r in
    let joins : replicate k false ++ replicate (length q) false ≡ replicate n false =
    replicate-append-replicate k (length q) false ∙ ap (λ (j : ℕ). replicate j false) (sym (sum ∙ ap (λ (j : ℕ). k + j) long)) in
    let made : with_waiting n r ≡ with_all_wanted held q r1 =
    sym (rest_waits held q r1 spent all ∙ ap (λ (l : List Bool). record r { done = l }) (append_assoc r.done (replicate k false) (replicate (length q) false) ∙ ap (λ (l : List Bool). r.done ++ l) joins)) in
    piece_turn held ps i q q last r1 (with_waiting n r) end lt at refl made so_far
