-- Where some packets, an end of them, and what a channel holds of them end.
use Rattle.std.proofs.Common.{◌≡◌, ℕ, zero, suc, ◌-◌, ◌<◌, ◌≤◌, List, [], ◌∷◌, length, drop, refl, ap, ◌∙◌, arith}
use Rattle.std.proofs.lemmas.Bool.{cond_both}
use Rattle.std.proofs.lemmas.List.{drop_all}
use Rattle.std.proofs.Math.Seq.{drop-nil}
use Rattle.rams_model.specs.declared.held.Held.{Held}
use Rattle.rams_model.specs.Packets.{hi, last_of, Stream, is_consecutive, consecutive_end, source}
use Rattle.rams_model.specs.Packets.Source as sources

hi-drop : (k : ℕ) (hs : List Held) → k < length hs → hi (drop k hs) ≡ hi hs
unfolding hi
hi-drop zero hs lt = refl
hi-drop (suc k) [] lt = absurd (omega (arith, lt))
hi-drop (suc k) (h ∷ []) lt = absurd (omega (arith, lt))
hi-drop (suc k) (h ∷ j ∷ hs) lt = hi-drop k (j ∷ hs) (omega (arith, lt))

-- the longest end whose numbers follow one another
pub hi-consecutive_end : (hs : List Held) → hi (consecutive_end hs) ≡ hi hs
unfolding hi consecutive_end
hi-consecutive_end [] = refl
hi-consecutive_end (h ∷ []) = refl
hi-consecutive_end (h ∷ k ∷ hs) =
    cond_both (is_consecutive (h ∷ k ∷ hs)) (h ∷ k ∷ hs) (consecutive_end (k ∷ hs)) (λ l. hi l ≡ hi (k ∷ hs)) (λ t. refl) (λ f. hi-consecutive_end (k ∷ hs))

-- the last packets, where there is room for one
pub hi-last_of : (ring : ℕ) (hs : List Held) → 1 ≤ ring → hi (last_of ring hs) ≡ hi hs
hi-last_of ring [] room = ap hi (drop-nil (0 - ring))
hi-last_of ring (h ∷ hs) room = hi-drop (length (h ∷ hs) - ring) (h ∷ hs) (omega (arith, room))

-- what is held ends where the source does; where there is no room, nothing is held
pub hi-hold : (window ring : ℕ) (s : Stream) → 1 ≤ ring → hi (sources.hold window ring s) ≡ hi (source window s)
unfolding sources.hold
hi-hold window ring s room = hi-last_of ring (consecutive_end (source window s)) room ∙ hi-consecutive_end (source window s)

pub hi-hold_none : (window : ℕ) (s : Stream) → hi (sources.hold window 0 s) ≡ 0
unfolding sources.hold hi
hi-hold_none window s = let end = consecutive_end (source window s) in ap hi (drop_all (length end - 0) end (omega arith))
