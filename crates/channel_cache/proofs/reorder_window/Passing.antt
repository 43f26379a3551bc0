-- An item goes by.
use Rattle.std.proofs.Common.{◌≡◌, ℕ, ◌<◌, ◌^◌, Bool, true, false, nat_lt, if◌then◌else◌, List, [], ◌∷◌, ◌++◌, Option, None, refl, sym, ap, ◌∙◌, subst, arith}
use Rattle.std.specs.Prelude.{MatchOption}
use Rattle.std.proofs.lemmas.Bool.Decides.{nat_tests}
use Rattle.channel_cache.specs.declared.reorder_window.window.Came.{Came}
use Rattle.channel_cache.specs.declared.reorder_window.window.Came.TheVariants.{Kept, Late, Twice}
use Rattle.channel_cache.specs.reorder_window.{Start, start_after, keeping, arrived, free_of, first_free, after_release, released, has_number, IsWindow, StandsFor, GoesBy, WentBy}
use Rattle.channel_cache.specs.reorder_window.Seen.{Seen}
use Rattle.channel_cache.proofs.reorder_window.Keeping.{IsWindow-keeping}
use Rattle.channel_cache.proofs.reorder_window.Standing.{came_same, arrived_stands, release_stands, nothing_free}

-- what a kept packet tells
pub kept_step : (late known : Bool) → (if late then Late else if known then Twice else Kept) ≡ Kept → (late ≡ false) × (known ≡ false)
kept_step true known is = absurd cc
kept_step false true is = absurd cc
kept_step false false is = (refl, refl)

-- whichever items came in time before it
pub went_by : {T : Type 0} (v w : Seen T) (n : ℕ) (item : T) (s : Start T) (out : List (ℕ × T)) → IsWindow v → IsWindow w → n < 2 ^ 62 → v.ended ≡ false → v.kept ≡ [] → GoesBy v w n item → StandsFor v s out → WentBy v w n item s out
went_by {T} v w n item s out was is small going empty goes stood =
    let settled : first_free v ≡ None = ap (free_of v) empty in
    let s' = start_after s n item Kept in
    let kept : StandsFor (keeping v n item) s' out = subst (λ (c : Came). StandsFor (arrived v n item c) (start_after s n item c) out) goes.came (arrived_stands v s out n item was going settled stood) in
    let tests = kept_step (nat_lt n v.awaited) (has_number n v.kept) goes.came in
    let gone = release_stands (keeping v n item) s' out (IsWindow-keeping v n item was going settled small (let t = tests.0 in grind (arith, nat_tests)) tests.1) kept in
    let stands : StandsFor (after_release (keeping v n item)) s' (out ++ (n, item) ∷ []) =
    subst (λ (o : Option (ℕ × T)). MatchOption o (out ≡ released v.width v.ended s') (λ e. StandsFor (after_release (keeping v n item)) s' (out ++ e ∷ []))) goes.first gone in
    let stood' = subst (λ (x : Seen T). StandsFor x s' (out ++ (n, item) ∷ [])) (sym goes.rest) stands in
    record {
      came = sym (came_same v s out n going stood) ∙ goes.came;
      stands = stood';
      all = nothing_free w s' (out ++ (n, item) ∷ []) is goes.settled stood';
    }
