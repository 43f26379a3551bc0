-- The pending repairs that do not fit: the channel has less left than their packets take, or their clients may take less.
use Rattle.std.proofs.Common.{◌≡◌, ℕ, zero, suc, ◌+◌, ◌<◌, ◌≤◌, Bool, true, false, List, [], ◌∷◌, ◌++◌, length, take, drop, replicate, Option, Some, None, is_some, IfSome, refl, ap, sym, ◌∙◌, subst, arith, eqb, leb, append_assoc, append-nil, get_or}
use Rattle.std.specs.List.{AllByRecursion}
use Rattle.std.proofs.Math.Seq.{take-add}
use Rattle.std.proofs.lemmas.Bool.{cond_both, cond-false, lt-leb, and_left, and_right}
use Rattle.rams_model.specs.declared.Held.{Held}
use Rattle.rams_model.specs.Service.{Wanted}
use Rattle.rams_model.specs.Laws.{AreAtLeast}
use Rattle.channel_cache.specs.packet_ring.{packet_of}
use Rattle.tick_core.specs.declared.allowance.Allowance.{Allowance}
use Rattle.tick_draft.specs.{Drafted}
use Rattle.tick_core.specs.{Repaired, allowance_for, fits, waiting, with_repair, with_wanted, with_all_wanted, IsSpent, FitsNowhere, AreHeld, IsGone}
use Rattle.tick_core.proofs.Within.{some_there}

-- what holds of all holds of the one that is found
found_too : (P : Held → Type 0) (n : ℕ) (held : List Held) → AllByRecursion P held → IfSome (packet_of n held) P
found_too P n [] all = tt
found_too P n (h ∷ held) all = cond_both (eqb h.n n) (Some h) (packet_of n held) (λ o. IfSome o P) (λ t. all.0) (λ f. found_too P n held all.1)

-- ---- what doesn't fit
over_left : (h : Held) (a : Allowance) (d : Drafted) → d.left < h.wire → fits h a d ≡ false
over_left h a d large = and_right (leb h.wire a.may_take) (leb h.wire d.left) (lt-leb h.wire d.left large)

over_allowed : (h : Held) (a : Allowance) (d : Drafted) → a.may_take < h.wire → fits h a d ≡ false
over_allowed h a d large = and_left (leb h.wire a.may_take) (leb h.wire d.left) (lt-leb h.wire a.may_take large)

no_fit : (w : Wanted) (h : Held) (o : Option Allowance) (r : Repaired) → IfSome o (λ a. fits h a r.draft ≡ false) → with_repair w h o r ≡ waiting r
no_fit w h None r none = refl
no_fit w h (Some a) r none = cond-false (fits h a r.draft) _ (waiting r) none

over_left_all : (h : Held) (o : Option Allowance) (r : Repaired) → r.draft.left < h.wire → IfSome o (λ a. fits h a r.draft ≡ false)
over_left_all h None r large = tt
over_left_all h (Some a) r large = over_left h a r.draft large

-- nothing fits where the channel has less left than any packet takes
pub none_fits : (held : List Held) (w : Wanted) (r : Repaired) → IsSpent held r → FitsNowhere held w r
none_fits held w r spent = by_packet (packet_of w.n held) (found_too (λ h. r.draft.left < h.wire) w.n held spent)
  where
    by_packet : (o : Option Held) → IfSome o (λ h. r.draft.left < h.wire) → IfSome o (λ h. IfSome (allowance_for w.client r.allowances) (λ a. fits h a r.draft ≡ false))
    by_packet None large = tt
    by_packet (Some h) large = over_left_all h (allowance_for w.client r.allowances) r large

-- or where its client may take less
over_allowed_all : (h : Held) (least : ℕ) (o : Option Allowance) (d : Drafted) → least ≤ h.wire → IfSome o (λ a. a.may_take < least) → IfSome o (λ a. fits h a d ≡ false)
over_allowed_all h least None d large less = tt
over_allowed_all h least (Some a) d large less = over_allowed h a d (omega (arith, large, less))

pub none_fits_client : (held : List Held) (w : Wanted) (r : Repaired) (least : ℕ) → AreAtLeast least held → IfSome (allowance_for w.client r.allowances) (λ a. a.may_take < least) → FitsNowhere held w r
none_fits_client held w r least all less = by_packet (packet_of w.n held) (found_too (λ h. least ≤ h.wire) w.n held all)
  where
    by_packet : (o : Option Held) → IfSome o (λ h. least ≤ h.wire) → IfSome o (λ h. IfSome (allowance_for w.client r.allowances) (λ a. fits h a r.draft ≡ false))
    by_packet None large = tt
    by_packet (Some h) large = over_allowed_all h least (allowance_for w.client r.allowances) r.draft large less

-- ---- it is passed
held_waits : (w : Wanted) (o : Option Held) (r : Repaired) → IfSome o (λ h. IfSome (allowance_for w.client r.allowances) (λ a. fits h a r.draft ≡ false)) → true ≡ is_some o → with_wanted w o r ≡ waiting r
held_waits w None r none some = cc
held_waits w (Some h) r none some = no_fit w h (allowance_for w.client r.allowances) r none

none_held : (o : Option Held) → false ≡ is_some o → None ≡ o
none_held None some = refl
none_held (Some h) some = cc

pub gone : (held : List Held) (w : Wanted) (r r2 : Repaired) → false ≡ is_some (packet_of w.n held) → r2 ≡ with_wanted w None r → r2 ≡ with_wanted w (packet_of w.n held) r
gone held w r r2 none made = made ∙ ap (λ (o : Option Held). with_wanted w o r) (none_held (packet_of w.n held) none)

-- and the channel has as much left
left_stays : (w : Wanted) (o : Option Held) (r : Repaired) → IfSome o (λ h. IfSome (allowance_for w.client r.allowances) (λ a. fits h a r.draft ≡ false)) → (with_wanted w o r).draft.left ≡ r.draft.left
left_stays w None r none = refl
left_stays w (Some h) r none = ap (λ (x : Repaired). x.draft.left) (no_fit w h (allowance_for w.client r.allowances) r none)

pub spent_still : (held : List Held) (w : Wanted) (r r2 : Repaired) → r2 ≡ with_wanted w (packet_of w.n held) r → IsSpent held r → IsSpent held r2
spent_still held w r r2 made spent =
    subst (λ (n : ℕ). AllByRecursion (λ h. n < h.wire) held) (sym (ap (λ (x : Repaired). x.draft.left) made ∙ left_stays w (packet_of w.n held) r (none_fits held w r spent))) spent

-- ---- all the rest waits where all of it is held
pub rest_waits : (held : List Held) (ws : List Wanted) (r : Repaired) → IsSpent held r → AreHeld held ws → with_all_wanted held ws r ≡ record r { done = r.done ++ replicate (length ws) false }
unfolding with_all_wanted
rest_waits held [] r spent all = ap (λ (l : List Bool). record r { done = l }) (sym (append-nil r.done))
rest_waits held (w ∷ ws) r spent all =
    ap (with_all_wanted held ws) (held_waits w (packet_of w.n held) r (none_fits held w r spent) (some_there (packet_of w.n held) all.0))
    ∙ (rest_waits held ws (waiting r) spent all.1
    ∙ ap (λ (l : List Bool). record r { done = l }) (append_assoc r.done (false ∷ []) (replicate (length ws) false)))

-- those behind some that are held are held too
pub held_more : (held : List Held) (ws : List Wanted) (i n end : ℕ) → i + n ≡ end → AreHeld held (take i ws) → AreHeld held (take n (drop i ws)) → AreHeld held (take end ws)
held_more held ws i n end ends front more =
    subst (AreHeld held) (sym (take-add i n ws) ∙ ap (λ (m : ℕ). take m ws) ends) (both (take i ws) (take n (drop i ws)) front more)
  where
    both : (xs ys : List Wanted) → AreHeld held xs → AreHeld held ys → AreHeld held (xs ++ ys)
    both [] ys front more = more
    both (w ∷ xs) ys front more = (front.0, both xs ys front.1 more)

-- the first of them wait where these are held
pub front_waits : (held : List Held) (k : ℕ) (ws : List Wanted) (r r2 : Repaired) → k ≤ length ws → IsSpent held r → AreHeld held (take k ws) → r2 ≡ record r { done = r.done ++ replicate k false }
    → with_all_wanted held (drop k ws) r2 ≡ with_all_wanted held ws r
unfolding with_all_wanted
front_waits held zero ws r r2 within spent all made = ap (with_all_wanted held ws) (made ∙ ap (λ (l : List Bool). record r { done = l }) (append-nil r.done))
front_waits held (suc k) [] r r2 within spent all made = absurd (omega arith)
front_waits held (suc k) (w ∷ ws) r r2 within spent all made =
    front_waits held k ws (waiting r) r2 (omega arith) spent all.1 (made ∙ sym (ap (λ (l : List Bool). record r { done = l }) (append_assoc r.done (false ∷ []) (replicate k false))))
    ∙ sym (ap (with_all_wanted held ws) (held_waits w (packet_of w.n held) r (none_fits held w r spent) (some_there (packet_of w.n held) all.0)))

-- the first of these is gone
pub first_none : (held : List Held) (ws : List Wanted) (r : Repaired) → length ws < 1 → r ≡ with_all_wanted held (take 1 ws) r
unfolding with_all_wanted
first_none held [] r short = refl
first_none held (w ∷ ws) r short = absurd (omega arith)

pub first_is : (held : List Held) (ws : List Wanted) (w : Wanted) (r r2 : Repaired) → 0 < length ws → w ≡ get_or ws 0 w → IsGone held ws → r2 ≡ with_wanted w None r → r2 ≡ with_all_wanted held (take 1 ws) r
unfolding with_all_wanted
first_is held [] w r r2 some is gone made = absurd (omega arith)
first_is held (v ∷ ws) w r r2 some is gone made = made ∙ (ap (λ (x : Wanted). with_wanted x None r) is ∙ ap (λ (o : Option Held). with_wanted v o r) (sym gone))

-- and then the first of those that are left
pub first_goes : (held : List Held) (ws : List Wanted) (r r2 : Repaired) → r2 ≡ with_all_wanted held (take 1 ws) r → with_all_wanted held (drop 1 ws) r2 ≡ with_all_wanted held ws r
unfolding with_all_wanted
first_goes held [] r r2 made = made
first_goes held (w ∷ ws) r r2 made = ap (with_all_wanted held ws) made

pub first_leaves : (held : List Held) (ws : List Wanted) (r r2 : Repaired) → r2 ≡ with_all_wanted held (take 1 ws) r → IsSpent held r → IsSpent held r2
unfolding with_all_wanted
first_leaves held [] r r2 made spent = subst (IsSpent held) (sym made) spent
first_leaves held (w ∷ ws) r r2 made spent = spent_still held w r r2 made spent
