-- Packets in runs, and what one more changes.
use Rattle.std.proofs.Common.{◌≡◌, ◌≢◌, ℕ, zero, suc, ◌+◌, ◌-◌, Bool, true, false, ◌&&◌, cond, eqb, nat_lt, List, [], ◌∷◌, ◌++◌, All, length, get_or, set, length-append, take, slice_get, Option, None, Some, is_some, refl, sym, ap, subst, ◌∙◌, arith}
use Rattle.std.proofs.lemmas.Bool.{eqb-true, eq-eqb, ne_eqb}
use Rattle.std.proofs.lemmas.Option.{slice_get_read}
use Rattle.std.proofs.lemmas.List.Elements.{All-head, All-tail}
use Rattle.std.proofs.Math.Seq.{take-append_seam}
use Rattle.std.specs.Option.{option_or}
use Rattle.meet_loop.specs.declared.world_net.runs.Run.{Run}
use Rattle.meet_loop.specs.world_net.{at_pair, in_run, in_runs, IsRunOf}

abbrev value_or : Run → Option Run → Run
value_or d None = d
value_or d (Some r) = r

pub same_run : (r s : Run) → Some r ≡ Some s → r ≡ s
same_run r s e = ap (value_or r) e

-- no run of a channel
pub no_run : (id m : ℕ) (runs : List Run) → All (λ r. r.id ≢ id) runs → in_runs id m runs ≡ None
no_run id m [] none = refl
no_run id m (r ∷ rs) none =
    ap (λ (t : Bool). cond t (in_run m r) (in_runs id m rs)) (ne_eqb r.id id (All-head (λ x. x.id ≢ id) r rs none)) ∙ no_run id m rs (All-tail (λ x. x.id ≢ id) r rs none)

-- the run of a channel
pub run_found : (id m place : ℕ) (runs : List Run) (r : Run) → slice_get runs place ≡ Some r → r.id ≡ id → All (λ x. x.id ≢ id) (take place runs) → in_runs id m runs ≡ in_run m r
run_found id m place [] r at its before = absurd cc
run_found id m zero (x ∷ xs) r at its before =
    let same : x ≡ r = same_run x r at in
    ap (λ (t : Bool). cond t (in_run m x) (in_runs id m xs)) (eq-eqb x.id id (ap (λ (y : Run). y.id) same ∙ its)) ∙ ap (in_run m) same
run_found id m (suc p) (x ∷ xs) r at its before =
    ap (λ (t : Bool). cond t (in_run m x) (in_runs id m xs)) (ne_eqb x.id id (All-head (λ y. y.id ≢ id) x (take p xs) before))
    ∙ run_found id m p xs r at its (All-tail (λ y. y.id ≢ id) x (take p xs) before)

-- another run in place of a channel's
pub run_set : (id i m place : ℕ) (runs : List Run) (r s : Run) → slice_get runs place ≡ Some r → r.id ≡ id → s.id ≡ id → All (λ x. x.id ≢ id) (take place runs)
    → in_runs i m (set runs place s) ≡ cond (eqb id i) (in_run m s) (in_runs i m runs)
run_set id i m place [] r s at its same before = absurd cc
run_set id i m zero (x ∷ xs) r s at its same before =
    by (eqb id i) (ap (λ (k : ℕ). eqb k i) same) (ap (λ (k : ℕ). eqb k i) (ap (λ (y : Run). y.id) (same_run x r at) ∙ its))
  where
    by : (b : Bool) → eqb s.id i ≡ b → eqb x.id i ≡ b → cond (eqb s.id i) (in_run m s) (in_runs i m xs) ≡ cond b (in_run m s) (cond (eqb x.id i) (in_run m x) (in_runs i m xs))
    by true e f = ap (λ (t : Bool). cond t (in_run m s) (in_runs i m xs)) e
    by false e f = ap (λ (t : Bool). cond t (in_run m s) (in_runs i m xs)) e ∙ sym (ap (λ (t : Bool). cond t (in_run m x) (in_runs i m xs)) f)
run_set id i m (suc p) (x ∷ xs) r s at its same before =
    by (All-head (λ y. y.id ≢ id) x (take p xs) before) (run_set id i m p xs r s at its same (All-tail (λ y. y.id ≢ id) x (take p xs) before)) (eqb x.id i) refl
  where
    by : x.id ≢ id → in_runs i m (set xs p s) ≡ cond (eqb id i) (in_run m s) (in_runs i m xs) → (b : Bool) → eqb x.id i ≡ b
        → cond b (in_run m x) (in_runs i m (set xs p s)) ≡ cond (eqb id i) (in_run m s) (cond b (in_run m x) (in_runs i m xs))
    by other rest true e = ap (λ (t : Bool). cond t (in_run m s) (in_run m x)) (sym (ne_eqb id i (λ h. other (eqb-true x.id i e ∙ sym h))))
    by other rest false e = rest

-- an empty run behind all
nothing_or : (b : Bool) → cond {A = Option (List ℕ)} b None None ≡ None
nothing_or true = refl
nothing_or false = refl

pub run_begun : (i m : ℕ) (runs : List Run) (s : Run) → s.packets.items ≡ [] → in_runs i m (runs ++ s ∷ []) ≡ in_runs i m runs
run_begun i m [] s empty =
    let none : in_run m s ≡ None = ap (λ (xs : List (List ℕ)). cond (nat_lt m s.first) None (slice_get xs (m - s.first))) empty ∙ nothing_or (nat_lt m s.first) in
    ap (λ (o : Option (List ℕ)). cond (eqb s.id i) o None) none ∙ nothing_or (eqb s.id i)
run_begun i m (x ∷ xs) s empty = ap (λ (o : Option (List ℕ)). cond (eqb x.id i) (in_run m x) o) (run_begun i m xs s empty)

last_at : (runs : List Run) (s : Run) → slice_get (runs ++ s ∷ []) (length runs) ≡ Some s
last_at [] s = refl
last_at (x ∷ xs) s = last_at xs s

pub run_last : (id place : ℕ) (runs new : List Run) (s : Run) → new ≡ runs ++ s ∷ [] → place ≡ length runs → s.id ≡ id → All (λ r. r.id ≢ id) runs → IsRunOf id new place
run_last id place runs new s grown end its none = record {
  run = s;
  within = omega (arith, end, ap (length {A = Run}) grown, length-append runs (s ∷ []));
  at = ap (λ (xs : List Run). slice_get xs place) grown ∙ ap (slice_get (runs ++ s ∷ [])) end ∙ last_at runs s;
  its = its;
  before = subst (All (λ r. r.id ≢ id)) (sym (ap (take place) grown ∙ ap (λ (k : ℕ). take k (runs ++ s ∷ [])) end ∙ take-append_seam runs (s ∷ []))) none;
}

pub run_read : (id place : ℕ) (runs : List Run) (r : Run) → IsRunOf id runs place → r ≡ get_or runs place r → (slice_get runs place ≡ Some r) × (r.id ≡ id)
run_read id place runs r o is =
    let at = slice_get_read runs (length runs) place r refl o.within is in
    (at, ap (λ (x : Run). x.id) (same_run r o.run (sym at ∙ o.at)) ∙ o.its)

pub none_there : {A : Type 0} (o : Option A) → is_some o ≡ false → o ≡ None
none_there None e = refl
none_there (Some x) e = absurd cc

-- one packet more, apart
pub put_apart : (old new : List ((ℕ × ℕ) × List ℕ)) (was is : Option (List ℕ)) (id n i m : ℕ) (packet : List ℕ) → at_pair new i m ≡ cond (eqb id i && eqb n m) (Some packet) (at_pair old i m) → is ≡ was
    → option_or (at_pair new i m) is ≡ cond (eqb id i && eqb n m) (Some packet) (option_or (at_pair old i m) was)
put_apart old new was is id n i m packet e same = ap (λ (o : Option (List ℕ)). option_or o is) e ∙ ap (option_or (cond (eqb id i && eqb n m) (Some packet) (at_pair old i m))) same ∙ by (eqb id i && eqb n m)
  where
    by : (b : Bool) → option_or (cond b (Some packet) (at_pair old i m)) was ≡ cond b (Some packet) (option_or (at_pair old i m) was)
    by true = refl
    by false = refl

-- one packet more, behind a run
pub put_behind : (apart : List ((ℕ × ℕ) × List ℕ)) (runs : List Run) (r s : Run) (id n i m place : ℕ) (packet : List ℕ) → slice_get runs place ≡ Some r → r.id ≡ id → s.id ≡ id → All (λ x. x.id ≢ id) (take place runs)
    → at_pair apart id n ≡ None → n ≡ r.first + length r.packets.items → in_run m s ≡ cond (eqb (r.first + length r.packets.items) m) (Some packet) (in_run m r)
    → option_or (at_pair apart i m) (in_runs i m (set runs place s)) ≡ cond (eqb id i && eqb n m) (Some packet) (option_or (at_pair apart i m) (in_runs i m runs))
put_behind apart runs r s id n i m place packet at its same before none end more =
    ap (option_or (at_pair apart i m)) (run_set id i m place runs r s at its same before) ∙ by (eqb id i) refl (eqb n m) refl
  where
    grown : in_run m s ≡ cond (eqb n m) (Some packet) (in_runs id m runs)
    grown = more ∙ ap (λ (k : ℕ). cond (eqb k m) (Some packet) (in_run m r)) (sym end) ∙ ap (cond (eqb n m) (Some packet)) (sym (run_found id m place runs r at its before))

    by : (a : Bool) → eqb id i ≡ a → (b : Bool) → eqb n m ≡ b → option_or (at_pair apart i m) (cond a (in_run m s) (in_runs i m runs)) ≡ cond (a && b) (Some packet) (option_or (at_pair apart i m) (in_runs i m runs))
    by false e b f = refl
    by true e true f =
        ap (λ (o : Option (List ℕ)). option_or o (in_run m s)) (ap (λ (k : ℕ). at_pair apart k m) (sym (eqb-true id i e)) ∙ ap (at_pair apart id) (sym (eqb-true n m f)) ∙ none)
        ∙ grown ∙ ap (λ (t : Bool). cond t (Some packet) (in_runs id m runs)) f
    by true e false f =
        ap (option_or (at_pair apart i m)) (grown ∙ ap (λ (t : Bool). cond t (Some packet) (in_runs id m runs)) f ∙ ap (λ (k : ℕ). in_runs k m runs) (eqb-true id i e))
