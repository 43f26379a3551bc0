-- A tick of the first of some cores is done, and the others have their plans.
use Rattle.std.proofs.Common.{◌≡◌, ℕ, suc, ◌+◌, ◌<◌, List, [], ◌∷◌, ◌++◌, length, get_or, set, refl, sym, ◌∙◌, ap, subst, arith, append-nil, length-append}
use Rattle.std.proofs.Math.Seq.{get_or-append_seam, set-append_seam, append_snoc}
use Rattle.server_hub.specs.session_core.Seen as cores
use Rattle.server_hub.specs.declared.event.At.{At}
use Rattle.server_hub.specs.{Pairwise, Ticks, AllTick}
use Rattle.server_hub.proofs.Pairing.{same_length}

-- `count` cores are done.
pub record Halfway {P : Type 0} (IsPlan : cores.Seen → P → Type 0) (old new : List cores.Seen) (plans : List P) (answers : List At) (count : ℕ) : Type 0 where
  pub before : List cores.Seen
  pub done : List cores.Seen
  pub rest : List cores.Seen
  pub old_is : old ≡ before ++ rest
  pub new_is : new ≡ done ++ rest
  pub place : length done ≡ count
  pub ticked : AllTick before done answers
  pub planned : Pairwise IsPlan rest plans

pub none_done : {P : Type 0} (IsPlan : cores.Seen → P → Type 0) (old : List cores.Seen) (plans : List P) (answers : List At) → Pairwise IsPlan old plans → answers ≡ [] → Halfway IsPlan old old plans answers 0
none_done IsPlan old plans answers planned none = record {
  before = [];
  done = [];
  rest = old;
  old_is = refl;
  new_is = refl;
  place = refl;
  ticked = subst (AllTick [] []) (sym none) tt;
  planned = planned;
}

-- as many are done as were answered
alike : (olds news : List cores.Seen) (all : List At) → AllTick olds news all → (length olds ≡ length news) × (length all ≡ length news)
alike [] [] [] t = (refl, refl)
alike (v ∷ vs) (w ∷ ws) (a ∷ all) t = let more = alike vs ws all t.1 in (ap suc more.0, ap suc more.1)
alike olds news all t = absurd t

one_more : (olds news : List cores.Seen) (all : List At) (v w : cores.Seen) (a : At) → AllTick olds news all → Ticks v w a → AllTick (olds ++ v ∷ []) (news ++ w ∷ []) (all ++ a ∷ [])
one_more [] [] [] v w a t one = (one, tt)
one_more (o ∷ os) (n ∷ ns) (b ∷ all) v w a t one = (t.0, one_more os ns all v w a t.1 one)
one_more olds news all v w a t one = absurd t

-- The next core has this plan, and then one more is done.
pub record Next {P : Type 0} (IsPlan : cores.Seen → P → Type 0) (old new : List cores.Seen) (plans : List P) (answers : List At) (count : ℕ) (v : cores.Seen) (plan : P) : Type 0 where
  pub is_plan : IsPlan v plan
  pub more : (w : cores.Seen) (a : At) → Ticks v w a → Halfway IsPlan old (set new count w) plans (answers ++ a ∷ []) (count + 1)

next_of : {P : Type 0} (IsPlan : cores.Seen → P → Type 0) (old new : List cores.Seen) (plan : P) (plans : List P) (answers : List At) (count : ℕ) (before done rest : List cores.Seen)
    → old ≡ before ++ rest → new ≡ done ++ rest → length done ≡ count → AllTick before done answers → Pairwise IsPlan rest (plan ∷ plans)
    → (d : cores.Seen) → Next IsPlan old new plans answers count (get_or new count d) plan
next_of IsPlan old new plan plans answers count before done [] o n place ticked planned d = absurd planned
next_of IsPlan old new plan plans answers count before done (v ∷ rest) o n place ticked planned d =
    let is : get_or new count d ≡ v = ap (λ (l : List cores.Seen). get_or l count d) n ∙ ap (λ (k : ℕ). get_or (done ++ v ∷ rest) k d) (sym place) ∙ get_or-append_seam done v rest d in
    let next : Next IsPlan old new plans answers count v plan = record {
      is_plan = planned.0;
      more = λ w a ticks. record {
        before = before ++ v ∷ [];
        done = done ++ w ∷ [];
        rest = rest;
        old_is = o ∙ sym (append_snoc before v rest);
        new_is = ap (λ (l : List cores.Seen). set l count w) n ∙ ap (λ (k : ℕ). set (done ++ v ∷ rest) k w) (sym place) ∙ set-append_seam done v rest w ∙ sym (append_snoc done w rest);
        place = length-append done (w ∷ []) ∙ ap (λ (k : ℕ). k + 1) place;
        ticked = one_more before done answers v w a ticked ticks;
        planned = planned.1;
      };
    } in
    subst (λ (x : cores.Seen). Next IsPlan old new plans answers count x plan) (sym is) next

pub next : {P : Type 0} (IsPlan : cores.Seen → P → Type 0) (old new : List cores.Seen) (all : List P) (answers : List At) (count : ℕ) (plan : P) (plans : List P)
    → Halfway IsPlan old new all answers count → all ≡ plan ∷ plans → (d : cores.Seen) → Next IsPlan old new plans answers count (get_or new count d) plan
next IsPlan old new all answers count plan plans h are d =
    next_of IsPlan old new plan plans answers count h.before h.done h.rest h.old_is h.new_is h.place h.ticked (subst (Pairwise IsPlan h.rest) are h.planned) d

-- a plan is left for each core that is
pub plan_left : {P : Type 0} (IsPlan : cores.Seen → P → Type 0) (old new : List cores.Seen) (plans : List P) (answers : List At) (count : ℕ)
    → Halfway IsPlan old new plans answers count → count < length new → 0 < length plans
plan_left IsPlan old new plans answers count h less =
    omega (arith, ap length h.new_is, length-append h.done h.rest, h.place, same_length IsPlan h.rest plans h.planned)

-- so many were answered
pub answered : {P : Type 0} (IsPlan : cores.Seen → P → Type 0) (old new : List cores.Seen) (plans : List P) (answers : List At) (count : ℕ)
    → Halfway IsPlan old new plans answers count → length answers ≡ count
answered IsPlan old new plans answers count h = (alike h.before h.done answers h.ticked).1 ∙ h.place

-- all are done
ends : (old new before done rest : List cores.Seen) (answers : List At) → old ≡ before ++ rest → new ≡ done ++ rest → AllTick before done answers → length new ≡ length done → AllTick old new answers
ends old new before done [] answers o n ticked all =
    subst (λ (l : List cores.Seen). AllTick l new answers) (sym (o ∙ append-nil before)) (subst (λ (l : List cores.Seen). AllTick before l answers) (sym (n ∙ append-nil done)) ticked)
ends old new before done (v ∷ rest) answers o n ticked all = absurd (omega (arith, ap length n, length-append done (v ∷ rest)))

pub all_done : {P : Type 0} (IsPlan : cores.Seen → P → Type 0) (old new : List cores.Seen) (plans : List P) (answers : List At) (count : ℕ)
    → Halfway IsPlan old new plans answers count → count ≡ length new → AllTick old new answers
all_done IsPlan old new plans answers count h all = ends old new h.before h.done h.rest answers h.old_is h.new_is h.ticked (sym all ∙ sym h.place)
