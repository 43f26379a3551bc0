-- The bounds of open bursts.
use Rattle.std.proofs.Common.{◌≡◌, ℕ, ◌+◌, ◌<◌, ◌≤◌, List, [], ◌∷◌, Option, Some, None, refl, ap, sym, ◌∙◌, subst, arith}
use Rattle.std.specs.Prelude.{Contains}
use Rattle.std.specs.List.{AllByRecursion as Each}
use Rattle.std.proofs.lemmas.Bool.{eqb-true}
use Rattle.std.proofs.lemmas.List.Elements.{All-contains, All-from_recursion}
use Rattle.rams_model.specs.declared.{Held.Held, Note.Note}
use Rattle.rams_model.specs.declared.Note.TheVariants as note
use Rattle.rams_model.specs.Service.{Settings, live, tick, began, told, noted, History, arrivals, hold, sequence, Burst, next, begun, bursts, open_burst}
use Rattle.rams_model.specs.Packets.{hi}
use Rattle.rams_model.specs.Laws.{Rises}
use Rattle.rams_model.proofs.Rising.{below_hi}
use Rattle.rams_model.proofs.Legal.{IsVerdict, Allows, IsLegal}
use Rattle.channel_parts.specs.{IsWithinBounds}
use Rattle.rams_model.proofs.Granting.{held_rises, accept_grants, update_grants, accepted_below}
use Rattle.channel_parts.proofs.Numbers.{hi_rises}
use Rattle.rams_model.proofs.OpenBurst.{Holds, Keeps, at_note, at_tick}

-- a held packet is below the end
each_below : (n : ℕ) (hs : List Held) → Rises n hs → Each (λ h. h.n < hi hs) hs
unfolding hi
each_below n [] r = tt
each_below n (h ∷ []) r = (omega arith, tt)
each_below n (h ∷ k ∷ hs) r = (omega (arith, r.1.0, below_hi (h.n + 1) k hs r.1), each_below (h.n + 1) (k ∷ hs) r.1)

pub held_below : (s : Settings) (history : History) (h : Held) → Contains (hold s history) h → h.n < hi (hold s history)
held_below s history h c =
    let hs = hold s history in All-contains (λ k. k.n < hi hs) hs h (All-from_recursion (λ k. k.n < hi hs) hs (each_below 0 hs (held_rises s history))) c

-- a burst that is as bounded as another, where no less is held
as_bounded : (s : Settings) (held later : List Held) (b c : Burst) → hi held ≤ hi later → next c ≡ next b → c.rate ≡ b.rate → IsWithinBounds s held b → IsWithinBounds s later c
as_bounded s held later b c le same rate w = record {
  by_held = omega (arith, le, same, w.by_held);
  rate_least = omega (arith, rate, w.rate_least);
  rate_most = omega (arith, rate, w.rate_most);
}

abbrev Bounded : Settings → History → Burst → Type 0
Bounded s history b = IsWithinBounds s (hold s history) b

-- an Accept begins it there
begins_bounded : (s : Settings) (history : History) (k first rate join : ℕ) → IsVerdict s history k (note.Accept k first rate join) → Bounded s history (begun s first rate join (sequence s k history))
begins_bounded s history k first rate join v =
    let may = (accept_grants s history k first rate join v).2 in
    record { by_held = omega (arith, accepted_below s history k first rate join _ may); rate_least = may.fast; rate_most = may.within }

some_eq : (b c : Burst) (o : Option Burst) → o ≡ Some b → o ≡ Some c → b ≡ c
some_eq b c o e f = let same : Some b ≡ Some c = sym e ∙ f in cc

-- what each note makes of it
keeps_bounds : (s : Settings) (k : ℕ) (n : Note) (packet : Option Held) (history : History) → Allows s history n packet → Keeps s k (Bounded s history) n packet history
keeps_bounds s k (note.Accept client first rate join) packet history a = record {
  begins = λ f r j e. let this : client ≡ k = cc in let f_is : first ≡ f = cc in let r_is : rate ≡ r = cc in let j_is : join ≡ j = cc in
      let v : IsVerdict s history k (note.Accept k f r j) =
      subst (λ (m : Note). IsVerdict s history k m) e (subst (λ (c : ℕ). IsVerdict s history c (note.Accept client first rate join)) this a) in
      begins_bounded s history k f r j v;
  changes = λ b own is w. w;
}
keeps_bounds s k (note.Update client rate join) packet history a = record {
  begins = λ f r j e. absurd cc;
  changes = λ b own is w. record {
    by_held = w.by_held;
    rate_least = (update_grants s history client rate join a).fast;
    rate_most = (update_grants s history client rate join a).within;
  };
}
keeps_bounds s k (note.StopAt client m) packet history a = record { begins = λ f r j e. absurd cc; changes = λ b own is w. record { by_held = w.by_held; rate_least = w.rate_least; rate_most = w.rate_most } }
keeps_bounds s k (note.Burst client m q) packet history a = record {
  begins = λ f r j e. absurd cc;
  changes = λ b own is w.
      let same : a.opened.burst ≡ b = some_eq a.opened.burst b (open_burst s k history) (subst (λ (j : ℕ). open_burst s j history ≡ Some a.opened.burst) (eqb-true client k own) a.opened.is_open) is in
      let below = held_below s history a.h a.held in
      record {
        by_held = omega (arith, below, a.h_is, a.n_is, ap next same);
        rate_least = w.rate_least;
        rate_most = w.rate_most;
      };
}
keeps_bounds s k (note.Repair client m q) packet history a = record { begins = λ f r j e. absurd cc; changes = λ b own is w. record { by_held = w.by_held; rate_least = w.rate_least; rate_most = w.rate_most } }
keeps_bounds s k (note.End client why) packet history a = record { begins = λ f r j e. absurd cc; changes = λ b own is w. record { by_held = w.by_held; rate_least = w.rate_least; rate_most = w.rate_most } }
keeps_bounds s k n packet history a = record { begins = λ f r j e. absurd cc; changes = λ b own is w. w }

pub bounded : (s : Settings) (k : ℕ) (history : History) → IsLegal s history → Holds (Bounded s history) (open_burst s k history)
unfolding bursts arrivals
bounded s k [] l = tt
bounded s k (began tick ∷ history) l =
    at_tick s k (Bounded s history) (Bounded s history) history
    (λ b w. record { by_held = w.by_held; rate_least = w.rate_least; rate_most = w.rate_most }) (bounded s k history l)
bounded s k (began (live a) ∷ history) l = raised (open_burst s k history) (bounded s k history l)
  where
    raised : (o : Option Burst) → Holds (Bounded s history) o → Holds (Bounded s (began (live a) ∷ history)) o
    raised None h = h
    raised (Some b) h = as_bounded s (hold s history) (hold s (began (live a) ∷ history)) b b (hi_rises s (began (live a)) history) refl refl h
bounded s k (began heard ∷ history) l = bounded s k history l
bounded s k (told client message ∷ history) l = bounded s k history l
bounded s k (noted n packet ∷ history) l =
    at_note s k (Bounded s history) n packet history (keeps_bounds s k n packet history l.0) (bounded s k history l.1)
