-- Settings and their faults, in the order in which a line's are told.
use Rattle.std.proofs.Common.{◌≡◌, ℕ, ◌≤◌, Bool, true, false, ◌&&◌, ◌==◌, not, if◌then◌else◌, Result, Ok, Err, refl, sym, ap, ◌∙◌, arith}
use Rattle.std.proofs.lemmas.Bool.Decides.{nat_tests}
use Rattle.std.specs.List.{list_any}
use Rattle.rams_model.specs.declared.{ConfigFault.ConfigFault, LineFault.LineFault}
use Rattle.rams_model.specs.declared.ConfigFault.TheVariants as config
use Rattle.rams_model.specs.declared.LineFault.TheVariants.{Range, Twice, Rule}
use Rattle.rams_model.specs.Service.{Settings, checked, tick_in_range, channel_in_range}
use Rattle.rams_model.specs.Texts.{Reached}
use Rattle.channel_config.proofs.Laws.{IsLawful-from_checked}
use Rattle.trace_text.specs.{by_rules, settled}

-- settings that pass are given back
pub checked_same : (s t : Settings) → Ok t ≡ checked s → checked s ≡ Ok s
unfolding checked
checked_same s t h = grind (arith, nat_tests)

-- and their share is bounded
pub checked_share : (s t : Settings) → Ok t ≡ checked s → s.channel.share ≤ 1000000000
checked_share s t h = let lawful = IsLawful-from_checked s (checked_same s t h) in lawful.share_most

tests : (t g : Bool) (x : Result Settings ConfigFault) → t ≡ true → g ≡ false → (if not (t && g) then Err config.Range else x) ≡ Err config.Range
tests true false x t g = refl
tests false g x t h = absurd cc
tests true true x t h = absurd cc

-- settings that aren't out of range are in range
range_is : (s : Settings) → tick_in_range s.tick ≡ true → channel_in_range s.channel ≡ false → checked s ≡ Err config.Range
unfolding checked
range_is s t g = tests (tick_in_range s.tick) (channel_in_range s.channel) _ t g

in_range : (s : Settings) → tick_in_range s.tick ≡ true → (Err config.Range ≡ checked s → ⊥) → channel_in_range s.channel ≡ true
in_range s t not_range = by (channel_in_range s.channel) refl
  where
    by : (g : Bool) → channel_in_range s.channel ≡ g → channel_in_range s.channel ≡ true
    by true e = e
    by false e = absurd (not_range (sym (range_is s t e)))

-- out of range
range_out : (s : Settings) → tick_in_range s.tick ≡ true → Err config.Range ≡ checked s → channel_in_range s.channel ≡ false
unfolding checked
range_out s t h = grind (arith, nat_tests)

settles : (g twice : Bool) (x : Result Settings LineFault) → g ≡ true → (if twice then Err Twice else x) ≡ (if not g then Err Range else if twice then Err Twice else x)
settles true twice x h = refl
settles false twice x h = absurd cc

module _ (r : Reached) (s : Settings) (twice : Bool) (tick : tick_in_range s.tick ≡ true) (is : twice ≡ list_any (λ k. k.id == s.channel.id) r.channels) (o : Result Settings ConfigFault) (checks : o ≡ checked s) where
  pub settled_range : o ≡ Err config.Range → Err Range ≡ settled r s
  settled_range e = rw (range_out s tick (sym e ∙ checks)) refl

  told : (y : Result Settings LineFault) → (Err config.Range ≡ checked s → ⊥) → y ≡ by_rules (checked s) → (if twice then Err Twice else y) ≡ settled r s
  told y ranged e =
      ap (λ x. if twice then Err Twice else x) e
      ∙ settles (channel_in_range s.channel) twice (by_rules (checked s)) (in_range s tick ranged)
      ∙ ap (λ t. if not (channel_in_range s.channel) then Err Range else if t then Err Twice else by_rules (checked s)) is

  pub settled_rule : (k : ℕ) → o ≡ Err (config.Rule k) → Err (if twice then Twice else Rule k) ≡ settled r s
  settled_rule k e = inside twice ∙ told (Err (Rule k)) (λ h. differ (sym e ∙ checks ∙ sym h)) (ap by_rules (sym e ∙ checks))
    where
      differ : (let x : Result Settings ConfigFault = Err (config.Rule k) in x ≡ Err config.Range) → ⊥
      differ h = cc h

      inside : (t : Bool) → (let x : Result Settings LineFault = Err (if t then Twice else Rule k) in x) ≡ (if t then Err Twice else Err (Rule k))
      inside true = refl
      inside false = refl

  pub settled_ok : (c : Settings) → o ≡ Ok c → (if twice then Err Twice else Ok c) ≡ settled r s
  settled_ok c e = told (Ok c) (λ h. differ (sym e ∙ checks ∙ sym h)) (ap by_rules (sym e ∙ checks))
    where
      differ : (let x : Result Settings ConfigFault = Ok c in x ≡ Err config.Range) → ⊥
      differ h = cc h

-- settings that are settled are given back
pub settled_same : (r : Reached) (s t : Settings) → settled r s ≡ Ok t → t ≡ s
settled_same r s t h = by (channel_in_range s.channel) (list_any (λ k. k.id == s.channel.id) r.channels) (checked s) refl h
  where
    same : (let x : Result Settings LineFault = Ok t in (u : Settings) → checked s ≡ Ok u → Ok u ≡ x → t ≡ s)
    same u e k = let is : u ≡ t = cc in let own : Ok u ≡ Ok s = sym e ∙ checked_same s u (sym e) in sym is ∙ cc own

    by : (g twice : Bool) (o : Result Settings ConfigFault) → checked s ≡ o → (if not g then Err Range else if twice then Err Twice else by_rules o) ≡ Ok t → t ≡ s
    by false twice o e h = absurd cc
    by true true o e h = absurd cc
    by true false (Ok u) e h = same u e h
    by true false (Err fault) e h = absurd cc
