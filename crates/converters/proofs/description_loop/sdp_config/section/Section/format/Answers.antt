use Rattle.std.proofs.Common.{◌≡◌, Bool, true, false, refl, sym, ◌∙◌, rules}
use Rattle.rams_model.proofs.ListFacts.{none_marked}
use Rattle.converters.proofs.description_loop.sdp_config.section.Section.format.Goals as goal

differ : (b : Bool) → b ≡ false → b ≡ true → ⊥
differ b f t = let same : false ≡ true = sym f ∙ t in cc

pub loop-field-init : goal.loop-field-init
loop-field-init c = record {
  can_next = tt;
  is_finite = tt;
  room = refl;
  marked = λ n e. absurd (differ _ (none_marked 256 n) e);
  same = search rules;
}
