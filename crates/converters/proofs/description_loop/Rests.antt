-- What is read behind a head, piece by piece.
use Rattle.std.proofs.Common.{◌≡◌, ℕ, ◌<◌, List, [], ◌++◌, length, sym, ap, ◌∙◌, append-nil, inl, inr}
use Rattle.std.specs.Prelude.{◌⊎◌}
use Rattle.converters.specs.description_loop.sdp_config.{sdp_at}
use Rattle.converters.proofs.description_loop.sdp_config.LongTexts.{long_texts}
use Rattle.converters.specs.description_loop.{IsFrontOf}

-- what is read of a description says what all of it says
pub front_says : (text xs : List ℕ) → IsFrontOf text xs → sdp_at text ≡ sdp_at xs
front_says text xs front = by front.enough
  where
    by : (front.rest ≡ []) ⊎ (4098000 < length text) → sdp_at text ≡ sdp_at xs
    by (inl none) = sym (ap sdp_at (front.whole ∙ ap (λ (t : List ℕ). text ++ t) none ∙ append-nil text))
    by (inr long) = sym (ap sdp_at front.whole ∙ (long_texts text front.rest long).1)
