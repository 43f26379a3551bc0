-- Laws of descriptions.
use Rattle.std.specs.Prelude.{◌≡◌, ◌≢◌, ℕ, ◌<◌, ◌≤◌, ◌^◌, List, ◌++◌, length, Ok, IsErr}
use Rattle.rams_model.specs.declared.Channel.{Channel}
use Rattle.converters.specs.declared.description_loop.sdp_config.sdp.Sdp.{Sdp}
use Rattle.converters.specs.description_loop.sdp_config.Description.{sdp_at}
use Rattle.converters.specs.description_loop.sdp_config.Written.{description, shown_channel}

-- a channel whose description can be written
pub record IsDescribable (c : Channel) (port : ℕ) : Type 0 where
  pub id : c.id < 2 ^ 16
  pub ssrc : c.ssrc < 2 ^ 32
  pub pt : c.pt < 128
  pub rtx : c.rtx < 128
  pub apart : c.pt ≢ c.rtx
  pub near : port < 65001

-- Settings that a channel can have: payload types, no two alike, and a media source.
pub record IsInRange (s : Sdp) : Type 0 where
  pub pt : s.pt ≤ 127
  pub rtx : s.rtx ≤ 127
  pub ssrc : s.ssrc < 2 ^ 32
  pub apart : s.pt ≢ s.rtx

-- the settings that a description gives are such
abbrev pub SettingsAreInRange : Type 0
SettingsAreInRange = (text : List ℕ) (s : Sdp) → sdp_at text ≡ Ok s → IsInRange s

-- a channel's description gives its settings back
abbrev pub DescriptionsAreReadBack : Type 0
DescriptionsAreReadBack = (c : Channel) (port : ℕ) → IsDescribable c port → sdp_at (description c port) ≡ Ok (shown_channel c)

-- A text of more than 4,098,000 bytes is refused, and what stands behind these and one more doesn't change the fault.
abbrev pub LongTextsAreRefused : Type 0
LongTextsAreRefused = (front rest : List ℕ) → 4098000 < length front → IsErr (sdp_at front) × (sdp_at (front ++ rest) ≡ sdp_at front)
