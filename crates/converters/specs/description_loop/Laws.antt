-- Laws of heads, of their settings and of their descriptions.
use Rattle.std.specs.Prelude.{◌≡◌, ℕ, ◌≤◌, List, ◌∷◌, ◌++◌, Ok}
use Rattle.rams_model.specs.declared.Status.TheVariants.{Done}
use Rattle.rams_model.specs.Texts.{lines_of, head_line, channel_line, end_line, line_text}
use Rattle.channel_config.specs.{IsLawful}
use Rattle.converters.specs.description_loop.sdp_config.{sdp_at, description, shown_channel}
use Rattle.trace_loop.specs.trace_book.trace_serving.{ended, done}
use Rattle.trace_loop.specs.trace_book.{first_line, trace_text}
use Rattle.converters.specs.description_loop.Heads.{Heading, says, head_of}
use Rattle.converters.specs.description_loop.Outcomes.{heading_text, settings_by, settings_outcome}

-- The first three lines are the texts of a head line, of a channel line of its version and of `end`, and the settings of the channel are lawful.
pub record IsThreeLines (bytes : List ℕ) (h : Heading) : Type 0 where
  pub more : List (List ℕ)
  pub lines : lines_of bytes
      ≡ line_text (head_line h.version h.settings.tick h.link) ∷ line_text (channel_line h.version h.settings.channel) ∷ line_text end_line ∷ more
  pub lawful : IsLawful h.settings

-- what is read as a head is one
abbrev pub HeadsAreThreeLines : Type 0
HeadsAreThreeLines = (bytes : List ℕ) (h : Heading) → head_of bytes ≡ says h → IsThreeLines bytes h

-- What `sdp` writes when it is done is a trace that `run` reads to its end: one channel, to which nothing comes.
abbrev pub WritesATrace : List ℕ → Type 0
WritesATrace bytes = (settings_outcome bytes).status ≡ Done → trace_text (settings_outcome bytes).text ≡ ended Done (first_line ++ (done 0).text)

abbrev pub SettingsAreTraces : Type 0
SettingsAreTraces = (bytes : List ℕ) → WritesATrace bytes

-- The description of a head's channel gives the channel's settings, and with it `sdp` writes the head as it is.
pub record IsTurnedBack (h : Heading) (port : ℕ) : Type 0 where
  pub settings : sdp_at (description h.settings.channel port) ≡ Ok (shown_channel h.settings.channel)
  pub head : settings_by h (sdp_at (description h.settings.channel port)) ≡ ended Done (heading_text h)

-- what `describe` writes for a head that the bytes begin with is turned back
abbrev pub DescribesItsHead : List ℕ → Type 0
DescribesItsHead bytes = (h : Heading) (port : ℕ) → head_of bytes ≡ says h → port ≤ 65000 → IsTurnedBack h port

abbrev pub SettingsAreTurnedBack : Type 0
SettingsAreTurnedBack = (bytes : List ℕ) → DescribesItsHead bytes
