-- How a trace is served, and what ends it.
use Rattle.std.specs.Prelude.{◌≡◌, ◌⊎◌, ℕ, ◌+◌, ◌≤◌, false, List, ◌∷◌, [], ◌++◌, length, map, filter_map, Some, option_to_list, Ok, Err}
use Rattle.rams_model.specs.declared.{LineFault.LineFault, LineFault.TheVariants.Order}
use Rattle.rams_model.specs.Service.{Settings}
use Rattle.rams_model.specs.Texts.{lines_of, TraceLine, end_line, Reached, judged}
use Rattle.trace_loop.specs.trace_book.trace_serving.Text.{Serving, Stage, Outcome, ended, done, refused, too_long, brought, last_stage, served_text}
use Rattle.trace_loop.specs.trace_book.trace_serving.Stages.{Stand, new_state}
use Rattle.trace_loop.specs.trace_book.trace_serving.Lines.{channel_at, head_at, taken, came, after_all, events_text}

module _ {State Event : Type 0} (s : Serving State Event) where
  -- an event is one too many: so many came before it, or it leads where it may not
  abbrev pub IsTooMuch : Stage State → Event → Type 0
  IsTooMuch stage e = (stage.events ≡ s.most) ⊎ (s.fits (s.after e stage.state) ≡ false)

  -- What ends a trace at a stage, by the lines that are left, the first of which has this number.
  pub data EndsWith (stage : Stage State) (number : ℕ) : List (List ℕ) → Outcome → Type 0 where
    -- no line is left, and `end` hasn't come
    is_missing : EndsWith stage number [] (refused number Order)
    -- the line is refused
    is_refused : (bytes : List ℕ) (lines : List (List ℕ)) (fault : LineFault) → judged stage.reached bytes ≡ Err fault → EndsWith stage number (bytes ∷ lines) (refused number fault)
    -- the line brings one event too many
    is_too_long : (bytes : List ℕ) (lines : List (List ℕ)) (line : TraceLine) (reached : Reached) (e : Event) → judged stage.reached bytes ≡ Ok (line, reached) → brought s line ≡ Some e
        → IsTooMuch stage e → EndsWith stage number (bytes ∷ lines) too_long
    -- the line is `end`
    is_done : (bytes : List ℕ) (lines : List (List ℕ)) (reached : Reached) → judged stage.reached bytes ≡ Ok (end_line, reached)
        → EndsWith stage number (bytes ∷ lines) (done stage.events)

  -- How a trace is served, read off the lines that are taken. It ends at the first line that doesn't go on; its text is the first line, what its events are answered with, and how it ends.
  pub record IsServedSo (trace : List ℕ) : Type 0 where
    -- the settings of its channels, which are those of the channel lines, in order
    pub all : List Settings
    pub opened : map (λ x. x.channel) all ≡ filter_map channel_at (taken s trace)
    -- there is at most one head line, and the channels stand under it
    pub head : filter_map head_at (taken s trace) ≡ option_to_list (last_stage s trace).reached.head
    pub stand : Stand (last_stage s trace).reached.head all
    -- each event came, and is counted once
    pub after : (last_stage s trace).state ≡ after_all s (came s trace) (new_state s all)
    pub count : (last_stage s trace).events ≡ length (came s trace)
    pub few : (last_stage s trace).events ≤ s.most
    -- what ends it
    pub left : List (List ℕ)
    pub last : Outcome
    pub splits : lines_of trace ≡ taken s trace ++ left
    pub why : EndsWith (last_stage s trace) (length (taken s trace) + 1) left last
    pub text : served_text s trace ≡ ended last.status (s.first_line ++ (events_text s (came s trace) (new_state s all) ++ last.text))
