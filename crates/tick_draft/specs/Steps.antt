-- What is done for the clients of a tick, one step after another.
use Rattle.std.specs.Prelude.{◌≡◌, ℕ, List, [], ◌∷◌, ◌++◌, Option, Some, None}
use Rattle.rams_model.specs.declared.Note.{Note}
use Rattle.rams_model.specs.declared.Note.TheVariants.{Gone as GoneNote, End as EndNote, Forgot as ForgotNote}
use Rattle.client_table.specs.{entry_of, awake, changed, without}
use Rattle.tick_draft.specs.declared.{sendings.Sendings.Sendings, step.Step.Step}
use Rattle.tick_draft.specs.declared.step.Step.TheVariants.{Sent, End, Gone, Forgot}
use Rattle.tick_draft.specs.Committed.{Committed, with_closed, MayEnd}
use Rattle.tick_draft.specs.Sendings.{with_sendings, MaySend}
use Rattle.tick_draft.specs.Sums.{both_sums, sums_of}

-- after a step
abbrev pub with_step : ℕ → Step → Committed → Committed
with_step depth (Sent x) c = with_sendings x c
with_step depth (End client) c = with_closed depth client c
with_step depth (Gone client) c = record c { table = changed awake c.table client }
with_step depth (Forgot client) c = record c { table = without c.table client }

-- after these steps
unfoldable pub with_all_steps : ℕ → List Step → Committed → Committed
with_all_steps depth [] c = c
with_all_steps depth (step ∷ steps) c = with_all_steps depth steps (with_step depth step c)

-- what the calls of a step ask
abbrev pub MayDo : ℕ → Step → Committed → Type 0
MayDo depth (Sent x) c = MaySend x c
MayDo depth (End client) c = MayEnd depth (entry_of c.table client) c.budget
MayDo depth _ c = Unit {0}

unfoldable pub MayDoAll : ℕ → List Step → Committed → Type 0
MayDoAll depth [] c = Unit {0}
MayDoAll depth (step ∷ steps) c = MayDo depth step c × MayDoAll depth steps (with_step depth step c)

-- what is done for a note that sends no packet
abbrev pub other_step : Note → Option Step
other_step (EndNote client cause) = Some (End client)
other_step (GoneNote client n) = Some (Gone client)
other_step (ForgotNote client) = Some (Forgot client)
other_step _ = None

-- after a step, where there is one
abbrev pub with_step_if : ℕ → Option Step → Committed → Committed
with_step_if depth None c = c
with_step_if depth (Some step) c = with_step depth step c

-- The new steps do what the old ones do, and then what `more` do.
pub record AreBoth (old more new : List Step) : Type 0 where
  pub does : (depth : ℕ) (c : Committed) → with_all_steps depth new c ≡ with_all_steps depth more (with_all_steps depth old c)
  pub may : (depth : ℕ) (c : Committed) → MayDoAll depth old c → MayDoAll depth more (with_all_steps depth old c) → MayDoAll depth new c
  pub sums : sums_of new ≡ both_sums (sums_of old) (sums_of more)

-- some steps, and behind them the packets that were sent last
abbrev pub with_last : List Step → Option Sendings → List Step
with_last steps None = steps
with_last steps (Some last) = steps ++ Sent last ∷ []
