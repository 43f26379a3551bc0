-- What is done for the clients of a tick is what its notes say.
use Rattle.std.specs.Prelude.{◌≡◌, ℕ, ◌+◌, if◌then◌else◌, List, [], ◌∷◌, length}
use Rattle.rams_model.specs.declared.{Note.Note, Order.Order}
use Rattle.rams_model.specs.Service.{Settings, Answered, answered, wire_sizes}
use Rattle.tick_draft.specs.declared.step.Step.{Step}
use Rattle.tick_draft.specs.Committed.{Committed}
use Rattle.tick_draft.specs.Sizes.{with_all_sized, MayCommitSized}
use Rattle.tick_draft.specs.Steps.{with_all_steps, MayDoAll}
use Rattle.tick_draft.specs.Sums.{sends, sums_in, sums_of}

-- how many packets the notes send
abbrev pub packets_sent : List Note → ℕ
packets_sent [] = 0
packets_sent (note ∷ notes) = (if sends note then 1 else 0) + packets_sent notes

-- The steps do what the notes of this answer say is done, whose packets have the sizes that the orders say. They may be done where the notes may be, and have the sums of the answer.
pub record AreStepsOf (steps : List Step) (answer : Answered) : Type 0 where
  pub does : (s : Settings) (c : Committed) → with_all_steps s.channel.depth steps c ≡ with_all_sized s (wire_sizes answer.orders) answer.notes c
  pub may : (s : Settings) (c : Committed) → MayCommitSized s (wire_sizes answer.orders) answer.notes c → MayDoAll s.channel.depth steps c
  pub sums : sums_of steps ≡ sums_in answer

-- So do they for notes that are still being made. Each packet that these send is among the orders, and no other is.
pub record AreInStep (steps : List Step) (notes : List Note) (orders : List Order) : Type 0 where
  pub steps_do : AreStepsOf steps (answered notes orders)
  pub sizes_are : packets_sent notes ≡ length (wire_sizes orders)
