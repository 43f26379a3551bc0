-- What a tick sends, in numbers.
use Rattle.std.specs.Prelude.{◌+◌, ◌^◌, ◌<◌, Bool, true, false, List, [], ◌∷◌, sum_by}
use Rattle.std.specs.List.{count_by}
use Rattle.rams_model.specs.declared.Note.{Note}
use Rattle.rams_model.specs.declared.Note.TheVariants.{Burst as BurstNote, Repair, End as EndNote}
use Rattle.rams_model.specs.Service.{Answered, wire_sizes}
use Rattle.tick_draft.specs.declared.{step.Step.Step, sums.Sums.Sums}
use Rattle.tick_draft.specs.declared.step.Step.TheVariants.{Sent, End}

-- the note sends a packet
abbrev pub sends : Note → Bool
sends (BurstNote client n seq) = true
sends (Repair client n seq) = true
sends _ = false

-- it sends one of a burst
abbrev pub sends_of_burst : Note → Bool
sends_of_burst (BurstNote client n seq) = true
sends_of_burst _ = false

-- it ends a burst
abbrev pub ends_burst : Note → Bool
ends_burst (EndNote client cause) = true
ends_burst _ = false

-- The sums of an answer: its notes that send packets, those of them that are of bursts, those that end a burst, and the bytes of its packets on the wire.
abbrev pub sums_in : Answered → Sums
sums_in a = record {
  packets = count_by sends a.notes;
  of_bursts = count_by sends_of_burst a.notes;
  ends = count_by ends_burst a.notes;
  bytes = sum_by (λ size. size) (wire_sizes a.orders);
}

abbrev pub no_sums : Sums
no_sums = record { packets = 0; of_bursts = 0; ends = 0; bytes = 0 }

abbrev pub both_sums : Sums → Sums → Sums
both_sums x y = record { packets = x.packets + y.packets; of_bursts = x.of_bursts + y.of_bursts; ends = x.ends + y.ends; bytes = x.bytes + y.bytes }

-- those of a step
abbrev pub step_sums : Step → Sums
step_sums (Sent x) = record { packets = x.packets; of_bursts = x.of_burst; ends = 0; bytes = x.bytes }
step_sums (End client) = record { packets = 0; of_bursts = 0; ends = 1; bytes = 0 }
step_sums _ = no_sums

-- those of some steps
unfoldable pub sums_of : List Step → Sums
sums_of [] = no_sums
sums_of (step ∷ steps) = both_sums (step_sums step) (sums_of steps)

-- none of them is large
pub record AreSmallSums (x : Sums) : Type 0 where
  pub packets : x.packets < 2 ^ 64
  pub of_bursts : x.of_bursts < 2 ^ 64
  pub ends : x.ends < 2 ^ 64
  pub bytes : x.bytes < 2 ^ 64
