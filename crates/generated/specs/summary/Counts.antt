-- What a summary counts of a channel's answers.
use Rattle.std.specs.Prelude.{ℕ, Bool, true, List, length, sum_by}
use Rattle.std.specs.List.{flat_map, count_by}
use Rattle.rams_model.specs.declared.{Order.Order, Order.TheVariants.Rtx, Order.TheVariants.Info, LiveNote.TheVariants.Took, Note.Note}
use Rattle.rams_model.specs.declared.Note.TheVariants.{Live, Accept, Again, Refuse, Burst, Repair, End}
use Rattle.rams_model.specs.Formats.{wire_size}
use Rattle.rams_model.specs.Service.{Answered}
use Rattle.generated.specs.declared.summary.counts.Counts.{Counts}

-- the notes that are counted
abbrev pub took : Note → Bool
took (Live (Took n)) = true
took _ = Bool.false

abbrev pub accept : Note → Bool
accept (Accept client first rate join) = true
accept _ = Bool.false

abbrev pub again : Note → Bool
again (Again client) = true
again _ = Bool.false

abbrev pub refuse : Note → Bool
refuse (Refuse client code) = true
refuse _ = Bool.false

abbrev pub burst : Note → Bool
burst (Burst client n sequence) = true
burst _ = Bool.false

abbrev pub repair : Note → Bool
repair (Repair client n sequence) = true
repair _ = Bool.false

abbrev pub end : Note → Bool
end (End client cause) = true
end _ = Bool.false

-- how many of each there are
unfoldable pub counts_of : List Note → Counts
counts_of notes = record {
  took = count_by took notes;
  accept = count_by accept notes;
  again = count_by again notes;
  refuse = count_by refuse notes;
  burst = count_by burst notes;
  repair = count_by repair notes;
  end = count_by end notes;
}

-- the wire size of the retransmission that an order asks for, which each Burst and each Repair has; a RAMS-I isn't counted
abbrev pub size_of : Order → ℕ
size_of (Rtx client n sequence packet) = wire_size packet
size_of (Info client info) = 0

-- those of all orders
abbrev pub bytes_of : List Order → ℕ
bytes_of orders = sum_by size_of orders

-- Answers, their notes and their bytes, counted.
pub record Tallied : Type 0 where
  pub answers : ℕ
  pub notes : Counts
  pub bytes : ℕ

abbrev pub tally_of : List Answered → Tallied
tally_of answers = record {
  answers = length answers;
  notes = counts_of (flat_map (λ a. a.notes) answers);
  bytes = bytes_of (flat_map (λ a. a.orders) answers);
}
