-- The sizes on the wire of the packets that a tick sends.
use Rattle.std.specs.Prelude.{ℕ, List, [], ◌∷◌}
use Rattle.rams_model.specs.declared.{Held.Held, Note.Note}
use Rattle.rams_model.specs.declared.Note.TheVariants.{Burst as BurstNote, Repair}
use Rattle.rams_model.specs.Service.{Settings, size_of}
use Rattle.channel_cache.specs.packet_ring.{packet_of}
use Rattle.tick_draft.specs.Committed.{Committed, with_sending, MayCommit}
use Rattle.tick_draft.specs.Steps.{other_step, with_step_if}

-- the sizes of the packets that notes name
abbrev pub sizes_named : List Held → List Note → List ℕ
sizes_named held [] = []
sizes_named held (BurstNote client n seq ∷ notes) = size_of (packet_of n held) ∷ sizes_named held notes
sizes_named held (Repair client n seq ∷ notes) = size_of (packet_of n held) ∷ sizes_named held notes
sizes_named held (_ ∷ notes) = sizes_named held notes

-- the first; 0 where there is none
abbrev pub first_size : List ℕ → ℕ
first_size [] = 0
first_size (size ∷ sizes) = size

abbrev pub later_sizes : List ℕ → List ℕ
later_sizes [] = []
later_sizes (size ∷ sizes) = sizes

-- those behind the packet of a note
abbrev pub sizes_behind : Note → List ℕ → List ℕ
sizes_behind (BurstNote client n seq) sizes = later_sizes sizes
sizes_behind (Repair client n seq) sizes = later_sizes sizes
sizes_behind _ sizes = sizes

-- after a note, whose packet has this size
abbrev pub with_sized : Settings → ℕ → Note → Committed → Committed
with_sized s size (BurstNote client n seq) c = with_sending client 1 size c
with_sized s size (Repair client n seq) c = with_sending client 0 size c
with_sized s size note c = with_step_if s.channel.depth (other_step note) c

-- after these notes, whose packets have these sizes
unfoldable pub with_all_sized : Settings → List ℕ → List Note → Committed → Committed
with_all_sized s sizes [] c = c
with_all_sized s sizes (note ∷ notes) c = with_all_sized s (sizes_behind note sizes) notes (with_sized s (first_size sizes) note c)

unfoldable pub MayCommitSized : Settings → List ℕ → List Note → Committed → Type 0
MayCommitSized s sizes [] c = Unit {0}
MayCommitSized s sizes (note ∷ notes) c = MayCommit s note c × MayCommitSized s (sizes_behind note sizes) notes (with_sized s (first_size sizes) note c)
