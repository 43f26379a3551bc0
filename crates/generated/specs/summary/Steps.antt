-- How counts go up.
use Rattle.std.specs.Prelude.{ℕ, ◌+◌, ◌-◌, ◌*◌, ◌^◌, ◌≤◌, Bool, if◌then◌else◌}
use Rattle.rams_model.specs.declared.{Order.Order, Note.Note, wire.TheConstants.MOST_ON_WIRE}
use Rattle.tick_draft.specs.declared.Sums.{Sums}
use Rattle.generated.specs.declared.summary.counts.Counts.{Counts}
use Rattle.generated.specs.summary.Counts.{took, accept, again, refuse, burst, repair, end, size_of, Tallied}

-- 1 where it is so
abbrev pub flag : Bool → ℕ
flag b = if b then 1 else 0

-- one note more
abbrev pub with_note : Counts → Note → Counts
with_note c note = record {
  took = c.took + flag (took note);
  accept = c.accept + flag (accept note);
  again = c.again + flag (again note);
  refuse = c.refuse + flag (refuse note);
  burst = c.burst + flag (burst note);
  repair = c.repair + flag (repair note);
  end = c.end + flag (end note);
}

-- both together
abbrev pub sum_of : Counts → Counts → Counts
sum_of c d = record {
  took = c.took + d.took;
  accept = c.accept + d.accept;
  again = c.again + d.again;
  refuse = c.refuse + d.refuse;
  burst = c.burst + d.burst;
  repair = c.repair + d.repair;
  end = c.end + d.end;
}

-- a tick more, of whose notes only the sums are known
abbrev pub with_sums : Counts → Sums → Counts
with_sums c x = record c { burst = c.burst + x.of_bursts; repair = c.repair + (x.packets - x.of_bursts); end = c.end + x.ends }

abbrev pub with_tick : Tallied → Sums → Tallied
with_tick t x = record { answers = t.answers + 1; notes = with_sums t.notes x; bytes = t.bytes + x.bytes }

-- each is at most this
pub record AreAtMost (most : ℕ) (c : Counts) : Type 0 where
  pub took : c.took ≤ most
  pub accept : c.accept ≤ most
  pub again : c.again ≤ most
  pub refuse : c.refuse ≤ most
  pub burst : c.burst ≤ most
  pub repair : c.repair ≤ most
  pub end : c.end ≤ most

-- a retransmission of at most 1,500 bytes on the wire
abbrev pub IsShort : Order → Type 0
IsShort o = size_of o ≤ MOST_ON_WIRE

-- each answer has fewer than 2^32 notes, and sends less than 2^32 packets
pub record IsTally (t : Tallied) : Type 0 where
  pub answers : t.answers ≤ 1000000
  pub notes : AreAtMost (t.answers * 2 ^ 32) t.notes
  pub bytes : t.bytes ≤ t.answers * (2 ^ 32 * MOST_ON_WIRE)
