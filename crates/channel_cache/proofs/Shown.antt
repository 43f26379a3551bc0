-- A cache stands for what its numbering and its packets in time stand for.
use Rattle.std.proofs.Common.{◌≡◌, ℕ, zero, suc, ◌+◌, ◌-◌, ◌*◌, List, [], ◌∷◌, ◌++◌, drop, Some, refl, sym, ap, ◌∙◌, subst, ◌<◌, ◌≤◌, ◌^◌, length, IfSome, Option, None, arith}
use Rattle.rams_model.specs.declared.{Channel.Channel, Held.Held, LiveNote.LiveNote}
use Rattle.rams_model.specs.Service.{Settings, Heard, live, dropped, heard_live, feedback, unframed, tick}
use Rattle.rams_model.specs.Packets.{last_of, Arrival, Stream, stream_of, live_note, source, consecutive_end, hold}
use Rattle.reckoning.specs.ext_seq.{new_numbering, IsWithin}
use Rattle.reckoning.specs.ext_seq.Numbers as numbers
use Rattle.channel_cache.specs.packet_ring.Seen as rings
use Rattle.channel_cache.specs.declared.intake.Intake.{Intake}
use Rattle.channel_cache.specs.{note_heard, arrivals_heard, live_note_of, arrivals_after, due, Waits, new_intake, Stand, new_cache, StandsFor, total_of, StandsForFewer}
use Rattle.channel_cache.specs.Seen.{Seen}

-- what a cache with these parts keeps
abbrev pub seen_at : Settings → numbers.Seen → Intake → Seen
seen_at s numbering intake = record { settings = s; numbering = numbering; window = intake.window; held = intake.stock.ring.held; total = total_of intake }

-- the parts are of these sizes
pub record Fit (s : Settings) (intake : Intake) : Type 0 where
  pub width : intake.window.width ≡ s.channel.window
  pub ring : intake.stock.ring.capacity ≡ s.channel.ring

held_holds : (ring : rings.Seen) (width capacity : ℕ) (s : Stream) → ring.capacity ≡ capacity → ring.held ≡ hold width capacity s → rings.StandsFor ring (s.ended ++ due width s.present)
unfolding hold source
held_holds ring width capacity s same held = held ∙ ap (λ n. last_of n (consecutive_end (s.ended ++ due width s.present))) (sym same)

holds_held : (ring : rings.Seen) (width capacity : ℕ) (s : Stream) → ring.capacity ≡ capacity → rings.StandsFor ring (s.ended ++ due width s.present) → ring.held ≡ hold width capacity s
unfolding hold source
holds_held ring width capacity s same holds = holds ∙ ap (λ n. last_of n (consecutive_end (s.ended ++ due width s.present))) same

pub stand_of : (s : Settings) (numbering : numbers.Seen) (intake : Intake) (arrivals : List Arrival) → Fit s intake → StandsFor (seen_at s numbering intake) arrivals → Stand numbering intake arrivals
stand_of s numbering intake arrivals fit stood =
    let width = s.channel.window in
    let back = sym fit.width in
    record {
      numbered = subst (λ (n : ℕ). numbers.StandsFor numbering n arrivals) back stood.numbering;
      brought = record {
        waits = subst (λ (n : ℕ). Waits intake.window n (stream_of n arrivals).present) back stood.waits;
        holds = subst (λ (n : ℕ). rings.StandsFor intake.stock.ring ((stream_of n arrivals).ended ++ due n (stream_of n arrivals).present)) back
            (held_holds intake.stock.ring width s.channel.ring (stream_of width arrivals) fit.ring stood.held);
      };
    }

pub stands_of : (s : Settings) (numbering : numbers.Seen) (intake : Intake) (arrivals : List Arrival) → Fit s intake → total_of intake ≤ 1500 * length arrivals → Stand numbering intake arrivals → StandsFor (seen_at s numbering intake) arrivals
stands_of s numbering intake arrivals fit few stood =
    let width = s.channel.window in
    record {
      numbering = subst (λ (n : ℕ). numbers.StandsFor numbering n arrivals) fit.width stood.numbered;
      waits = subst (λ (n : ℕ). Waits intake.window n (stream_of n arrivals).present) fit.width stood.brought.waits;
      held = holds_held intake.stock.ring width s.channel.ring (stream_of width arrivals) fit.ring
          (subst (λ (n : ℕ). rings.StandsFor intake.stock.ring ((stream_of n arrivals).ended ++ due n (stream_of n arrivals).present)) fit.width stood.brought.holds);
      total = few;
    }

-- what a live packet does to a cache, its note included
abbrev pub Does : Seen → Seen → List ℕ → LiveNote → Type 0
Does v w bytes note = (arrivals : List Arrival) → StandsFor v arrivals → (live_note_of v.settings arrivals bytes ≡ Some note) × StandsFor w (arrivals_after v.settings bytes arrivals)

-- one that passed the tests
pub took : (s : Settings) (v w : numbers.Seen) (i j : Intake) (bytes : List ℕ) (a : Arrival) (note : LiveNote) → Fit s i → Fit s j → total_of j ≤ total_of i + 1500 → heard_live s.channel bytes ≡ live a
    → ((arrivals : List Arrival) → Stand v i arrivals → (note ≡ live_note i.window.width (stream_of i.window.width arrivals) a.sequence) × Stand w j (a ∷ arrivals))
    → Does (seen_at s v i) (seen_at s w j) bytes note
took s v w i j bytes a note fit fit' more heard taken arrivals stood =
    let new = taken arrivals (stand_of s v i arrivals fit stood) in
    let same : note ≡ live_note s.channel.window (stream_of s.channel.window arrivals) a.sequence = subst (λ (n : ℕ). note ≡ live_note n (stream_of n arrivals) a.sequence) fit.width new.0 in (
      ap (note_heard s.channel.window arrivals) heard ∙ ap Some (sym same),
      subst (λ (h : Heard). StandsFor (seen_at s w j) (arrivals_heard arrivals h)) (sym heard) (stands_of s w j (a ∷ arrivals) fit' (omega (arith, more, stood.total)) new.1),
    )

-- one that was dropped
pub let_go : (s : Settings) (v : numbers.Seen) (i : Intake) (bytes : List ℕ) (note : LiveNote) → heard_live s.channel bytes ≡ dropped note
    → Does (seen_at s v i) (seen_at s v i) bytes note
let_go s v i bytes note heard arrivals stood = (
  ap (note_heard s.channel.window arrivals) heard,
  subst (λ (h : Heard). StandsFor (seen_at s v i) (arrivals_heard arrivals h)) (sym heard) (record { numbering = stood.numbering; waits = stood.waits; held = stood.held; total = stood.total }),
)

drop_none : (n : ℕ) → drop n (let none : List Held = [] in none) ≡ []
drop_none zero = refl
drop_none (suc n) = refl

-- no packet came
pub new_stands : (s : Settings) → numbers.StandsFor new_numbering s.channel.window [] → StandsFor (new_cache s) []
unfolding stream_of hold source consecutive_end
new_stands s numbering = record { numbering = numbering; waits = refl; held = sym (drop_none (0 - s.channel.ring)); total = omega arith }

-- how many packets it may stand for
arrived_few : (s : Settings) (bytes : List ℕ) (packets : List Arrival) → length (arrivals_after s bytes packets) ≤ length packets + 1
arrived_few s bytes packets = at (heard_live s.channel bytes)
  where
    at : (h : Heard) → length (arrivals_heard packets h) ≤ length packets + 1
    at (live a) = omega arith
    at (dropped note) = omega arith
    at (feedback client ms) = omega arith
    at (unframed client fault) = omega arith
    at tick = omega arith

pub fewer_after : (v w : Seen) (bytes : List ℕ) (note : LiveNote) (most : ℕ) → Does v w bytes note → StandsForFewer v most → StandsForFewer w (most + 1)
fewer_after v w bytes note most does_so few = record {
  arrivals = arrivals_after v.settings bytes few.arrivals;
  stands = (does_so few.arrivals few.stands).1;
  few = omega (arith, few.few, arrived_few v.settings bytes few.arrivals);
}

-- the greatest number of the numbering of few packets
room_of : (packets : ℕ) (g : Option ℕ) → packets < 2 ^ 40 → IsWithin packets g → IfSome g (λ n. n < 2 ^ 61)
room_of packets None few within = tt
room_of packets (Some g) few within = omega (arith, few, within.1)

pub numbers_have_room : (v : Seen) → StandsForFewer v (2 ^ 40) → IfSome v.numbering.greatest (λ n. n < 2 ^ 61)
numbers_have_room v few = room_of (length few.arrivals) v.numbering.greatest few.few few.stands.numbering.within

-- nor to these parts
pub new_is : (s : Settings) (channel : Channel) (numbering : numbers.Seen) (intake : Intake) → channel ≡ s.channel → numbering ≡ new_numbering → intake ≡ new_intake channel.window channel.ring → new_cache s ≡ seen_at s numbering intake
new_is s channel numbering intake same one two =
    let parts : intake ≡ new_intake s.channel.window s.channel.ring = two ∙ ap (λ (ch : Channel). new_intake ch.window ch.ring) same in
    sym (ap (λ (n : numbers.Seen). seen_at s n intake) one ∙ ap (λ (i : Intake). seen_at s new_numbering i) parts)
