-- The sequence numbers of what a client is sent after its last Accept, and the one that the Accept names (RFC 6285, 7.3; RFC 4588, 4).
use Rattle.std.specs.Prelude.{◌≡◌, ℕ, ◌+◌, ◌%◌, ◌≢◌, Bool, ◌==◌, if◌then◌else◌, List, [], ◌∷◌, ◌++◌, take, drop, Option, Some}
use Rattle.std.specs.Int.{w16, to_be_bytes}
use Rattle.rams_model.specs.declared.Order.TheVariants as orders
use Rattle.rams_model.specs.declared.{Held.Held, Info.Info}
use Rattle.rams_model.specs.declared.Note.TheVariants.{Accept, Burst as BurstNote, Repair}
use Rattle.rams_model.specs.Service.{Settings, Item, noted, History, sequence, Burst, open_burst, order_of, datagram}
use Rattle.rams_model.specs.Laws.{NoneIs, ends_known}
use Rattle.service_laws.specs.book_laws.Moments.{IsMoment, LastAccept}

-- a Burst note of the client: a first sending
abbrev pub is_burst_of : ℕ → Item → Bool
is_burst_of k (noted (BurstNote client n number) packet) = client == k
is_burst_of k _ = Bool.false

-- the sequence numbers of the packets that a client is sent, first sendings and repairs, the oldest first
abbrev pub numbers_to : ℕ → History → List ℕ
numbers_to k [] = []
numbers_to k (noted (BurstNote client n number) packet ∷ history) = if client == k then numbers_to k history ++ (number ∷ []) else numbers_to k history
numbers_to k (noted (Repair client n number) packet ∷ history) = if client == k then numbers_to k history ++ (number ∷ []) else numbers_to k history
numbers_to k (_ ∷ history) = numbers_to k history

-- each is one more than the one before, from this one on; after 65,535 comes 0
abbrev pub AreSequencedFrom : ℕ → List ℕ → Type 0
AreSequencedFrom first [] = Unit {0}
AreSequencedFrom first (number ∷ numbers) = (number ≡ first) × AreSequencedFrom ((first + 1) % 65536) numbers

-- TLV 32 with this number, without the zeros behind it
abbrev pub first_tlv : ℕ → List ℕ
first_tlv number = 32 ∷ 0 ∷ 0 ∷ 2 ∷ to_be_bytes w16 number

-- The first sending to the client among these items, if there is one, has this number.
abbrev pub FirstSendingHas : ℕ → History → ℕ → Type 0
FirstSendingHas client since first =
    (n number : ℕ) (packet : Option Held) (newer older : History) → since ≡ newer ++ (noted (BurstNote client n number) packet ∷ older)
    → NoneIs (is_burst_of client) older → number ≡ first

-- The RAMS-I of an Accept names a sequence number in its first TLV. The first sending of the burst has it; and as long as the client stays known, so has the first packet that it is sent since, the next one has the next number, and so on.
pub record NamesWhatFollows (s : Settings) (history : History) (client : ℕ) (a : LastAccept history client) : Type 0 where
  pub info : Info
  pub order : order_of s a.before (Accept client a.first a.rate a.join) a.packet ≡ Some (orders.Info client info)
  pub first : info.first ≡ Some (sequence s client a.before)
  pub written : take 6 (drop 16 (datagram s (orders.Info client info))) ≡ first_tlv (sequence s client a.before)
  pub sent : FirstSendingHas client a.since (sequence s client a.before)
  pub followed : NoneIs (ends_known client) a.since → AreSequencedFrom (sequence s client a.before) (numbers_to client a.since)

-- The first sending of a burst has the sequence number that the Accept's RAMS-I names.
abbrev pub TheFirstSendingHasTheNumberThatTheAcceptNamed : Type 0
TheFirstSendingHasTheNumberThatTheAcceptNamed =
    (s : Settings) (history : History) → IsMoment s history → (client : ℕ) (a : LastAccept history client) → NamesWhatFollows s history client a

-- No packet is repaired for a client whose open burst has sent none yet: in a tick the runs come before the repairs, and the first run of a burst sends a packet, or the burst ends.
abbrev pub RepairsComeAfterTheFirstSending : Type 0
RepairsComeAfterTheFirstSending =
    (s : Settings) (client n number : ℕ) (packet : Option Held) (before : History) (b : Burst) → IsMoment s (noted (Repair client n number) packet ∷ before)
    → open_burst s client before ≡ Some b → b.sent ≢ []
