-- What the pending repairs come to in a tick.
use Rattle.std.specs.Prelude.{◌≡◌, ℕ, ◌<◌, ◌-◌, Bool, true, false, ◌&&◌, ◌==◌, nat_le, if◌then◌else◌, List, [], ◌∷◌, ◌++◌, Option, Some, None, IsSome, IfSome, find, map, replicate}
use Rattle.std.specs.List.{AllByRecursion}
use Rattle.rams_model.specs.declared.{Held.Held, Note.TheVariants.Repair, Note.TheVariants.Gone}
use Rattle.rams_model.specs.Packets.{following}
use Rattle.rams_model.specs.Service.{Wanted}
use Rattle.channel_cache.specs.packet_ring.{packet_of}
use Rattle.tick_core.specs.declared.allowance.Allowance.{Allowance}
use Rattle.client_table.specs.declared.Entry.{Entry}
use Rattle.tick_core.specs.Runs.{idle_allowance}
use Rattle.tick_draft.specs.Drafts.{Drafted, with_note, with_packet}

-- the repairs so far: the notes, what each client's repairs may still take, and which of them are over
pub record Repaired : Type 0 where
  pub draft : Drafted
  pub allowances : List Allowance
  pub done : List Bool

-- a packet was sent again
abbrev pub after_repair : Allowance → ℕ → Allowance
after_repair a size = record a { may_take = a.may_take - size; seq = following a.seq }

-- what a client's repairs may take
abbrev pub allowance_for : ℕ → List Allowance → Option Allowance
allowance_for client allowances = find (λ a. a.client == client) allowances

-- the allowances after a packet of this size was sent again to a client
unfoldable pub with_taken : ℕ → ℕ → List Allowance → List Allowance
with_taken client size [] = []
with_taken client size (a ∷ rest) = if a.client == client then after_repair a size ∷ rest else a ∷ with_taken client size rest

-- it fits into what its client's repairs may take, and into what the channel has left
abbrev pub fits : Held → Allowance → Drafted → Bool
fits h a d = nat_le h.wire a.may_take && nat_le h.wire d.left

-- one that isn't over
abbrev pub waiting : Repaired → Repaired
waiting r = record r { done = r.done ++ false ∷ [] }

-- so many that aren't over
abbrev pub with_waiting : ℕ → Repaired → Repaired
with_waiting count r = record r { done = r.done ++ replicate count false }

-- a packet is sent again where it fits
abbrev pub with_repair : Wanted → Held → Option Allowance → Repaired → Repaired
with_repair w h None r = waiting r
with_repair w h (Some a) r =
    if fits h a r.draft
    then record {
      draft = with_packet r.draft (Repair w.client w.n a.seq) w.client a.seq h;
      allowances = with_taken w.client h.wire r.allowances;
      done = r.done ++ true ∷ [];
    }
    else waiting r

-- a repair, by the packet of its number
abbrev pub with_wanted : Wanted → Option Held → Repaired → Repaired
with_wanted w None r = record r { draft = with_note r.draft (Gone w.client w.n); done = r.done ++ true ∷ [] }
with_wanted w (Some h) r = with_repair w h (allowance_for w.client r.allowances) r

-- the channel has less left than any packet takes
abbrev pub IsSpent : List Held → Repaired → Type 0
IsSpent held r = AllByRecursion (λ h. r.draft.left < h.wire) held

-- if its packet is held and its client known, it doesn't fit
abbrev pub FitsNowhere : List Held → Wanted → Repaired → Type 0
FitsNowhere held w r = IfSome (packet_of w.n held) (λ h. IfSome (allowance_for w.client r.allowances) (λ a. fits h a r.draft ≡ false))

-- the packets of these repairs are held
abbrev pub AreHeld : List Held → List Wanted → Type 0
AreHeld held ws = AllByRecursion (λ w. IsSome (packet_of w.n held)) ws

-- the packet of the first of these repairs isn't held, where there is one
abbrev pub IsGone : List Held → List Wanted → Type 0
IsGone held [] = Unit {0}
IsGone held (w ∷ ws) = packet_of w.n held ≡ None

-- these repairs, one after another
unfoldable pub with_all_wanted : List Held → List Wanted → Repaired → Repaired
with_all_wanted held [] r = r
with_all_wanted held (w ∷ ws) r = with_all_wanted held ws (with_wanted w (find (λ h. h.n == w.n) held) r)

-- whose they are
abbrev pub clients_of : List Allowance → List ℕ
clients_of allowances = map (λ a. a.client) allowances

-- each number is below those after it
abbrev pub Rise : List ℕ → Type 0
Rise [] = Unit {0}
Rise (k ∷ ks) = AllByRecursion (λ j. k < j) ks × Rise ks

-- what the repairs of a client may take, where some of it was taken
abbrev pub or_changed : Option Allowance → Allowance → Allowance
or_changed None a = a
or_changed (Some b) a = record b { client = a.client }

-- what those of all known clients may take, where only what was changed is written down
abbrev pub all_allowances : ℕ → List (ℕ × Entry) → (ℕ → Option Allowance) → List Allowance
all_allowances most es changed = map (λ e. or_changed (changed e.0) (idle_allowance most e.0 e.1)) es
