-- What the notes say of a client's bursts.
use Rattle.std.specs.Prelude.{ℕ, ◌+◌, ◌-◌, min, Bool, false, ◌==◌, if◌then◌else◌, List, [], ◌∷◌, length, Option, Some, None, is_some}
use Rattle.rams_model.specs.declared.{held.Held.Held, message.Info.Info, note.Cause.Cause, note.Note.Note}
use Rattle.rams_model.specs.declared.note.Note.TheVariants.{Accept, Update, StopAt, Burst as BurstNote, Repair, End}
use Rattle.rams_model.specs.Service.ChannelSettings.{Settings}
use Rattle.rams_model.specs.Service.HeardEvents.{tick}
use Rattle.rams_model.specs.Service.ChannelHistory.{began, noted, History}
use Rattle.rams_model.specs.Service.Clients.{sequence}
use Rattle.rams_model.specs.Service.Infos.{accept_info, update_info}

-- A burst: an Accept note, and the later notes of its client.
pub record Burst : Type 0 where
  pub first : ℕ
  -- bytes in a tick, of the latest Accept or Update
  pub rate : ℕ
  -- the numbers of its Burst notes, newest first
  pub sent : List ℕ
  -- the number of its StopAt note
  pub stop : Option ℕ
  -- the ticks since the Accept
  pub ticks : ℕ
  -- what its budget has left
  pub left : ℕ
  -- what its client was told by the latest Accept or Update
  pub last : Info
  -- the cause of its End note
  pub ended : Option Cause

-- the number of the packet that it is sent next
abbrev pub next : Burst → ℕ
next b = b.first + length b.sent

-- What it keeps from tick to tick: what is left, at most the depth.
abbrev pub kept : Settings → Burst → ℕ
kept s b = min s.channel.depth b.left

-- the wire size of the packet that a note sends
abbrev pub size_of : Option Held → ℕ
size_of None = 0
size_of (Some h) = h.wire

-- the burst that an Accept begins
abbrev pub begun : Settings → ℕ → ℕ → ℕ → ℕ → Burst
begun s first rate join sequence = record {
  first = first;
  rate = rate;
  sent = [];
  stop = None;
  ticks = 0;
  left = 0;
  last = accept_info s sequence rate join;
  ended = None;
}

-- Each tick gives the budget the rate, beside what was kept.
abbrev pub in_tick : Settings → Burst → Burst
in_tick s b = record b { ticks = b.ticks + 1; left = b.rate + kept s b }

-- what a note of its client changes, where the packet that it sends has this size
abbrev pub after_note : Settings → Note → ℕ → Burst → Burst
after_note s (Update client rate join) size b = record b { rate = rate; last = update_info s b.last b.ticks rate join }
after_note s (StopAt client n) size b = record b { stop = Some n }
after_note s (BurstNote client n sequence) size b = record b { sent = n ∷ b.sent; left = b.left - size }
after_note s (Repair client n sequence) size b = record b { left = b.left - size }
after_note s (End client cause) size b = record b { ended = Some cause }
after_note s _ size b = b

-- a change of the newest burst
abbrev pub newest_changed : (Burst → Burst) → List Burst → List Burst
newest_changed change [] = []
newest_changed change (b ∷ bs) = change b ∷ bs

-- the bursts after a note of their client: an Accept begins one
abbrev pub bursts_after : Settings → Note → ℕ → ℕ → List Burst → List Burst
bursts_after s (Accept client first rate join) sequence size bs = begun s first rate join sequence ∷ bs
bursts_after s note sequence size bs = newest_changed (after_note s note size) bs

-- a note of the client that changes its bursts
abbrev pub is_of : ℕ → Note → Bool
is_of k (Accept client first rate join) = client == k
is_of k (Update client rate join) = client == k
is_of k (StopAt client n) = client == k
is_of k (BurstNote client n sequence) = client == k
is_of k (Repair client n sequence) = client == k
is_of k (End client cause) = client == k
is_of k _ = false

-- The bursts of a client, the newest first, ended ones too.
unfoldable pub bursts : Settings → ℕ → History → List Burst
bursts s k [] = []
bursts s k (began tick ∷ history) = newest_changed (in_tick s) (bursts s k history)
bursts s k (noted note packet ∷ history) =
    if is_of k note then bursts_after s note (sequence s k history) (size_of packet) (bursts s k history) else bursts s k history
bursts s k (_ ∷ history) = bursts s k history

-- the burst, where it hasn't ended
abbrev pub if_open : Option Cause → Burst → Option Burst
if_open None b = Some b
if_open (Some cause) b = None

-- the newest, where it is open
abbrev pub newest_open : List Burst → Option Burst
newest_open [] = None
newest_open (b ∷ bs) = if_open b.ended b

-- The open burst of a client.
abbrev pub open_burst : Settings → ℕ → History → Option Burst
open_burst s k history = newest_open (bursts s k history)

-- the client has an open burst
abbrev pub has_open : Settings → ℕ → History → Bool
has_open s k history = is_some (open_burst s k history)
