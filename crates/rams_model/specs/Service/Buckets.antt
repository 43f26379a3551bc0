-- What bursts reserve, and what a client and the channel may be sent in a tick. A budget is a bucket: each tick adds to it, a packet takes its wire size, and at most a depth is kept.
use Rattle.std.specs.Prelude.{ℕ, ◌+◌, ◌-◌, min, Bool, false, ◌==◌, nat_lt, if◌then◌else◌, List, [], ◌∷◌, sum_by, Option, Some, None}
use Rattle.rams_model.specs.declared.{held.Held.Held, note.Note.Note}
use Rattle.rams_model.specs.declared.note.Note.TheVariants.{Burst as BurstNote, Repair}
use Rattle.rams_model.specs.Service.ChannelSettings.{Settings}
use Rattle.rams_model.specs.Packets.{hi}
use Rattle.rams_model.specs.Service.HeardEvents.{tick}
use Rattle.rams_model.specs.Service.ChannelHistory.{began, told, noted, History, as_tick_began}
use Rattle.rams_model.specs.Service.Clients.{opened}
use Rattle.rams_model.specs.Service.Bursts.{Burst, next, size_of, open_burst}

-- what a burst may be sent in a tick at most: its rate, and all that it may keep
abbrev pub most_of : Settings → Option Burst → ℕ
most_of s None = 0
most_of s (Some b) = b.rate + s.channel.depth

-- what the open bursts may be sent in a tick at most, together
abbrev pub reserved : Settings → History → ℕ
reserved s history = sum_by (λ k. most_of s (open_burst s k history)) (opened history)

-- the channel's budget after a note that sends a packet of this size
abbrev pub after_sending : Note → ℕ → ℕ → ℕ
after_sending (BurstNote client n sequence) size left = left - size
after_sending (Repair client n sequence) size left = left - size
after_sending _ size left = left

-- What the channel's budget has left: each tick gives it the share, beside what was kept, which is at most the swell.
unfoldable pub channel_left : Settings → History → ℕ
channel_left s [] = 0
channel_left s (began tick ∷ history) = s.channel.share + min s.channel.swell (channel_left s history)
channel_left s (noted note packet ∷ history) = after_sending note (size_of packet) (channel_left s history)
channel_left s (_ ∷ history) = channel_left s history

-- a Burst note of the client
abbrev pub is_burst_of : ℕ → Note → Bool
is_burst_of k (BurstNote client n sequence) = client == k
is_burst_of k _ = false

-- a Repair note of the client
abbrev pub is_repair_of : ℕ → Note → Bool
is_repair_of k (Repair client n sequence) = client == k
is_repair_of k _ = false

-- the wire sizes of the packets that such notes of the present tick send
unfoldable pub sent_now : (Note → Bool) → History → ℕ
sent_now is_such [] = 0
sent_now is_such (began heard ∷ history) = 0
sent_now is_such (told client message ∷ history) = sent_now is_such history
sent_now is_such (noted note packet ∷ history) = if is_such note then sent_now is_such history + size_of packet else sent_now is_such history

-- the budget of a burst, or `burst` where none is open
abbrev pub budget_of : Settings → Option Burst → ℕ
budget_of s None = s.channel.burst
budget_of s (Some b) = b.left

-- The cap of a client in a tick: the budget of the burst that was open as the tick began, else `burst`.
abbrev pub cap : Settings → ℕ → History → ℕ
cap s k history = budget_of s (open_burst s k (as_tick_began history))

-- what its run left of the cap
abbrev pub run_left : Settings → ℕ → History → ℕ
run_left s k history = cap s k history - sent_now (is_burst_of k) history

-- A burst that has not caught up with the source keeps for later runs what it may keep, and leaves the rest to repairs.
abbrev pub kept_from_repairs : Settings → List Held → ℕ → Option Burst → ℕ
kept_from_repairs s held left None = 0
kept_from_repairs s held left (Some b) = if nat_lt (next b) (hi held) then min s.channel.depth left else 0

-- What a client's repairs may still take in this tick, after the runs.
abbrev pub may_take : Settings → List Held → ℕ → History → ℕ
may_take s held k history =
    run_left s k history - kept_from_repairs s held (run_left s k history) (open_burst s k history) - sent_now (is_repair_of k) history
