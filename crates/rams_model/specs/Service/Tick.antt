-- What a channel sends in a tick: the runs of its bursts, then repairs; and whom it forgets.
use Rattle.std.specs.Prelude.{ℕ, ◌+◌, ◌-◌, Bool, false, ◌&&◌, ◌==◌, not, nat_le, nat_lt, if◌then◌else◌, List, [], ◌∷◌, find, Option, Some, None}
use Rattle.rams_model.specs.declared.held.Held.{Held}
use Rattle.rams_model.specs.declared.note.Cause.TheVariants.{Stopped, Lost, Limit}
use Rattle.rams_model.specs.declared.note.Note.TheVariants.{Burst as BurstNote, Repair, Gone, End, Forgot}
use Rattle.rams_model.specs.Service.ChannelSettings.{Settings}
use Rattle.rams_model.specs.Packets.{hi, from_number, has_number}
use Rattle.rams_model.specs.Service.ChannelHistory.{noted, History, hold}
use Rattle.rams_model.specs.Service.Clients.{known, opened, sequence}
use Rattle.rams_model.specs.Service.Bursts.{Burst, next, open_burst}
use Rattle.rams_model.specs.Service.Pending.{Wanted, pending, idle}
use Rattle.rams_model.specs.Service.Buckets.{channel_left, may_take}
use Rattle.rams_model.specs.Service.Answers.{is_before}

-- The run from number n on: one packet after another, as long as the next one is there, stands before the stop, and fits into what is left.
unfoldable pub run : Option ℕ → ℕ → ℕ → List Held → List Held
run stop n left [] = []
run stop n left (h ∷ hs) = if h.n == n && is_before stop n && nat_le h.wire left then h ∷ run stop (n + 1) (left - h.wire) hs else []

-- each of these packets is noted as sent to the client
unfoldable pub send : Settings → ℕ → List Held → History → History
send s k [] history = history
send s k (h ∷ hs) history = send s k hs (noted (BurstNote k h.n (sequence s k history)) (Some h) ∷ history)

-- the burst's next packet was held, and no longer is
abbrev pub is_lost : ℕ → List Held → Bool
is_lost n held = not (has_number n held) && nat_lt n (hi held)

-- the number is the stop
abbrev pub is_stop : Option ℕ → ℕ → Bool
is_stop None n = false
is_stop (Some stop) n = n == stop

-- the burst after its run: it has ended where it has come to its stop, or else where it has lasted `limit` ticks
abbrev pub after_run : Settings → ℕ → Option Burst → History → History
after_run s k None history = history
after_run s k (Some b) history =
    if is_stop b.stop (next b) then noted (End k Stopped) None ∷ history
    else if b.ticks == s.channel.limit then noted (End k Limit) None ∷ history
    else history

-- the history after a run was sent, with the end that it may bring
abbrev pub run_sent : Settings → ℕ → History → History
run_sent s k history = after_run s k (open_burst s k history) history

-- A burst is sent the run that its budget has room for; it has ended where its next packet was lost.
abbrev pub burst_served : Settings → List Held → ℕ → Option Burst → History → History
burst_served s held k None history = history
burst_served s held k (Some b) history =
    if is_lost (next b) held then noted (End k Lost) None ∷ history
    else run_sent s k (send s k (run b.stop (next b) b.left (from_number (next b) held)) history)

-- the bursts of these clients are served, one after another
unfoldable pub all_served : Settings → List Held → List ℕ → History → History
all_served s held [] history = history
all_served s held (k ∷ ks) history = all_served s held ks (burst_served s held k (open_burst s k history) history)

-- A repair that waits is sent where it fits into what its client may take and what the channel has left; where the packet is no longer held it is gone. Else it waits on.
abbrev pub repaired : Settings → List Held → Wanted → Option Held → History → History
repaired s held w None history = noted (Gone w.client w.n) None ∷ history
repaired s held w (Some h) history =
    if nat_le h.wire (may_take s held w.client history) && nat_le h.wire (channel_left s history)
    then noted (Repair w.client w.n (sequence s w.client history)) (Some h) ∷ history
    else history

-- each of these repairs in turn
unfoldable pub all_repaired : Settings → List Held → List Wanted → History → History
all_repaired s held [] history = history
all_repaired s held (w ∷ ws) history = all_repaired s held ws (repaired s held w (find (λ h. h.n == w.n) held) history)

-- those of these clients that have been idle for `idle` ticks are forgotten
unfoldable pub all_forgotten : Settings → List ℕ → History → History
all_forgotten s [] history = history
all_forgotten s (k ∷ ks) history = all_forgotten s ks (if idle s k history == s.channel.idle then noted (Forgot k) None ∷ history else history)

-- the open bursts, by rising client
abbrev pub bursts_served : Settings → History → History
bursts_served s history = all_served s (hold s history) (opened history) history

-- the pending repairs, from the oldest on
abbrev pub repairs_sent : Settings → History → History
repairs_sent s history = all_repaired s (hold s history) (pending history) history

-- the known clients, by rising number
abbrev pub idle_forgotten : Settings → History → History
idle_forgotten s history = all_forgotten s (known history) history

-- A tick: all open bursts by rising client, then the pending repairs from the oldest on, then the idle clients by rising number.
unfoldable pub after_tick : Settings → History → History
after_tick s history = idle_forgotten s (repairs_sent s (bursts_served s history))
