-- What bursts are sent in a tick, and what they leave to repairs.
use Rattle.std.specs.Prelude.{◌≡◌, ℕ, ◌+◌, ◌<◌, ◌≤◌, ◌^◌, ◌-◌, min, ◌==◌, nat_lt, if◌then◌else◌, List, [], ◌∷◌, Option, Some, None, IsSome}
use Rattle.std.specs.List.{AllByRecursion}
use Rattle.rams_model.specs.declared.{Held.Held, Cause.Cause, Note.TheVariants.Burst as BurstNote}
use Rattle.rams_model.specs.declared.Cause.TheVariants.{Stopped, Lost, Limit}
use Rattle.rams_model.specs.Service.{Settings, run, is_lost, is_stop}
use Rattle.rams_model.specs.Packets.{lo, hi, from_number, following, Follows}
use Rattle.client_table.specs.declared.{Burst.Burst, Entry.Entry}
use Rattle.client_table.specs.{entry_of, opened_of}
use Rattle.client_table.specs.Clients.{Clients}
use Rattle.tick_core.specs.declared.{allowance.Allowance.Allowance, runs.Sent.Sent}
use Rattle.tick_draft.specs.Drafts.{Drafted, with_packet, with_end}

-- a burst as a tick begins: nothing of its budget is spent
abbrev pub unsent : ℕ → Burst → Sent
unsent seq b = record { next = b.next; left = b.rate + b.kept; seq = seq }

-- one more packet was sent
abbrev pub after_packet : Sent → Held → Sent
after_packet at h = record { next = at.next + 1; left = at.left - h.wire; seq = following at.seq }

-- these packets were sent
unfoldable pub sent_after : Sent → List Held → Sent
sent_after at [] = at
sent_after at (h ∷ hs) = sent_after (after_packet at h) hs

-- the packets that are sent from there on
abbrev pub run_from : List Held → Option ℕ → Sent → List Held
run_from held stop at = run stop at.next at.left (from_number at.next held)

-- the notes of these packets, the first under the number `seq`
unfoldable pub with_run : ℕ → ℕ → List Held → Drafted → Drafted
with_run client seq [] d = d
with_run client seq (h ∷ hs) d = with_run client (following seq) hs (with_packet d (BurstNote client h.n seq) client seq h)

-- What is held has numbers that follow one another, and they are small.
pub record AreInOrder (held : List Held) : Type 0 where
  pub follows : Follows (lo held) held
  pub small : hi held < 2 ^ 64

-- an open burst has a tick left, and its budget is small
pub record IsSmall (s : Settings) (b : Burst) : Type 0 where
  pub lasts : b.ticks < s.channel.limit
  pub budget : b.rate + b.kept < 2 ^ 64

abbrev pub IsInTime : Settings → Option Burst → Type 0
IsInTime s None = Unit {0}
IsInTime s (Some b) = IsSmall s b

-- so is each open burst
abbrev pub AreInTime : Settings → Clients → Type 0
AreInTime s table = (client : ℕ) (e : Entry) → entry_of table client ≡ Some e → IsInTime s e.burst

-- the packet that is sent next
pub record IsNext (held : List Held) (stop : Option ℕ) (at : Sent) (h : Held) : Type 0 where
  pub goes : run_from held stop at ≡ h ∷ run_from held stop (after_packet at h)
  pub number : h.n ≡ at.next
  pub within : at.next < hi held
  pub fits : h.wire ≤ at.left

-- the packets of a burst's run
abbrev pub run_of : List Held → Burst → List Held
run_of held b = run_from held b.stop (unsent 0 b)

-- a burst after its run
abbrev pub after_run : List Held → ℕ → Burst → Sent
after_run held seq b = sent_after (unsent seq b) (run_of held b)

-- why a burst ends that has come to this number: its stop, or else its last tick
abbrev pub end_of : ℕ → Burst → ℕ → Option Cause
end_of limit b next = if is_stop b.stop next then Some Stopped else if b.ticks + 1 == limit then Some Limit else None

-- What a burst keeps from repairs: one that goes on and has not caught up keeps what it may keep for later runs.
abbrev pub kept_back : ℕ → List Held → Option Cause → Sent → ℕ
kept_back depth held None at = if nat_lt at.next (hi held) then min depth at.left else 0
kept_back depth held (Some cause) at = 0

abbrev pub allowance : ℕ → ℕ → ℕ → Allowance
allowance client may_take seq = record { client = client; may_take = may_take; seq = seq }

-- what a burst's run leaves to its client's repairs
abbrev pub left_by_run : Settings → List Held → ℕ → Option Cause → Sent → Allowance
left_by_run s held client cause at = allowance client (at.left - kept_back s.channel.depth held cause at) at.seq

-- what a client's repairs may take after the runs
abbrev pub allowance_of : Settings → List Held → ℕ → Entry → Option Burst → Allowance
allowance_of s held client e None = allowance client s.channel.burst e.seq
allowance_of s held client e (Some b) =
    if is_lost b.next held then allowance client (b.rate + b.kept) e.seq
    else left_by_run s held client (end_of s.channel.limit b (after_run held e.seq b).next) (after_run held e.seq b)

-- what those of a client that has no burst may
abbrev pub idle_allowance : ℕ → ℕ → Entry → Allowance
idle_allowance most client e = allowance client most e.seq

-- the notes of a client's burst: of its run and of its end
abbrev pub with_served : Settings → List Held → ℕ → Entry → Option Burst → Drafted → Drafted
with_served s held client e None d = d
with_served s held client e (Some b) d =
    if is_lost b.next held then with_end d client b.last (Some Lost)
    else with_end (with_run client e.seq (run_of held b) d) client b.last (end_of s.channel.limit b (after_run held e.seq b).next)

-- the notes of these clients' bursts, one after another
unfoldable pub with_all_served : Settings → List Held → List (ℕ × Entry) → Drafted → Drafted
with_all_served s held [] d = d
with_all_served s held (e ∷ es) d = with_all_served s held es (with_served s held e.0 e.1 e.1.burst d)

-- what the repairs of each may take after that
unfoldable pub allowances_of : Settings → List Held → List (ℕ × Entry) → List Allowance
allowances_of s held [] = []
allowances_of s held (e ∷ es) = allowance_of s held e.0 e.1 e.1.burst ∷ allowances_of s held es

-- Of these allowances each is that of a known client, and none of a client with an open burst is missing.
pub record AreOfBursts (s : Settings) (held : List Held) (table : Clients) (allowances : ℕ → Option Allowance) : Type 0 where
  pub each : (client : ℕ) (a : Allowance) → allowances client ≡ Some a → (e : Entry) × (entry_of table client ≡ Some e) × (a ≡ allowance_of s held client e e.burst)
  pub all : AllByRecursion (λ e. IsSome (allowances e.0)) (opened_of table)
