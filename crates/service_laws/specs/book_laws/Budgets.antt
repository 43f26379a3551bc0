-- What clients and the channel are sent stays within their budgets. A budget is a bucket: each tick adds to it, a packet takes its wire size, and at most a depth is kept.
use Rattle.std.specs.Prelude.{◌≡◌, ◌≢◌, ℕ, ◌+◌, ◌*◌, ◌≤◌, min, Bool, true, false, ◌==◌, if◌then◌else◌, IsTrue, IsSomeAnd, [], ◌∷◌, ◌++◌, sum_by, count_by, Option, Some, None}
use Rattle.rams_model.specs.declared.Held.{Held}
use Rattle.rams_model.specs.declared.Note.TheVariants as note
use Rattle.rams_model.specs.Service.{Settings, Heard, tick, Item, began, noted, History, opened, Burst, open_burst, has_open, reserved, channel_left}
use Rattle.rams_model.specs.Laws.{NoneIs, is_event, is_sending, is_sending_to, sizes_sent, ticks_begun}
use Rattle.service_laws.specs.book_laws.Moments.{IsMoment}

-- a tick begins
abbrev pub is_tick_start : Item → Bool
is_tick_start (began tick) = true
is_tick_start _ = false

-- What a client may be sent in a tick, by the burst that it has open as the tick begins: the rate, with what the burst kept of its budget, which is at most the depth. Without a burst it is `burst`.
abbrev pub may_be_sent : Settings → Option Burst → ℕ
may_be_sent s None = s.channel.burst
may_be_sent s (Some b) = b.rate + min s.channel.depth b.left

-- From the beginning of a tick until another begins, a client is sent at most that.
abbrev pub ClientsStayWithinTheirBudgets : Type 0
ClientsStayWithinTheirBudgets =
    (s : Settings) (k : ℕ) (now before : History) → IsMoment s (now ++ began tick ∷ before) → NoneIs is_tick_start now
    → sizes_sent (is_sending_to k) now ≤ may_be_sent s (open_burst s k before)

-- So it is sent at most the rate and the depth, and `burst` where it has no burst.
abbrev pub ClientsAreSentAtMostRateAndDepth : Type 0
ClientsAreSentAtMostRateAndDepth =
    (s : Settings) (k : ℕ) (now before : History) → IsMoment s (now ++ began tick ∷ before) → NoneIs is_tick_start now
    → ((b : Burst) → open_burst s k before ≡ Some b → sizes_sent (is_sending_to k) now ≤ b.rate + s.channel.depth)
    × (open_burst s k before ≡ None → sizes_sent (is_sending_to k) now ≤ s.channel.burst)

-- From the beginning of a tick until another begins, the channel sends at most its share, with what it kept of its budget, which is at most the swell.
abbrev pub ChannelsStayWithinTheirBudgets : Type 0
ChannelsStayWithinTheirBudgets =
    (s : Settings) (now before : History) → IsMoment s (now ++ began tick ∷ before) → NoneIs is_tick_start now
    → sizes_sent is_sending now ≤ s.channel.share + min s.channel.swell (channel_left s before)

-- So it sends at most the share and the swell.
abbrev pub ChannelsSendAtMostShareAndSwell : Type 0
ChannelsSendAtMostShareAndSwell =
    (s : Settings) (now before : History) → IsMoment s (now ++ began tick ∷ before) → NoneIs is_tick_start now
    → sizes_sent is_sending now ≤ s.channel.share + s.channel.swell

-- Nothing is sent but in ticks.
abbrev pub OnlyTicksSend : Type 0
OnlyTicksSend =
    (s : Settings) (heard : Heard) (now before : History) → IsMoment s (now ++ began heard ∷ before) → heard ≢ tick → NoneIs is_event now
    → sizes_sent is_sending now ≡ 0

-- The open bursts' rates and depths, together, are at most the share; and they leave the reserve to repairs, where a burst is open.
abbrev pub ReservesFitTheShare : Type 0
ReservesFitTheShare =
    (s : Settings) (history : History) → IsMoment s history
    → (reserved s history ≤ s.channel.share) × ((k : ℕ) → IsTrue (has_open s k history) → reserved s history + s.channel.reserve ≤ s.channel.share)

-- In that sum each client with an open burst counts once, and no other.
abbrev pub EachOpenBurstCountsOnce : Type 0
EachOpenBurstCountsOnce = (s : Settings) (k : ℕ) (history : History) → count_by (λ j. j == k) (opened history) ≡ (if has_open s k history then 1 else 0)

-- what the budget of an open burst has left
abbrev pub left_of : Option Burst → ℕ
left_of None = 0
left_of (Some b) = b.left

-- the item isn't a note of a run: a packet of a burst, or a burst's end
abbrev pub is_past_runs : Item → Bool
is_past_runs (noted (note.Burst client n sequence) packet) = false
is_past_runs (noted (note.End client cause) packet) = false
is_past_runs _ = true

-- While the runs of a tick are sent, what the budgets of the open bursts have left, together, is at most what the channel's has left: no run is cut short for want of that.
abbrev pub RunsAreCovered : Type 0
RunsAreCovered =
    (s : Settings) (now before : History) → IsMoment s (now ++ began tick ∷ before) → NoneIs is_past_runs now
    → sum_by (λ k. left_of (open_burst s k (now ++ began tick ∷ before))) (opened (now ++ began tick ∷ before)) ≤ channel_left s (now ++ began tick ∷ before)

-- So what fits the budget of a burst then fits the channel's.
abbrev pub EachRunIsCovered : Type 0
EachRunIsCovered =
    (s : Settings) (k : ℕ) (b : Burst) (now before : History) → IsMoment s (now ++ began tick ∷ before) → NoneIs is_past_runs now
    → open_burst s k (now ++ began tick ∷ before) ≡ Some b → b.left ≤ channel_left s (now ++ began tick ∷ before)

-- A tick sends the packets of its bursts before all repairs.
abbrev pub RunsComeFirst : Type 0
RunsComeFirst =
    (s : Settings) (client n sequence : ℕ) (packet : Option Held) (now before : History)
    → IsMoment s (noted (note.Burst client n sequence) packet ∷ now ++ began tick ∷ before) → NoneIs is_tick_start now → NoneIs is_past_runs now

-- what each tick adds to the budget of a client: the rate of its open burst, or `burst`
abbrev pub gain : Settings → Option Burst → ℕ
gain s None = s.channel.burst
gain s (Some b) = b.rate

-- what the ticks of a stretch of the history add to it, where the other history stands before the stretch
abbrev pub gains_in : Settings → ℕ → History → History → ℕ
gains_in s k [] before = 0
gains_in s k (began tick ∷ stretch) before = gains_in s k stretch before + gain s (open_burst s k (stretch ++ before))
gains_in s k (_ ∷ stretch) before = gains_in s k stretch before

-- the stretch begins with a tick
pub record BeginsWithATick (stretch : History) : Type 0 where
  pub later : History
  pub splits : stretch ≡ later ++ began tick ∷ []

-- Over ticks that follow one another a client is sent at most what they add, and the depth.
abbrev pub ClientsAreSentAtMostTheirGains : Type 0
ClientsAreSentAtMostTheirGains =
    (s : Settings) (k : ℕ) (stretch before : History) → IsMoment s (stretch ++ before) → BeginsWithATick stretch
    → sizes_sent (is_sending_to k) stretch ≤ gains_in s k stretch before + s.channel.depth

-- as each tick of the stretch begins, the client has an open burst of this rate
abbrev pub IsOpenAtEachTick : Settings → ℕ → ℕ → History → History → Type 0
IsOpenAtEachTick s k rate [] before = Unit {0}
IsOpenAtEachTick s k rate (began tick ∷ stretch) before = IsSomeAnd (open_burst s k (stretch ++ before)) (λ b. b.rate ≡ rate) × IsOpenAtEachTick s k rate stretch before
IsOpenAtEachTick s k rate (_ ∷ stretch) before = IsOpenAtEachTick s k rate stretch before

-- So it is sent at most as many times its burst's rate as there are ticks, and the depth, where the burst keeps its rate and is open as each tick begins.
abbrev pub BurstsAreSentAtMostTheirRates : Type 0
BurstsAreSentAtMostTheirRates =
    (s : Settings) (k rate : ℕ) (stretch before : History) → IsMoment s (stretch ++ before) → BeginsWithATick stretch → IsOpenAtEachTick s k rate stretch before
    → sizes_sent (is_sending_to k) stretch ≤ ticks_begun stretch * rate + s.channel.depth

-- However its bursts begin, change and end, it is sent at most as many times `burst` as there are ticks, and the depth.
abbrev pub ClientsAreSentAtMostBurst : Type 0
ClientsAreSentAtMostBurst =
    (s : Settings) (k : ℕ) (stretch before : History) → IsMoment s (stretch ++ before) → BeginsWithATick stretch
    → sizes_sent (is_sending_to k) stretch ≤ ticks_begun stretch * s.channel.burst + s.channel.depth

-- Over ticks that follow one another a channel sends at most as many times the share as there are ticks, and the swell.
abbrev pub ChannelsSendAtMostTheirShares : Type 0
ChannelsSendAtMostTheirShares =
    (s : Settings) (stretch before : History) → IsMoment s (stretch ++ before) → BeginsWithATick stretch
    → sizes_sent is_sending stretch ≤ ticks_begun stretch * s.channel.share + s.channel.swell
