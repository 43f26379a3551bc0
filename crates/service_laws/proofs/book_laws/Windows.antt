-- What clients and the channel are sent over ticks that follow one another.
use Rattle.std.proofs.Common.{◌≡◌, ℕ, ◌+◌, ◌-◌, ◌*◌, ◌≤◌, min, Bool, true, false, cond, List, [], ◌∷◌, ◌++◌, Option, Some, None, refl, ap, sym, subst, arith, append_assoc}
use Rattle.std.proofs.lemmas.Bool.{true≢false}
use Rattle.rams_model.specs.declared.{Cause.Cause, Note.Note}
use Rattle.rams_model.specs.declared.Note.TheVariants as note
use Rattle.rams_model.specs.Service.{Settings, tick, began, told, noted, History, as_tick_began, Burst, in_tick, newest_changed, size_of, bursts, if_open, newest_open, open_burst, after_sending, channel_left, budget_of, cap}
use Rattle.rams_model.specs.Laws.{NoneIs, is_sending, is_sending_to, sizes_sent, ticks_begun}
use Rattle.service_laws.specs.book_laws.{is_tick_start, may_be_sent, left_of, gain, gains_in, BeginsWithATick}
use Rattle.rams_model.proofs.Legal.{IsLegal}
use Rattle.service_laws.proofs.book_laws.Shares.{sending_fits}
use Rattle.service_laws.proofs.book_laws.ClientCaps.{since_tick, within_cap}

-- what a client may still be sent in the present tick
abbrev pub room : Settings → ℕ → History → ℕ
room s k history = cap s k history - sizes_sent (is_sending_to k) (since_tick history)

-- in a tick a client may be sent the rate of its burst and what that kept
at_tick : (s : Settings) (bs : List Burst) → budget_of s (newest_open (newest_changed (in_tick s) bs)) ≤ may_be_sent s (newest_open bs)
at_tick s [] = omega arith
at_tick s (b ∷ bs) = at b.ended
  where
    at : (e : Option Cause) → budget_of s (if_open e (in_tick s b)) ≤ may_be_sent s (if_open e b)
    at None = omega arith
    at (Some cause) = omega arith

pub room_at_tick : (s : Settings) (k : ℕ) (history : History) → room s k (began tick ∷ history) ≤ may_be_sent s (open_burst s k history)
unfolding bursts as_tick_began since_tick
room_at_tick s k history = omega (arith, at_tick s (bursts s k history))

-- what was kept is at most the depth
gained : (s : Settings) (o : Option Burst) → may_be_sent s o ≤ gain s o + min s.channel.depth (left_of o)
gained s None = omega arith
gained s (Some b) = omega arith

-- a packet is taken from the room, where it is the client's
room_taken : (c : Bool) (sent since size left cap bound : ℕ) → sent + (cap - since) ≤ bound → cond c (since + size) since + left ≤ cap
    → cond c (sent + size) sent + (cap - cond c (since + size) since) ≤ bound
room_taken true sent since size left cap bound within fits = omega arith
room_taken false sent since size left cap bound within fits = within

-- Over some items a client is sent at most what their ticks add, and what it might be sent before them.
pub client_within : (s : Settings) (k : ℕ) (later base : History) → IsLegal s (later ++ base)
    → sizes_sent (is_sending_to k) later + room s k (later ++ base) ≤ gains_in s k later base + room s k base
unfolding as_tick_began since_tick
client_within s k [] base l = omega arith
client_within s k (began tick ∷ later) base l =
    let history = later ++ base in
    omega (arith, room_at_tick s k history, gained s (open_burst s k history), within_cap s k history l, client_within s k later base l)
client_within s k (began heard ∷ later) base l = client_within s k later base l
client_within s k (told client message ∷ later) base l = client_within s k later base l
client_within s k (noted note packet ∷ later) base l =
    let history = later ++ base in
    room_taken (is_sending_to k note) (sizes_sent (is_sending_to k) later) (sizes_sent (is_sending_to k) (since_tick history)) (size_of packet)
    (left_of (open_burst s k (noted note packet ∷ history))) (cap s k history) (gains_in s k later base + room s k base) (client_within s k later base l.1)
    (within_cap s k (noted note packet ∷ history) l)

-- a packet is taken from what the channel has left
sending : (s : Settings) (note : Note) (size left sent bound : ℕ) → (is_sending note ≡ true → size ≤ left) → sent + left ≤ bound
    → cond (is_sending note) (sent + size) sent + after_sending note size left ≤ bound
sending s (note.Burst client n q) size left sent bound fits within = let f = fits refl in omega (arith, f)
sending s (note.Repair client n q) size left sent bound fits within = let f = fits refl in omega (arith, f)
sending s note size left sent bound fits within = within

-- Over some items the channel sends at most what their ticks add, and what its budget had before them.
pub channel_within : (s : Settings) (later base : History) → IsLegal s (later ++ base)
    → sizes_sent is_sending later + channel_left s (later ++ base) ≤ ticks_begun later * s.channel.share + channel_left s base
unfolding channel_left
channel_within s [] base l = omega arith
channel_within s (began tick ∷ later) base l = omega (arith, channel_within s later base l)
channel_within s (began heard ∷ later) base l = channel_within s later base l
channel_within s (told client message ∷ later) base l = channel_within s later base l
channel_within s (noted note packet ∷ later) base l =
    sending s note (size_of packet) (channel_left s (later ++ base)) (sizes_sent is_sending later) (ticks_begun later * s.channel.share + channel_left s base)
    (sending_fits s note packet (later ++ base) l) (channel_within s later base l.1)

-- items without a tick add nothing
no_gains : (s : Settings) (k : ℕ) (now base : History) → NoneIs is_tick_start now → gains_in s k now base ≡ 0
no_gains s k [] base none = refl
no_gains s k (began tick ∷ now) base none = absurd (true≢false none.0)
no_gains s k (began heard ∷ now) base none = no_gains s k now base none.1
no_gains s k (told client message ∷ now) base none = no_gains s k now base none.1
no_gains s k (noted note packet ∷ now) base none = no_gains s k now base none.1

no_ticks : (now : History) → NoneIs is_tick_start now → ticks_begun now ≡ 0
no_ticks [] none = refl
no_ticks (began tick ∷ now) none = absurd (true≢false none.0)
no_ticks (began heard ∷ now) none = no_ticks now none.1
no_ticks (told client message ∷ now) none = no_ticks now none.1
no_ticks (noted note packet ∷ now) none = no_ticks now none.1

-- in a tick
pub client_in_tick : (s : Settings) (k : ℕ) (now before : History) → IsLegal s (now ++ began tick ∷ before) → NoneIs is_tick_start now
    → sizes_sent (is_sending_to k) now ≤ may_be_sent s (open_burst s k before)
client_in_tick s k now before l none =
    omega (arith, client_within s k now (began tick ∷ before) l, no_gains s k now (began tick ∷ before) none, room_at_tick s k before)

pub channel_in_tick : (s : Settings) (now before : History) → IsLegal s (now ++ began tick ∷ before) → NoneIs is_tick_start now
    → sizes_sent is_sending now ≤ s.channel.share + min s.channel.swell (channel_left s before)
unfolding channel_left
channel_in_tick s now before l none =
    let no = ap (λ (n : ℕ). n * s.channel.share) (no_ticks now none) in omega (arith, channel_within s now (began tick ∷ before) l, no)

-- a stretch that begins with a tick
sizes_with_tick : (test : Note → Bool) (later : History) → sizes_sent test (later ++ began tick ∷ []) ≡ sizes_sent test later
sizes_with_tick test [] = refl
sizes_with_tick test (began heard ∷ later) = sizes_with_tick test later
sizes_with_tick test (told client message ∷ later) = sizes_with_tick test later
sizes_with_tick test (noted note packet ∷ later) = ap (λ (n : ℕ). cond (test note) (n + size_of packet) n) (sizes_with_tick test later)

ticks_with_tick : (later : History) → ticks_begun (later ++ began tick ∷ []) ≡ ticks_begun later + 1
ticks_with_tick [] = refl
ticks_with_tick (began tick ∷ later) = ap (λ (n : ℕ). n + 1) (ticks_with_tick later)
ticks_with_tick (began heard ∷ later) = ticks_with_tick later
ticks_with_tick (told client message ∷ later) = ticks_with_tick later
ticks_with_tick (noted note packet ∷ later) = ticks_with_tick later

gains_with_tick : (s : Settings) (k : ℕ) (later before : History)
    → gains_in s k (later ++ began tick ∷ []) before ≡ gains_in s k later (began tick ∷ before) + gain s (open_burst s k before)
gains_with_tick s k [] before = refl
gains_with_tick s k (began tick ∷ later) before =
    let same = ap (λ (h : History). gain s (open_burst s k h)) (append_assoc later (began tick ∷ []) before) in omega (arith, same, gains_with_tick s k later before)
gains_with_tick s k (began heard ∷ later) before = gains_with_tick s k later before
gains_with_tick s k (told client message ∷ later) before = gains_with_tick s k later before
gains_with_tick s k (noted note packet ∷ later) before = gains_with_tick s k later before

over_ticks : (s : Settings) (k : ℕ) (later before : History) → IsLegal s ((later ++ began tick ∷ []) ++ before)
    → sizes_sent (is_sending_to k) (later ++ began tick ∷ []) ≤ gains_in s k (later ++ began tick ∷ []) before + s.channel.depth
over_ticks s k later before l =
    let legal = subst (IsLegal s) (append_assoc later (began tick ∷ []) before) l in
    omega (
      arith,
      client_within s k later (began tick ∷ before) legal,
      room_at_tick s k before,
      gained s (open_burst s k before),
      sizes_with_tick (is_sending_to k) later,
      gains_with_tick s k later before,
    )

pub client_over_ticks : (s : Settings) (k : ℕ) (stretch before : History) → IsLegal s (stretch ++ before) → BeginsWithATick stretch
    → sizes_sent (is_sending_to k) stretch ≤ gains_in s k stretch before + s.channel.depth
client_over_ticks s k stretch before l begins =
    subst (λ (h : History). IsLegal s (h ++ before) → sizes_sent (is_sending_to k) h ≤ gains_in s k h before + s.channel.depth) (sym begins.splits)
    (over_ticks s k begins.later before) l

all_over_ticks : (s : Settings) (later before : History) → IsLegal s ((later ++ began tick ∷ []) ++ before)
    → sizes_sent is_sending (later ++ began tick ∷ []) ≤ ticks_begun (later ++ began tick ∷ []) * s.channel.share + s.channel.swell
unfolding channel_left
all_over_ticks s later before l =
    let legal = subst (IsLegal s) (append_assoc later (began tick ∷ []) before) l in
    let ticks = ap (λ (n : ℕ). n * s.channel.share) (ticks_with_tick later) in
    omega (arith, channel_within s later (began tick ∷ before) legal, sizes_with_tick is_sending later, ticks)

pub channel_over_ticks : (s : Settings) (stretch before : History) → IsLegal s (stretch ++ before) → BeginsWithATick stretch
    → sizes_sent is_sending stretch ≤ ticks_begun stretch * s.channel.share + s.channel.swell
channel_over_ticks s stretch before l begins =
    subst (λ (h : History). IsLegal s (h ++ before) → sizes_sent is_sending h ≤ ticks_begun h * s.channel.share + s.channel.swell) (sym begins.splits)
    (all_over_ticks s begins.later before) l
