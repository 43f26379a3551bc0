-- The answer to a RAMS-R (RFC 6285, 6.2 and 7.2). Which response code stands for which refusal is this server's own choice.
use Rattle.std.specs.Prelude.{ℕ, ◌+◌, ◌-◌, Bool, ◌&&◌, ◌==◌, not, nat_le, nat_lt, if◌then◌else◌, List, length, Option, Some, None, Result, Ok, Err, unwrap_or}
use Rattle.rams_model.specs.declared.{fault.TlvFault.TlvFault, held.Held.Held, note.Note.Note, wire.TheConstants.MOST_ON_WIRE}
use Rattle.rams_model.specs.declared.note.Note.TheVariants.{Accept, Update, Again, Refuse}
use Rattle.rams_model.specs.Service.ChannelSettings.{Settings}
use Rattle.rams_model.specs.Formats.{Request, names}
use Rattle.rams_model.specs.Packets.{behind, chosen}
use Rattle.rams_model.specs.Service.Rates.{rate_of, join_ticks}
use Rattle.rams_model.specs.Service.ChannelHistory.{History, hold}
use Rattle.rams_model.specs.Service.Clients.{known, is_among}
use Rattle.rams_model.specs.Service.Bursts.{Burst, next, open_burst}
use Rattle.rams_model.specs.Service.Buckets.{reserved}

-- the rate that a request asks for
abbrev pub asked_rate : Settings → Request → ℕ
asked_rate s r = rate_of r.bps s.tick s.channel.burst

-- the rate can't catch up: it is below what is declared and one packet more
abbrev pub is_slow : Settings → ℕ → Bool
is_slow s rate = nat_lt rate (s.channel.declared + MOST_ON_WIRE)

-- with what bursts leave for repairs it is more than the share
abbrev pub is_too_much : Settings → ℕ → Bool
is_too_much s amount = nat_lt s.channel.share (amount + s.channel.reserve)

-- one client more can't be known
abbrev pub is_full : Settings → ℕ → History → Bool
is_full s k history = not (is_among k (known history)) && nat_le s.channel.clients (length (known history))

-- after how many ticks a burst at this rate has caught up from number n on
abbrev pub join_from : Settings → List Held → ℕ → ℕ → ℕ
join_from s held n rate = join_ticks (behind n held) rate s.channel.declared s.channel.depth

-- the access point is chosen: a burst begins, unless its rate is too low or too much
abbrev pub begins : Settings → List Held → ℕ → ℕ → History → Result Held ℕ → Note
begins s held k rate history (Err code) = Refuse k code
begins s held k rate history (Ok h) =
    if is_slow s rate then Refuse k 403
    else if is_too_much s (reserved s history + rate + s.channel.depth) then Refuse k 501
    else Accept k h.n rate (join_from s held h.n rate)

-- the rate of an open burst is changed, unless it is too low or too much
abbrev pub changes : Settings → List Held → ℕ → ℕ → History → Burst → Note
changes s held k rate history b =
    if is_slow s rate then Refuse k 403
    else if is_too_much s (reserved s history - b.rate + rate) then Refuse k 501
    else Update k rate (join_from s held (next b) rate)

-- a client with an open burst is told the same again, unless it names another bit rate
abbrev pub on_burst : Settings → List Held → ℕ → ℕ → History → Burst → Option ℕ → Note
on_burst s held k rate history b None = Again k
on_burst s held k rate history b (Some bps) = if rate == b.rate then Again k else changes s held k rate history b

-- A client with an open burst may change its rate; another may begin a burst, where it is known or can be.
abbrev pub on_request : Settings → List Held → ℕ → Request → History → Option Burst → Note
on_request s held k r history (Some b) = on_burst s held k (asked_rate s r) history b r.bps
on_request s held k r history None =
    if is_full s k history then Refuse k 503
    else begins s held k (asked_rate s r) history (chosen s.channel held (unwrap_or r.min_ms 0) r.max_ms)

-- The note of a request: the first refusal that applies, else what it does.
unfoldable pub verdict : Settings → ℕ → History → Result Request TlvFault → Note
verdict s k history (Err fault) = Refuse k 400
verdict s k history (Ok r) =
    if r.preamble then Refuse k 512
    else if not (names r s.channel.ssrc) then Refuse k 509
    else on_request s (hold s history) k r history (open_burst s k history)
