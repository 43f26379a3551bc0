-- Whom a tick forgets: a client that was idle for as many ticks as the settings say.
use Rattle.std.specs.Prelude.{◌≡◌, ◌⊎◌, ℕ, ◌<◌, ◌≤◌, Bool, true, false, ◌==◌, List, [], ◌∷◌, ◌++◌, Option}
use Rattle.rams_model.specs.declared.{Event.Event, Held.Held, Note.Note}
use Rattle.rams_model.specs.declared.Note.TheVariants as note
use Rattle.rams_model.specs.Service.{Settings, feedback, tick, Item, began, noted, History, known, is_among, is_busy, history_of}
use Rattle.rams_model.specs.Laws.{ticks_begun}
use Rattle.service_laws.specs.book_laws.{IsMoment}

-- a note of what the client is sent, of what is given up for it, or of the end of its burst
abbrev pub serves : ℕ → Note → Bool
serves k (note.Burst client n sequence) = client == k
serves k (note.Repair client n sequence) = client == k
serves k (note.Gone client n) = client == k
serves k (note.End client cause) = client == k
serves k other = false

-- the client sends a datagram that frames, or is served
abbrev pub shows_life : ℕ → Item → Bool
shows_life k (began (feedback client messages)) = client == k
shows_life k (noted one packet) = serves k one
shows_life k other = false

-- In this stretch, before which the rest came, the client shows no life; and as each tick of it begins, but for the first, it has neither an open burst nor a pending repair.
abbrev pub IsIdleThrough : Settings → ℕ → History → History → Type 0
IsIdleThrough s k [] rest = Unit {0}
IsIdleThrough s k (began tick ∷ stretch) rest = ((ticks_begun stretch ≡ 0) ⊎ (is_busy s k (stretch ++ rest) ≡ false)) × IsIdleThrough s k stretch rest
IsIdleThrough s k (item ∷ stretch) rest = (shows_life k item ≡ false) × IsIdleThrough s k stretch rest

-- It was idle through just as many ticks as the settings say, and still is.
pub record WasIdle (s : Settings) (k : ℕ) (before : History) : Type 0 where
  pub stretch : History
  pub rest : History
  pub splits : before ≡ stretch ++ rest
  pub through : IsIdleThrough s k stretch rest
  pub ticks : ticks_begun stretch ≡ s.channel.idle
  pub still : is_busy s k before ≡ false

-- Nobody is forgotten sooner.
abbrev pub NobodyIsForgottenSooner : Type 0
NobodyIsForgottenSooner =
    (s : Settings) (k : ℕ) (packet : Option Held) (before : History) → 1 ≤ s.channel.idle → IsMoment s (noted (note.Forgot k) packet ∷ before) → WasIdle s k before

-- the same at the first tick too
abbrev pub IsIdleAllThrough : Settings → ℕ → History → History → Type 0
IsIdleAllThrough s k [] rest = Unit {0}
IsIdleAllThrough s k (began tick ∷ stretch) rest = (is_busy s k (stretch ++ rest) ≡ false) × IsIdleAllThrough s k stretch rest
IsIdleAllThrough s k (item ∷ stretch) rest = (shows_life k item ≡ false) × IsIdleAllThrough s k stretch rest

-- And nobody later: after events a client that is still known, and was idle through a stretch up to now, was so for fewer ticks.
abbrev pub NobodyIsForgottenLater : Type 0
NobodyIsForgottenLater =
    (s : Settings) (k : ℕ) (events : List Event) (stretch rest : History) → 1 ≤ s.channel.idle → history_of s events ≡ stretch ++ rest → IsIdleAllThrough s k stretch rest
    → is_busy s k (history_of s events) ≡ false → is_among k (known (history_of s events)) ≡ true → ticks_begun stretch < s.channel.idle
