-- The answers to a RAMS-T (RFC 6285, 7.4) and to a BYE (RFC 3550, 6.6), each with its cause; no two causes go together.
use Rattle.std.specs.Prelude.{◌≡◌, ℕ, ◌≢◌, IsTrue, IsFalse, List, [], ◌∷◌, ◌++◌, Some, None, IsSomeAnd, Result, Ok, Err}
use Rattle.rams_model.specs.declared.{Event.Event, TlvFault.TlvFault, Stop.Stop, Note.Note}
use Rattle.rams_model.specs.declared.Cause.TheVariants as cause
use Rattle.rams_model.specs.declared.Note.TheVariants.{Refuse, StopIdle, StopKept, StopAt, Bye, ByeIdle, End}
use Rattle.rams_model.specs.Service.{Settings, bye, stops, told, History, known, is_among, ssrc, Burst, next, open_burst, has_open, history_of}
use Rattle.rams_model.specs.Formats.{Framed, bye_names}
use Rattle.service_laws.specs.book_laws.Answering.{AnsweredBy}
use Rattle.service_laws.specs.book_laws.Stops.{IsStopFor}

-- These notes answer a RAMS-T that a client sends after this history.
pub data AnswersStop (s : Settings) (k : ℕ) (history : History) : Result Stop TlvFault → List Note → Type 0 where
  -- its TLVs don't read
  unread : (fault : TlvFault) → AnswersStop s k history (Err fault) (Refuse k 404 ∷ [])
  -- no burst is open
  idle : (stop : Stop) → open_burst s k history ≡ None → AnswersStop s k history (Ok stop) (StopIdle k ∷ [])
  -- a stop is set, and stays
  kept : (stop : Stop) (b : Burst) (n : ℕ) → open_burst s k history ≡ Some b → b.stop ≡ Some n → AnswersStop s k history (Ok stop) (StopKept k n ∷ [])
  -- the stop that it means is set
  set : (stop : Stop) (b : Burst) (n : ℕ) → open_burst s k history ≡ Some b → b.stop ≡ None → IsStopFor b.first (next b) stop.first_multicast n → n ≢ next b
      → AnswersStop s k history (Ok stop) (StopAt k n ∷ [])
  -- it is set, and all before it was sent already
  passed : (stop : Stop) (b : Burst) (n : ℕ) → open_burst s k history ≡ Some b → b.stop ≡ None → IsStopFor b.first (next b) stop.first_multicast n → n ≡ next b
      → AnswersStop s k history (Ok stop) (StopAt k n ∷ End k cause.Stopped ∷ [])

-- the BYE names the media source that the known client is known by
pub record Leaves (k : ℕ) (history : History) (p : Framed) : Type 0 where
  pub is_known : IsTrue (is_among k (known history))
  pub names : IsSomeAnd (ssrc k history) (λ source. IsTrue (bye_names p source))

-- These notes answer a BYE that a client sends after this history.
pub data AnswersBye (s : Settings) (k : ℕ) (history : History) (p : Framed) : List Note → Type 0 where
  -- it is of another source, or the client isn't known
  other : ¬ Leaves k history p → AnswersBye s k history p (ByeIdle k ∷ [])
  -- the client leaves
  left : Leaves k history p → IsFalse (has_open s k history) → AnswersBye s k history p (Bye k ∷ [])
  -- it leaves, and its burst ends
  ended : Leaves k history p → IsTrue (has_open s k history) → AnswersBye s k history p (Bye k ∷ End k cause.Bye ∷ [])

-- Each RAMS-T that a channel ever reads is answered so.
abbrev pub StopsAreAnsweredExactly : Type 0
StopsAreAnsweredExactly =
    (s : Settings) (events : List Event) (k : ℕ) (stop : Result Stop TlvFault) (later before : History)
    → history_of s events ≡ later ++ (told k (stops stop) ∷ before)
    → (notes : List Note) × AnsweredBy later notes × AnswersStop s k (told k (stops stop) ∷ before) stop notes

-- Each BYE is answered so.
abbrev pub ByesAreAnsweredExactly : Type 0
ByesAreAnsweredExactly =
    (s : Settings) (events : List Event) (k : ℕ) (p : Framed) (later before : History)
    → history_of s events ≡ later ++ (told k (bye p) ∷ before)
    → (notes : List Note) × AnsweredBy later notes × AnswersBye s k (told k (bye p) ∷ before) p notes
