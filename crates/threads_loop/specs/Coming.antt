-- What may come of a trace for threads.
use Rattle.std.specs.Prelude.{◌≡◌, ℕ, List, [], ◌∷◌, ◌++◌, map, reverse, Option}
use Rattle.rams_model.specs.declared.{Event.Event, Status.Status, Status.TheVariants.Done}
use Rattle.rams_model.specs.Service.{Settings}
use Rattle.server_hub.specs.{served}
use Rattle.trace_loop.specs.{HasEndedSo, HasStoppedSo, HasRoomSo}
use Rattle.trace_loop.specs.trace_book.trace_serving.{served_text, last_stage}
use Rattle.trace_loop.specs.trace_book.{trace_text}
use Rattle.trace_loop.specs.journal_book.{journal_of}
use Rattle.threads_loop.specs.Dealing.{threads, hub_event, head_lines, Interleaves}

-- Of a trace xs this one may come: it has the same lines of head and channel, and its events are an interleaving of the lists into which those of xs are dealt.
pub record MayCome (workers : ℕ) (xs trace : List ℕ) : Type 0 where
  -- the channel of xs, and what came to it, the newest first
  pub settings : Settings
  pub came : List Event
  pub channel : (last_stage threads xs).state ≡ served settings came ∷ []
  pub events : List Event
  pub interleaves : Interleaves workers (reverse came) events
  pub trace_is : trace ≡ journal_of (head_lines xs) (map (hub_event settings.channel.id) events)

-- What may be written where the trace xs ends so: a trace that may come of it, which `run` reads to its end, and the book that `run` writes for that; or how xs ends, in one line.
abbrev pub MayWrite : ℕ → List ℕ → Status → List ℕ → Type 0
MayWrite workers xs Done text = (trace : List ℕ) × MayCome workers xs trace × ((trace_text trace).status ≡ Done) × (text ≡ trace ++ (trace_text trace).text)
MayWrite workers xs _ text = text ≡ (served_text threads xs).text

-- it ended as xs does, and the sink got such a text
abbrev pub HasEnded : ℕ → List ℕ → Option (List ℕ) → Option (List ℕ) → Status → Type 0
HasEnded workers xs held holds status = HasEndedSo threads (MayWrite workers) xs held holds status

-- it was stopped, and the sink got a front of such a text
abbrev pub HasStopped : ℕ → List ℕ → Option (List ℕ) → Option (List ℕ) → Type 0
HasStopped workers xs held holds = HasStoppedSo threads (MayWrite workers) xs held holds

-- a sink that is steady for so many bytes has room for each text that may be written
abbrev pub HasRoomFor : ℕ → List ℕ → (ℕ → Type 0) → Type 0
HasRoomFor workers xs room = HasRoomSo threads (MayWrite workers) xs room
