-- The threads of the lists of one channel: what each starts with, and what it leaves.
use Rattle.std.specs.Prelude.{◌≡◌, ℕ, ◌<◌, List, [], map, length, slice_index_or, Result, Ok, Err, IfOk}
use Rattle.atomic_table.specs.Seated.{TableId}
use Rattle.rams_model.specs.declared.Event.{Event}
use Rattle.rams_model.specs.Service.{Settings}
use Rattle.std.specs.Global.{Vec}
use Rattle.ram_io.specs.declared.NoMemory.{NoMemory}
use Rattle.channel_book.specs.channel_lock.{fresh}
use Rattle.threads_loop.specs.declared.{session_worker.live_writer.writer.Placed.Placed, session_worker.worker.Worker.Worker}
use Rattle.threads_loop.specs.session_worker.live_writer.{HasWritten}

-- the datagrams of some calls
abbrev pub queue_of : Vec Placed → List (List (List ℕ))
queue_of placed = map (λ (p : Placed). p.datagrams.items) placed.items

abbrev pub drawn_in : Result (Vec Placed) NoMemory → List (List (List ℕ))
drawn_in (Ok placed) = queue_of placed
drawn_in (Err e) = []

-- the datagrams of the calls of a worker
abbrev pub drawn_by : Worker → List (List (List ℕ))
drawn_by w = drawn_in w.wrote

-- the events that a worker is still to take
abbrev pub events_of : Worker → List Event
events_of w = w.events.items

-- the workers have the passes of a new lock
abbrev pub AreReady : TableId → Settings → List Worker → Type 0
AreReady lock s workers = map (λ (w : Worker). w.pass) workers ≡ fresh lock s (length workers)

-- The worker of a list has its pass of this lock, and where memory sufficed it has taken all of the list's events.
pub record HasWorked (lock : TableId) (s : Settings) (list : ℕ) (events : List Event) (w : Worker) : Type 0 where
  pub lock_is : w.pass.lock ≡ lock
  pub list_is : w.pass.list ≡ list
  pub wrote : IfOk w.wrote (λ placed. HasWritten list s events [] placed.items w.pass.seen)

-- there is a worker for each list
abbrev pub HaveWorked : TableId → Settings → List (List Event) → List Worker → Type 0
HaveWorked lock s lists workers =
    (length workers ≡ length lists) × ((list : ℕ) (w : Worker) → list < length lists → HasWorked lock s list (slice_index_or lists list []) (slice_index_or workers list w))
