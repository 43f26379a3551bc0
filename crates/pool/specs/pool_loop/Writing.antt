-- What is written of the books of some channels, and of their ledger.
use Rattle.std.specs.Prelude.{◌≡◌, ℕ, ◌++◌, List, [], length}
use Rattle.channel_book.specs.{Kept}
use Rattle.server_hub.specs.session_core.{StandsFor}
use Rattle.trace_loop.specs.trace_book.trace_serving.{done}
use Rattle.trace_loop.specs.trace_book.{first_line}
use Rattle.pool.specs.declared.{link_pool.claim.Claim.Claim, pool_run.lane.Lane.Lane, pool_loop.dealing.Coming.Coming}
use Rattle.pool.specs.declared.pool_loop.routes.Route.{Route}
use Rattle.pool.specs.ledger_text.{ledger_text}
use Rattle.pool.specs.pool_loop.Walking.{numbers_of, walk_text}

-- the end of the book of so many events, and the ledger
abbrev pub closing_text : ℕ → List ℕ → ℕ → List Claim → List ℕ
closing_text events ids granted claims = (done events).text ++ ledger_text ids granted claims

-- the book of a trace whose events went there, and the ledger
abbrev pub pooled_text : List Route → List Kept → ℕ → List Claim → List ℕ
pooled_text routes books granted claims = first_line ++ (walk_text 1 routes books ++ closing_text (length routes) (numbers_of books) granted claims)

-- The lane has the channel's settings and events, and nothing came to its core.
pub record IsLaneOf (c : Coming) (lane : Lane) : Type 0 where
  pub settings : lane.core.settings ≡ c.config
  pub stands : StandsFor lane.core []
  pub events : lane.events.items ≡ c.events.items
