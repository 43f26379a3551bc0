-- What may be written of a trace for a pool.
use Rattle.std.specs.Prelude.{◌≡◌, ℕ, ◌*◌, ◌<◌, ◌≤◌, List, [], ◌++◌, length, map, filter_map, slice_index_or, Option}
use Rattle.rams_model.specs.declared.{Status.Status, Status.TheVariants.Done}
use Rattle.rams_model.specs.Service.{book, wire_sizes}
use Rattle.service_laws.specs.book_laws.{notes_in, orders_in, note_sends, order_sends}
use Rattle.server_hub.specs.{id_of, ticks_among}
use Rattle.server_hub.specs.Served.{Served}
use Rattle.trace_loop.specs.{HasEndedSo, HasStoppedSo, HasRoomSo}
use Rattle.trace_loop.specs.trace_book.trace_serving.{served_text}
use Rattle.trace_loop.specs.trace_book.{trace_text, served_by, came}
use Rattle.pool.specs.declared.link_pool.claim.Claim.{Claim}
use Rattle.pool.specs.link_pool.{Fill, PaidWithin, bytes_of, claims_of}
use Rattle.pool.specs.ledger_text.{ledger_text}
use Rattle.pool.specs.pool_loop.Routing.{pool}

-- the numbers of a trace's channels, in the order of their lines
abbrev pub numbers_in : List ℕ → List ℕ
numbers_in xs = map id_of (served_by xs)

-- so many bytes for each tick of a trace
abbrev pub granted_in : ℕ → List ℕ → ℕ
granted_in rate xs = ticks_among (came xs) * rate

-- A channel's claims: one for each packet that its one lawful book sends again, of the packet's wire size, in order. These are the packets of its Burst and Repair notes.
pub record ClaimsOf (c : Served) (claims : List Claim) : Type 0 where
  pub sizes_are : map bytes_of claims ≡ wire_sizes (orders_in (book c.settings c.events))
  pub of_notes : filter_map note_sends (notes_in (book c.settings c.events)) ≡ filter_map order_sends (orders_in (book c.settings c.events))

-- What may be written of a trace that ends as it should: the text that `run` writes for it, and the ledger of its channels on a link of this rate.
pub record IsPooled (rate : ℕ) (xs text : List ℕ) : Type 0 where
  pub ends : (trace_text xs).status ≡ Done
  -- by rising first byte
  pub claims : List Claim
  pub fill : Fill claims
  pub own : (i : ℕ) (d : Served) → i < length (served_by xs) → ClaimsOf (slice_index_or (served_by xs) i d) (claims_of i claims)
  -- there is no other claim
  pub alone : (number : ℕ) → length (served_by xs) ≤ number → claims_of number claims ≡ []
  pub paid : PaidWithin (granted_in rate xs) claims
  pub text_is : text ≡ (trace_text xs).text ++ ledger_text (numbers_in xs) (granted_in rate xs) claims

-- what may be written where the trace xs ends so
abbrev pub MayWrite : ℕ → List ℕ → Status → List ℕ → Type 0
MayWrite rate xs Done text = IsPooled rate xs text
MayWrite rate xs _ text = text ≡ (served_text pool xs).text

-- it ended as xs does, and the sink got such a text
abbrev pub HasEnded : ℕ → List ℕ → Option (List ℕ) → Option (List ℕ) → Status → Type 0
HasEnded rate xs held holds status = HasEndedSo pool (MayWrite rate) xs held holds status

-- it was stopped, and the sink got a front of such a text
abbrev pub HasStopped : ℕ → List ℕ → Option (List ℕ) → Option (List ℕ) → Type 0
HasStopped rate xs held holds = HasStoppedSo pool (MayWrite rate) xs held holds

-- a sink that is steady for so many bytes has room for each text that may be written
abbrev pub HasRoomFor : ℕ → List ℕ → (ℕ → Type 0) → Type 0
HasRoomFor rate xs room = HasRoomSo pool (MayWrite rate) xs room
