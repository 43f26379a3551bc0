-- Lanes, and what they leave.
use Rattle.std.specs.Prelude.{◌≡◌, ℕ, ◌<◌, ◌≤◌, List, [], map, length, slice_index_or, Result, Ok, MatchResult}
use Rattle.std.specs.List.{zip}
use Rattle.rams_model.specs.declared.Event.{Event}
use Rattle.rams_model.specs.Service.{Settings}
use Rattle.channel_book.specs.declared.Entry.{Entry}
use Rattle.channel_book.specs.{IsLegal, Kept}
use Rattle.server_hub.specs.session_core.{StandsFor}
use Rattle.pool.specs.declared.{link_pool.claim.Claim.Claim, pool_run.lane.Lane.Lane, pool_run.lane.Job.Job, pool_run.lane.Ran.Ran}
use Rattle.pool.specs.link_pool.{Divided, Claimer, bytes_of, claims_of}
use Rattle.ram_io.specs.declared.NoMemory.{NoMemory}
use Rattle.pool.specs.pool_run.Sizes.{sizes_of}

-- Nothing came to the lane's channel yet, and it has at most 200,000 events.
pub record IsFresh (lane : Lane) : Type 0 where
  pub stands : StandsFor lane.core []
  pub few : length lane.events.items ≤ 200000

-- The book is the one that one thread makes of these events: each has its lawful answer after the events before it.
pub record IsBookOf (s : Settings) (events : List Event) (book : Kept) : Type 0 where
  pub settings : book.settings ≡ s
  pub events_are : map (λ (e : Entry). e.event) book.entries ≡ events
  pub legal : IsLegal s book.entries

-- The lane is fresh, and its taker is of this pool, which has at most 64, and without claims.
pub record CanRun (pool : Divided) (job : Job) : Type 0 where
  pub fresh : IsFresh job.lane
  pub made : job.taker.pool ≡ pool.pool
  pub number : job.taker.number < 64
  pub empty : job.taker.claims ≡ []

-- The lane's events were taken, and the wire size of each packet that was sent again was claimed, in order.
pub record HasRun (job : Job) (ran : Ran) : Type 0 where
  pub book : IsBookOf job.lane.core.settings job.lane.events.items ran.book
  pub pool : ran.taker.pool ≡ job.taker.pool
  pub number : ran.taker.number ≡ job.taker.number
  pub claims : map bytes_of ran.taker.claims ≡ sizes_of ran.book.entries

abbrev pub job : Lane → Claimer → Job
job lane taker = record { lane = lane; taker = taker }

-- each lane with the taker of its place
abbrev pub pairs : List Lane → List Claimer → List Job
pairs lanes takers = map (λ (p : Lane × Claimer). job p.0 p.1) (zip lanes takers)

-- where a lane had memory, it has run
abbrev pub HaveRun : List Job → List (Result Ran NoMemory) → Type 0
HaveRun jobs all = (length all ≡ length jobs)
    × ((i : ℕ) (d : Job) (r : Result Ran NoMemory) → i < length jobs → MatchResult (slice_index_or all i r) (HasRun (slice_index_or jobs i d)) (λ _. Unit {0}))

abbrev pub ran_of : Kept → Claimer → Ran
ran_of book taker = record { book = book; taker = taker }

-- each lane had memory, and its book and its taker stand at its place
abbrev pub ArePulled : List (Result Ran NoMemory) → List Kept → List Claimer → Type 0
ArePulled all books takers = (length books ≡ length all) × (length takers ≡ length all)
    × ((i : ℕ) (r : Result Ran NoMemory) (d : Ran) → i < length all → slice_index_or all i r ≡ Ok (ran_of (slice_index_or books i d.book) (slice_index_or takers i d.taker)))

-- The book of each lane stands at its place.
abbrev pub AreBooks : List Lane → List Kept → Type 0
AreBooks lanes books = (length books ≡ length lanes)
    × ((i : ℕ) (d : Lane) (e : Kept) → i < length lanes → IsBookOf (slice_index_or lanes i d).core.settings (slice_index_or lanes i d).events.items (slice_index_or books i e))

-- The claims of each lane are the wire sizes of the packets that its book sends again, in their order.
abbrev pub ClaimsAreSizes : List Kept → List Claim → Type 0
ClaimsAreSizes books claims = (i : ℕ) (d : Kept) → i < length books → map bytes_of (claims_of i claims) ≡ sizes_of (slice_index_or books i d).entries

-- No claim has a number behind those of the lanes.
abbrev pub NoOthersClaim : List Kept → List Claim → Type 0
NoOthersClaim books claims = (number : ℕ) → length books ≤ number → claims_of number claims ≡ []
