-- The clients with an open burst, by rising number, each with its key.
use Rattle.std.specs.Prelude.{◌≡◌, ℕ, ◌<◌, ◌≤◌, ◌==◌, nat_lt, if◌then◌else◌, Bool, true, false, List, [], ◌∷◌, length, slice_index_or}
use Rattle.std.specs.List.{AllByRecursion}

-- each client is below those after it
abbrev pub Rise : List (ℕ × ℕ) → Type 0
Rise [] = Unit {0}
Rise (e ∷ es) = AllByRecursion (λ d. e.0 < d.0) es × Rise es

-- with a client, in its place, where it isn't among them
abbrev pub opened_at : ℕ → ℕ → List (ℕ × ℕ) → List (ℕ × ℕ)
opened_at client key [] = (client, key) ∷ []
opened_at client key (e ∷ es) =
    if nat_lt client e.0 then (client, key) ∷ e ∷ es else (if client == e.0 then e ∷ es else e ∷ opened_at client key es)

-- without a client
abbrev pub closed_at : ℕ → List (ℕ × ℕ) → List (ℕ × ℕ)
closed_at client [] = []
closed_at client (e ∷ es) = if client == e.0 then es else e ∷ closed_at client es

-- after a client had one or had none, and now has one or has none
abbrev pub marked : Bool → Bool → ℕ → ℕ → List (ℕ × ℕ) → List (ℕ × ℕ)
marked true true client key es = es
marked true false client key es = closed_at client es
marked false true client key es = opened_at client key es
marked false false client key es = es

-- the client of a place
abbrev pub client_at : List (ℕ × ℕ) → ℕ → ℕ
client_at es place = (slice_index_or es place (0, 0)).0

-- a client stands there
pub record IsPlace (client : ℕ) (es : List (ℕ × ℕ)) (place : ℕ) : Type 0 where
  pub within : place < length es
  pub there : client_at es place ≡ client

-- a client stands nowhere, and would stand there
pub record IsGap (client : ℕ) (es : List (ℕ × ℕ)) (place : ℕ) : Type 0 where
  pub within : place ≤ length es
  pub below : (k : ℕ) → k < place → client_at es k < client
  pub above : (k : ℕ) → place ≤ k → k < length es → client < client_at es k
