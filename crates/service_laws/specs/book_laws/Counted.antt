-- What the tables count: the known clients, the open bursts and what they reserve, the pending repairs.
use Rattle.std.specs.Prelude.{◌≡◌, ℕ, ◌+◌, IsTrue, ◌↔◌, List, [], ◌∷◌, Contains}
use Rattle.rams_model.specs.Service.{Settings, History, known, opened, is_among, has_open, wanted, pending, is_pending, reserved}
use Rattle.service_laws.specs.book_laws.Moments.{IsMoment}
use Rattle.service_laws.specs.book_laws.Refusals.{HasBurst}

-- nothing stands twice
abbrev pub StandOnce : {A : Type 0} → List A → Type 0
StandOnce [] = Unit {0}
StandOnce (x ∷ xs) = (¬ Contains xs x) × StandOnce xs

-- a rate and a depth for each client's open burst: what it may be sent in a tick at most
abbrev pub SumsTo : Settings → History → List ℕ → ℕ → Type 0
SumsTo s history [] total = total ≡ 0
SumsTo s history (k ∷ ks) total = HasBurst s k history (λ b. (rest : ℕ) × (total ≡ b.rate + s.channel.depth + rest) × SumsTo s history ks rest)

-- Each thing that is counted is counted once, and nothing else is.
pub record CountsEachOnce (s : Settings) (history : History) : Type 0 where
  pub clients_once : StandOnce (known history)
  pub clients : (k : ℕ) → Contains (known history) k ↔ IsTrue (is_among k (known history))
  pub bursts_once : StandOnce (opened history)
  pub bursts : (k : ℕ) → Contains (opened history) k ↔ IsTrue (has_open s k history)
  pub sums : SumsTo s history (opened history) (reserved s history)
  pub repairs_once : StandOnce (pending history)
  pub repairs : (k n : ℕ) → Contains (pending history) (wanted k n) ↔ IsTrue (is_pending k n history)

-- The known clients are counted each once, and so are the pending repairs; what is reserved is the sum over the open bursts.
abbrev pub WhatIsCountedStandsOnce : Type 0
WhatIsCountedStandsOnce = (s : Settings) (history : History) → IsMoment s history → CountsEachOnce s history
