-- All lanes together.
use Rattle.std.proofs.Common.{◌≡◌, ◌≤◌, ℕ, zero, suc, ◌+◌, ◌<◌, List, [], ◌∷◌, map, length, get_or, refl, sym, ap, ◌∙◌, subst, arith}
use Rattle.std.specs.Prelude.{All, Result, Ok, IfOk, MatchResult}
use Rattle.std.specs.List.{AllByRecursion as Each}
use Rattle.std.proofs.lemmas.List.Elements.{All-from_recursion, recursion_from_All}
use Rattle.ram_io.specs.declared.NoMemory.{NoMemory}
use Rattle.channel_book.specs.{Kept}
use Rattle.pool.specs.declared.{link_pool.claim.Claim.Claim, pool_run.lane.Lane.Lane, pool_run.lane.Job.Job, pool_run.lane.Ran.Ran}
use Rattle.pool.specs.link_pool.{Divided, Claimer, fresh_takers, bytes_of, claims_of, NotAmong}
use Rattle.pool.specs.link_pool.Parties.{claimer}
use Rattle.pool.specs.pool_run.{job, pairs, ran_of, IsFresh, CanRun, HasRun, HaveRun, ArePulled, AreBooks, ClaimsAreSizes, NoOthersClaim}
use Rattle.channel_book.specs.channel_lock.{numbers}

-- ---- before the threads

-- takers with numbers from the first on
abbrev from_number : Divided → ℕ → ℕ → List Claimer
from_number pool first n = map (λ (number : ℕ). claimer pool.pool number []) (numbers first n)

each_can : (pool : Divided) (first n : ℕ) (lanes : List Lane) → first + n ≤ 64 → Each IsFresh lanes → Each (CanRun pool) (pairs lanes (from_number pool first n))
each_can pool first n [] few fresh = tt
each_can pool first zero (lane ∷ lanes) few fresh = tt
each_can pool first (suc n) (lane ∷ lanes) few fresh = (
  record { fresh = fresh.0; made = refl; number = omega (arith, few); empty = refl },
  each_can pool (first + 1) n lanes (omega (arith, few)) fresh.1,
)

pub can_run : (pool : Divided) (n : ℕ) (lanes : List Lane) (takers : List Claimer) (jobs : List Job) → n ≤ 64 → takers ≡ fresh_takers pool.pool n → jobs ≡ pairs lanes takers → All IsFresh lanes
    → All (CanRun pool) jobs
can_run pool n lanes takers jobs few are paired fresh =
    subst (λ (js : List Job). All (CanRun pool) js) (sym (paired ∙ ap (pairs lanes) are))
    (All-from_recursion (CanRun pool) (pairs lanes (from_number pool 0 n)) (each_can pool 0 n lanes (omega (arith, few)) (recursion_from_All IsFresh lanes fresh)))

-- ---- behind them

length_pairs : (pool : Divided) (first : ℕ) (lanes : List Lane) → length (pairs lanes (from_number pool first (length lanes))) ≡ length lanes
length_pairs pool first [] = refl
length_pairs pool first (lane ∷ lanes) = ap suc (length_pairs pool (first + 1) lanes)

pair_at : (pool : Divided) (first : ℕ) (lanes : List Lane) (i : ℕ) (d : Job) (e : Lane) → i < length lanes
    → get_or (pairs lanes (from_number pool first (length lanes))) i d ≡ job (get_or lanes i e) (claimer pool.pool (first + i) [])
pair_at pool first [] i d e less = absurd (omega (arith, less))
pair_at pool first (lane ∷ lanes) zero d e less = ap (λ (k : ℕ). job lane (claimer pool.pool k [])) (omega arith)
pair_at pool first (lane ∷ lanes) (suc i) d e less =
    let at : first + 1 + i ≡ first + suc i = omega arith in
    pair_at pool (first + 1) lanes i d e (omega (arith, less)) ∙ ap (λ (k : ℕ). job (get_or lanes i e) (claimer pool.pool k [])) at

-- what is known of all lanes
pub record HasPulled (pool : Divided) (lanes : List Lane) (books : List Kept) (takers : List Claimer) : Type 0 where
  pub books_many : length books ≡ length lanes
  pub takers_many : length takers ≡ length lanes
  pub each : (i : ℕ) (e : Lane) (b : Kept) (t : Claimer) → i < length lanes → HasRun (job (get_or lanes i e) (claimer pool.pool i [])) (ran_of (get_or books i b) (get_or takers i t))

ran_at : (j : Job) (r : Ran) (outcome : Result Ran NoMemory) → outcome ≡ Ok r → MatchResult outcome (HasRun j) (λ _. Unit {0}) → HasRun j r
ran_at j r outcome is m = subst (λ (o : Result Ran NoMemory). MatchResult o (HasRun j) (λ _. Unit {0})) is m

pub at_ok : {X E : Type 0} (outcome : Result X E) (x : X) (P : X → Type 0) → outcome ≡ Ok x → IfOk outcome P → P x
at_ok {X} {E} outcome x P is holds = subst (λ (o : Result X E). IfOk o P) is holds

pub has_pulled : (pool : Divided) (lanes : List Lane) (fresh : List Claimer) (jobs : List Job) (all : List (Result Ran NoMemory)) (books : List Kept) (takers : List Claimer)
    → fresh ≡ fresh_takers pool.pool (length lanes) → jobs ≡ pairs lanes fresh → HaveRun jobs all → ArePulled all books takers → HasPulled pool lanes books takers
has_pulled pool lanes fresh jobs all books takers are paired ran pulled =
    let is : jobs ≡ pairs lanes (from_number pool 0 (length lanes)) = paired ∙ ap (pairs lanes) are in
    let many : length jobs ≡ length lanes = ap length is ∙ length_pairs pool 0 lanes in record {
      books_many = pulled.0 ∙ (ran.0 ∙ many);
      takers_many = pulled.1 ∙ (ran.0 ∙ many);
      each = λ i e b t less.
          let zero_on : 0 + i ≡ i = omega arith in
          let d : Job = job e (claimer pool.pool i []) in
          let at : get_or jobs i d ≡ job (get_or lanes i e) (claimer pool.pool i []) =
          ap (λ (js : List Job). get_or js i d) is ∙ (pair_at pool 0 lanes i d e less ∙ ap (λ (k : ℕ). job (get_or lanes i e) (claimer pool.pool k [])) zero_on) in
          let r : Ran = ran_of b t in
          subst (λ (j : Job). HasRun j (ran_of (get_or books i b) (get_or takers i t))) at
          (ran_at (get_or jobs i d) (ran_of (get_or books i b) (get_or takers i t)) (get_or all i (Ok r))
          (pulled.2 i (Ok r) r (omega (arith, less, many, ran.0)))
          (ran.1 i d (Ok r) (omega (arith, less, many))));
    }

-- a list with a place has an element
some_of : {A : Type 0} (xs : List A) (i : ℕ) → i < length xs → A
some_of [] i less = absurd (omega (arith, less))
some_of (x ∷ xs) i less = x

pub pulled_made : (pool : Divided) (lanes : List Lane) (books : List Kept) (takers : List Claimer) → HasPulled pool lanes books takers → All (λ (t : Claimer). t.pool ≡ pool.pool) takers
pulled_made pool lanes books takers h = λ i t less.
    let lane : i < length lanes = omega (arith, less, h.takers_many) in
    let book : i < length books = omega (arith, lane, h.books_many) in
    (h.each i (some_of lanes i lane) (some_of books i book) t lane).pool

pub pulled_books : (pool : Divided) (lanes : List Lane) (books : List Kept) (takers : List Claimer) → HasPulled pool lanes books takers → AreBooks lanes books
pulled_books pool lanes books takers h = (h.books_many, λ i e b less. (h.each i e b (claimer pool.pool i []) less).book)

pub pulled_claims : (pool : Divided) (lanes : List Lane) (books : List Kept) (takers : List Claimer) (claims : List Claim) → HasPulled pool lanes books takers
    → All (λ (t : Claimer). claims_of t.number claims ≡ t.claims) takers → ClaimsAreSizes books claims
pulled_claims pool lanes books takers claims h own = λ i b less.
    let t : Claimer = claimer pool.pool i [] in
    let lane : i < length lanes = omega (arith, less, h.books_many) in
    let ran = h.each i (some_of lanes i lane) b t lane in
    let mine = own i t (omega (arith, lane, h.takers_many)) in
    ap (λ (n : ℕ). map bytes_of (claims_of n claims)) (sym ran.number) ∙ (ap (map bytes_of) mine ∙ ran.claims)

-- nobody else claims
pub pulled_others : (pool : Divided) (lanes : List Lane) (books : List Kept) (takers : List Claimer) (claims : List Claim) → HasPulled pool lanes books takers
    → ((number : ℕ) → NotAmong takers number → claims_of number claims ≡ []) → NoOthersClaim books claims
pulled_others pool lanes books takers claims h none = λ number behind.
    none number
    (λ i t less same.
    let lane : i < length lanes = omega (arith, less, h.takers_many) in
    let book : i < length books = omega (arith, lane, h.books_many) in
    let own = (h.each i (some_of lanes i lane) (some_of books i book) t lane).number in
    absurd (omega (arith, own, same, book, behind)))
