-- What the tables count stands once.
use Rattle.std.proofs.Common.{◌≡◌, ℕ, ◌+◌, Bool, true, List, [], ◌∷◌, refl, ap, sym, ◌∙◌, subst, arith, eqb}
use Rattle.std.specs.Prelude.{Contains, sum_by, IsSomeAnd}
use Rattle.std.specs.List.{list_any}
use Rattle.std.proofs.lemmas.Bool.{both_ways, or_left, or_right, and_from, eq-eqb}
use Rattle.std.proofs.lemmas.List.Sums.{sum_by-cons}
use Rattle.std.proofs.lemmas.List.Folds.{list_any_at}
use Rattle.rams_model.specs.Service.{Settings, History, known, opened, is_among, open_burst, has_open, Wanted, wanted, is_wanted, pending, most_of}
use Rattle.rams_model.proofs.Since.{opened_stands}
use Rattle.rams_model.proofs.LastAccept.{open_stands}
use Rattle.service_laws.specs.book_laws.{StandOnce, SumsTo, CountsEachOnce}
use Rattle.rams_model.proofs.Legal.{IsLegal}
use Rattle.rams_model.proofs.Legality.{EachOnce, same_repair, some_of, known_once, opened_once, pending_once, pending_contains}
use Rattle.service_laws.proofs.book_laws.RequestTable.{listed_contains, contains_listed}

stand_once : {A : Type 0} (same : A → A → Bool) → ((x : A) → same x x ≡ true) → (xs : List A) → EachOnce same xs → StandOnce xs
stand_once same self [] o = tt
stand_once {A} same self (x ∷ xs) o =
    (λ c. both_ways (list_any (same x) xs) o.0 (list_any_at (same x) xs c.0 x c.1 (ap (same x) c.2 ∙ self x)), stand_once same self xs o.1)

-- each of these clients has an open burst
open_one : (s : Settings) (k : ℕ) (history : History) → has_open s k history ≡ is_among k (opened history)
open_one s k history = open_stands s k history ∙ sym (opened_stands k history)

sums_to : (s : Settings) (history : History) (ks : List ℕ) → ((k : ℕ) → is_among k ks ≡ true → has_open s k history ≡ true)
    → SumsTo s history ks (sum_by (λ k. most_of s (open_burst s k history)) ks)
sums_to s history [] all = refl
sums_to s history (k ∷ ks) all =
    let f : ℕ → ℕ = λ j. most_of s (open_burst s j history) in
    let b = some_of (open_burst s k history) (all k (or_left (eqb k k) (is_among k ks) (eq-eqb k k refl))) in
    let own : f k ≡ b.0.rate + s.channel.depth = ap (most_of s) b.1 in
    subst (λ o. IsSomeAnd o (λ c. (rest : ℕ) × (sum_by f (k ∷ ks) ≡ c.rate + s.channel.depth + rest) × SumsTo s history ks rest)) (sym b.1)
    (sum_by f ks, omega (arith, sum_by-cons f k ks, own), sums_to s history ks (λ j t. all j (or_right (eqb k j) (is_among j ks) t)))

-- a repair among others
contains_wanted : (k n : ℕ) (ws : List Wanted) → Contains ws (wanted k n) → list_any (is_wanted k n) ws ≡ true
contains_wanted k n ws c =
    list_any_at (is_wanted k n) ws c.0 (wanted k n) c.1
    (ap (is_wanted k n) c.2 ∙ and_from (eqb k k) (eqb n n) (eq-eqb k k refl) (eq-eqb n n refl))

pub counted : (s : Settings) (history : History) → IsLegal s history → CountsEachOnce s history
counted s history l = record {
  clients_once = stand_once eqb (λ x. eq-eqb x x refl) (known history) (known_once history);
  clients = λ k. (listed_contains k (known history), contains_listed k (known history));
  bursts_once = stand_once eqb (λ x. eq-eqb x x refl) (opened history) (opened_once history);
  bursts = λ k.
      (λ c. open_one s k history ∙ listed_contains k (opened history) c, λ t. contains_listed k (opened history) (sym (open_one s k history) ∙ t));
  sums = sums_to s history (opened history) (λ k t. open_one s k history ∙ t);
  repairs_once = stand_once same_repair (λ w. and_from (eqb w.client w.client) (eqb w.n w.n) (eq-eqb w.client w.client refl) (eq-eqb w.n w.n refl)) (pending history) (pending_once s history l);
  repairs = λ k n. (contains_wanted k n (pending history), pending_contains k n (pending history));
}
