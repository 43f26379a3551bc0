-- Who is known and who waits: no more clients than the settings allow, and pending repairs of known clients alone, within their limits.
use Rattle.std.proofs.Common.{◌≡◌, ℕ, ◌+◌, ◌≤◌, Bool, false, not, ⊎_elim, List, [], ◌∷◌, length, arith, eqb, leb, ltb}
use Rattle.std.specs.Prelude.{filter}
use Rattle.std.proofs.lemmas.Bool.{cond_both, and_cases, not-false, leb-false, both_ways}
use Rattle.rams_model.specs.declared.Note.TheVariants as note
use Rattle.rams_model.specs.Service.{Settings, began, told, noted, History, known, is_among, placed, with_client, Wanted, is_wanted, pending, is_full}
use Rattle.repair_queue.specs.{IsWithinLimits}
use Rattle.repair_queue.proofs.Pending.{length-filter-le, filter-filter-le, limits_less, limits_push}
use Rattle.rams_model.proofs.Legal.{IsLegal}
use Rattle.rams_model.proofs.Granting.{accept_grants, waits}

-- one more client, where there is room
length_placed : (k : ℕ) (ks : List ℕ) → length (placed k ks) ≡ length ks + 1
length_placed k [] = omega arith
length_placed k (j ∷ js) =
    cond_both (ltb k j) (k ∷ j ∷ js) (j ∷ placed k js) (λ l. length l ≡ length (j ∷ js) + 1) (λ t. omega arith) (λ f. omega (arith, length_placed k js))

few_with : (s : Settings) (k : ℕ) (history : History) → is_full s k history ≡ false → length (known history) ≤ s.channel.clients
    → length (with_client k (known history)) ≤ s.channel.clients
few_with s k history free few =
    cond_both (is_among k (known history)) (known history) (placed k (known history)) (λ l. length l ≤ s.channel.clients) (λ t. few)
    (λ out. ⊎_elim (λ f. absurd (both_ways (is_among k (known history)) out (not-false (is_among k (known history)) f)))
    (λ less. omega (arith, length_placed k (known history), leb-false s.channel.clients (length (known history)) less))
    (and_cases (not (is_among k (known history))) (leb s.channel.clients (length (known history))) free))

fewer : (test : ℕ → Bool) (ks : List ℕ) → length (filter test ks) ≤ length ks
fewer test [] = omega arith
fewer test (k ∷ ks) = cond_both (test k) (k ∷ filter test ks) (filter test ks) (λ l. length l ≤ length (k ∷ ks)) (λ t. omega (arith, fewer test ks)) (λ f. omega (arith, fewer test ks))

pub known_few : (s : Settings) (history : History) → IsLegal s history → length (known history) ≤ s.channel.clients
unfolding known
known_few s [] l = omega arith
known_few s (began heard ∷ history) l = known_few s history l
known_few s (told client message ∷ history) l = known_few s history l
known_few s (noted (note.Accept client first rate join) packet ∷ history) l =
    few_with s client history (accept_grants s history client first rate join l.0).2.room (known_few s history l.1)
known_few s (noted (note.Queued client n) packet ∷ history) l = few_with s client history (waits s history client n l.0).room (known_few s history l.1)
known_few s (noted (note.Bye client) packet ∷ history) l = omega (arith, fewer (λ j. not (eqb j client)) (known history), known_few s history l.1)
known_few s (noted (note.Forgot client) packet ∷ history) l = omega (arith, fewer (λ j. not (eqb j client)) (known history), known_few s history l.1)
known_few s (noted note packet ∷ history) l = known_few s history l.1

-- some less
less : (test : Wanted → Bool) (ws : List Wanted) → IsWithinLimits ws → IsWithinLimits (filter test ws)
less test ws limits = limits_less ws (filter test ws) limits (λ p. filter-filter-le p test ws) (length-filter-le test ws)

none : IsWithinLimits []
none = record { once = λ client n. omega arith; of_client = λ client. omega arith; in_all = omega arith }

pub pending_within : (s : Settings) (history : History) → IsLegal s history → IsWithinLimits (pending history)
unfolding pending
pending_within s [] l = none
pending_within s (began heard ∷ history) l = pending_within s history l
pending_within s (told client message ∷ history) l = pending_within s history l
pending_within s (noted (note.Queued client n) packet ∷ history) l =
    let may = waits s history client n l.0 in limits_push client n (pending history) may.new may.of_client may.in_all (pending_within s history l.1)
pending_within s (noted (note.Repair client n number) packet ∷ history) l = less (λ w. not (is_wanted client n w)) (pending history) (pending_within s history l.1)
pending_within s (noted (note.Gone client n) packet ∷ history) l = less (λ w. not (is_wanted client n w)) (pending history) (pending_within s history l.1)
pending_within s (noted (note.Bye client) packet ∷ history) l = less (λ w. not (eqb w.client client)) (pending history) (pending_within s history l.1)
pending_within s (noted note packet ∷ history) l = pending_within s history l.1
