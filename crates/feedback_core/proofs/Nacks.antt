-- What a NACK gets, and how many numbers it names.
use Rattle.std.proofs.Common.{◌≡◌, ◌≢◌, ℕ, ◌+◌, ◌*◌, ◌/◌, ◌≤◌, ◌%◌, ◌-◌, List, [], ◌∷◌, ◌++◌, length, Result, Ok, Err, refl, ap, sym, ◌∙◌, subst, arith, eqb, length-append}
use Rattle.std.specs.Prelude.{filter, ◌==◌}
use Rattle.std.specs.Int.{w16, from_be_bytes, bit_at}
use Rattle.std.proofs.lemmas.Bool.{cond_both, cond-true, cond-false, eq-eqb, ne_eqb}
use Rattle.std.proofs.lemmas.List.{length-map}
use Rattle.rams_model.specs.declared.{Channel.Channel, NackFault.NackFault, Held.Held, Note.Note}
use Rattle.rams_model.specs.declared.Note.TheVariants as notes
use Rattle.rams_model.specs.Service.{Settings, named, History, hold, order_of, after_numbers, after_nack, Wanted}
use Rattle.rams_model.specs.Formats.{counted_from, word_numbers, numbers_of, nack_numbers}
use Rattle.rams_model.proofs.ListFacts.{few_passed}
use Rattle.feedback_core.specs.declared.visitor.Visitor.{Visitor}
use Rattle.feedback_core.specs.{IsVisit, AreNoted, most_of_nack}
use Rattle.feedback_core.proofs.Writing.{none_noted, idle_noted}

-- a word names at most 17 numbers
few_in_word : (pid blp : ℕ) → length (word_numbers pid blp) ≤ 17
unfolding word_numbers
few_in_word pid blp =
    let bits = filter (λ i. bit_at blp (i - 1) == 1) (counted_from 1 16) in
    let passed : length bits ≤ 16 = few_passed (λ i. bit_at blp (i - 1) == 1) (counted_from 1 16) in
    omega (arith, passed, length-map bits (λ (i : ℕ). (pid + i) % 65536))

pub few_numbers : (words : List ℕ) → length (numbers_of words) ≤ 17 * (length words / 4)
unfolding numbers_of
few_numbers [] = omega arith
few_numbers (a ∷ []) = omega arith
few_numbers (a ∷ b ∷ []) = omega arith
few_numbers (a ∷ b ∷ c ∷ []) = omega arith
few_numbers (a ∷ b ∷ c ∷ d ∷ rest) =
    let word = word_numbers (from_be_bytes w16 (a ∷ b ∷ [])) (from_be_bytes w16 (c ∷ d ∷ [])) in
    omega (arith, length-append word (numbers_of rest), few_in_word (from_be_bytes w16 (a ∷ b ∷ [])) (from_be_bytes w16 (c ∷ d ∷ [])), few_numbers rest)

-- the numbers of a NACK that is read
read_numbers : (fci numbers : List ℕ) → nack_numbers fci ≡ Ok numbers → length numbers ≤ 17 * (length fci / 4)
read_numbers fci numbers e =
    let P : Result (List ℕ) NackFault → Type 0 = λ r. r ≡ Ok numbers → length numbers ≤ 17 * (length fci / 4) in
    cond_both (eqb (length fci) 0) _ _ P (λ t q. absurd cc)
    (λ f. cond_both (eqb (length fci % 4) 0) _ _ P
    (λ t q. let same : numbers_of fci ≡ numbers = cc in subst (λ (ns : List ℕ). length ns ≤ 17 * (length fci / 4)) same (few_numbers fci)) (λ g q. absurd cc)) e

pub read_few : (fci numbers : List ℕ) → nack_numbers fci ≡ Ok numbers → length numbers ≤ most_of_nack fci
read_few fci numbers e = let count = ap (λ (r : Result (List ℕ) NackFault). length (named r)) e in omega (arith, count)

pub named_few : (fci : List ℕ) → length (named (nack_numbers fci)) ≤ 17 * (length fci / 4)
named_few fci = by_result (nack_numbers fci) refl
  where
    by_result : (r : Result (List ℕ) NackFault) → nack_numbers fci ≡ r → length (named r) ≤ 17 * (length fci / 4)
    by_result (Ok numbers) e = read_numbers fci numbers e
    by_result (Err fault) e = omega arith

-- of another media source
pub nack_foreign : (s : Settings) (before history : History) (queue : List Wanted) (v : Visitor) (media : ℕ) (numbers : List ℕ) (channel : Channel) (old new : List Note)
    → channel ≡ s.channel → media ≢ channel.ssrc → new ≡ old ++ notes.ForeignNack v.client ∷ [] → IsVisit s before history v queue
    → AreNoted s before history (after_nack s v.client media numbers history) queue v old new
unfolding order_of
nack_foreign s before history queue v media numbers channel old new ce ne e w =
    idle_noted s before history (after_nack s v.client media numbers history) queue v (notes.ForeignNack v.client) old new refl tt refl
    (cond-false (eqb media s.channel.ssrc) _ _ (ne_eqb media s.channel.ssrc (λ q. ne (q ∙ ap (λ (c : Channel). c.ssrc) (sym ce))))) e w

own_nack : (s : Settings) (held : List Held) (k media : ℕ) (numbers : List ℕ) (channel : Channel) (history : History) → channel ≡ s.channel → media ≡ channel.ssrc
    → hold s history ≡ held → after_nack s k media numbers history ≡ after_numbers s held k numbers history
own_nack s held k media numbers channel history ce me he =
    cond-true (eqb media s.channel.ssrc) _ _ (eq-eqb media s.channel.ssrc (me ∙ ap (λ (c : Channel). c.ssrc) ce))
    ∙ ap (λ (hs : List Held). after_numbers s hs k numbers history) he

pub nack_read : (s : Settings) (held : List Held) (before history : History) (queue : List Wanted) (k : ℕ) (v : Visitor) (media : ℕ) (fci numbers : List ℕ) (channel : Channel)
    (old new : List Note) → channel ≡ s.channel → media ≡ channel.ssrc → hold s history ≡ held → nack_numbers fci ≡ Ok numbers
    → AreNoted s before history (after_numbers s held k numbers history) queue v old new
    → AreNoted s before history (after_nack s k media (named (nack_numbers fci)) history) queue v old new
nack_read s held before history queue k v media fci numbers channel old new ce me he e a =
    subst (λ (h : History). AreNoted s before history h queue v old new)
    (sym (own_nack s held k media (named (nack_numbers fci)) channel history ce me he ∙ ap (λ (r : Result (List ℕ) NackFault). after_numbers s held k (named r) history) e)) a

pub nack_unread : (s : Settings) (held : List Held) (before history : History) (queue : List Wanted) (v : Visitor) (media : ℕ) (fci : List ℕ) (fault : NackFault) (channel : Channel)
    (written : List Note) → channel ≡ s.channel → media ≡ channel.ssrc → hold s history ≡ held → nack_numbers fci ≡ Err fault → IsVisit s before history v queue
    → AreNoted s before history (after_nack s v.client media (named (nack_numbers fci)) history) queue v written written
unfolding after_numbers
nack_unread s held before history queue v media fci fault channel written ce me he e w =
    none_noted s before history (after_nack s v.client media (named (nack_numbers fci)) history) queue v written
    (own_nack s held v.client media (named (nack_numbers fci)) channel history ce me he ∙ ap (λ (r : Result (List ℕ) NackFault). after_numbers s held v.client (named r) history) e) w
