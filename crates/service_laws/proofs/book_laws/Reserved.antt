-- What the open bursts reserve fits the share.
use Rattle.std.proofs.Common.{◌≡◌, ℕ, ◌+◌, ◌-◌, ◌≤◌, true, false, cond, ⊎_elim, List, [], ◌∷◌, Option, Some, None, refl, ap, sym, ◌∙◌, subst, arith, eqb}
use Rattle.std.specs.List.{sum_by}
use Rattle.std.proofs.lemmas.Bool.{cond_both, cond-true, cond-false, cases_Bool, eqb-true, eq-eqb, or_left}
use Rattle.rams_model.specs.declared.Held.{Held}
use Rattle.rams_model.specs.declared.Note.TheVariants as note
use Rattle.rams_model.specs.Service.{Settings, tick, began, told, noted, History, opened, is_among, placed, with_client, without, Burst, bursts, open_burst, has_open, most_of, reserved}
use Rattle.rams_model.proofs.Legal.{IsLegal}
use Rattle.rams_model.proofs.Granting.{accept_grants, update_grants}
use Rattle.rams_model.proofs.LastAccept.{opened_open}
use Rattle.rams_model.proofs.ListFacts.{apart}
use Rattle.service_laws.proofs.book_laws.Sums.{one_at, times, all_sum, sum_without, sum_placed, times-none, times-among, others_sum, one_changed, part_of_sum}
use Rattle.service_laws.proofs.book_laws.BurstAmounts.{open_among, closed_among, most_falls, most_begun, most_changed, most_at_tick, of_others}

-- a client's burst in a sum over clients
abbrev most_at : Settings → History → ℕ → ℕ
most_at s history k = most_of s (open_burst s k history)

-- a new burst
more_reserved : (s : Settings) (history : History) (k first rate join : ℕ) (packet : Option Held) → open_burst s k history ≡ None
    → reserved s (noted (note.Accept k first rate join) packet ∷ history) ≤ reserved s history + rate + s.channel.depth
unfolding opened
more_reserved s history k first rate join packet none =
    let later = noted (note.Accept k first rate join) packet ∷ history in
    let ks = opened history in
    let out = closed_among s k history none in
    let f = most_at s later in
    let placed_is : with_client k ks ≡ placed k ks = cond-false (is_among k ks) ks (placed k ks) out in
    let others = others_sum f (most_at s history) k ks (times-none k ks out)
    (λ j away. omega (arith, ap (most_of s) (of_others s j (note.Accept k first rate join) packet history (apart j k away)))) in
    omega (arith, ap (sum_by f) placed_is, sum_placed f k ks, most_begun s k first rate join packet history, others)

-- each client stands once among those with an open burst
one_more : (j k : ℕ) (ks : List ℕ) → is_among j ks ≡ false → times k ks ≤ 1 → times k (placed j ks) ≤ 1
one_more j k ks out once =
    let sum = sum_placed (one_at k) j ks in
    ⊎_elim (λ t. omega (arith, sum, cond-true {A = ℕ} (eqb j k) 1 0 t, times-none k ks (subst (λ (i : ℕ). is_among i ks ≡ false) (eqb-true j k t) out)))
    (λ f. omega (arith, sum, cond-false {A = ℕ} (eqb j k) 1 0 f)) (cases_Bool (eqb j k))

pub times-opened : (k : ℕ) (history : History) → times k (opened history) ≤ 1
unfolding opened
times-opened k [] = omega arith
times-opened k (began heard ∷ history) = times-opened k history
times-opened k (told client message ∷ history) = times-opened k history
times-opened k (noted (note.Accept client first rate join) packet ∷ history) =
    let ks = opened history in
    cond_both (is_among client ks) ks (placed client ks) (λ l. times k l ≤ 1) (λ t. times-opened k history) (λ out. one_more client k ks out (times-opened k history))
times-opened k (noted (note.End client cause) packet ∷ history) = omega (arith, sum_without (one_at k) client (opened history), times-opened k history)
times-opened k (noted note packet ∷ history) = times-opened k history

-- another rate
changed_reserved : (s : Settings) (history : History) (k rate join : ℕ) (packet : Option Held) (b : Burst) → open_burst s k history ≡ Some b
    → reserved s (noted (note.Update k rate join) packet ∷ history) ≤ reserved s history - b.rate + rate
unfolding opened
changed_reserved s history k rate join packet b is =
    let f = most_at s (noted (note.Update k rate join) packet ∷ history) in
    let g = most_at s history in
    let ks = opened history in
    let among = open_among s k history b is in
    let changed = one_changed f g k ks (times-opened k history) among
    (λ j away. omega (arith, ap (most_of s) (of_others s j (note.Update k rate join) packet history (apart j k away)))) in
    omega (arith, changed, part_of_sum g k ks among, ap (most_of s) is, most_changed s k rate join packet history b is)

-- where a burst is open, what is reserved leaves the reserve
abbrev Fits : Settings → History → Type 0
Fits s history = (k : ℕ) → is_among k (opened history) ≡ true → reserved s history + s.channel.reserve ≤ s.channel.share

among_others : (k client : ℕ) (ks : List ℕ) → is_among k (without client ks) ≡ true → is_among k ks ≡ true
among_others k client ks e =
    ⊎_elim (λ t. t)
    (λ f. absurd (omega (arith, times-among k (without client ks) e, sum_without (one_at k) client ks, times-none k ks f))) (cases_Bool (is_among k ks))

pub fits : (s : Settings) (history : History) → IsLegal s history → Fits s history
unfolding opened bursts
fits s [] l k e = absurd cc
fits s (began tick ∷ history) l k e =
    omega (arith, all_sum (most_at s (began tick ∷ history)) (most_at s history) (opened history) (λ j. most_at_tick s j history), fits s history l k e)
fits s (began heard ∷ history) l k e = fits s history l k e
fits s (told client message ∷ history) l k e = fits s history l k e
fits s (noted (note.Accept client first rate join) packet ∷ history) l k e =
    let g = (accept_grants s history client first rate join l.0).2 in omega (arith, g.fits, more_reserved s history client first rate join packet g.none)
fits s (noted (note.Update client rate join) packet ∷ history) l k e =
    let g = update_grants s history client rate join l.0 in omega (arith, g.fits, changed_reserved s history client rate join packet g.burst g.is_open)
fits s (noted (note.End client cause) packet ∷ history) l k e =
    let ks = opened history in
    let f = most_at s (noted (note.End client cause) packet ∷ history) in
    omega (arith, sum_without f client ks, all_sum f (most_at s history) ks (λ j. most_falls s j (note.End client cause) packet history refl), fits s history l.1 k (among_others k client ks e))
fits s (noted note packet ∷ history) l k e =
    omega (arith, all_sum (most_at s (noted note packet ∷ history)) (most_at s history) (opened history) (λ j. most_falls s j note packet history refl), fits s history l.1 k e)

-- what is reserved is within the share
sum_within : (f : ℕ → ℕ) (spare share : ℕ) (ks : List ℕ) → ((k : ℕ) → is_among k ks ≡ true → sum_by f ks + spare ≤ share) → sum_by f ks ≤ share
sum_within f spare share [] within = omega arith
sum_within f spare share (j ∷ js) within = let w = within j (or_left (eqb j j) (is_among j js) (eq-eqb j j refl)) in omega (arith, w)

pub within_share : (s : Settings) (history : History) → IsLegal s history → reserved s history ≤ s.channel.share
within_share s history l = sum_within (most_at s history) s.channel.reserve s.channel.share (opened history) (fits s history l)

-- each client with an open burst counts once
pub counts_once : (s : Settings) (k : ℕ) (history : History) → times k (opened history) ≡ cond (has_open s k history) 1 0
counts_once s k history =
    let ks = opened history in
    let once = times-opened k history in
    let same = opened_open s k history in
    ⊎_elim (λ t. omega (arith, times-among k ks t, cond-true {A = ℕ} (has_open s k history) 1 0 (sym same ∙ t)))
    (λ f. omega (arith, times-none k ks f, cond-false {A = ℕ} (has_open s k history) 1 0 (sym same ∙ f))) (cases_Bool (is_among k ks))
