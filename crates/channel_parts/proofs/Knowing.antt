-- Who is known and who has an open burst, item by item; pending repairs are of known clients.
use Rattle.std.proofs.Common.{◌≡◌, ℕ, ◌≤◌, Bool, true, false, not, ◌&&◌, ⊎_elim, List, [], ◌∷◌, ◌++◌, refl, sym, ◌∙◌, arith, eqb}
use Rattle.std.specs.Prelude.{filter}
use Rattle.std.specs.List.{list_any, AllByRecursion as Each}
use Rattle.std.proofs.lemmas.Bool.{cond_both, cond-true, cases_Bool, or_left, or_right, or_parts, and_from, not_from_false, not-true, eqb-false, eq-eqb, ne_eqb}
use Rattle.rams_model.specs.declared.Note.TheVariants as note
use Rattle.rams_model.specs.Service.{Settings, Item, began, told, noted, History, known, is_among, has_open, Wanted, wanted, is_wanted, pending, is_busy, quiet_ticks, idle}
use Rattle.rams_model.specs.Laws.{makes_known, ends_known}
use Rattle.rams_model.proofs.Since.{known_step}
use Rattle.rams_model.proofs.Legal.{IsForgotten, IsLegal}
use Rattle.rams_model.proofs.Legality.{each_other}
use Rattle.rams_model.proofs.ListFacts.{each_weaker}

pub still_known : (k : ℕ) (i : Item) (history : History) → ends_known k i ≡ false → is_among k (known history) ≡ true → is_among k (known (i ∷ history)) ≡ true
still_known k i history stays e =
    known_step k i history ∙ or_right (makes_known k i) (not (ends_known k i) && is_among k (known history))
    (and_from (not (ends_known k i)) (is_among k (known history)) (not_from_false (ends_known k i) stays) e)

pub made_known : (k : ℕ) (i : Item) (history : History) → makes_known k i ≡ true → is_among k (known (i ∷ history)) ≡ true
made_known k i history m = known_step k i history ∙ or_left (makes_known k i) (not (ends_known k i) && is_among k (known history)) m

-- a client with a long idle count isn't busy
pub idle_not_busy : (s : Settings) (k : ℕ) (history : History) → 1 ≤ idle s k history → is_busy s k history ≡ false
idle_not_busy s k history some =
    ⊎_elim (λ t. absurd (omega (arith, some, cond-true (is_busy s k history) 0 (quiet_ticks s k history) t))) (λ f. f) (cases_Bool (is_busy s k history))

-- So a client that is forgotten has neither an open burst nor a pending repair.
pub forgotten_rests : (s : Settings) (k : ℕ) (history : History) → 1 ≤ s.channel.idle → IsForgotten s history k
    → (has_open s k history ≡ false) × (list_any (λ w. eqb w.client k) (pending history) ≡ false)
forgotten_rests s k history some f =
    or_parts (has_open s k history) (list_any (λ w. eqb w.client k) (pending history)) (idle_not_busy s k history (omega (arith, some, f.is_idle)))

-- what passes, of what has P, has Q
passed : (test : Wanted → Bool) (P Q : Wanted → Type 0) → ((w : Wanted) → test w ≡ true → P w → Q w) → (ws : List Wanted) → Each P ws → Each Q (filter test ws)
passed test P Q f [] a = tt
passed test P Q f (w ∷ ws) a =
    cond_both (test w) (w ∷ filter test ws) (filter test ws) (Each Q) (λ t. (f w t a.0, passed test P Q f ws a.1)) (λ n. passed test P Q f ws a.1)

-- the repair's client is known
abbrev pub OfKnown : History → Wanted → Type 0
OfKnown history w = is_among w.client (known history) ≡ true

of_known : (i : Item) (history : History) → ((w : Wanted) → ends_known w.client i ≡ false) → (ws : List Wanted) → Each (OfKnown history) ws → Each (OfKnown (i ∷ history)) ws
of_known i history stays ws a = each_weaker (OfKnown history) (OfKnown (i ∷ history)) (λ w e. still_known w.client i history (stays w) e) ws a

pushed : (P : Wanted → Type 0) (ws : List Wanted) (w : Wanted) → Each P ws → P w → Each P (ws ++ w ∷ [])
pushed P [] w a p = (p, tt)
pushed P (v ∷ ws) w a p = (a.0, pushed P ws w a.1 p)

pub pending_known : (s : Settings) (history : History) → 1 ≤ s.channel.idle → IsLegal s history → Each (OfKnown history) (pending history)
unfolding known pending
pending_known s [] some l = tt
pending_known s (began heard ∷ history) some l = pending_known s history some l
pending_known s (told client message ∷ history) some l = pending_known s history some l
pending_known s (noted (note.Accept client first rate join) packet ∷ history) some l =
    of_known (noted (note.Accept client first rate join) packet) history (λ w. refl) (pending history) (pending_known s history some l.1)
pending_known s (noted (note.Queued client n) packet ∷ history) some l =
    let i = noted (note.Queued client n) packet in
    pushed (OfKnown (i ∷ history)) (pending history) (wanted client n)
    (of_known i history (λ w. refl) (pending history) (pending_known s history some l.1)) (made_known client i history (eq-eqb client client refl))
pending_known s (noted (note.Repair client n number) packet ∷ history) some l =
    passed (λ w. not (is_wanted client n w)) (OfKnown history) (OfKnown history) (λ w t e. e) (pending history) (pending_known s history some l.1)
pending_known s (noted (note.Gone client n) packet ∷ history) some l =
    passed (λ w. not (is_wanted client n w)) (OfKnown history) (OfKnown history) (λ w t e. e) (pending history) (pending_known s history some l.1)
pending_known s (noted (note.Bye client) packet ∷ history) some l =
    let i = noted (note.Bye client) packet in
    passed (λ w. not (eqb w.client client)) (OfKnown history) (OfKnown (i ∷ history))
    (λ w t e. let other = not-true (eqb w.client client) t in
    still_known w.client i history (ne_eqb client w.client (λ same. eqb-false w.client client other (sym same))) e)
    (pending history) (pending_known s history some l.1)
pending_known s (noted (note.Forgot client) packet ∷ history) some l =
    let i = noted (note.Forgot client) packet in
    each_other (λ w. eqb w.client client) (OfKnown history) (OfKnown (i ∷ history))
    (λ w other e. still_known w.client i history (ne_eqb client w.client (λ same. eqb-false w.client client other (sym same))) e)
    (pending history) (forgotten_rests s client history some l.0).1 (pending_known s history some l.1)
pending_known s (noted note packet ∷ history) some l = pending_known s history some l.1
