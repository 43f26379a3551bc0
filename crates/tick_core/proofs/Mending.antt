-- The pending repairs of a tick, on the history and on what clients may take.
use Rattle.std.proofs.Common.{◌≡◌, ℕ, ◌+◌, ◌-◌, ◌<◌, Bool, true, false, cond, ◌&&◌, ◌||◌, List, [], ◌∷◌, Option, Some, None, refl, ap, sym, ◌∙◌, subst, arith, eqb, leb, IfSome}
use Rattle.std.specs.Option.{option_map}
use Rattle.std.specs.List.{AllByRecursion as Each}
use Rattle.std.proofs.lemmas.Bool.{cond_both, cond-true, eq-eqb, eqb-true, eqb-false}
use Rattle.rams_model.specs.declared.{Held.Held, Note.TheVariants.Repair, Note.TheVariants.Gone}
use Rattle.rams_model.specs.Service.{Settings, noted, History, as_tick_began, is_among, sendings, sequence, after_note, size_of, bursts, open_burst, Wanted, sent_now, is_repair_of, run_left, kept_from_repairs, may_take, channel_left, repaired, all_repaired}
use Rattle.rams_model.specs.Packets.{following}
use Rattle.rams_model.specs.Service.Bursts as model
use Rattle.channel_cache.specs.packet_ring.{packet_of}
use Rattle.channel_cache.proofs.packet_ring.Following.{has_its_number}
use Rattle.tick_core.specs.declared.allowance.Allowance.{Allowance}
use Rattle.tick_draft.specs.{with_packet}
use Rattle.tick_core.specs.{Repaired, Rise, clients_of, allowance_for, after_repair, with_taken, fits, waiting, with_repair, with_wanted, with_all_wanted}
use Rattle.tick_core.proofs.Placing.{clients_stay}
use Rattle.tick_core.proofs.Sparing.{one, spares, spared}
use Rattle.tick_core.proofs.Shown.{Shows, shows_repair, shows_gone}
use Rattle.tick_core.proofs.Serving.{IsAllowed, repair_open, repair_sequence}
use Rattle.tick_core.proofs.Rounds.{repair_spares, allowed_kept}

-- a repair changes nothing of what its client's burst keeps back
kept_same : (s : Settings) (held : List Held) (left k n seq size : ℕ) (o : Option model.Burst) → kept_from_repairs s held left (option_map (after_note s (Repair k n seq) size) o) ≡ kept_from_repairs s held left o
kept_same s held left k n seq size None = refl
kept_same s held left k n seq size (Some b) = refl

-- what a client's repairs may take after one
pub repair_may_take : (s : Settings) (held : List Held) (k n seq : ℕ) (packet : Option Held) (history : History)
    → may_take s held k (noted (Repair k n seq) packet ∷ history) ≡ may_take s held k history - size_of packet
unfolding sent_now as_tick_began
repair_may_take s held k n seq packet history =
    let left = run_left s k history in
    let sent = sent_now (is_repair_of k) history in
    let back = kept_from_repairs s held left (open_burst s k history) in
    ap (λ (o : Option model.Burst). left - kept_from_repairs s held left o - cond (eqb k k) (sent + size_of packet) sent) (repair_open s k n seq packet history)
    ∙ (ap (λ (m : ℕ). left - m - cond (eqb k k) (sent + size_of packet) sent) (kept_same s held left k n seq (size_of packet) (open_burst s k history))
    ∙ (ap (λ (m : ℕ). left - back - m) (cond-true (eqb k k) (sent + size_of packet) sent (eq-eqb k k refl)) ∙ omega arith))

pub record IsMended (s : Settings) (held : List Held) (history : History) (r : Repaired) : Type 0 where
  pub shows : Shows s history r.draft
  pub allowed : Each (IsAllowed s held history) r.allowances
  pub rise : Rise (clients_of r.allowances)

-- a client's allowance is one of them
found_allowed : (s : Settings) (held : List Held) (history : History) (k : ℕ) (l : List Allowance) (a : Allowance) → Each (IsAllowed s held history) l → allowance_for k l ≡ Some a → IsAllowed s held history a × (a.client ≡ k)
found_allowed s held history k [] a each is = absurd cc
found_allowed s held history k (x ∷ l) a each is =
    cond_both (eqb x.client k) (Some x) (allowance_for k l) (λ o. o ≡ Some a → IsAllowed s held history a × (a.client ≡ k))
    (λ t e. let there : x ≡ a = cc in (subst (IsAllowed s held history) there each.0, sym (ap (λ (y : Allowance). y.client) there) ∙ eqb-true x.client k t))
    (λ f e. found_allowed s held history k l a each.1 e) is

is_found : (k : ℕ) (l : List Allowance) → is_among k (clients_of l) ≡ true → allowance_for k l ≡ None → ⊥
is_found k [] among none = cc
is_found k (x ∷ l) among none =
    cond_both (eqb x.client k) (Some x) (allowance_for k l) (λ o. o ≡ None → ⊥) (λ t e. cc)
    (λ f e. is_found k l (subst (λ (b : Bool). (b || is_among k (clients_of l)) ≡ true) f among) e) none

-- the others stay as they are
others_allowed : (s : Settings) (held : List Held) (k n seq : ℕ) (packet : Option Held) (history : History) (l : List Allowance) → Each (λ j. k < j) (clients_of l) → Each (IsAllowed s held history) l
    → Each (IsAllowed s held (noted (Repair k n seq) packet ∷ history)) l
others_allowed s held k n seq packet history [] above each = tt
others_allowed s held k n seq packet history (x ∷ l) above each =
    let passes = repair_spares k x.client (λ same. omega (arith, above.0, same)) in
    (allowed_kept s held x history _ (spared s x.client history _ (one (spares x.client) (Repair k n seq) packet history (passes.sends n seq))) each.0, others_allowed s held k n seq packet history l above.1 each.1)

one_allowed : (s : Settings) (held : List Held) (n seq : ℕ) (packet : Option Held) (history : History) (x : Allowance) → IsAllowed s held history x → IsAllowed s held (noted (Repair x.client n seq) packet ∷ history) (after_repair x (size_of packet))
one_allowed s held n seq packet history x allowed = record {
  may_take_is = repair_may_take s held x.client n seq packet history ∙ ap (λ (m : ℕ). m - size_of packet) allowed.may_take_is;
  seq_is = repair_sequence s x.client n seq packet history ∙ ap following allowed.seq_is;
}

taken_allowed : (s : Settings) (held : List Held) (k n seq : ℕ) (packet : Option Held) (history : History) (l : List Allowance) → Rise (clients_of l) → Each (IsAllowed s held history) l
    → Each (IsAllowed s held (noted (Repair k n seq) packet ∷ history)) (with_taken k (size_of packet) l)
unfolding with_taken
taken_allowed s held k n seq packet history [] rise each = tt
taken_allowed s held k n seq packet history (x ∷ l) rise each =
    cond_both (eqb x.client k) (after_repair x (size_of packet) ∷ l) (x ∷ with_taken k (size_of packet) l) (Each (IsAllowed s held (noted (Repair k n seq) packet ∷ history)))
    (λ t. let is = eqb-true x.client k t in
    subst (λ (j : ℕ). Each (IsAllowed s held (noted (Repair j n seq) packet ∷ history)) (after_repair x (size_of packet) ∷ l)) is
    (one_allowed s held n seq packet history x each.0, others_allowed s held x.client n seq packet history l rise.0 each.1))
    (λ f. let passes = repair_spares k x.client (λ same. eqb-false x.client k f (sym same)) in
    (allowed_kept s held x history _ (spared s x.client history _ (one (spares x.client) (Repair k n seq) packet history (passes.sends n seq))) each.0, taken_allowed s held k n seq packet history l rise.1 each.1))

-- where it fits it is sent, else it waits
either : (s : Settings) (held : List Held) (b : Bool) (h1 h2 : History) (r1 r2 : Repaired) → (b ≡ true → IsMended s held h1 r1) → IsMended s held h2 r2 → IsMended s held (cond b h1 h2) (cond b r1 r2)
either s held true h1 h2 r1 r2 first second = first refl
either s held false h1 h2 r1 r2 first second = second

held_repaired : (s : Settings) (held : List Held) (w : Wanted) (h : Held) (a : Allowance) (history : History) (r : Repaired) → h.n ≡ w.n → allowance_for w.client r.allowances ≡ Some a → IsMended s held history r
    → IsMended s held (repaired s held w (Some h) history) (with_repair w h (Some a) r)
held_repaired s held w h a history r number is mended =
    let whose = found_allowed s held history w.client r.allowances a mended.allowed is in
    let takes : may_take s held w.client history ≡ a.may_take = ap (λ (k : ℕ). may_take s held k history) (sym whose.1) ∙ whose.0.may_take_is in
    let seq : sequence s w.client history ≡ a.seq = ap (λ (k : ℕ). sequence s k history) (sym whose.1) ∙ whose.0.seq_is in
    let sent = noted (Repair w.client w.n (sequence s w.client history)) (Some h) ∷ history in
    let tests : (leb h.wire (may_take s held w.client history) && leb h.wire (channel_left s history)) ≡ fits h a r.draft =
    ap (λ (m : ℕ). leb h.wire m && leb h.wire (channel_left s history)) takes ∙ ap (λ (m : ℕ). leb h.wire a.may_take && leb h.wire m) mended.shows.left in
    subst (λ (b : Bool). IsMended s held (cond b sent history) (with_repair w h (Some a) r)) (sym tests)
    (either s held (fits h a r.draft) sent history _ (waiting r)
    (λ t. record {
      shows = subst (λ (q : ℕ). Shows s sent (with_packet r.draft (Repair w.client w.n q) w.client q h)) seq (shows_repair s history w.client w.n (sequence s w.client history) h r.draft number mended.shows);
      allowed = taken_allowed s held w.client w.n (sequence s w.client history) (Some h) history r.allowances mended.rise mended.allowed;
      rise = subst Rise (sym (clients_stay w.client h.wire r.allowances)) mended.rise;
    })
    (record { shows = mended.shows; allowed = mended.allowed; rise = mended.rise }))

by_allowance : (s : Settings) (held : List Held) (w : Wanted) (h : Held) (o : Option Allowance) (history : History) (r : Repaired) → h.n ≡ w.n → allowance_for w.client r.allowances ≡ o → (o ≡ None → ⊥) → IsMended s held history r
    → IsMended s held (repaired s held w (Some h) history) (with_repair w h o r)
by_allowance s held w h None history r number is some mended = absurd (some refl)
by_allowance s held w h (Some a) history r number is some mended = held_repaired s held w h a history r number is mended

gone_allowed : (s : Settings) (held : List Held) (k n : ℕ) (history : History) (l : List Allowance) → Each (IsAllowed s held history) l → Each (IsAllowed s held (noted (Gone k n) None ∷ history)) l
unfolding sent_now as_tick_began bursts sendings
gone_allowed s held k n history [] each = tt
gone_allowed s held k n history (x ∷ l) each = (record { may_take_is = each.0.may_take_is; seq_is = each.0.seq_is }, gone_allowed s held k n history l each.1)

one_mended : (s : Settings) (held : List Held) (w : Wanted) (o : Option Held) (history : History) (r : Repaired) → packet_of w.n held ≡ o → is_among w.client (clients_of r.allowances) ≡ true → IsMended s held history r
    → IsMended s held (repaired s held w o history) (with_wanted w o r)
one_mended s held w None history r is among mended = record {
  shows = shows_gone s history w.client w.n r.draft mended.shows;
  allowed = gone_allowed s held w.client w.n history r.allowances mended.allowed;
  rise = mended.rise;
}
one_mended s held w (Some h) history r is among mended =
    let number : h.n ≡ w.n = subst (λ (o : Option Held). IfSome o (λ k. k.n ≡ w.n)) is (has_its_number w.n held) in
    by_allowance s held w h (allowance_for w.client r.allowances) history r number refl (is_found w.client r.allowances among) mended

-- whose allowances they are stays
with_repair_clients : (w : Wanted) (h : Held) (o : Option Allowance) (r : Repaired) → clients_of (with_repair w h o r).allowances ≡ clients_of r.allowances
with_repair_clients w h None r = refl
with_repair_clients w h (Some a) r = cond_both (fits h a r.draft) _ (waiting r) (λ (x : Repaired). clients_of x.allowances ≡ clients_of r.allowances) (λ t. clients_stay w.client h.wire r.allowances) (λ f. refl)

pub with_wanted_clients : (w : Wanted) (o : Option Held) (r : Repaired) → clients_of (with_wanted w o r).allowances ≡ clients_of r.allowances
with_wanted_clients w None r = refl
with_wanted_clients w (Some h) r = with_repair_clients w h (allowance_for w.client r.allowances) r

pub mend_all : (s : Settings) (held : List Held) (ws : List Wanted) (history : History) (r : Repaired) → Each (λ w. is_among w.client (clients_of r.allowances) ≡ true) ws → IsMended s held history r
    → IsMended s held (all_repaired s held ws history) (with_all_wanted held ws r)
unfolding all_repaired with_all_wanted
mend_all s held [] history r among mended = mended
mend_all s held (w ∷ ws) history r among mended =
    let found = packet_of w.n held in
    mend_all s held ws (repaired s held w found history) (with_wanted w found r)
    (subst (λ (ks : List ℕ). Each (λ v. is_among v.client ks ≡ true) ws) (sym (with_wanted_clients w found r)) among.1)
    (one_mended s held w found history r refl among.0 mended)
