-- A note of one client changes nothing of the others, and most notes change nothing of their own.
use Rattle.std.proofs.Common.{◌≡◌, ℕ, Bool, true, false, cond, not, ◌&&◌, ◌||◌, List, [], ◌∷◌, ◌++◌, Option, refl, ap, sym, ◌∙◌, subst, eqb, ltb}
use Rattle.std.specs.Prelude.{◌≢◌, ◌==◌}
use Rattle.std.specs.List.{list_any}
use Rattle.std.proofs.lemmas.Bool.{cond_both, cond-true, cond-false, eqb-true, eq-eqb, ne_eqb, not_from_false}
use Rattle.std.proofs.lemmas.Map.Views.{any-filter_same}
use Rattle.rams_model.specs.declared.{Held.Held, Note.Note}
use Rattle.rams_model.specs.declared.Note.TheVariants as note
use Rattle.rams_model.specs.Service.{Settings, noted, History, known, is_among, placed, with_client, without, sendings, ssrc, sequence, bursts, Wanted, wanted, pending, quiet_ticks, is_served, channel_left}
use Rattle.rams_model.proofs.Since.{known_step}
use Rattle.feedback_core.specs.{IsAsBefore}

-- a note of a datagram of this client
abbrev pub IsOf : ℕ → Note → Type 0
IsOf k (note.Accept client first rate join) = client ≡ k
IsOf k (note.Update client rate join) = client ≡ k
IsOf k (note.Again client) = client ≡ k
IsOf k (note.Refuse client code) = client ≡ k
IsOf k (note.StopAt client n) = client ≡ k
IsOf k (note.StopKept client n) = client ≡ k
IsOf k (note.StopIdle client) = client ≡ k
IsOf k (note.Queued client n) = client ≡ k
IsOf k (note.Already client n) = client ≡ k
IsOf k (note.Unheld client low) = client ≡ k
IsOf k (note.Early client n) = client ≡ k
IsOf k (note.TableFull client n) = client ≡ k
IsOf k (note.ClientFull client n) = client ≡ k
IsOf k (note.QueueFull client n) = client ≡ k
IsOf k (note.ForeignNack client) = client ≡ k
IsOf k (note.Bye client) = client ≡ k
IsOf k (note.ByeIdle client) = client ≡ k
IsOf k (note.End client cause) = client ≡ k
IsOf k _ = ⊥

apart : (j k client : ℕ) → j ≢ k → client ≡ k → eqb client j ≡ false
apart j k client ne e = ne_eqb client j (λ q. ne (sym q ∙ e))

pub any_behind : {A : Type 0} (p : A → Bool) (xs : List A) (x : A) → p x ≡ false → list_any p (xs ++ x ∷ []) ≡ list_any p xs
any_behind p [] x f = ap (λ (b : Bool). b || false) f
any_behind p (y ∷ ys) x f = ap (λ (b : Bool). p y || b) (any_behind p ys x f)

-- the same, after a note that changes them only of its client
ssrc_of_others : (j : ℕ) (n : Note) (k : ℕ) (packet : Option Held) (history : History) → j ≢ k → IsOf k n → ssrc j (noted n packet ∷ history) ≡ ssrc j history
unfolding ssrc
ssrc_of_others j (note.Accept client first rate join) k packet history ne e = cond-false (eqb client j) _ _ (apart j k client ne e)
ssrc_of_others j (note.Queued client n) k packet history ne e = cond-false (eqb client j) _ _ (apart j k client ne e)
ssrc_of_others j (note.Bye client) k packet history ne e = cond-false (eqb client j) _ _ (apart j k client ne e)
ssrc_of_others j (note.Forgot client) k packet history ne e = absurd e
ssrc_of_others j n k packet history ne e = refl

sendings_of_others : (j : ℕ) (n : Note) (k : ℕ) (packet : Option Held) (history : History) → j ≢ k → IsOf k n → sendings j (noted n packet ∷ history) ≡ sendings j history
unfolding sendings
sendings_of_others j (note.Burst client n sequence) k packet history ne e = absurd e
sendings_of_others j (note.Repair client n sequence) k packet history ne e = absurd e
sendings_of_others j (note.Bye client) k packet history ne e = cond-false (eqb client j) _ _ (apart j k client ne e)
sendings_of_others j (note.Forgot client) k packet history ne e = absurd e
sendings_of_others j n k packet history ne e = refl

bursts_of_others : (s : Settings) (j : ℕ) (n : Note) (k : ℕ) (packet : Option Held) (history : History) → j ≢ k → IsOf k n → bursts s j (noted n packet ∷ history) ≡ bursts s j history
unfolding bursts
bursts_of_others s j (note.Accept client first rate join) k packet history ne e = cond-false (eqb client j) _ _ (apart j k client ne e)
bursts_of_others s j (note.Update client rate join) k packet history ne e = cond-false (eqb client j) _ _ (apart j k client ne e)
bursts_of_others s j (note.StopAt client n) k packet history ne e = cond-false (eqb client j) _ _ (apart j k client ne e)
bursts_of_others s j (note.Burst client n sequence) k packet history ne e = absurd e
bursts_of_others s j (note.Repair client n sequence) k packet history ne e = absurd e
bursts_of_others s j (note.End client cause) k packet history ne e = cond-false (eqb client j) _ _ (apart j k client ne e)
bursts_of_others s j n k packet history ne e = refl

quiet_of_others : (s : Settings) (j : ℕ) (n : Note) (k : ℕ) (packet : Option Held) (history : History) → j ≢ k → IsOf k n
    → quiet_ticks s j (noted n packet ∷ history) ≡ quiet_ticks s j history
unfolding quiet_ticks
quiet_of_others s j (note.Burst client n sequence) k packet history ne e = absurd e
quiet_of_others s j (note.Repair client n sequence) k packet history ne e = absurd e
quiet_of_others s j (note.Gone client n) k packet history ne e = absurd e
quiet_of_others s j (note.End client cause) k packet history ne e = cond-false (eqb client j) _ _ (apart j k client ne e)
quiet_of_others s j n k packet history ne e = refl

waits_of_others : (j : ℕ) (n : Note) (k : ℕ) (packet : Option Held) (history : History) → j ≢ k → IsOf k n
    → list_any (λ w. w.client == j) (pending (noted n packet ∷ history)) ≡ list_any (λ w. w.client == j) (pending history)
unfolding pending
waits_of_others j (note.Queued client n) k packet history ne e = any_behind (λ (w : Wanted). w.client == j) (pending history) (wanted client n) (apart j k client ne e)
waits_of_others j (note.Repair client n sequence) k packet history ne e = absurd e
waits_of_others j (note.Gone client n) k packet history ne e = absurd e
waits_of_others j (note.Bye client) k packet history ne e =
    any-filter_same (λ (w : Wanted). w.client == j) (λ w. not (w.client == client)) true
    (λ w t. not_from_false (w.client == client) (ne_eqb w.client client (λ same. ne (sym (eqb-true w.client j t) ∙ same ∙ e)))) (pending history)
waits_of_others j n k packet history ne e = refl

known_of_others : (j : ℕ) (n : Note) (k : ℕ) (packet : Option Held) (history : History) → j ≢ k → IsOf k n
    → is_among j (known (noted n packet ∷ history)) ≡ is_among j (known history)
unfolding known
known_of_others j (note.Accept client first rate join) k packet history ne e =
    known_step j (noted (note.Accept client first rate join) packet) history ∙ ap (λ (b : Bool). b || is_among j (known history)) (apart j k client ne e)
known_of_others j (note.Queued client n) k packet history ne e =
    known_step j (noted (note.Queued client n) packet) history ∙ ap (λ (b : Bool). b || is_among j (known history)) (apart j k client ne e)
known_of_others j (note.Bye client) k packet history ne e =
    known_step j (noted (note.Bye client) packet) history ∙ ap (λ (b : Bool). not b && is_among j (known history)) (apart j k client ne e)
known_of_others j (note.Forgot client) k packet history ne e = absurd e
known_of_others j n k packet history ne e = refl

pub others_noted : (s : Settings) (j : ℕ) (n : Note) (k : ℕ) (packet : Option Held) (before history : History) → j ≢ k → IsOf k n → IsAsBefore s j before history
    → IsAsBefore s j before (noted n packet ∷ history)
others_noted s j n k packet before history ne e was = record {
  known_is = known_of_others j n k packet history ne e ∙ was.known_is;
  ssrc_is = ssrc_of_others j n k packet history ne e ∙ was.ssrc_is;
  sendings_is = sendings_of_others j n k packet history ne e ∙ was.sendings_is;
  bursts_is = bursts_of_others s j n k packet history ne e ∙ was.bursts_is;
  quiet_is = quiet_of_others s j n k packet history ne e ∙ was.quiet_is;
  waits_is = waits_of_others j n k packet history ne e ∙ was.waits_is;
}

-- the other known clients
without_placed : (k : ℕ) (ks : List ℕ) → without k (placed k ks) ≡ without k ks
without_placed k [] = cond-false (not (eqb k k)) (k ∷ []) [] (ap not (eq-eqb k k refl))
without_placed k (j ∷ js) =
    cond_both (ltb k j) (k ∷ j ∷ js) (j ∷ placed k js) (λ l. without k l ≡ without k (j ∷ js))
    (λ t. cond-false (not (eqb k k)) (k ∷ without k (j ∷ js)) (without k (j ∷ js)) (ap not (eq-eqb k k refl)))
    (λ f. ap (λ (l : List ℕ). cond (not (eqb j k)) (j ∷ l) l) (without_placed k js))

without_with : (k : ℕ) (ks : List ℕ) → without k (with_client k ks) ≡ without k ks
without_with k ks = cond_both (is_among k ks) ks (placed k ks) (λ l. without k l ≡ without k ks) (λ t. refl) (λ f. without_placed k ks)

pub without_twice : (k : ℕ) (ks : List ℕ) → without k (without k ks) ≡ without k ks
without_twice k [] = refl
without_twice k (j ∷ js) =
    cond_both (not (eqb j k)) (j ∷ without k js) (without k js) (λ l. without k l ≡ l)
    (λ t. cond-true (not (eqb j k)) (j ∷ without k (without k js)) (without k (without k js)) t ∙ ap (λ (l : List ℕ). j ∷ l) (without_twice k js))
    (λ f. without_twice k js)

pub rest_noted : (n : Note) (k : ℕ) (packet : Option Held) (history : History) → IsOf k n → without k (known (noted n packet ∷ history)) ≡ without k (known history)
unfolding known
rest_noted (note.Accept client first rate join) k packet history e =
    subst (λ (c : ℕ). without k (with_client c (known history)) ≡ without k (known history)) (sym e) (without_with k (known history))
rest_noted (note.Queued client n) k packet history e =
    subst (λ (c : ℕ). without k (with_client c (known history)) ≡ without k (known history)) (sym e) (without_with k (known history))
rest_noted (note.Bye client) k packet history e =
    subst (λ (c : ℕ). without k (without c (known history)) ≡ without k (known history)) (sym e) (without_twice k (known history))
rest_noted (note.Forgot client) k packet history e = absurd e
rest_noted n k packet history e = refl

-- a note of a datagram sends nothing
pub left_noted : (s : Settings) (n : Note) (k : ℕ) (packet : Option Held) (history : History) → IsOf k n → channel_left s (noted n packet ∷ history) ≡ channel_left s history
unfolding channel_left
left_noted s (note.Burst client n sequence) k packet history e = absurd e
left_noted s (note.Repair client n sequence) k packet history e = absurd e
left_noted s n k packet history e = refl

pub quiet_noted : (s : Settings) (n : Note) (k : ℕ) (packet : Option Held) (history : History) → quiet_ticks s k history ≡ 0 → quiet_ticks s k (noted n packet ∷ history) ≡ 0
unfolding quiet_ticks
quiet_noted s n k packet history q = cond_both (is_served k n) 0 (quiet_ticks s k history) (λ a. a ≡ 0) (λ t. refl) (λ f. q)
