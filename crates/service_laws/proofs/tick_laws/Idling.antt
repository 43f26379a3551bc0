-- Between two events a known client has been idle for fewer than `idle` ticks: each tick forgets those that have been so for so many.
use Rattle.std.proofs.Common.{◌≡◌, ℕ, ◌+◌, ◌-◌, ◌<◌, ◌≤◌, Bool, true, false, cond, not, ◌&&◌, ◌||◌, ◌⊎◌, inl, inr, ⊎_elim, List, [], ◌∷◌, Option, None, refl, sym, ◌∙◌, subst, arith, eqb}
use Rattle.std.specs.Prelude.{◌≢◌, filter}
use Rattle.std.specs.List.{list_any}
use Rattle.std.proofs.lemmas.Bool.{cond_both, cond-false, cases_Bool, both_ways, or_cases, or_left, or_right, or_from, or_parts, and_parts, and_from, and_left, not_from_false, not-true, eqb-true, eqb-false, eq-eqb, ne_eqb, true≢false}
use Rattle.std.proofs.lemmas.List.Folds.{list_any-append}
use Rattle.rams_model.specs.declared.{Event.Event, Held.Held, Note.Note}
use Rattle.rams_model.specs.declared.Note.TheVariants as note
use Rattle.rams_model.specs.Service.{Settings, Message, Heard, feedback, tick, heard_of, began, noted, History, known, is_among, bursts, has_open, Wanted, wanted, is_wanted, pending, is_busy, is_served, quiet_ticks, idle, all_forgotten, bursts_served, repairs_sent, after_tick, history_of, hold, told, after_message, opened}
use Rattle.rams_model.specs.Laws.{makes_known, ends_known, is_accept_of, is_end_of}
use Rattle.rams_model.proofs.Legal.{is_tick, is_of_runs}
use Rattle.rams_model.proofs.Items.{is_note, is_repair, Puts, message_puts, all_served_put, all_repaired_put}
use Rattle.rams_model.proofs.Induction.{through, between}
use Rattle.rams_model.proofs.LastAccept.{open_step}
use Rattle.rams_model.proofs.Since.{known_step}

-- a repair waits for the client
abbrev waits : ℕ → History → Bool
waits k history = list_any (λ w. eqb w.client k) (pending history)

-- those of a client are kept by a test that its repairs pass
kept_those : (k : ℕ) (test : Wanted → Bool) → ((w : Wanted) → eqb w.client k ≡ true → test w ≡ true) → (ws : List Wanted)
    → list_any (λ w. eqb w.client k) (filter test ws) ≡ false → list_any (λ w. eqb w.client k) ws ≡ false
kept_those k test own [] e = refl
kept_those k test own (w ∷ ws) e =
    cond_both (test w) (w ∷ filter test ws) (filter test ws) (λ l. list_any (λ v. eqb v.client k) l ≡ false → list_any (λ v. eqb v.client k) (w ∷ ws) ≡ false)
    (λ t q. let parts = or_parts (eqb w.client k) (list_any (λ v. eqb v.client k) (filter test ws)) q in
    or_from (eqb w.client k) (list_any (λ v. eqb v.client k) ws) parts.0 (kept_those k test own ws parts.1))
    (λ f q. or_from (eqb w.client k) (list_any (λ v. eqb v.client k) ws)
    (⊎_elim (λ t. absurd (both_ways (test w) f (own w t))) (λ n. n) (cases_Bool (eqb w.client k))) (kept_those k test own ws q)) e

-- a repair of another client
other_client : (k client : ℕ) (w : Wanted) → eqb client k ≡ false → eqb w.client k ≡ true → eqb w.client client ≡ false
other_client k client w other own = ne_eqb w.client client (λ e. eqb-false client k other (sym e ∙ eqb-true w.client k own))

-- where no repair waits for a client after a note that didn't serve it nor let it go, none did before
waited : (k : ℕ) (n : Note) (packet : Option Held) (history : History) → is_served k n ≡ false → ends_known k (noted n packet) ≡ false
    → waits k (noted n packet ∷ history) ≡ false → waits k history ≡ false
unfolding pending
waited k (note.Queued client n) packet history unserved stays e =
    (or_parts (waits k history) (list_any (λ w. eqb w.client k) (wanted client n ∷ [])) (sym (list_any-append (λ w. eqb w.client k) (pending history) (wanted client n ∷ [])) ∙ e)).0
waited k (note.Repair client n q) packet history unserved stays e =
    kept_those k (λ w. not (is_wanted client n w)) (λ w own. not_from_false (is_wanted client n w) (and_left (eqb w.client client) (eqb w.n n) (other_client k client w unserved own))) (pending history) e
waited k (note.Gone client n) packet history unserved stays e =
    kept_those k (λ w. not (is_wanted client n w)) (λ w own. not_from_false (is_wanted client n w) (and_left (eqb w.client client) (eqb w.n n) (other_client k client w unserved own))) (pending history) e
waited k (note.Bye client) packet history unserved stays e =
    kept_those k (λ w. not (eqb w.client client)) (λ w own. not_from_false (eqb w.client client) (other_client k client w stays own)) (pending history) e
waited k n packet history unserved stays e = e

-- nor had it an open burst
end_serves : (k : ℕ) (n : Note) (packet : Option Held) → is_served k n ≡ false → is_end_of k (noted n packet) ≡ false
end_serves k (note.End client why) packet e = e
end_serves k n packet e = refl

closed : (s : Settings) (k : ℕ) (n : Note) (packet : Option Held) (history : History) → is_served k n ≡ false → has_open s k (noted n packet ∷ history) ≡ false → has_open s k history ≡ false
closed s k n packet history unserved e =
    let i = noted n packet in
    let parts = or_parts (is_accept_of k i) (not (is_end_of k i) && has_open s k history) (sym (open_step s k i history) ∙ e) in
    ⊎_elim (λ t. absurd (both_ways (not (is_end_of k i) && has_open s k history) parts.1
    (and_from (not (is_end_of k i)) (has_open s k history) (not_from_false (is_end_of k i) (end_serves k n packet unserved)) t))) (λ f. f) (cases_Bool (has_open s k history))

-- a note that makes a client known makes it busy
made_busy : (s : Settings) (k : ℕ) (n : Note) (packet : Option Held) (history : History) → makes_known k (noted n packet) ≡ true → is_busy s k (noted n packet ∷ history) ≡ true
unfolding pending
made_busy s k (note.Accept client first rate join) packet history e =
    let i = noted (note.Accept client first rate join) packet in
    or_left (has_open s k (i ∷ history)) (waits k (i ∷ history)) (open_step s k i history ∙ or_left (eqb client k) (not (is_end_of k i) && has_open s k history) e)
made_busy s k (note.Queued client n) packet history e =
    let i = noted (note.Queued client n) packet in
    or_right (has_open s k (i ∷ history)) (waits k (i ∷ history))
    (list_any-append (λ w. eqb w.client k) (pending history) (wanted client n ∷ [])
    ∙ or_right (waits k history) (list_any (λ w. eqb w.client k) (wanted client n ∷ [])) (or_left (eqb client k) false e))
made_busy s k n packet history e = absurd cc

-- where it is known, it has been idle for at most so many ticks
abbrev Rests : Settings → ℕ → ℕ → History → Type 0
Rests s most k history = is_among k (known history) ≡ true → idle s k history ≤ most

-- a note doesn't make it longer
rests_on : (s : Settings) (most k : ℕ) (n : Note) (packet : Option Held) (history : History) → Rests s most k history → is_among k (known (noted n packet ∷ history)) ≡ true
    → is_busy s k (noted n packet ∷ history) ≡ false → is_served k n ≡ false → quiet_ticks s k history ≤ most
rests_on s most k n packet history r is free unserved =
    let i = noted n packet in
    let parts = or_parts (has_open s k (i ∷ history)) (waits k (i ∷ history)) free in
    ⊎_elim (λ m. absurd (both_ways (is_busy s k (i ∷ history)) free (made_busy s k n packet history m)))
    (λ b.
    let was = and_parts (not (ends_known k i)) (is_among k (known history)) b in
    let stays = not-true (ends_known k i) was.0 in
    let before : is_busy s k history ≡ false =
    or_from (has_open s k history) (waits k history) (closed s k n packet history unserved parts.0) (waited k n packet history unserved stays parts.1) in
    omega (arith, r was.1, cond-false (is_busy s k history) 0 (quiet_ticks s k history) before))
    (or_cases (makes_known k i) (not (ends_known k i) && is_among k (known history)) (sym (known_step k i history) ∙ is))

noted_rests : (s : Settings) (most k : ℕ) (n : Note) (packet : Option Held) (history : History) → Rests s most k history → Rests s most k (noted n packet ∷ history)
unfolding quiet_ticks
noted_rests s most k n packet history r is =
    let i = noted n packet in
    cond_both (is_busy s k (i ∷ history)) 0 (quiet_ticks s k (i ∷ history)) (λ q. q ≤ most) (λ t. omega arith)
    (λ free. cond_both (is_served k n) 0 (quiet_ticks s k history) (λ q. q ≤ most) (λ t. omega arith) (λ unserved. rests_on s most k n packet history r is free unserved))

rests_through : (s : Settings) (most k : ℕ) (kind : Note → Bool) (before after : History) → Puts kind before after → Rests s most k before → Rests s most k after
rests_through s most k kind = through kind (Rests s most k) (λ n packet h is r. noted_rests s most k n packet h r)

-- what begins or is told changes neither who is known nor who is busy
less_quiet : (busy : Bool) (q less most : ℕ) → less ≤ q → cond busy 0 q ≤ most → cond busy 0 less ≤ most
less_quiet true q less most le w = w
less_quiet false q less most le w = omega (arith, le, w)

datagram_rests : (s : Settings) (most k client : ℕ) (ms : List Message) (history : History) → Rests s most k history → Rests s most k (began (feedback client ms) ∷ history)
unfolding quiet_ticks bursts pending known
datagram_rests s most k client ms history r is =
    less_quiet (is_busy s k history) (quiet_ticks s k history) (cond (eqb client k) 0 (quiet_ticks s k history)) most
    (cond_both (eqb client k) 0 (quiet_ticks s k history) (λ q. q ≤ quiet_ticks s k history) (λ t. omega arith) (λ f. omega arith)) (r is)

-- a tick adds one
one_more : (busy : Bool) (idle' most : ℕ) → idle' ≤ most → cond busy 0 (idle' + 1) ≤ most + 1
one_more true i most le = omega arith
one_more false i most le = omega (arith, le)

begun_rests : (s : Settings) (most k : ℕ) (history : History) → Rests s most k history → Rests s (most + 1) k (began tick ∷ history)
unfolding quiet_ticks pending known
begun_rests s most k history r is = one_more (is_busy s k (began tick ∷ history)) (idle s k history) most (r is)

-- one that was idle for `idle` ticks is forgotten
forgot : (k : ℕ) (history : History) → is_among k (known (noted (note.Forgot k) None ∷ history)) ≡ false
forgot k history = known_step k (noted (note.Forgot k) None) history ∙ gone (eqb k k) (eq-eqb k k refl)
  where
    gone : (c : Bool) → c ≡ true → (false || (not c && is_among k (known history))) ≡ false
    gone true t = refl
    gone false t = absurd cc

unknown_rests : (s : Settings) (most k : ℕ) (history : History) → is_among k (known history) ≡ false → Rests s most k history
unknown_rests s most k history out is = absurd (both_ways (is_among k (known history)) out is)

forgotten_rests : (s : Settings) (k : ℕ) (history : History) → Rests s s.channel.idle k history
    → Rests s (s.channel.idle - 1) k (cond (eqb (idle s k history) s.channel.idle) (noted (note.Forgot k) None ∷ history) history)
forgotten_rests s k history r =
    cond_both (eqb (idle s k history) s.channel.idle) (noted (note.Forgot k) None ∷ history) history (Rests s (s.channel.idle - 1) k)
    (λ t. unknown_rests s (s.channel.idle - 1) k (noted (note.Forgot k) None ∷ history) (forgot k history))
    (λ f is. let other : idle s k history ≢ s.channel.idle = eqb-false (idle s k history) s.channel.idle f in omega (arith, other, r is))

maybe_forgotten : (s : Settings) (most j k : ℕ) (history : History) → Rests s most j history
    → Rests s most j (cond (eqb (idle s k history) s.channel.idle) (noted (note.Forgot k) None ∷ history) history)
maybe_forgotten s most j k history r =
    cond_both (eqb (idle s k history) s.channel.idle) (noted (note.Forgot k) None ∷ history) history (Rests s most j) (λ t. noted_rests s most j (note.Forgot k) None history r) (λ f. r)

all_rest : (s : Settings) (j : ℕ) (ks : List ℕ) (history : History) → Rests s s.channel.idle j history
    → (is_among j ks ≡ true) ⊎ Rests s (s.channel.idle - 1) j history → Rests s (s.channel.idle - 1) j (all_forgotten s ks history)
unfolding all_forgotten
all_rest s j [] history r o = ⊎_elim (λ t. absurd cc) (λ less. less) o
all_rest s j (k ∷ ks) history r o =
    let most = s.channel.idle in
    let after = cond (eqb (idle s k history) most) (noted (note.Forgot k) None ∷ history) history in
    all_rest s j ks after (maybe_forgotten s most j k history r)
    (⊎_elim
    (λ t. ⊎_elim
    (λ here. let same : k ≡ j = eqb-true k j here in
    inr (subst (λ (i : ℕ). Rests s (most - 1) i after) same (forgotten_rests s k history (subst (λ (i : ℕ). Rests s most i history) (sym same) r))))
    (λ later. inl later) (or_cases (eqb k j) (is_among j ks) t))
    (λ less. inr (maybe_forgotten s (most - 1) j k history less)) o)

tick_rests : (s : Settings) (j : ℕ) (history : History) → Rests s s.channel.idle j history → Rests s (s.channel.idle - 1) j (after_tick s history)
unfolding after_tick
tick_rests s j history r =
    let most = s.channel.idle in
    let served = bursts_served s history in
    let sent = repairs_sent s served in
    let now : Rests s most j sent =
    rests_through s most j is_repair served sent (all_repaired_put s (hold s served) (pending served) served)
    (rests_through s most j is_of_runs history served (all_served_put s (hold s history) (opened history) history) r) in
    all_rest s j (known sent) sent now
    (⊎_elim (λ t. inl t) (λ out. inr (unknown_rests s (most - 1) j sent out)) (cases_Bool (is_among j (known sent))))

heard_rests : (s : Settings) (most j : ℕ) (heard : Heard) (history : History) → is_tick heard ≡ false → Rests s most j history → Rests s most j (began heard ∷ history)
unfolding quiet_ticks bursts pending known
heard_rests s most j tick history other r = absurd (true≢false other)
heard_rests s most j (feedback client ms) history other r = datagram_rests s most j client ms history r
heard_rests s most j heard history other r = r

resting : (s : Settings) (events : List Event) (j : ℕ) → 1 ≤ s.channel.idle → Rests s (s.channel.idle - 1) j (history_of s events)
unfolding quiet_ticks bursts pending known
resting s events j some =
    let most = s.channel.idle - 1 in
    let same : most + 1 ≡ s.channel.idle = omega (arith, some) in
    between s (Rests s most j)
    (λ event before n other once r. let heard = heard_of s.channel event in
    noted_rests s most j n None (began heard ∷ history_of s before) (heard_rests s most j heard (history_of s before) other r))
    (λ client ms history r. datagram_rests s most j client ms history r)
    (λ client m history legal r. let asked = told client m ∷ history in
    rests_through s most j is_note asked (after_message s client m asked) (message_puts s client m asked) r)
    (λ before legal r. let start = began tick ∷ history_of s before in
    tick_rests s j start (subst (λ (n : ℕ). Rests s n j start) same (begun_rests s most j (history_of s before) r))) (λ e. absurd cc) events

pub idle_less : (s : Settings) (k : ℕ) (events : List Event) → 1 ≤ s.channel.idle → is_among k (known (history_of s events)) ≡ true → idle s k (history_of s events) < s.channel.idle
idle_less s k events some is = omega (arith, resting s events k some is, some)
