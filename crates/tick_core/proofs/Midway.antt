-- The known clients and the budget in the middle of a tick, on the history.
use Rattle.std.proofs.Common.{◌≡◌, ◌≢◌, ℕ, ◌+◌, ◌-◌, ◌%◌, ◌^◌, ◌≤◌, true, false, not, ⊎_elim, List, [], ◌∷◌, ◌++◌, append_assoc, Option, Some, None, is_some, refl, ap, sym, ◌∙◌, subst, arith, eqb}
use Rattle.std.specs.Option.{option_map}
use Rattle.std.proofs.lemmas.Bool.{cases_eq, eq-eqb, both_ways, not_from_false, ne_eqb, eqb-true, not_from_true}
use Rattle.std.proofs.lemmas.Map.Views.{any-filter_same}
use Rattle.rams_model.specs.declared.{Held.Held, Cause.Cause, Note.Note}
use Rattle.rams_model.specs.declared.Note.TheVariants.{Burst as BurstNote, Repair, Gone, End, Forgot}
use Rattle.rams_model.specs.Service.{Settings, noted, History, hold, known, is_among, without, sendings, sequence, ssrc, next, after_note, newest_open, size_of, bursts, open_burst, is_busy, idle, reserved, channel_left}
use Rattle.rams_model.specs.Packets.{hi, following}
use Rattle.rams_model.specs.Service.Bursts as model
use Rattle.service_laws.specs.book_laws.{IsMoment}
use Rattle.channel_config.specs.{IsLawful}
use Rattle.reckoning.specs.link_budget.{amounts}
use Rattle.reckoning.specs.link_budget.Amounts.{Amounts}
use Rattle.client_table.specs.declared.{Burst.Burst, Entry.Entry}
use Rattle.client_table.specs.{clients_of, entry_of, awake, changed}
use Rattle.client_table.specs.Clients.{Clients}
use Rattle.client_table.specs.Clients as tables
use Rattle.channel_cache.specs.packet_ring.{packet_of}
use Rattle.channel_parts.specs.{IsBudget}
use Rattle.channel_parts.proofs.Facts.{open_bursts_are_within_bounds, each_burst_is_reserved, ends_release, other_notes_reserve_nothing, the_end_of_the_held_never_falls}
use Rattle.channel_parts.proofs.Ordered.{Rise, known_rise}
use Rattle.channel_parts.proofs.Tables.{clients-without, others-without, entry_among, has_entry}
use Rattle.tick_draft.specs.{entry_sent, burst_sent, entry_closed, amount_of, amount_for, with_committed, with_all_committed, IsNextSmall, IsNextSmallIfKnown, MayCommit, MayCommitAll}
use Rattle.tick_draft.specs.Committed.{Committed}
use Rattle.tick_draft.proofs.Changing.{is_change}
use Rattle.tick_core.proofs.Sparing.{spares, one as spared_one, serves, known_kept, IsSpared, spared}
use Rattle.tick_core.proofs.Idling.{idle_same, busy_spared, idle_anew}
use Rattle.tick_core.proofs.Serving.{burst_open, repair_open, end_open, burst_sequence, repair_sequence}
use Rattle.tick_core.proofs.Adding.{Fits, Leads, leads_later}

-- an open burst in a tick: what it may still be sent is kept
abbrev pub shown : model.Burst → Burst
shown b = record { first = b.first; next = next b; stop = b.stop; rate = b.rate; ticks = b.ticks; kept = b.left; last = b.last }

-- A known client's entry in the middle of a tick.
pub record IsMidEntry (s : Settings) (k : ℕ) (history : History) (e : Entry) : Type 0 where
  pub ssrc_is : ssrc k history ≡ Some e.ssrc
  pub seq_is : e.seq ≡ sequence s k history
  pub idle_is : is_busy s k history ≡ false → e.idle ≡ idle s k history
  pub burst_is : e.burst ≡ option_map shown (open_burst s k history)

pub record IsMid (s : Settings) (history : History) (c : Committed) : Type 0 where
  pub most : c.table.most ≡ s.channel.clients
  pub clients : clients_of c.table ≡ known history
  pub entries : (k : ℕ) (e : Entry) → entry_of c.table k ≡ Some e → IsMidEntry s k history e
  pub others : (k : ℕ) → is_among k (known history) ≡ false → open_burst s k history ≡ None
  pub budget : IsBudget s history c.budget

pub mapped_some : (f : Entry → Entry) (o : Option Entry) (e : Entry) → option_map f o ≡ Some e → (x : Entry) × (o ≡ Some x) × (f x ≡ e)
mapped_some f None e is = absurd cc
mapped_some f (Some x) e is = (x, refl, cc)

-- what is kept of one client is changed, and the others are as they were
pub mid_changed : (s : Settings) (f : Entry → Entry) (k : ℕ) (history after : History) (c : Committed) (budget : Amounts) → IsMid s history c → known after ≡ known history
    → ((e : Entry) → IsMidEntry s k history e → IsMidEntry s k after (f e)) → ((j : ℕ) (e : Entry) → j ≢ k → IsMidEntry s j history e → IsMidEntry s j after e)
    → ((j : ℕ) → open_burst s j history ≡ None → open_burst s j after ≡ None) → IsBudget s after budget
    → IsMid s after (record { table = changed f c.table k; budget = budget })
mid_changed s f k history after c budget mid same own away closed is_budget =
    let change = is_change f k c.table in
    record {
      most = change.most ∙ mid.most;
      clients = change.clients ∙ (mid.clients ∙ sym same);
      entries = λ j e found. ⊎_elim
          (λ (is : j ≡ k).
          let x = mapped_some f (entry_of c.table k) e (sym change.own ∙ subst (λ (i : ℕ). entry_of (changed f c.table k) i ≡ Some e) is found) in
          subst (λ (i : ℕ). IsMidEntry s i after e) (sym is) (subst (IsMidEntry s k after) x.2 (own x.0 (mid.entries k x.0 x.1))))
          (λ differ. away j e differ (mid.entries j e (sym (change.away j differ) ∙ found))) (cases_eq j k);
      others = λ j out. closed j (mid.others j (sym (ap (is_among j) same) ∙ out));
      budget = is_budget;
    }

-- an entry of a client that is spared
mid_spared : (s : Settings) (j : ℕ) (history after : History) (e : Entry) → IsSpared s j history after → IsMidEntry s j history e → IsMidEntry s j after e
mid_spared s j history after e is mid =
    let same : open_burst s j after ≡ open_burst s j history = ap newest_open is.bursts_same in
    record {
      ssrc_is = is.ssrc_same ∙ mid.ssrc_is;
      seq_is = mid.seq_is ∙ ap (λ (n : ℕ). (s.channel.seq0 + n) % 65536) (sym is.sendings_same);
      idle_is = λ free. mid.idle_is (sym (busy_spared s j history after is) ∙ free) ∙ sym (idle_same s j history after is);
      burst_is = mid.burst_is ∙ ap (option_map shown) (sym same);
    }

by_note : (s : Settings) (j : ℕ) (note : Note) (packet : Option Held) (history : History) (e : Entry) → spares j note ≡ true → IsMidEntry s j history e → IsMidEntry s j (noted note packet ∷ history) e
by_note s j note packet history e passes mid = mid_spared s j history (noted note packet ∷ history) e (spared s j history _ (spared_one (spares j) note packet history passes)) mid

differs : (k j : ℕ) → j ≢ k → not (eqb k j) ≡ true
differs k j differ = not_from_false (eqb k j) (ne_eqb k j (λ e. differ (sym e)))

still_closed : (s : Settings) (j : ℕ) (note : Note) (packet : Option Held) (history : History) → spares j note ≡ true → open_burst s j history ≡ None → open_burst s j (noted note packet ∷ history) ≡ None
still_closed s j note packet history passes closed = ap newest_open (spared s j history _ (spared_one (spares j) note packet history passes)).bursts_same ∙ closed

-- ---- a packet that was sent
sent_shown : (o : Option model.Burst) (f : model.Burst → model.Burst) (count size : ℕ) → ((b : model.Burst) → shown (f b) ≡ burst_sent count size (shown b)) → option_map (burst_sent count size) (option_map shown o) ≡ option_map shown (option_map f o)
sent_shown None f count size same = refl
sent_shown (Some b) f count size same = ap (λ (x : Burst). Some x) (sym (same b))

burst_shown : (s : Settings) (k n seq size : ℕ) (b : model.Burst) → shown (after_note s (BurstNote k n seq) size b) ≡ burst_sent 1 size (shown b)
burst_shown s k n seq size b = ap (λ (m : ℕ). record { first = b.first; next = m; stop = b.stop; rate = b.rate; ticks = b.ticks; kept = b.left - size; last = b.last }) (omega arith)

repair_shown : (s : Settings) (k n seq size : ℕ) (b : model.Burst) → shown (after_note s (Repair k n seq) size b) ≡ burst_sent 0 size (shown b)
repair_shown s k n seq size b = ap (λ (m : ℕ). record { first = b.first; next = m; stop = b.stop; rate = b.rate; ticks = b.ticks; kept = b.left - size; last = b.last }) (omega arith)

sent_entry : (s : Settings) (k count size : ℕ) (f : model.Burst → model.Burst) (history after : History) (e : Entry) → ssrc k after ≡ ssrc k history → sequence s k after ≡ following (sequence s k history)
    → open_burst s k after ≡ option_map f (open_burst s k history) → ((b : model.Burst) → shown (f b) ≡ burst_sent count size (shown b)) → idle s k after ≡ 0
    → IsMidEntry s k history e → IsMidEntry s k after (entry_sent count size e)
sent_entry s k count size f history after e ssrc_same seq_next open_is shows none mid = record {
  ssrc_is = ssrc_same ∙ mid.ssrc_is;
  seq_is = ap following mid.seq_is ∙ sym seq_next;
  idle_is = λ free. sym none;
  burst_is = ap (option_map (burst_sent count size)) mid.burst_is ∙ (sent_shown (open_burst s k history) f count size shows ∙ ap (option_map shown) (sym open_is));
}

less_left : (s : Settings) (history after : History) (budget : Amounts) (size : ℕ) → reserved s after ≡ reserved s history → channel_left s after ≡ channel_left s history - size → IsBudget s history budget
    → IsBudget s after (record budget { left = budget.left - size })
less_left s history after budget size same_reserved less is =
    ap (λ (a : Amounts). record a { left = a.left - size }) is
    ∙ (ap (λ (r : ℕ). amounts s.channel.share s.channel.reserve s.channel.swell r (channel_left s history - size)) (sym same_reserved)
    ∙ ap (λ (l : ℕ). amounts s.channel.share s.channel.reserve s.channel.swell (reserved s after) l) (sym less))

map_none : (f : model.Burst → model.Burst) (o : Option model.Burst) → o ≡ None → option_map f o ≡ None
map_none f o is = ap (option_map f) is

burst_mid : (s : Settings) (held : List Held) (k n seq : ℕ) (packet : Option Held) (history : History) (c : Committed) → packet ≡ packet_of n held → IsMid s history c
    → IsMid s (noted (BurstNote k n seq) packet ∷ history) (with_committed s held (BurstNote k n seq) c)
unfolding ssrc channel_left
burst_mid s held k n seq packet history c fits mid =
    let note = BurstNote k n seq in
    let after = noted note packet ∷ history in
    subst (λ (o : Option Held). IsMid s after (record { table = changed (entry_sent 1 (size_of o)) c.table k; budget = record c.budget { left = c.budget.left - size_of o } })) fits
    (mid_changed s (entry_sent 1 (size_of packet)) k history after c _ mid (known_kept history after (spared_one serves note packet history refl))
    (λ e is. sent_entry s k 1 (size_of packet) (after_note s note (size_of packet)) history after e refl (burst_sequence s k n seq packet history) (burst_open s k n seq packet history) (burst_shown s k n seq (size_of packet)) (idle_anew s k note packet history (eq-eqb k k refl)) is)
    (λ j e differ is. by_note s j note packet history e (differs k j differ) is)
    (λ j closed. ⊎_elim
    (λ (same : j ≡ k). subst (λ (i : ℕ). open_burst s i after ≡ None) (sym same) (burst_open s k n seq packet history ∙ map_none _ (open_burst s k history) (subst (λ (i : ℕ). open_burst s i history ≡ None) same closed)))
    (λ differ. still_closed s j note packet history (differs k j differ) closed) (cases_eq j k))
    (less_left s history after c.budget (size_of packet) (other_notes_reserve_nothing s note packet history refl) refl mid.budget))

repair_mid : (s : Settings) (held : List Held) (k n seq : ℕ) (packet : Option Held) (history : History) (c : Committed) → packet ≡ packet_of n held → IsMid s history c
    → IsMid s (noted (Repair k n seq) packet ∷ history) (with_committed s held (Repair k n seq) c)
unfolding ssrc channel_left
repair_mid s held k n seq packet history c fits mid =
    let note = Repair k n seq in
    let after = noted note packet ∷ history in
    subst (λ (o : Option Held). IsMid s after (record { table = changed (entry_sent 0 (size_of o)) c.table k; budget = record c.budget { left = c.budget.left - size_of o } })) fits
    (mid_changed s (entry_sent 0 (size_of packet)) k history after c _ mid (known_kept history after (spared_one serves note packet history refl))
    (λ e is. sent_entry s k 0 (size_of packet) (after_note s note (size_of packet)) history after e refl (repair_sequence s k n seq packet history) (repair_open s k n seq packet history) (repair_shown s k n seq (size_of packet)) (idle_anew s k note packet history (eq-eqb k k refl)) is)
    (λ j e differ is. by_note s j note packet history e (differs k j differ) is)
    (λ j closed. ⊎_elim
    (λ (same : j ≡ k). subst (λ (i : ℕ). open_burst s i after ≡ None) (sym same) (repair_open s k n seq packet history ∙ map_none _ (open_burst s k history) (subst (λ (i : ℕ). open_burst s i history ≡ None) same closed)))
    (λ differ. still_closed s j note packet history (differs k j differ) closed) (cases_eq j k))
    (less_left s history after c.budget (size_of packet) (other_notes_reserve_nothing s note packet history refl) refl mid.budget))

-- ---- a burst that ended
map_shown : (o : Option model.Burst) (b : model.Burst) → o ≡ Some b → option_map shown o ≡ Some (shown b)
map_shown o b is = ap (option_map shown) is

-- what the entry of a client with an open burst has reserved
amount_is : (s : Settings) (k : ℕ) (history : History) (c : Committed) (b : model.Burst) → IsMid s history c → open_burst s k history ≡ Some b → amount_for s.channel.depth (entry_of c.table k) ≡ b.rate + s.channel.depth
amount_is s k history c b mid open_is = amount_by (entry_of c.table k) refl
  where
    amount_by : (o : Option Entry) → entry_of c.table k ≡ o → amount_for s.channel.depth o ≡ b.rate + s.channel.depth
    amount_by None none =
        let out : is_among k (known history) ≡ false = sym (ap (is_among k) mid.clients) ∙ (sym (has_entry c.table k) ∙ ap is_some none) in
        let closed = mid.others k out in
        let clash : Some b ≡ None = sym open_is ∙ closed in
        absurd cc
    amount_by (Some e) is =
        ap (amount_of s.channel.depth) ((mid.entries k e is).burst_is ∙ map_shown (open_burst s k history) b open_is)

end_mid : (s : Settings) (held : List Held) (k : ℕ) (cause : Cause) (packet : Option Held) (history : History) (c : Committed) (b : model.Burst) → open_burst s k history ≡ Some b → IsMid s history c
    → IsMid s (noted (End k cause) packet ∷ history) (with_committed s held (End k cause) c)
unfolding ssrc sendings channel_left
end_mid s held k cause packet history c b open_is mid =
    let note = End k cause in
    let after = noted note packet ∷ history in
    let closed_now = end_open s k cause packet history in
    mid_changed s entry_closed k history after c _ mid (known_kept history after (spared_one serves note packet history refl))
    (λ e is. record {
      ssrc_is = is.ssrc_is;
      seq_is = is.seq_is;
      idle_is = λ free. sym (idle_anew s k note packet history (eq-eqb k k refl));
      burst_is = sym (ap (option_map shown) closed_now);
    })
    (λ j e differ is. by_note s j note packet history e (differs k j differ) is)
    (λ j closed. ⊎_elim (λ (same : j ≡ k). subst (λ (i : ℕ). open_burst s i after ≡ None) (sym same) closed_now)
    (λ differ. still_closed s j note packet history (differs k j differ) closed) (cases_eq j k))
    (ap (λ (a : Amounts). record a { reserved = a.reserved - amount_for s.channel.depth (entry_of c.table k) }) mid.budget
    ∙ (ap (λ (n : ℕ). amounts s.channel.share s.channel.reserve s.channel.swell (reserved s history - n) (channel_left s history)) (amount_is s k history c b mid open_is)
    ∙ ap (λ (r : ℕ). amounts s.channel.share s.channel.reserve s.channel.swell r (channel_left s history)) (sym (ends_release s k cause packet history b open_is))))

-- ---- a packet that is gone
gone_mid : (s : Settings) (held : List Held) (k n : ℕ) (packet : Option Held) (history : History) (c : Committed) → IsMid s history c
    → IsMid s (noted (Gone k n) packet ∷ history) (with_committed s held (Gone k n) c)
unfolding ssrc sendings channel_left bursts
gone_mid s held k n packet history c mid =
    let note = Gone k n in
    let after = noted note packet ∷ history in
    mid_changed s awake k history after c c.budget mid (known_kept history after (spared_one serves note packet history refl))
    (λ e is. record {
      ssrc_is = is.ssrc_is;
      seq_is = is.seq_is;
      idle_is = λ free. sym (idle_anew s k note packet history (eq-eqb k k refl));
      burst_is = is.burst_is;
    })
    (λ j e differ is. by_note s j note packet history e (differs k j differ) is)
    (λ j closed. closed)
    (mid.budget ∙ ap (λ (r : ℕ). amounts s.channel.share s.channel.reserve s.channel.swell r (channel_left s history)) (sym (other_notes_reserve_nothing s note packet history refl)))

-- one that is forgotten is among the others no longer
among_without : (k j : ℕ) (ks : List ℕ) → is_among j (without k ks) ≡ false → j ≢ k → is_among j ks ≡ false
among_without k j ks out differ =
    sym (any-filter_same (λ i. eqb i j) (λ i. not (eqb i k)) true (λ i t. not_from_false (eqb i k) (ne_eqb i k (λ e. differ (sym (eqb-true i j t) ∙ e)))) ks) ∙ out

forgot_mid : (s : Settings) (held : List Held) (k : ℕ) (packet : Option Held) (history : History) (c : Committed) → open_burst s k history ≡ None → IsMid s history c
    → IsMid s (noted (Forgot k) packet ∷ history) (with_committed s held (Forgot k) c)
unfolding channel_left bursts known
forgot_mid s held k packet history c closed mid =
    let note = Forgot k in
    let rise : Rise (clients_of c.table) = subst Rise (sym mid.clients) (known_rise history) in
    let clients_are : clients_of (tables.without c.table k) ≡ without k (known history) = clients-without c.table k rise ∙ ap (without k) mid.clients in
    record {
      most = mid.most;
      clients = clients_are;
      entries = λ j e found. ⊎_elim
          (λ (same : j ≡ k).
          let among = entry_among (tables.without c.table k) j e found in
          let out : is_among k (without k (known history)) ≡ false = any-filter_same (λ i. eqb i k) (λ i. not (eqb i k)) false (λ i t. not_from_true (eqb i k) t) (known history) in
          absurd (both_ways (is_among j (clients_of (tables.without c.table k))) (ap (is_among j) clients_are ∙ subst (λ (i : ℕ). is_among i (without k (known history)) ≡ false) (sym same) out) among))
          (λ differ. by_note s j note packet history e (differs k j differ) (mid.entries j e (sym (others-without c.table k j differ) ∙ found))) (cases_eq j k);
      others = λ j out. ⊎_elim (λ (same : j ≡ k). subst (λ (i : ℕ). open_burst s i history ≡ None) (sym same) closed) (λ differ. mid.others j (among_without k j (known history) out differ)) (cases_eq j k);
      budget = mid.budget ∙ ap (λ (r : ℕ). amounts s.channel.share s.channel.reserve s.channel.swell r (channel_left s history)) (sym (other_notes_reserve_nothing s note packet history refl));
    }

-- ---- any note
pub note_mid : (s : Settings) (held : List Held) (note : Note) (packet : Option Held) (history : History) (c : Committed) → Fits s held note packet history → IsMid s history c
    → IsMid s (noted note packet ∷ history) (with_committed s held note c)
note_mid s held (BurstNote k n seq) packet history c fits mid = burst_mid s held k n seq packet history c fits.0 mid
note_mid s held (Repair k n seq) packet history c fits mid = repair_mid s held k n seq packet history c fits.0 mid
note_mid s held (End k cause) packet history c fits mid = end_mid s held k cause packet history c fits.0 fits.1 mid
note_mid s held (Gone k n) packet history c fits mid = gone_mid s held k n packet history c mid
note_mid s held (Forgot k) packet history c fits mid = forgot_mid s held k packet history c fits mid
note_mid s held note packet history c fits mid = absurd fits

-- ---- what the calls ask
next_small : (s : Settings) (k count : ℕ) (history : History) (burst : Option Burst) (o : Option model.Burst) → count ≤ 1 → hi (hold s history) ≤ 2 ^ 62 → IsMoment s history → open_burst s k history ≡ o → burst ≡ option_map shown o → IsNextSmall count burst
next_small s k count history None o few small moment open_is is = tt
next_small s k count history (Some eb) None few small moment open_is is = absurd cc
next_small s k count history (Some eb) (Some b) few small moment open_is is =
    let same : eb ≡ shown b = cc in
    let bounds = open_bursts_are_within_bounds s k b history moment open_is in
    omega (arith, ap (λ (x : Burst). x.next) same, bounds.by_held, small)

may_send : (s : Settings) (k count : ℕ) (history : History) (c : Committed) → count ≤ 1 → hi (hold s history) ≤ 2 ^ 62 → IsMoment s history → IsMid s history c → IsNextSmallIfKnown count (entry_of c.table k)
may_send s k count history c few small moment mid = send_by (entry_of c.table k) refl
  where
    send_by : (o : Option Entry) → entry_of c.table k ≡ o → IsNextSmallIfKnown count o
    send_by None is = tt
    send_by (Some e) is = next_small s k count history e.burst (open_burst s k history) few small moment refl (mid.entries k e is).burst_is

may_commit : (s : Settings) → IsLawful s → (held : List Held) (note : Note) (packet : Option Held) (history : History) (c : Committed) → hi (hold s history) ≤ 2 ^ 62 → IsMoment s history → Fits s held note packet history
    → IsMid s history c → MayCommit s note c
may_commit s lawful held (BurstNote k n seq) packet history c small moment fits mid = may_send s k 1 history c (omega arith) small moment mid
may_commit s lawful held (Repair k n seq) packet history c small moment fits mid = may_send s k 0 history c (omega arith) small moment mid
may_commit s lawful held (End k cause) packet history c small moment fits mid =
    let reserves = each_burst_is_reserved s k fits.0 history fits.1 in
    let amount = amount_is s k history c fits.0 mid fits.1 in
    let budget : c.budget.reserved ≡ reserved s history = ap (λ (a : Amounts). a.reserved) mid.budget in
    let bounds = open_bursts_are_within_bounds s k fits.0 history moment fits.1 in
    record { small = omega (arith, amount, bounds.rate_most, lawful.burst_most, lawful.depth_most); within = omega (arith, reserves, amount, budget) }
may_commit s lawful held note packet history c small moment fits mid = tt

-- ---- all notes, from the oldest on
moment_before : (s : Settings) (later history end : History) → end ≡ later ++ history → IsMoment s end → IsMoment s history
moment_before s later history end is moment = record {
  events = moment.events;
  later = moment.later ++ later;
  splits = moment.splits ∙ (ap (λ (h : History). moment.later ++ h) is ∙ sym (append_assoc moment.later later history));
}

small_before : (s : Settings) (later history end : History) → end ≡ later ++ history → hi (hold s end) ≤ 2 ^ 62 → hi (hold s history) ≤ 2 ^ 62
small_before s later history end is small =
    let less = the_end_of_the_held_never_falls s later history in
    let end_small : hi (hold s (later ++ history)) ≤ 2 ^ 62 = subst (λ (h : History). hi (hold s h) ≤ 2 ^ 62) is small in
    omega (arith, less, end_small)

pub record IsCarriedOut (s : Settings) (held : List Held) (notes : List Note) (end : History) (c : Committed) : Type 0 where
  pub may : MayCommitAll s held notes c
  pub mid : IsMid s end (with_all_committed s held notes c)

pub all_mid : (s : Settings) → IsLawful s → (held : List Held) (notes : List Note) (history end : History) (c : Committed) → Leads s held notes history end → IsMoment s end → hi (hold s end) ≤ 2 ^ 62
    → IsMid s history c → IsCarriedOut s held notes end c
unfolding with_all_committed MayCommitAll
all_mid s lawful held [] history end c leads moment small mid = record { may = tt; mid = subst (λ (h : History). IsMid s h c) leads mid }
all_mid s lawful held (note ∷ notes) history end c leads moment small mid =
    let from = leads_later s held (note ∷ notes) history end leads in
    let next = note_mid s held note leads.0 history c leads.1 mid in
    let rest = all_mid s lawful held notes (noted note leads.0 ∷ history) end (with_committed s held note c) leads.2 moment small next in
    record {
      may = (may_commit s lawful held note leads.0 history c (small_before s from.0 history end from.1 small) (moment_before s from.0 history end from.1 moment) leads.1 mid, rest.may);
      mid = rest.mid;
    }
