-- Packets that were sent to one client, written down together.
use Rattle.std.proofs.Common.{◌≡◌, ℕ, ◌+◌, ◌-◌, ◌%◌, Bool, cond, List, [], ◌∷◌, Option, Some, None, refl, ap, sym, ◌∙◌, subst, arith}
use Rattle.std.specs.Option.{option_map}
use Rattle.std.specs.Map.{set_value}
use Rattle.std.specs.BTreeMap.{is_at}
use Rattle.std.specs.Ordering.{nat_cmp}
use Rattle.std.proofs.lemmas.Bool.{cond_both, cond-true, cond-false}
use Rattle.client_table.specs.declared.{Burst.Burst, Entry.Entry}
use Rattle.client_table.specs.{entry_of, with_entry, changed, changed_by}
use Rattle.client_table.specs.Clients.{Clients}
use Rattle.reckoning.specs.link_budget.Amounts.{Amounts}
use Rattle.channel_parts.proofs.Tables.{entry-with_entry, entry_among}
use Rattle.tick_draft.specs.declared.sendings.Sendings.{Sendings}
use Rattle.tick_draft.specs.{committing, burst_sent, IsNextSmall, IsNextSmallIfKnown, both_sendings, entry_after, with_sendings, MaySend}
use Rattle.tick_draft.specs.Committed.{Committed}
use Rattle.tick_draft.proofs.Changing.{is_change}

-- ---- an entry that is changed twice
set_twice : (test : ℕ → Bool) (v w : Entry) (es : List (ℕ × Entry)) → set_value test (set_value test es v) w ≡ set_value test es w
set_twice test v w [] = refl
set_twice test v w (e ∷ es) =
    cond_both (test e.0) ((e.0, v) ∷ es) (e ∷ set_value test es v) (λ (l : List (ℕ × Entry)). set_value test l w ≡ set_value test (e ∷ es) w)
    (λ t. cond-true (test e.0) ((e.0, w) ∷ es) ((e.0, v) ∷ set_value test es w) t ∙ sym (cond-true (test e.0) ((e.0, w) ∷ es) (e ∷ set_value test es w) t))
    (λ f. ap (λ (l : List (ℕ × Entry)). cond (test e.0) ((e.0, w) ∷ set_value test es v) (e ∷ l)) (set_twice test v w es)
    ∙ (cond-false (test e.0) ((e.0, w) ∷ set_value test es v) (e ∷ set_value test es w) f ∙ sym (cond-false (test e.0) ((e.0, w) ∷ es) (e ∷ set_value test es w) f)))

changed_twice : (f g : Entry → Entry) (t : Clients) (k : ℕ) → changed g (changed f t k) k ≡ changed (λ e. g (f e)) t k
changed_twice f g t k = twice_by (entry_of t k) refl
  where
    twice_by : (o : Option Entry) → entry_of t k ≡ o → changed g (changed_by f t k o) k ≡ changed_by (λ e. g (f e)) t k o
    twice_by None is = ap (changed_by g t k) is
    twice_by (Some e) is =
        ap (changed_by g (with_entry t k (f e)) k) (entry-with_entry t k (f e) (entry_among t k e is))
        ∙ ap (λ (l : List (ℕ × Entry)). record t { known = l }) (set_twice (is_at (nat_cmp k)) (f e) (g (f e)) t.known)

changed_alike : (f g : Entry → Entry) (t : Clients) (k : ℕ) (o : Option Entry) → ((e : Entry) → f e ≡ g e) → changed_by f t k o ≡ changed_by g t k o
changed_alike f g t k None same = refl
changed_alike f g t k (Some e) same = ap (with_entry t k) (same e)

-- ---- some packets, and others to the same client
burst_both : (m n a b : ℕ) (o : Option Burst) → option_map (burst_sent n b) (option_map (burst_sent m a) o) ≡ option_map (burst_sent (m + n) (a + b)) o
burst_both m n a b None = refl
burst_both m n a b (Some x) =
    let next : (x.next + m) + n ≡ x.next + (m + n) = omega arith in
    let kept : (x.kept - a) - b ≡ x.kept - (a + b) = omega arith in
    ap (λ (i : ℕ). Some (record x { next = i; kept = (x.kept - a) - b })) next ∙ ap (λ (i : ℕ). Some (record x { next = x.next + (m + n); kept = i })) kept

sequence_both : (seq m n : ℕ) → ((seq + m) % 65536 + n) % 65536 ≡ (seq + (m + n)) % 65536
sequence_both seq m n = omega arith

entry_both : (x y : Sendings) (e : Entry) → entry_after y (entry_after x e) ≡ entry_after (both_sendings x y) e
entry_both x y e =
    ap (λ (n : ℕ). record e { seq = n; idle = 0; burst = option_map (burst_sent y.of_burst y.bytes) (option_map (burst_sent x.of_burst x.bytes) e.burst) }) (sequence_both e.seq x.packets y.packets)
    ∙ ap (λ (b : Option Burst). record e { seq = (e.seq + (x.packets + y.packets)) % 65536; idle = 0; burst = b }) (burst_both x.of_burst y.of_burst x.bytes y.bytes e.burst)

same_parts : (t u : Clients) (budget : Amounts) (m n : ℕ) → t ≡ u → m ≡ n → committing t (record budget { left = m }) ≡ committing u (record budget { left = n })
same_parts t u budget m n tables lefts = ap (λ (x : Clients). committing x (record budget { left = m })) tables ∙ ap (λ (k : ℕ). committing u (record budget { left = k })) lefts

pub sent_both : (x y : Sendings) (c : Committed) → y.client ≡ x.client → with_sendings (both_sendings x y) c ≡ with_sendings y (with_sendings x c)
sent_both x y c same =
    let left : c.budget.left - (x.bytes + y.bytes) ≡ (c.budget.left - x.bytes) - y.bytes = omega arith in
    let table : changed (entry_after (both_sendings x y)) c.table x.client ≡ changed (entry_after y) (changed (entry_after x) c.table x.client) y.client =
    sym (ap (changed (entry_after y) (changed (entry_after x) c.table x.client)) same
    ∙ (changed_twice (entry_after x) (entry_after y) c.table x.client
    ∙ changed_alike (λ e. entry_after y (entry_after x e)) (entry_after (both_sendings x y)) c.table x.client (entry_of c.table x.client) (entry_both x y))) in
    same_parts _ _ c.budget _ _ table left

small_both : (m n a : ℕ) (o : Option Burst) → IsNextSmall n (option_map (burst_sent m a) o) → IsNextSmall (m + n) o
small_both m n a None small = tt
small_both m n a (Some b) small = omega arith

known_both : (x : Sendings) (n : ℕ) (o : Option Entry) → IsNextSmallIfKnown n (option_map (entry_after x) o) → IsNextSmallIfKnown (x.of_burst + n) o
known_both x n None small = tt
known_both x n (Some e) small = small_both x.of_burst n x.bytes e.burst small

pub may_both : (x y : Sendings) (c : Committed) → y.client ≡ x.client → MaySend y (with_sendings x c) → MaySend (both_sendings x y) c
may_both x y c same may =
    let own = (is_change (entry_after x) x.client c.table).own in
    let here : IsNextSmallIfKnown y.of_burst (entry_of (changed (entry_after x) c.table x.client) x.client) = subst (λ (k : ℕ). IsNextSmallIfKnown y.of_burst (entry_of (changed (entry_after x) c.table x.client) k)) same may in
    known_both x y.of_burst (entry_of c.table x.client) (subst (IsNextSmallIfKnown y.of_burst) own here)
