-- The table, where one client's entry was kept apart.
use Rattle.std.proofs.Common.{◌≡◌, ◌≢◌, ℕ, ◌≤◌, ◌<◌, Bool, true, false, not, ◌||◌, ⊎_elim, List, [], ◌∷◌, length, Option, Some, None, refl, ap, sym, ◌∙◌, subst, arith, eqb, ltb}
use Rattle.std.specs.Prelude.{is_some, IsSome}
use Rattle.std.specs.Map.{keys_of}
use Rattle.std.proofs.lemmas.Bool.{cond_both, cond-true, cond-false, cases_Bool, cases_eq, or_from, or_left, or_right, or_cases, both_ways, eqb-true, eqb-false, ne_eqb, lt-ltb, le-ltb, not_from_true, not_from_false}
use Rattle.std.proofs.lemmas.Map.Views.{any-filter_same}
use Rattle.rams_model.specs.declared.Note.TheVariants as note
use Rattle.rams_model.specs.Service.{Settings, known, open_burst, is_among, with_client, without, noted, History}
use Rattle.client_table.specs.declared.Entry.{Entry}
use Rattle.client_table.specs.{clients_of, entry_of, new_entry, with_entry, awake, changed_by}
use Rattle.client_table.specs.Clients.{Clients}
use Rattle.client_table.specs.Clients as tables
use Rattle.channel_parts.specs.{IsEntry, IsTable}
use Rattle.channel_parts.proofs.Ordered.{Rise, known_rise, same_rise}
use Rattle.channel_parts.proofs.Tables.{has_entry, entry_among, no_entry, clients-with_entry, entry-with_entry, others-with_entry, clients-with_client, entry-with_client, others-with_client, clients-without, others-without, without_none}
use Rattle.feedback_core.specs.{woken, IsAsBefore, IsClient, is_full_table, has_place, with_place, with_kept}
use Rattle.feedback_core.proofs.Others.{rest_noted}
use Rattle.feedback_core.proofs.Visiting.{entry_as_before}

-- only known clients have an open burst
abbrev pub OthersAreClosed : Settings → History → Type 0
OthersAreClosed s history = (k : ℕ) → is_among k (known history) ≡ false → open_burst s k history ≡ None

-- A table with a place for a client, or without one: its others are as they were.
pub record HasOwnPlace (k : ℕ) (t u : Clients) (there : Bool) : Type 0 where
  pub most : u.most ≡ t.most
  pub rise : Rise (clients_of u)
  pub rest : without k (clients_of u) ≡ without k (clients_of t)
  pub among : is_among k (clients_of u) ≡ there
  pub others : (j : ℕ) → j ≢ k → entry_of u j ≡ entry_of t j

place_same : (k : ℕ) (t : Clients) (there : Bool) → Rise (clients_of t) → is_some (entry_of t k) ≡ there → HasOwnPlace k t t there
place_same k t there r e = record { most = refl; rise = r; rest = refl; among = sym (has_entry t k) ∙ e; others = λ j ne. refl }

place_made : (k seq0 : ℕ) (history : History) (t : Clients) → clients_of t ≡ known history → is_some (entry_of t k) ≡ false → HasOwnPlace k t (tables.with_client t k (new_entry 0 seq0)) true
unfolding known
place_made k seq0 history t is out =
    let out' : is_among k (clients_of t) ≡ false = sym (has_entry t k) ∙ out in
    let more : clients_of (tables.with_client t k (new_entry 0 seq0)) ≡ known (noted (note.Queued k 0) None ∷ history) =
    clients-with_client t k (new_entry 0 seq0) out' ∙ ap (with_client k) is in
    record {
      most = refl;
      rise = subst Rise (sym more) (known_rise (noted (note.Queued k 0) None ∷ history));
      rest = ap (without k) more ∙ rest_noted (note.Queued k 0) k None history refl ∙ ap (without k) (sym is);
      among = entry_among (tables.with_client t k (new_entry 0 seq0)) k (new_entry 0 seq0) (entry-with_client t k (new_entry 0 seq0) out');
      others = λ j ne. others-with_client t k (new_entry 0 seq0) j out' ne;
    }

pub place_is : (k seq0 : ℕ) (history : History) (t : Clients) → clients_of t ≡ known history → HasOwnPlace k t (with_place t k seq0) (has_place t k)
place_is k seq0 history t is =
    let rise = subst Rise (sym is) (known_rise history) in
    ⊎_elim
    (λ t'. subst (λ (u : Clients). HasOwnPlace k t u (has_place t k)) (sym (cond-true (is_some (entry_of t k)) t _ t'))
    (place_same k t (has_place t k) rise (t' ∙ sym (or_left (is_some (entry_of t k)) (not (is_full_table t)) t'))))
    (λ f. ⊎_elim
    (λ full. subst (λ (u : Clients). HasOwnPlace k t u (has_place t k))
    (sym (cond-false (is_some (entry_of t k)) t _ f ∙ cond-true (is_full_table t) t (tables.with_client t k (new_entry 0 seq0)) full))
    (place_same k t (has_place t k) rise (f ∙ sym (or_from (is_some (entry_of t k)) (not (is_full_table t)) f (not_from_true (is_full_table t) full)))))
    (λ free. subst (λ (u : Clients). HasOwnPlace k t u (has_place t k))
    (sym (cond-false (is_some (entry_of t k)) t _ f ∙ cond-false (is_full_table t) t (tables.with_client t k (new_entry 0 seq0)) free))
    (subst (HasOwnPlace k t (tables.with_client t k (new_entry 0 seq0)))
    (sym (or_right (is_some (entry_of t k)) (not (is_full_table t)) (not_from_false (is_full_table t) free))) (place_made k seq0 history t is f)))
    (cases_Bool (is_full_table t)))
    (cases_Bool (is_some (entry_of t k)))

-- The place by the number of the other clients.
fewer_without : (k : ℕ) (ks : List ℕ) → is_among k ks ≡ true → length (without k ks) < length ks
fewer_without k [] e = absurd cc
fewer_without k (j ∷ js) e =
    ⊎_elim
    (λ t. omega (arith, ap length (cond-false (not (eqb j k)) (j ∷ without k js) (without k js) (not_from_true (eqb j k) t)), at_most k js))
    (λ f. omega (
      arith,
      ap length (cond-true (not (eqb j k)) (j ∷ without k js) (without k js) (not_from_false (eqb j k) f)),
      fewer_without k js (⊎_elim (λ t. absurd (both_ways (eqb j k) f t)) (λ r. r) (or_cases (eqb j k) (is_among k js) e)),
    ))
    (cases_Bool (eqb j k))
  where
    at_most : (k : ℕ) (ks : List ℕ) → length (without k ks) ≤ length ks
    at_most k [] = omega arith
    at_most k (j ∷ js) =
        cond_both (not (eqb j k)) (j ∷ without k js) (without k js) (λ l. length l ≤ length (j ∷ js)) (λ t. omega (arith, at_most k js)) (λ f. omega (arith, at_most k js))

length_keys : (es : List (ℕ × Entry)) → length (keys_of es) ≡ length es
length_keys [] = refl
length_keys (e ∷ es) = omega (arith, length_keys es)

pub place_counts : (s : Settings) (k : ℕ) (history : History) (t : Clients) → IsTable s history t → length (known history) ≤ s.channel.clients
    → has_place t k ≡ ltb (length (without k (known history))) s.channel.clients
place_counts s k history t is few =
    let all : length t.known ≡ length (known history) = sym (length_keys t.known) ∙ ap length is.clients in
    ⊎_elim
    (λ there.
    let among : is_among k (known history) ≡ true = ap (is_among k) (sym is.clients) ∙ sym (has_entry t k) ∙ there in
    or_left (is_some (entry_of t k)) (not (is_full_table t)) there
    ∙ sym (lt-ltb (length (without k (known history))) s.channel.clients (omega (arith, fewer_without k (known history) among, few))))
    (λ out.
    let apart : is_among k (known history) ≡ false = ap (is_among k) (sym is.clients) ∙ sym (has_entry t k) ∙ out in
    let same = ap (λ (ks : List ℕ). ltb (length ks) s.channel.clients) (without_none k (known history) apart) in
    ap (λ (b : Bool). b || not (is_full_table t)) out
    ∙ ⊎_elim
    (λ full. ap not full ∙ sym (same ∙ le-ltb (length (known history)) s.channel.clients (omega (arith, eqb-true (length t.known) t.most full, all, is.most))))
    (λ free. ap not free ∙ sym (same ∙ lt-ltb (length (known history)) s.channel.clients (omega (arith, eqb-false (length t.known) t.most free, all, is.most, few))))
    (cases_Bool (is_full_table t)))
    (cases_Bool (is_some (entry_of t k)))

-- clients that rise are the same where their others are, and both have this one
among_rest : (k i : ℕ) (ks : List ℕ) → i ≢ k → is_among i (without k ks) ≡ is_among i ks
among_rest k i ks ne =
    any-filter_same (λ (j : ℕ). eqb j i) (λ j. not (eqb j k)) true (λ j t. not_from_false (eqb j k) (ne_eqb j k (λ e. ne (sym (eqb-true j i t) ∙ e)))) ks

same_clients : (k : ℕ) (ks js : List ℕ) → Rise ks → Rise js → is_among k ks ≡ true → is_among k js ≡ true → without k ks ≡ without k js → ks ≡ js
same_clients k ks js r q a b e =
    same_rise ks js r q
    (λ i. ⊎_elim
    (λ same. subst (λ (m : ℕ). is_among m ks ≡ is_among m js) (sym same) (a ∙ sym b))
    (λ ne. sym (among_rest k i ks ne) ∙ ap (is_among i) e ∙ among_rest k i js ne) (cases_eq i k))

-- the entries of the others, and that of the client
entries_by : (s : Settings) (k : ℕ) (before after : History) (t u : Clients) (o : Option Entry) → IsTable s before t → entry_of u k ≡ o → IsClient s k after o
    → ((j : ℕ) → j ≢ k → entry_of u j ≡ entry_of t j) → ((j : ℕ) → j ≢ k → IsAsBefore s j before after) → (j : ℕ) (e : Entry) → entry_of u j ≡ Some e → IsEntry s j after e
entries_by s k before after t u o is own client others same j e found =
    ⊎_elim
    (λ here.
    let found' : entry_of u k ≡ Some e = subst (λ (m : ℕ). entry_of u m ≡ Some e) here found in
    subst (λ (m : ℕ). IsEntry s m after e) (sym here) (subst (IsClient s k after) (sym own ∙ found') client).entry_is)
    (λ ne. entry_as_before s j before after e (same j ne) (is.entries j e (sym (others j ne) ∙ found))) (cases_eq j k)

known_client : (s : Settings) (k : ℕ) (history : History) (o : Option Entry) → IsClient s k history o → is_among k (known history) ≡ is_some o
known_client s k history None c = c.unknown
known_client s k history (Some e) c = c.is_known

gone_from : (t : Clients) (k : ℕ) → Rise (clients_of t) → entry_of (tables.without t k) k ≡ None
gone_from t k r = no_entry (tables.without t k) k (ap (is_among k) (clients-without t k r) ∙ any-filter_same (λ j. eqb j k) (λ j. not (eqb j k)) false (λ j t. not_from_true (eqb j k) t) (clients_of t))

-- The table as the datagram ends.
pub table_ended : (s : Settings) (k : ℕ) (before after : History) (t u : Clients) (there : Bool) (o : Option Entry) → IsTable s before t → HasOwnPlace k t u there → IsClient s k after o
    → (IsSome o → there ≡ true) → ((j : ℕ) → j ≢ k → IsAsBefore s j before after) → without k (known after) ≡ without k (known before) → OthersAreClosed s after
    → IsTable s after (with_kept u k o)
table_ended s k before after t u there None is place client placed same rest closed =
    let apart = without_none k (known after) (known_client s k after None client) in
    record {
      most = place.most ∙ is.most;
      clients = clients-without u k place.rise ∙ place.rest ∙ ap (without k) is.clients ∙ sym rest ∙ apart;
      entries = entries_by s k before after t (tables.without u k) None is (gone_from u k place.rise) client
          (λ j ne. others-without u k j ne ∙ place.others j ne) same;
      others = closed;
    }
table_ended s k before after t u there (Some e) is place client placed same rest closed =
    let among = place.among ∙ placed refl in
    let rest' : without k (clients_of u) ≡ without k (known after) = place.rest ∙ ap (without k) is.clients ∙ sym rest in
    record {
      most = place.most ∙ is.most;
      clients = clients-with_entry u k e ∙ same_clients k (clients_of u) (known after) place.rise (known_rise after) among client.is_known rest';
      entries = entries_by s k before after t (with_entry u k e) (Some e) is (entry-with_entry u k e among) client
          (λ j ne. others-with_entry u k e j ne ∙ place.others j ne) same;
      others = closed;
    }

-- The table as a datagram ends that changes nothing of the client but that it is no longer idle.
pub table_woken : (s : Settings) (k : ℕ) (before after : History) (t : Clients) (o : Option Entry) → entry_of t k ≡ o → IsTable s before t → IsClient s k after (woken o)
    → ((j : ℕ) → j ≢ k → IsAsBefore s j before after) → without k (known after) ≡ without k (known before) → OthersAreClosed s after → IsTable s after (changed_by awake t k o)
table_woken s k before after t None found is client same rest closed =
    let apart : is_among k (known before) ≡ false = ap (is_among k) (sym is.clients) ∙ sym (has_entry t k) ∙ ap is_some found in
    record {
      most = is.most;
      clients = is.clients ∙ sym (without_none k (known before) apart) ∙ sym rest ∙ without_none k (known after) client.unknown;
      entries = entries_by s k before after t t None is found client (λ j ne. refl) same;
      others = closed;
    }
table_woken s k before after t (Some e) found is client same rest closed =
    table_ended s k before after t t true (Some (record e { idle = 0 })) is (place_same k t true (subst Rise (sym is.clients) (known_rise before)) (ap is_some found)) client (λ some. refl) same
    rest closed
